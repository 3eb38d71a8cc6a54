use Rattle.std.proofs.Common.{◌++◌, ◌∙◌, ap, sym}
use Rattle.jk_replay.specs.Shown as spec
use Rattle.jk_replay.proofs.EntryLines.{lines_more}
use Rattle.jk_replay.proofs.show.show.Goals as goal

pub loop-entry-preserved : goal.loop-entry-preserved
loop-entry-preserved c =
    c.in_ok-add_entry.ensures
    ∙ ap (λ l. l ++ spec.entry_line c.entry-item.result) c.loop-entry.invariant
    ∙ sym (lines_more c.args.entries.now c.loop-entry.entry-index c.entry-item.result c.loop-entry-test.true c.entry-item.is)
