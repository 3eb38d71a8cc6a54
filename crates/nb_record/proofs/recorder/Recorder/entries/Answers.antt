use Rattle.std.proofs.Common.{◌≡◌, false}
use Rattle.std.specs.Prelude.{is_err}
use Rattle.nb_record.proofs.Telling.{told_next, held_of}
use Rattle.nb_record.proofs.recorder.Recorder.entries.Goals as goal

pub loop-count-preserved : goal.loop-count-preserved
loop-count-preserved c =
    let before = c.loop-count.invariant in
    let first = c.args.self.now.pages in
    let succeeded : is_err c.entry.result ≡ false = cc in
    record {
      told =
          told_next c.args.entries.now c.loop-count.count c.index-entries-count.result first c.loop-count.self.pages c.entry.new.self.pages c.loop-count-test.true
          c.index-entries-count.is before.told (held_of c.entry.result succeeded c.entry.ensures.ok);
      path = cc;
    }
