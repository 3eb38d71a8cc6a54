use Rattle.std.proofs.Common.{◌≡◌, ◌≤◌, List, arith, length, take, ap, ◌∙◌, subst, ℕ}
use Rattle.std.specs.List.{list_any}
use Rattle.jk_log.specs.declared.entry.Entry.{Entry}
use Rattle.jk_log.specs.Pending.{joined}
use Rattle.jk_core.specs.Steps.{without}
use Rattle.nb_record.specs.State.{AreTold}
use Rattle.nb_run.specs.Runs.{is_done}
use Rattle.nb_run.proofs.Goings.{tell_tells}
use Rattle.nb_run.proofs.player.Player+Kernel+L.tell.Goals as goal

pub returns : goal.returns
returns g c =
    let old = c.args.self.now in
    let marks = c.pending_marks-marks.ensures in
    let entries = c.in_ok-entries.entries.items in
    let some : entries ≡ joined (take (length old.kernel.pending) old.kernel.pending) =
    c.in_ok-entries.ensures.entries ∙ ap (λ (n : ℕ). joined (take n old.kernel.pending)) marks in
    let left : c.take_pending.new.self ≡ without (length old.kernel.pending) old.kernel =
    c.in_ok-entries.ensures.ok ∙ ap (λ (n : ℕ). without n old.kernel) marks in
    let few : length entries ≤ c.entries-told.result = grind (arith, c.if-told-len.false) in
    let told : AreTold (take c.entries-told.result entries) old.recorder.pages c.entries-told.new.self.pages =
    subst (λ (l : List Entry). AreTold (take c.entries-told.result l) old.recorder.pages c.entries-told.new.self.pages) c.as_slice.ensures.value c.entries-told.ensures.told in (
      entries,
      tell_tells old c.take_pending.new.self c.entries-told.new.self c.entries-told.result entries some left few told c.entries-told.ensures.path,
      c.are_done.ensures ∙ ap (λ (l : List Entry). list_any is_done l) c.as_slice-3.ensures.value,
    )
