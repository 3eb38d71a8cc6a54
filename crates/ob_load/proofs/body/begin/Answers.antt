use Rattle.std.proofs.Common.{ℤ, List, [], false, ap, sym, ◌∙◌, subst, Vec, Global, vec_capacity}
use Rattle.ob_inout.specs.Reading.{Line}
use Rattle.ob_image.specs.Stores.{store_of}
use Rattle.ob_load.specs.declared.task.Task.TheVariants.{Body}
use Rattle.ob_load.specs.Kept.{IsRunning}
use Rattle.ob_load.specs.MachineState.{stands_at}
use Rattle.ob_load.proofs.Finished.{linked_by, measured_by}
use Rattle.ob_load.proofs.Loaded.{can_run, room_in, begun_on, begun_at, within_more}
use Rattle.ob_load.proofs.body.begin.Goals as goal

pub of-image-requires-clause-linked : goal.of-image-requires-clause-linked
of-image-requires-clause-linked c = linked_by c.args.modules c.args.known.items c.args.code.items c.args.beginning.runs.items c.requires.may.compiled c.requires.may.runs

pub of-image-requires-clause-measured : goal.of-image-requires-clause-measured
of-image-requires-clause-measured c = measured_by c.args.modules c.args.known.items c.args.code.items c.args.beginning.runs.items c.requires.may.compiled c.requires.may.runs

pub start-run-requires-clause-runs : goal.start-run-requires-clause-runs
start-run-requires-clause-runs c = can_run c.args.modules c.args.known.items c.args.code.items c.args.beginning c.requires.may c.of-image.result c.of-image.ensures

pub start-run-requires-clause-room : goal.start-run-requires-clause-room
start-run-requires-clause-room c = room_in c.args.modules c.args.known.items c.args.code.items c.args.beginning c.requires.may c.of-image.result c.of-image.ensures

pub invariant_of-result : goal.invariant_of-result
invariant_of-result c =
    let ms = c.args.modules in
    let b = c.args.beginning in
    let i = c.of-image.result in
    let run = c.start-run.result in
    let on = begun_on ms c.args.known.items c.args.code.items b c.requires.may i c.of-image.ensures run c.start-run.ensures.fits c.start-run.ensures.begins c.start-run.ensures.used c.requires.checkable c.requires.said in (
      on.0,
      subst (λ (ls : List Line). IsRunning ms (store_of ms c.of-opening.result.value.items) (Body b.number) ls i run false) (sym c.none.ensures)
          (subst (λ (v : Vec ℤ Global). IsRunning ms (store_of ms v.items) (Body b.number) [] i run false) (sym c.of-opening.ensures) on.1),
      c.requires.named,
      record { empty = λ _. c.requires.empty; room = λ _. within_more ms c.args.longest (vec_capacity c.args.name) c.requires.long c.requires.named },
    )

pub returns : goal.returns
returns c =
    let ms = c.args.modules in
    let b = c.args.beginning in
    let run = c.start-run.result in
    ap (λ (ls : List Line). stands_at ms (store_of ms c.of-opening.result.value.items) (Body b.number) ls run false false) c.none.ensures
    ∙ ap (λ (v : Vec ℤ Global). stands_at ms (store_of ms v.items) (Body b.number) [] run false false) c.of-opening.ensures
    ∙ begun_at ms c.args.known.items c.args.code.items b c.requires.may c.of-image.result c.of-image.ensures run c.start-run.ensures.fits c.start-run.ensures.begins c.start-run.ensures.used c.requires.said
