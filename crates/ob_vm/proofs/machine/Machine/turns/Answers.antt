use Rattle.std.proofs.Common.{◌+◌, ◌-◌, min, length, arith, ap, subst, sym, ◌∙◌}
use Rattle.ob_code.specs.Machine.{Code}
use Rattle.ob_code.specs.Linked.{all_cells}
use Rattle.ob_step.specs.States.{config_of}
use Rattle.ob_vm.specs.Images.{ImageState, MachineState, machine_config, machine_of}
use Rattle.ob_vm.specs.Quick.{AreQuick}
use Rattle.ob_vm.specs.Slices.{SliceDone}
use Rattle.ob_vm.proofs.Asks.{where_asked}
use Rattle.ob_vm.proofs.machine.Machine.turns.Goals as goal

pub returns-clause-does : goal.returns-clause-does
returns-clause-does c =
    let u = c.run_quickly-slice.result.used in
    let t = c.run_quickly-slice.result.turned in
    let image = c.args.image.now in
    let before = machine_of c.self.inside.state c.self.inside.used in
    let after = machine_of c.run_quickly-slice.new.state 0 in
    let same = c.deref.ensures.value ∙ ap (λ (i : ImageState). i.code) c.image.view_is in
    let cells = ap (λ v. v.items) c.swap.ensures.y_after ∙ ap (λ (i : ImageState). i.cells) c.image.view_is in
    let old = ap (λ xs. machine_config (record { code = image.code; may_run = image.may_run; cells = xs }) before) cells ∙ ap (machine_config image) c.self.view_is in
    let new = ap (λ v. machine_config (record { code = image.code; may_run = image.may_run; cells = v.items }) after) (sym c.swap-2.ensures.x_after) in
    let most = c.min-most.ensures ∙ ap (λ (m : MachineState). min c.args.n (18446744073709551615 - m.used)) c.self.view_is in
    let here = machine_config (record { code = image.code; may_run = image.may_run; cells = c.swap.new.y.items }) before in
    let there = config_of c.run_quickly-slice.new.state in
    let start = machine_config image c.args.self.now in
    let end = machine_config (record { code = image.code; may_run = image.may_run; cells = c.swap-2.new.x.items }) after in (
      u,
      ap (λ (m : MachineState). m.used + u) c.self.view_is,
      subst (λ n. SliceDone image.code start end n t u) most
          (subst (λ d. SliceDone image.code start d c.min-most.result t u) new
          (subst (λ d. SliceDone image.code d there c.min-most.result t u) old
          (subst (λ (m : Code). SliceDone m here there c.min-most.result t u) same c.run_quickly-slice.ensures.does))),
    )

pub returns-clause-asks : goal.returns-clause-asks
returns-clause-asks c =
    let u = c.run_quickly-slice.result.used in
    let t = c.run_quickly-slice.result.turned in
    let modules = c.image.inside.modules.items in
    let flags = c.image.inside.may_run.items in
    let before = machine_of c.self.inside.state c.self.inside.used in
    let after = machine_of c.run_quickly-slice.new.state (c.self.inside.used + u) in
    let here = machine_config (record { code = modules; may_run = flags; cells = c.swap.new.y.items }) before in
    let there = config_of c.run_quickly-slice.new.state in
    let image : ImageState = record { code = modules; may_run = flags; cells = c.swap-2.new.x.items } in
    let new = ap (λ v. machine_config (record { code = modules; may_run = flags; cells = v.items }) after) (sym c.swap-2.ensures.x_after) in
    where_asked image after here c.min-most.result u t
    (subst (λ d. SliceDone modules here d c.min-most.result t u) new
    (subst (λ (m : Code). SliceDone m here there c.min-most.result t u) c.deref.ensures.value c.run_quickly-slice.ensures.does))

pub run_quickly-slice-requires-clause-quick : goal.run_quickly-slice-requires-clause-quick
run_quickly-slice-requires-clause-quick c =
    subst (λ (m : Code). AreQuick m c.image.inside.quick.procedures.items) (sym c.deref.ensures.value) c.image.invariant.4

pub invariant_of-image : goal.invariant_of-image
invariant_of-image c =
    let level = c.run_quickly-slice.ensures.safe.stands.sound.1 in
    let i = c.image.invariant in (
      i.0,
      omega (arith, ap all_cells c.deref.ensures.value, level.modules_below, level.cells_there, ap (λ v. length v.items) c.swap-2.ensures.x_after),
      i.2,
      i.3,
      subst (λ (m : Code). AreQuick m c.run_quickly-slice.new.quick.procedures.items) c.deref.ensures.value c.run_quickly-slice.ensures.quick,
    )
