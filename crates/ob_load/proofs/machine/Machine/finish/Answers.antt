use Rattle.std.proofs.Common.{◌≡◌, ◌-◌, min, ap, sym, subst, ◌∙◌, ℕ, ℤ, List, Bool, length, take, arith}
use Rattle.ob_code.specs.Linked.{all_cells, runs_of, IsLinked}
use Rattle.ob_code.specs.Machine.{Code}
use Rattle.ob_session.specs.Session.{Session}
use Rattle.ob_image.specs.Stores.{store_of}
use Rattle.ob_image.specs.Compiled.{AreCompiled}
use Rattle.ob_vm.specs.Images as vm
use Rattle.ob_vm.specs.Slices.{SliceDone}
use Rattle.ob_load.specs.Kept.{IsKept, IsHeld}
use Rattle.jk_language.specs.MachineState.{here}
use Rattle.ob_load.specs.MachineState.{MachineState, state_of}
use Rattle.ob_load.proofs.Machines.{held}
use Rattle.ob_load.proofs.Finished.{as_many, flags_cut, linked_by, measured_by, leaves}
use Rattle.ob_load.proofs.machine.Machine.finish.Goals as goal

none_of : (u : ℕ) → min 0 u ≡ 0
none_of u = omega arith

module _ (c : goal.After-truncate-2) where
  held_now : IsHeld c.self.inside.modules c.self.inside.known.items c.turns-turned.new.image
  held_now = held c.self.inside.modules c.self.inside.known.items c.self.inside.image c.turns-turned.new.image c.turns-turned.ensures.code c.turns-turned.ensures.may_run c.self.invariant.0

  code_is : c.truncate.new.self.items ≡ take (length c.self.inside.modules) c.turns-turned.new.image.code
  code_is =
      c.truncate.ensures.items ∙ ap (λ xs. take (length xs) c.into_parts-code.result.0.items) c.as_slice-count.ensures
      ∙ ap (λ (x : Code). take (length c.self.inside.modules) x) (c.into_parts-code.ensures.code ∙ ap (λ (x : vm.ImageState). x.code) c.cut.ensures.rest)

  flags_are : c.truncate-2.new.self.items ≡ take (length c.self.inside.modules) c.turns-turned.new.image.may_run
  flags_are =
      c.truncate-2.ensures.items ∙ ap (λ xs. take (length xs) c.into_parts-code.result.1.items) c.as_slice-count.ensures
      ∙ ap (λ (x : List Bool). take (length c.self.inside.modules) x) (c.into_parts-code.ensures.may_run ∙ ap (λ (x : vm.ImageState). x.may_run) c.cut.ensures.rest)

  cells_are : c.into_parts-code.result.2.items ≡ take (all_cells c.self.inside.image.code) c.turns-turned.new.image.cells
  cells_are =
      c.into_parts-code.ensures.cells ∙ ap (λ (x : vm.ImageState). x.cells) c.cut.ensures.rest
      ∙ ap (λ (x : Code). take (all_cells x) c.turns-turned.new.image.cells) c.turns-turned.ensures.code

  many : length c.into_parts-code.result.2.items ≡ all_cells c.truncate.new.self.items
  many =
      ap length c.into_parts-code.ensures.cells ∙ c.cut.ensures.cells ∙ ap (λ (x : vm.ImageState). all_cells x.code) c.cut.ensures.rest
      ∙ held_now.sized ∙ ap all_cells (sym code_is)

module _ (c : goal.After-drop-self-inside-5) where
  held_now_then : IsHeld c.self.inside.modules c.self.inside.known.items c.turns-turned.new.image
  held_now_then = held c.self.inside.modules c.self.inside.known.items c.self.inside.image c.turns-turned.new.image c.turns-turned.ensures.code c.turns-turned.ensures.may_run c.self.invariant.0

  code_is_then : c.truncate.new.self.items ≡ take (length c.self.inside.modules) c.turns-turned.new.image.code
  code_is_then =
      c.truncate.ensures.items ∙ ap (λ xs. take (length xs) c.into_parts-code.result.0.items) c.as_slice-count.ensures
      ∙ ap (λ (x : Code). take (length c.self.inside.modules) x) (c.into_parts-code.ensures.code ∙ ap (λ (x : vm.ImageState). x.code) c.cut.ensures.rest)

  flags_are_then : c.truncate-2.new.self.items ≡ take (length c.self.inside.modules) c.turns-turned.new.image.may_run
  flags_are_then =
      c.truncate-2.ensures.items ∙ ap (λ xs. take (length xs) c.into_parts-code.result.1.items) c.as_slice-count.ensures
      ∙ ap (λ (x : List Bool). take (length c.self.inside.modules) x) (c.into_parts-code.ensures.may_run ∙ ap (λ (x : vm.ImageState). x.may_run) c.cut.ensures.rest)

  cells_are_then : c.into_parts-code.result.2.items ≡ take (all_cells c.self.inside.image.code) c.turns-turned.new.image.cells
  cells_are_then =
      c.into_parts-code.ensures.cells ∙ ap (λ (x : vm.ImageState). x.cells) c.cut.ensures.rest
      ∙ ap (λ (x : Code). take (all_cells x) c.turns-turned.new.image.cells) c.turns-turned.ensures.code

  many_then : length c.into_parts-code.result.2.items ≡ all_cells c.truncate.new.self.items
  many_then =
      ap length c.into_parts-code.ensures.cells ∙ c.cut.ensures.cells ∙ ap (λ (x : vm.ImageState). all_cells x.code) c.cut.ensures.rest
      ∙ held_now_then.sized ∙ ap all_cells (sym code_is_then)

pub of-image-requires-clause-linked : goal.of-image-requires-clause-linked
of-image-requires-clause-linked c =
    subst (λ (x : Code). IsLinked x (runs_of c.truncate-2.new.self.items)) (sym (code_is c))
    (subst (λ (fs : List Bool). IsLinked (take (length c.self.inside.modules) c.turns-turned.new.image.code) (runs_of fs)) (sym (flags_are c))
    (linked_by c.self.inside.modules c.self.inside.known.items _ _ (held_now c).compiled (flags_cut c.self.inside.modules c.turns-turned.new.image.may_run (held_now c).runs)))

pub of-image-requires-clause-measured : goal.of-image-requires-clause-measured
of-image-requires-clause-measured c =
    subst (λ (x : Code). vm.AreMeasured x (runs_of c.truncate-2.new.self.items)) (sym (code_is c))
    (subst (λ (fs : List Bool). vm.AreMeasured (take (length c.self.inside.modules) c.turns-turned.new.image.code) (runs_of fs)) (sym (flags_are c))
    (measured_by c.self.inside.modules c.self.inside.known.items _ _ (held_now c).compiled (flags_cut c.self.inside.modules c.turns-turned.new.image.may_run (held_now c).runs)))

pub of-image-requires-clause-cells : goal.of-image-requires-clause-cells
of-image-requires-clause-cells c = many c

pub invariant_of-result : goal.invariant_of-result
invariant_of-result c =
    let h = held_now_then c in (
      subst (λ (x : vm.ImageState). IsKept c.self.inside.modules c.self.inside.known.items x) (sym c.of-image.ensures) (record {
        compiled = subst (λ (x : Code). AreCompiled c.self.inside.modules c.self.inside.known.items x) (sym (code_is_then c)) h.compiled;
        runs = λ n. ap (λ (fs : List Bool). runs_of fs n) (flags_are_then c) ∙ flags_cut c.self.inside.modules c.turns-turned.new.image.may_run h.runs n;
        flags = ap (λ (fs : List Bool). length fs) (flags_are_then c) ∙ as_many c.self.inside.modules c.turns-turned.new.image.may_run h.flags;
        cells = many_then c;
        checkable = h.checkable;
        said = h.said;
      }),
      c.self.invariant.2,
    )

pub returns : goal.returns
returns c =
    let ms = c.self.inside.modules in
    let m = c.self.inside.run in
    let i = c.self.inside.image in
    let i' = c.turns-turned.new.image in
    let k = c.turns-turned.ensures.does.0 in
    let done = subst (λ n. SliceDone i.code (vm.machine_config i m) (vm.machine_config i' c.turns-turned.new.self) n c.turns-turned.result k) (none_of (18446744073709551615 - m.used)) c.turns-turned.ensures.does.2 in
    let cells = ap (λ (x : vm.ImageState). x.cells) c.of-image.ensures ∙ cells_are_then c in
    subst (λ (x : MachineState). (let s : Session = record { modules = ms; store = store_of ms c.of-image.result.cells } in s) ≡ (here (state_of x)).session) c.self.view_is
    (ap (λ (cs : List ℤ). let s : Session = record { modules = ms; store = store_of ms cs } in s) cells
    ∙ leaves ms c.self.inside.known.items (store_of ms c.self.inside.opening.value.items) c.self.inside.task c.self.inside.lines i i' m c.turns-turned.new.self c.self.inside.asks c.self.invariant.0 c.self.invariant.1 c.turns-turned.result k c.turns-turned.ensures.does.1 done)
