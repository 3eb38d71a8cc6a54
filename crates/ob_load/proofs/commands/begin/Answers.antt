use Rattle.std.proofs.Common.{◌≡◌, ℤ, Bool, false, List, [], ◌∷◌, ◌++◌, length, refl, sym, ap, ◌∙◌, subst, Vec, Global, vec_capacity}
use Rattle.ob_inout.specs.Reading.{Line, opened}
use Rattle.ob_code.specs.declared.instr.LinkedModule.{LinkedModule}
use Rattle.ob_code.specs.Linked.{all_cells, runs_of, IsLinked}
use Rattle.ob_code.specs.Machine.{Code, start}
use Rattle.ob_vm.specs.Images as vm
use Rattle.ob_image.specs.Stores.{store_of, session_of}
use Rattle.ob_load.specs.declared.task.Task.TheVariants.{Commands}
use Rattle.ob_load.specs.Kept.{IsHeld, IsRunning}
use Rattle.ob_load.specs.MachineState.{begun_in, stands_at}
use Rattle.ob_load.proofs.Commanded.{image_of, now, linked_now, measured_now, many_now, held_now, can_run, room_now, runs_now, state_now}
use Rattle.ob_load.proofs.Loaded.{within_more}
use Rattle.ob_load.proofs.commands.begin.Goals as goal

module _ (c : goal.After-of-opening) where
  abbrev i : vm.ImageState
  i = record { code = c.args.parts.0.items; may_run = c.args.parts.1.items; cells = c.args.parts.2.items }

  abbrev last : LinkedModule
  last = record { code = c.into_code.result; imports = c.args.calls.imports; cells = c.len.result }

  first : c.len.result ≡ length c.args.parts.2.items
  first = c.len.ensures ∙ c.args.parts.2.ok.0

module _ (c : goal.After-image-1) where
  abbrev i_then : vm.ImageState
  i_then = record { code = c.args.parts.0.items; may_run = c.args.parts.1.items; cells = c.args.parts.2.items }

  abbrev last_then : LinkedModule
  last_then = record { code = c.into_code.result; imports = c.args.calls.imports; cells = c.len.result }

  first_then : c.len.result ≡ length c.args.parts.2.items
  first_then = c.len.ensures ∙ c.args.parts.2.ok.0

  image_then : c.of-image.result ≡ now c.args.modules c.args.known.items i_then c.requires.kept c.args.commands c.args.longest c.args.calls c.requires.ready last_then c.into_code.ensures.value refl first_then
  image_then = c.of-image.ensures ∙ image_of c.push_reserved.new.self.items _ c.push_reserved-2.new.self.items _ c.args.parts.2.items _ c.push_reserved.ensures.items c.push_reserved-2.ensures.items refl

  behind_then : c.len-behind.result ≡ length c.args.parts.0.items
  behind_then = c.len-behind.ensures ∙ c.args.parts.0.ok.0

module _ (c : goal.After-none) where
  abbrev i_begun : vm.ImageState
  i_begun = record { code = c.args.parts.0.items; may_run = c.args.parts.1.items; cells = c.args.parts.2.items }

  abbrev last_begun : LinkedModule
  last_begun = record { code = c.into_code.result; imports = c.args.calls.imports; cells = c.len.result }

  first_begun : c.len.result ≡ length c.args.parts.2.items
  first_begun = c.len.ensures ∙ c.args.parts.2.ok.0

  abbrev i_now : vm.ImageState
  i_now = now c.args.modules c.args.known.items i_begun c.requires.kept c.args.commands c.args.longest c.args.calls c.requires.ready last_begun c.into_code.ensures.value refl first_begun

  image_begun : c.of-image.result ≡ i_now
  image_begun = c.of-image.ensures ∙ image_of c.push_reserved.new.self.items _ c.push_reserved-2.new.self.items _ c.args.parts.2.items _ c.push_reserved.ensures.items c.push_reserved-2.ensures.items refl

  behind_begun : c.len-behind.result ≡ length c.args.parts.0.items
  behind_begun = c.len-behind.ensures ∙ c.args.parts.0.ok.0

  cells_are : c.of-opening.result.value.items ≡ c.args.parts.2.items
  cells_are = ap (λ (v : Vec ℤ Global). v.items) c.of-opening.ensures

  fits : vm.IsOf i_now c.start-run.result
  fits = subst (λ (x : vm.ImageState). vm.IsOf x c.start-run.result) image_begun c.start-run.ensures.fits

  begins : vm.machine_config i_now c.start-run.result ≡ start i_now.code c.len-behind.result (record { cells = i_now.cells; written = []; input = opened })
  begins = subst (λ (x : vm.ImageState). vm.machine_config x c.start-run.result ≡ start x.code c.len-behind.result (record { cells = x.cells; written = []; input = opened })) image_begun c.start-run.ensures.begins

  running : IsRunning c.args.modules (store_of c.args.modules c.args.parts.2.items) (Commands c.args.commands) [] i_now c.start-run.result false
  running = runs_now c.args.modules c.args.known.items i_begun c.requires.kept c.args.commands c.args.longest c.args.calls c.requires.ready last_begun c.into_code.ensures.value refl first_begun c.len-behind.result behind_begun c.start-run.result fits begins c.start-run.ensures.used

  begun : stands_at c.args.modules (store_of c.args.modules c.args.parts.2.items) (Commands c.args.commands) [] c.start-run.result false false ≡ begun_in (session_of c.args.modules c.args.parts.2.items) (Commands c.args.commands)
  begun = state_now c.args.modules c.args.known.items i_begun c.requires.kept c.args.commands c.args.longest c.args.calls c.requires.ready last_begun c.into_code.ensures.value refl first_begun c.len-behind.result behind_begun c.start-run.result fits begins c.start-run.ensures.used

pub of-image-requires-clause-linked : goal.of-image-requires-clause-linked
of-image-requires-clause-linked c =
    subst (λ (x : Code). IsLinked x (runs_of c.push_reserved-2.new.self.items)) (sym c.push_reserved.ensures.items)
    (subst (λ (fs : List Bool). IsLinked (c.args.parts.0.items ++ last c ∷ []) (runs_of fs)) (sym c.push_reserved-2.ensures.items)
    (linked_now c.args.modules c.args.known.items (i c) c.requires.kept c.args.commands c.args.longest c.args.calls c.requires.ready (last c) c.into_code.ensures.value refl (first c)))

pub of-image-requires-clause-measured : goal.of-image-requires-clause-measured
of-image-requires-clause-measured c =
    subst (λ (x : Code). vm.AreMeasured x (runs_of c.push_reserved-2.new.self.items)) (sym c.push_reserved.ensures.items)
    (subst (λ (fs : List Bool). vm.AreMeasured (c.args.parts.0.items ++ last c ∷ []) (runs_of fs)) (sym c.push_reserved-2.ensures.items)
    (measured_now c.args.modules c.args.known.items (i c) c.requires.kept c.args.commands c.args.longest c.args.calls c.requires.ready (last c) c.into_code.ensures.value refl (first c)))

pub of-image-requires-clause-cells : goal.of-image-requires-clause-cells
of-image-requires-clause-cells c =
    many_now c.args.modules c.args.known.items (i c) c.requires.kept c.args.commands c.args.longest c.args.calls c.requires.ready (last c) c.into_code.ensures.value refl (first c)
    ∙ ap all_cells (sym c.push_reserved.ensures.items)

pub start-run-requires-clause-runs : goal.start-run-requires-clause-runs
start-run-requires-clause-runs c =
    subst (λ (x : vm.ImageState). vm.CanRun x c.len-behind.result) (sym (image_then c))
    (can_run c.args.modules c.args.known.items (i_then c) c.requires.kept c.args.commands c.args.longest c.args.calls c.requires.ready (last_then c) c.into_code.ensures.value refl (first_then c) c.len-behind.result (behind_then c))

pub start-run-requires-clause-cells : goal.start-run-requires-clause-cells
start-run-requires-clause-cells c =
    subst (λ (x : vm.ImageState). length x.cells ≡ all_cells x.code) (sym (image_then c))
    (many_now c.args.modules c.args.known.items (i_then c) c.requires.kept c.args.commands c.args.longest c.args.calls c.requires.ready (last_then c) c.into_code.ensures.value refl (first_then c))

pub start-run-requires-clause-room : goal.start-run-requires-clause-room
start-run-requires-clause-room c =
    subst (λ (x : vm.ImageState). vm.IsRoomIn x c.len-behind.result c.args.calls.room) (sym (image_then c))
    (room_now c.args.modules c.args.known.items (i_then c) c.requires.kept c.args.commands c.args.longest c.args.calls c.requires.ready (last_then c) c.into_code.ensures.value refl (first_then c) c.len-behind.result (behind_then c))

pub invariant_of-result : goal.invariant_of-result
invariant_of-result c =
    let ms = c.args.modules in (
      subst (λ (x : vm.ImageState). IsHeld ms c.args.known.items x) (sym (image_begun c)) (held_now ms c.args.known.items (i_begun c) c.requires.kept c.args.commands c.args.longest c.args.calls c.requires.ready (last_begun c) c.into_code.ensures.value refl (first_begun c)),
      subst (λ (x : vm.ImageState). IsRunning ms (store_of ms c.of-opening.result.value.items) (Commands c.args.commands) c.none.result x c.start-run.result false) (sym (image_begun c))
          (subst (λ (ls : List Line). IsRunning ms (store_of ms c.of-opening.result.value.items) (Commands c.args.commands) ls (i_now c) c.start-run.result false) (sym c.none.ensures)
          (subst (λ (cs : List ℤ). IsRunning ms (store_of ms cs) (Commands c.args.commands) [] (i_now c) c.start-run.result false) (sym (cells_are c)) (running c))),
      c.requires.named,
      record { empty = λ _. c.requires.ready.empty; room = λ _. within_more ms c.args.longest (vec_capacity c.args.calls.name) c.requires.ready.named c.requires.named },
    )

pub returns : goal.returns
returns c =
    let ms = c.args.modules in
    ap (λ (ls : List Line). stands_at ms (store_of ms c.of-opening.result.value.items) (Commands c.args.commands) ls c.start-run.result false false) c.none.ensures
    ∙ ap (λ (cs : List ℤ). stands_at ms (store_of ms cs) (Commands c.args.commands) [] c.start-run.result false false) (cells_are c)
    ∙ begun c
