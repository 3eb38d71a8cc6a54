-- The machine of commands, before its first turn.
use Rattle.std.proofs.Common.{◌≡◌, ℕ, ◌+◌, ◌<◌, ℤ, Bool, true, false, List, [], ◌∷◌, ◌++◌, length, take, sym, ap, ◌∙◌, subst, arith, length-append, Vec, Global}
use Rattle.std.specs.Prelude.{◌||◌, nat_eq, slice_get}
use Rattle.std.proofs.lemmas.List.{take_at}
use mathlib.Core.Path.{fun_ext}
use Rattle.ob_inout.specs.Reading.{opened}
use Rattle.ob_mean.specs.Programs.{Command}
use Rattle.ob_code.specs.declared.instr.CodeModule.{CodeModule}
use Rattle.ob_code.specs.declared.instr.LinkedModule.{LinkedModule}
use Rattle.ob_code.specs.Linked.{all_cells, runs_of, IsLinked}
use Rattle.ob_code.specs.Machine.{Code, start, picture}
use Rattle.ob_gen.specs.Correct.{Follows}
use Rattle.ob_gen.specs.Generated.{IsGenerated}
use Rattle.ob_gen.proofs.machine.Places.{some_same}
use Rattle.ob_vm.specs.Images as vm
use Rattle.ob_session.specs.Session.{Module, program_of}
use Rattle.ob_image.specs.Runs.{MayBeginWith}
use Rattle.ob_image.specs.Stores.{store_of, session_of, AreCellsOf}
use Rattle.ob_image.proofs.Runs.{each_may_begin}
use Rattle.ob_image.specs.Compiled.{Known, AreCompiled, runs_in}
use Rattle.ob_image.specs.CommandsCode.{CommandsMayRun, IsBehind, commands_tree, runs_with}
use Rattle.ob_image.proofs.Behind.{last_at}
use Rattle.ob_image.proofs.Commands.{commands_run}
use Rattle.ob_image.proofs.Imports.{flags_run_with}
use Rattle.ob_image.proofs.Sides.{as_long}
use Rattle.ob_load.specs.Commanded.{AreReady}
use Rattle.ob_load.specs.declared.commands.Calls.{Calls}
use Rattle.ob_load.specs.declared.task.Task.{Task}
use Rattle.ob_load.specs.declared.task.Task.TheVariants.{Commands}
use Rattle.ob_load.specs.Kept.{IsKept, IsHeld, IsRunning, opens}
use Rattle.ob_load.specs.Said.{shape_said}
use Rattle.ob_load.specs.Tasks.{task_meaning, home_of}
use Rattle.ob_load.proofs.Finished.{sized_as}
use Rattle.ob_load.proofs.Said.{types_agree}
use Rattle.ob_load.specs.MachineState.{begun_in, stands_at}
use Rattle.ob_load.proofs.Machines.{begun, begun_state}

-- the same of equal lists
pub ready_for : (modules : List Module) (ks known : List Known) (ds cs : List Command) (longest : ℕ) (c : Calls) → ks ≡ known → ds ≡ cs → AreReady modules ks ds longest c → AreReady modules known cs longest c
ready_for modules ks known ds cs longest c e g r =
    subst (λ (k : List Known). AreReady modules k cs longest c) e (subst (λ (d : List Command). AreReady modules ks d longest c) g r)

-- an image of equal parts
pub image_of : (code other : Code) (flags runs : List Bool) (xs cells : List ℤ) → code ≡ other → flags ≡ runs → xs ≡ cells → (let a : vm.ImageState = record { code = code; may_run = flags; cells = xs } in a) ≡ record { code = other; may_run = runs; cells = cells }
image_of code other flags runs xs cells e f g =
    ap (λ (x : Code). let a : vm.ImageState = record { code = x; may_run = flags; cells = xs } in a) e
    ∙ ap (λ (fs : List Bool). let a : vm.ImageState = record { code = other; may_run = fs; cells = xs } in a) f
    ∙ ap (λ (x : List ℤ). let a : vm.ImageState = record { code = other; may_run = runs; cells = x } in a) g

cells_behind : (code : Code) (l : LinkedModule) → all_cells (code ++ l ∷ []) ≡ all_cells code + l.code.cells
cells_behind [] l = omega arith
cells_behind (x ∷ code) l = let rest = cells_behind code l in omega (arith, rest)

module _ (modules : List Module) (known : List Known) (i : vm.ImageState) (h : IsKept modules known i) (v : Vec Command Global) (longest : ℕ) (c : Calls) (r : AreReady modules known v.items longest c) (l : LinkedModule) (code_is : l.code ≡ c.code) (imports_are : l.imports.items ≡ c.imports.items) (first_is : l.cells ≡ length i.cells) where
  abbrev pub longer : Code
  longer = i.code ++ l ∷ []

  abbrev pub now : vm.ImageState
  now = record { code = longer; may_run = i.may_run ++ true ∷ []; cells = i.cells }

  behind_is : IsBehind i.code c.imports.items r.calls.calls r.calls.faces l
  behind_is = record {
    generated = subst (λ (x : CodeModule). IsGenerated r.calls.faces (commands_tree r.calls.calls) x) (sym code_is) r.calls.generated;
    imports = imports_are;
    cells = first_is ∙ h.cells;
  }

  law : CommandsMayRun modules known i.code v.items l
  law = commands_run modules known i.code v.items c.imports.items r.calls.calls r.calls.faces l h.compiled r.calls.callable behind_is

  count : length i.code ≡ length modules
  count = as_long modules modules known i.code 0 h.compiled.each

  -- ---- which modules may run

  runs_say : (n : ℕ) → runs_of (i.may_run ++ true ∷ []) n ≡ runs_with modules n
  runs_say n = flags_run_with modules i.may_run h.flags h.runs n

  others : (n : ℕ) → n < length modules → runs_with modules n ≡ runs_in modules n
  others n lt = ap (λ b. b || runs_in modules n) (let e : nat_eq n (length modules) ≡ false = grind (arith, lt) in e)

  last_one : runs_with modules (length modules) ≡ true
  last_one = ap (λ b. b || runs_in modules (length modules)) (let e : nat_eq (length modules) (length modules) ≡ true = grind arith in e)

  -- ---- the image

  pub linked_now : IsLinked longer (runs_of (i.may_run ++ true ∷ []))
  linked_now = subst (λ (f : ℕ → Bool). IsLinked longer f) (sym (fun_ext runs_say)) law.linked

  pub measured_now : vm.AreMeasured longer (runs_of (i.may_run ++ true ∷ []))
  measured_now = subst (λ (f : ℕ → Bool). vm.AreMeasured longer f) (sym (fun_ext runs_say)) law.measured

  as_many : all_cells longer ≡ all_cells i.code
  as_many = let more = cells_behind i.code l in let none : l.code.cells ≡ 0 = behind_is.generated.cells in omega (arith, more, none)

  pub many_now : length i.cells ≡ all_cells longer
  many_now = h.cells ∙ sym as_many

  alone : take (length modules) longer ≡ i.code
  alone = take_at i.code (l ∷ []) (length modules) count

  pub held_now : IsHeld modules known now
  held_now = record {
    compiled = subst (λ (x : Code). AreCompiled modules known x) (sym alone) h.compiled;
    runs = λ n lt. runs_say n ∙ others n lt;
    flags = let more = length-append i.may_run (true ∷ []) in let same = h.flags in omega (arith, more, same);
    sized = as_many ∙ ap all_cells (sym alone);
    checkable = h.checkable;
    said = h.said;
  }

  module _ (behind : ℕ) (there : behind ≡ length i.code) where
    pub can_run : vm.CanRun now behind
    can_run = (
      let more = length-append i.code (l ∷ []) in omega (arith, more, there),
      ap (runs_of (i.may_run ++ true ∷ [])) (there ∙ count) ∙ runs_say (length modules) ∙ last_one,
    )

    pub room_now : vm.IsRoomIn now behind c.room
    room_now x e =
        let same : l ≡ x = some_same l x (sym (ap (slice_get longer) there ∙ last_at i.code l) ∙ e) in
        subst (λ (y : LinkedModule). vm.IsRoomFor y.code c.room) same (subst (λ (m : CodeModule). vm.IsRoomFor m c.room) (sym code_is) r.room)

    -- ---- the machine

    abbrev task : Task
    task = Commands v

    follows : Follows (program_of modules) longer (task_meaning (program_of modules) task) (λ w. start longer (home_of modules task) (picture w))
    follows = law.does shape_said (types_agree modules known h.said)

    fits_now : AreCellsOf modules i.cells
    fits_now = h.cells ∙ sized_as modules known i.code h.compiled

    may : MayBeginWith modules i.cells
    may = each_may_begin modules i.cells fits_now

    module _ (run : vm.MachineState) (fits : vm.IsOf now run) (at : vm.machine_config now run ≡ start longer behind (record { cells = i.cells; written = []; input = opened })) (none : run.used ≡ 0) where
      at_now : vm.machine_config now run ≡ opens modules (store_of modules i.cells) task now
      at_now =
          let place : behind ≡ length modules = there ∙ count in
          at ∙ ap (λ n. start longer n (record { cells = i.cells; written = []; input = opened })) place ∙ ap (start longer (length modules)) (sym may.pictured)

      pub runs_now : IsRunning modules (store_of modules i.cells) (Commands v) [] now run false
      runs_now = begun modules (store_of modules i.cells) task now run fits follows may.may at_now none

      pub state_now : stands_at modules (store_of modules i.cells) (Commands v) [] run false false ≡ begun_in (session_of modules i.cells) (Commands v)
      state_now = begun_state modules (store_of modules i.cells) task now run runs_now at_now none
