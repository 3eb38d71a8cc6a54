-- What a machine leaves.
use Rattle.std.proofs.Common.{◌≡◌, ℕ, zero, suc, ◌+◌, ◌≤◌, ◌<◌, Bool, false, List, [], ◌∷◌, length, take, sym, ap, ◌∙◌, subst, arith}
use mathlib.Core.Path.{fun_ext}
use Rattle.std.specs.Prelude.{slice_index_or}
use Rattle.std.proofs.lemmas.List.{length-take-le}
use Rattle.std.proofs.lemmas.Option.{slice_get_past}
use Rattle.ob_inout.specs.Reading.{Line}
use Rattle.ob_mean.specs.declared.outcome.Outcome.{Outcome}
use Rattle.ob_mean.specs.declared.outcome.Outcome.TheVariants as why
use Rattle.ob_mean.specs.Values.{Value, image, size}
use Rattle.ob_mean.specs.Runs.{supply}
use Rattle.ob_mean.specs.Programs.{opening_store}
use Rattle.ob_code.specs.Linked.{all_cells, runs_of, IsLinked}
use Rattle.ob_code.specs.Machine.{Code, Config, Memory}
use Rattle.ob_vm.specs.Images as vm
use Rattle.ob_vm.specs.Slices.{StandsIn, SliceDone}
use Rattle.ob_vm.specs.declared.run.Turned.{Turned}
use Rattle.ob_vm.specs.declared.run.Turned.TheVariants as slice
use Rattle.ob_session.specs.Session.{Session, Module, program_of}
use Rattle.ob_session.specs.Cells.{CellMeaning}
use Rattle.ob_image.specs.Counted.{HaveCellsOf}
use Rattle.ob_image.specs.Stores.{store_of}
use Rattle.ob_image.proofs.StoreCells.{each_counts_cells}
use Rattle.ob_image.proofs.Runs.{each_keeps_cells}
use Rattle.ob_image.specs.Compiled.{Known, AreCompiledFrom, AreCompiled, links, runs_in}
use Rattle.ob_image.proofs.MayRun.{each_may_run}
use Rattle.ob_load.specs.declared.task.Task.{Task}
use Rattle.ob_load.specs.Tasks.{task_run}
use Rattle.ob_load.specs.Kept.{IsHeld, IsRunning}
use Rattle.ob_load.proofs.Machines.{meant, comes_to}

-- ---- flags that are cut

none_left : (n : ℕ) (f : ℕ → Bool) (k : ℕ) → ((j : ℕ) → j < n → false ≡ f j) → ((j : ℕ) → n ≤ j → f j ≡ false) → false ≡ f k
none_left zero f k h o = sym (o k (omega arith))
none_left (suc n) f zero h o = h zero (omega arith)
none_left (suc n) f (suc k) h o = none_left n (λ j. f (suc j)) k (λ j l. h (suc j) (omega (arith, l))) (λ j l. o (suc j) (omega (arith, l)))

taken_flags : (n : ℕ) (flags : List Bool) (f : ℕ → Bool) (k : ℕ) → ((j : ℕ) → j < n → slice_index_or flags j false ≡ f j) → ((j : ℕ) → n ≤ j → f j ≡ false) → slice_index_or (take n flags) k false ≡ f k
taken_flags zero flags f k h o = sym (o k (omega arith))
taken_flags (suc n) [] f k h o = none_left (suc n) f k h o
taken_flags (suc n) (b ∷ bs) f zero h o = h zero (omega arith)
taken_flags (suc n) (b ∷ bs) f (suc k) h o = taken_flags n bs (λ j. f (suc j)) k (λ j l. h (suc j) (omega (arith, l))) (λ j l. o (suc j) (omega (arith, l)))

-- no module stands after the last one
past : (modules : List Module) (k : ℕ) → length modules ≤ k → runs_in modules k ≡ false
past modules k le = ap (links modules) (slice_get_past modules k le)

pub flags_cut : (modules : List Module) (flags : List Bool) → ((n : ℕ) → n < length modules → runs_of flags n ≡ runs_in modules n) → (k : ℕ) → runs_of (take (length modules) flags) k ≡ runs_in modules k
flags_cut modules flags h k = taken_flags (length modules) flags (runs_in modules) k h (past modules)

pub as_many : (modules : List Module) (flags : List Bool) → length modules ≤ length flags → length (take (length modules) flags) ≡ length modules
as_many modules flags le = length-take-le (length modules) flags le

-- ---- the code of the modules alone

have_cells : (all ms : List Module) (ks : List Known) (ls : Code) (first : ℕ) → AreCompiledFrom all ms ks ls first → HaveCellsOf ms ls
have_cells all [] [] [] first h = tt
have_cells all [] [] (l ∷ ls) first h = absurd h
have_cells all [] (k ∷ ks) ls first h = absurd h
have_cells all (m ∷ ms) [] ls first h = absurd h
have_cells all (m ∷ ms) (k ∷ ks) [] first h = absurd h
have_cells all (m ∷ ms) (k ∷ ks) (l ∷ ls) first h = (h.0.ready.generated.cells, have_cells all ms ks ls _ h.1)

pub sized_as : (modules : List Module) (known : List Known) (code : Code) → AreCompiled modules known code → all_cells code ≡ size (opening_store (program_of modules))
sized_as modules known code h = (each_counts_cells modules code (have_cells modules modules known code 0 h.each)).all

pub linked_by : (modules : List Module) (known : List Known) (code : Code) (flags : List Bool) → AreCompiled modules known code → ((k : ℕ) → runs_of flags k ≡ runs_in modules k) → IsLinked code (runs_of flags)
linked_by modules known code flags h e = subst (λ (f : ℕ → Bool). IsLinked code f) (sym (fun_ext e)) (each_may_run modules known code h).linked

pub measured_by : (modules : List Module) (known : List Known) (code : Code) (flags : List Bool) → AreCompiled modules known code → ((k : ℕ) → runs_of flags k ≡ runs_in modules k) → vm.AreMeasured code (runs_of flags)
measured_by modules known code flags h e = subst (λ (f : ℕ → Bool). vm.AreMeasured code f) (sym (fun_ext e)) (each_may_run modules known code h).measured

-- ---- the variables that stay

-- in no turns it stands somewhere
pub stands_in_none : (code : Code) (c d : Config) (turned : Turned) (k : ℕ) → SliceDone code c d 0 turned k → (k ≡ 0) × ((o : Outcome) × StandsIn code k c d o)
stands_in_none code c d slice.Ended k h = (omega (arith, h.0), (why.Ended, h.1))
stands_in_none code c d (slice.Trapped kind home line) k h = (omega (arith, h.0), (why.Trapped kind home line, h.1))
stands_in_none code c d slice.Stopped k h = (h.0, (why.Stopped h.1.0, h.1.1))
stands_in_none code c d slice.NeedsLine k h = (omega (arith, h.0), (why.NeedsLine, h.1))
stands_in_none code c d slice.NoMemory k h = absurd (omega (arith, h.0))

module _ (modules : List Module) (known : List Known) (store : Value) (task : Task) (lines : List Line) (i i' : vm.ImageState) (m m' : vm.MachineState) (asks : Bool) (h : IsHeld modules known i) (r : IsRunning modules store task lines i m asks) (turned : Turned) (k : ℕ) (used : m'.used ≡ m.used + k) (done : SliceDone i.code (vm.machine_config i m) (vm.machine_config i' m') 0 turned k) where
  pub leaves : record { modules = modules; store = store_of modules (take (all_cells i.code) i'.cells) } ≡ (task_run modules store task lines m.used).session
  leaves =
      let s = stands_in_none i.code _ _ turned k done in
      let x = comes_to modules store task lines i i' m m' asks r k used s.1.0 s.1.1 in
      let g = meant modules store task lines i r.follows r.begins (m.used + k) s.1.0 (supply 0 []) _ x in
      let stays = r.follows.stays (supply (m.used + k) lines) _ r.begins s.1.0 (supply 0 []) g.world g.raw in
      let cells : i'.cells ≡ image g.world.store = ap (λ (w : Memory). w.cells) g.same in
      let many : all_cells i.code ≡ size (opening_store (program_of modules)) = h.sized ∙ sized_as modules known (take (length modules) i.code) h.compiled in
      let whole : m.used + k ≡ m.used = omega (arith, s.0) in
      ap (λ (v : Value). let t : Session = record { modules = modules; store = v } in t) (ap (store_of modules) (ap (λ xs. take (all_cells i.code) xs) cells ∙ ap (λ n. take n (image g.world.store)) many) ∙ sym (each_keeps_cells modules g.world.store stays).store)
      ∙ sym (ap (λ (y : CellMeaning). y.session) g.is)
      ∙ ap (λ n. (task_run modules store task lines n).session) whole
