-- How a machine follows what its task means.
use Rattle.std.proofs.Common.{◌≡◌, ℕ, ◌+◌, ◌-◌, ◌≤◌, Bool, true, false, List, [], ◌∷◌, ◌++◌, length, take, drop, refl, sym, ap, ◌∙◌, subst, arith, append-nil, length-append}
use Rattle.std.specs.Prelude.{slice_get}
use Rattle.std.proofs.Math.Seq.{drop-append_seam}
use Rattle.ob_mean.specs.declared.outcome.TurnKind.{TurnKind}
use Rattle.ob_mean.specs.declared.outcome.TurnKind.TheVariants as kinds
use Rattle.ob_mean.specs.declared.outcome.TrapKind.{TrapKind}
use Rattle.ob_inout.specs.Reading.{Line}
use Rattle.ob_mean.specs.declared.outcome.Outcome.{Outcome}
use Rattle.ob_mean.specs.declared.outcome.Outcome.TheVariants as why
use Rattle.ob_mean.specs.Values.{Value}
use Rattle.ob_mean.specs.Runs.{World, Supply, supply, Stands}
use Rattle.ob_mean.specs.Programs.{world_before}
use Rattle.ob_code.specs.Linked.{all_cells, runs_of}
use Rattle.ob_code.specs.Machine.{Code, Memory, Config, Going, Standing, Comes, start, picture}
use Rattle.ob_code.proofs.machine.Runs.{stays, goes_on, takes_line, more_turns, more_lines, follows_on, from_there}
use Rattle.ob_code.proofs.machine.Histories.{stood, fewer, writes_none, run_prefixed}
use Rattle.ob_gen.specs.Correct.{Follows, MayBegin}
use Rattle.ob_vm.specs.Images as vm
use Rattle.ob_step.specs.Steps.{Grows}
use Rattle.ob_vm.specs.Slices.{StandsIn, SliceDone}
use Rattle.ob_vm.specs.declared.run.Turned as slices
use Rattle.ob_vm.specs.declared.run.Turned.TheVariants as slice
use Rattle.ob_session.specs.Session.{Session, Module, program_of}
use Rattle.ob_session.specs.Cells as cells
use Rattle.ob_session.specs.Cells.{CellMeaning, CellOutcome, outcome_of, name_in, ran}
use Rattle.ob_image.specs.Compiled.{Known, AreCompiled}
use Rattle.jk_language.specs.MachineState as kernel
use Rattle.jk_language.specs.Runs.{HasTurned, line_given}
use Rattle.jk_language.specs.declared.outcome.Outcome.TheVariants as outcome
use Rattle.jk_language.specs.declared.outcome.Turned as turns
use Rattle.jk_language.specs.declared.outcome.Turned.TheVariants as turned
use Rattle.ob_load.specs.declared.task.Task.{Task}
use Rattle.ob_load.specs.Parts.{told_outcome, grows, trap_number}
use Rattle.ob_load.specs.Tasks.{task_meaning, task_run, home_of}
use Rattle.ob_load.specs.MachineState.{MachineState, begun_in, output_at, stands_at, state_of}
use Rattle.ob_load.specs.Kept.{IsHeld, IsRunning, prefixed, opens}

-- what a task has come to where its run is known
pub run_is : (modules : List Module) (store : Value) (task : Task) (lines : List Line) (n : ℕ) (why : Outcome) (left : Supply) (w : World) → task_meaning (program_of modules) task (supply n lines) (world_before store) ≡ Stands why left w → task_run modules store task lines n ≡ ran modules (supply n lines) (Stands why left w)
unfolding task_run
run_is modules store task lines n why left w e = ap (ran modules (supply n lines)) e

module _ (modules : List Module) (store : Value) (task : Task) (lines : List Line) (i : vm.ImageState) (f : Follows (program_of modules) i.code (task_meaning (program_of modules) task) (λ w. start i.code (home_of modules task) (picture w))) (b : MayBegin (program_of modules) (world_before store)) where
  abbrev first : Config
  first = opens modules store task i

  -- where the run stands, in its meaning and on a machine
  pub record At (n : ℕ) : Type 0 where
    pub why : Outcome
    pub left : Supply
    pub world : World
    pub is : task_meaning (program_of modules) task (supply n lines) (world_before store) ≡ Stands why left world
    pub there : Config
    pub comes : Comes i.code (Going (supply n lines) first) (Standing why left there)
    pub same : there.memory ≡ picture world

  comes_at : (n : ℕ) → At n
  comes_at n =
      let s = f.stands (supply n lines) (world_before store) b in
      let c = f.comes (supply n lines) (world_before store) b s.0 s.1 s.2 s.3 in
      record { why = s.0; left = s.1; world = s.2; is = s.3; there = c.0; comes = c.1; same = c.2 }

  -- what the task has come to where the machine is known to stand
  pub record Meant (n : ℕ) (why : Outcome) (left : Supply) (c : Config) : Type 0 where
    pub world : World
    pub raw : task_meaning (program_of modules) task (supply n lines) (world_before store) ≡ Stands why left world
    pub is : task_run modules store task lines n ≡ ran modules (supply n lines) (Stands why left world)
    pub same : c.memory ≡ picture world

  pub meant : (n : ℕ) (why : Outcome) (left : Supply) (c : Config) → Comes i.code (Going (supply n lines) first) (Standing why left c) → Meant n why left c
  meant n why left c x =
      let o = f.only (supply n lines) (world_before store) b why left c x in
      record { world = o.0; raw = o.1; is = run_is modules store task lines n why left o.0 o.1; same = o.2 }

  -- what has come to be written in the turns that were used
  pub stands_now : (u : ℕ) (c : Config) → Comes i.code (Going (supply u lines) first) (Going (supply 0 []) c) → ((task_run modules store task lines u).output ≡ c.memory.written) × ((task_run modules store task lines u).turns ≡ u)
  stands_now u c a =
      let x = comes_at u in
      let rest = from_there i.code (Going (supply u lines) first) (supply 0 []) c x.why x.left x.there a x.comes in
      let few = fewer i.code (supply 0 []) c x.why x.left x.there rest in
      let is = run_is modules store task lines u x.why x.left x.world x.is in (
        ap (λ (g : CellMeaning). g.output) is ∙ ap (λ (k : Memory). k.written) (sym x.same) ∙ writes_none i.code [] c x.why x.left x.there rest,
        omega (arith, few, ap (λ (g : CellMeaning). g.turns) is),
      )

  -- a stretch after the turns so far
  joined : (u k : ℕ) (shown : List ℕ) (c d : Config) (why : Outcome) → Comes i.code (Going (supply u lines) first) (Going (supply 0 []) (prefixed shown c)) → StandsIn i.code k c d why → Comes i.code (Going (supply (u + k) lines) first) (Standing why (supply 0 []) (prefixed shown d))
  joined u k shown c d why a s =
      follows_on i.code u k lines [] first (prefixed shown c) (Standing why (supply 0 []) (prefixed shown d)) a (run_prefixed i.code shown (supply k []) c why (supply 0 []) d s)

  -- where it was stopped, and the turns that it used
  stopped_at : (u k : ℕ) (d : Config) (kind : TurnKind) → Comes i.code (Going (supply (u + k) lines) first) (Standing (why.Stopped kind) (supply 0 []) d) → ((task_run modules store task lines (u + k)).outcome ≡ cells.Stopped kind) × ((task_run modules store task lines (u + k)).turns ≡ u + k)
  stopped_at u k d kind x =
      let is = (meant (u + k) (why.Stopped kind) (supply 0 []) d x).is in
      (ap (λ (g : CellMeaning). g.outcome) is, omega (arith, ap (λ (g : CellMeaning). g.turns) is))

  -- where it stands however many turns are left
  over_by : (u k most : ℕ) (d : Config) (o : Outcome) → k ≤ most → Comes i.code (Going (supply (u + k + (most - k)) lines) first) (Standing o (supply (0 + (most - k)) []) d) → ((task_run modules store task lines (u + most)).outcome ≡ outcome_of modules o) × ((task_run modules store task lines (u + most)).turns ≡ u + k)
  over_by u k most d o le x =
      let n = u + k + (most - k) in
      let whole : n ≡ u + most = omega (arith, le) in
      let is = (meant n o (supply (0 + (most - k)) []) d x).is in
      let used : n - (0 + (most - k)) ≡ u + k = omega (arith, le) in (
        ap (λ j. (task_run modules store task lines j).outcome) (sym whole) ∙ ap (λ (g : CellMeaning). g.outcome) is,
        ap (λ j. (task_run modules store task lines j).turns) (sym whole) ∙ ap (λ (g : CellMeaning). g.turns) is ∙ used,
      )

  ended_at : (u k most : ℕ) (d : Config) → k ≤ most → Comes i.code (Going (supply (u + k) lines) first) (Standing why.Ended (supply 0 []) d) → ((task_run modules store task lines (u + most)).outcome ≡ cells.Ended) × ((task_run modules store task lines (u + most)).turns ≡ u + k)
  ended_at u k most d le x = over_by u k most d why.Ended le (more_turns i.code (most - k) (u + k) lines first (Standing why.Ended (supply 0 []) d) x)

  asks_at : (u k most : ℕ) (d : Config) → k ≤ most → Comes i.code (Going (supply (u + k) lines) first) (Standing why.NeedsLine (supply 0 []) d) → ((task_run modules store task lines (u + most)).outcome ≡ cells.NeedsLine) × ((task_run modules store task lines (u + most)).turns ≡ u + k)
  asks_at u k most d le x = over_by u k most d why.NeedsLine le (more_turns i.code (most - k) (u + k) lines first (Standing why.NeedsLine (supply 0 []) d) x)

  trapped_at : (u k most : ℕ) (d : Config) (kind : TrapKind) (home line : ℕ) → k ≤ most → Comes i.code (Going (supply (u + k) lines) first) (Standing (why.Trapped kind home line) (supply 0 []) d) → ((task_run modules store task lines (u + most)).outcome ≡ outcome_of modules (why.Trapped kind home line)) × ((task_run modules store task lines (u + most)).turns ≡ u + k)
  trapped_at u k most d kind home line le x = over_by u k most d (why.Trapped kind home line) le (more_turns i.code (most - k) (u + k) lines first (Standing (why.Trapped kind home line) (supply 0 []) d) x)

-- What the answers of a slice say of the task.

grows_true : (kind : TurnKind) → Grows kind → grows kind ≡ true
grows_true kinds.BodyEntry h = absurd h
grows_true kinds.ProcedureCall h = refl
grows_true kinds.Input h = refl
grows_true kinds.Output h = refl
grows_true kinds.LineAsked h = refl

-- a machine of its task, with these lines, in its run
module _ (modules : List Module) (store : Value) (task : Task) (lines : List Line) (i : vm.ImageState) (m : vm.MachineState) (asks : Bool) (r : IsRunning modules store task lines i m asks) where
  output_now : output_at modules store task lines m.used ≡ r.taken ++ m.written
  output_now = (stands_now modules store task lines i r.follows r.begins m.used _ r.comes).0

  -- so much was taken
  pub shown_is : length (output_at modules store task lines m.used) - length m.written ≡ length r.taken
  shown_is =
      let e = ap (λ (xs : List ℕ). length xs) output_now in
      let both = length-append r.taken m.written in
      omega (arith, e, both)

  -- and what it wrote is the rest
  pub unshown_is : m.written ≡ drop (length (output_at modules store task lines m.used) - length m.written) (output_at modules store task lines m.used)
  unshown_is = sym (ap (λ n. drop n (output_at modules store task lines m.used)) shown_is ∙ ap (drop (length r.taken)) output_now ∙ drop-append_seam r.taken m.written)

  -- output that is taken
  pub taken_now : (m' : vm.MachineState) → m' ≡ record m { written = [] } → (asks ≡ true → vm.AsksFor i m') → IsRunning modules store task lines i m' asks
  taken_now m' e asking = record {
    fits = subst (λ (x : vm.MachineState). vm.IsOf i x) (sym e) (record { runs = r.fits.runs; linked = r.fits.linked; measured = r.fits.measured; stands = record { sound = r.fits.stands.sound; marked = r.fits.stands.marked }; room = r.fits.room });
    follows = r.follows;
    begins = r.begins;
    taken = r.taken ++ m.written;
    comes = subst (λ (x : vm.MachineState). Comes i.code (Going (supply x.used lines) (opens modules store task i)) (Going (supply 0 []) (prefixed (r.taken ++ m.written) (vm.machine_config i x)))) (sym e)
        (subst (λ w. Comes i.code (Going (supply m.used lines) (opens modules store task i)) (Going (supply 0 []) (with_text w))) (sym (append-nil (r.taken ++ m.written))) r.comes);
    asking = asking;
  }
    where
      with_text : List ℕ → Config
      with_text w =
          let c = vm.machine_config i m in
          record { at = c.at; stack = c.stack; names = c.names; frames = c.frames; memory = record { cells = c.memory.cells; written = w; input = c.memory.input } }

-- the same, k turns later
module _ (modules : List Module) (store : Value) (task : Task) (lines : List Line) (i i' : vm.ImageState) (m m' : vm.MachineState) (asks : Bool) (r : IsRunning modules store task lines i m asks) (k : ℕ) (used : m'.used ≡ m.used + k) where
  -- where it comes
  pub comes_to : (o : Outcome) → StandsIn i.code k (vm.machine_config i m) (vm.machine_config i' m') o → Comes i.code (Going (supply (m.used + k) lines) (opens modules store task i)) (Standing o (supply 0 []) (prefixed r.taken (vm.machine_config i' m')))
  comes_to o s = joined modules store task lines i r.follows r.begins m.used k r.taken (vm.machine_config i m) (vm.machine_config i' m') o r.comes s

  module _ (o : Outcome) (s : StandsIn i.code k (vm.machine_config i m) (vm.machine_config i' m') o) where
    on : Comes i.code (Going (supply (m.used + k) lines) (opens modules store task i)) (Going (supply 0 []) (prefixed r.taken (vm.machine_config i' m')))
    on = stood i.code (supply (m.used + k) lines) (opens modules store task i) o (supply 0 []) (prefixed r.taken (vm.machine_config i' m')) (comes_to o s)

    -- it is still one of this task
    pub kept : (asks' : Bool) → i'.code ≡ i.code → vm.IsOf i' m' → (asks' ≡ true → vm.AsksFor i' m') → IsRunning modules store task lines i' m' asks'
    kept asks' same fits asking = record {
      fits = fits;
      follows = subst (λ (c : Code). Follows (program_of modules) c (task_meaning (program_of modules) task) (λ w. start c (home_of modules task) (picture w))) (sym same) r.follows;
      begins = r.begins;
      taken = r.taken;
      comes = subst (λ (c : Code). Comes c (Going (supply m'.used lines) (start c (home_of modules task) (picture (world_before store)))) (Going (supply 0 []) (prefixed r.taken (vm.machine_config i' m')))) (sym same)
          (subst (λ t. Comes i.code (Going (supply t lines) (opens modules store task i)) (Going (supply 0 []) (prefixed r.taken (vm.machine_config i' m')))) (sym used) on);
      asking = asking;
    }

    -- and what was taken is the same
    pub shown_then : length (output_at modules store task lines m'.used) - length m'.written ≡ length (output_at modules store task lines m.used) - length m.written
    shown_then =
        let out = stands_now modules store task lines i r.follows r.begins (m.used + k) _ on in
        let e = ap (λ (xs : List ℕ). length xs) out.0 in
        let both = length-append r.taken m'.written in
        let there : length (output_at modules store task lines (m.used + k)) - length m'.written ≡ length r.taken = omega (arith, e, both) in
        ap (λ n. length (output_at modules store task lines n) - length m'.written) used ∙ there ∙ sym (shown_is modules store task lines i m asks r)

    -- the state then
    pub moved : (over : Bool) (told ends : Bool) (n : ℕ) → n ≡ m.used + k → state_of (stands_at modules store task lines m' told ends) ≡ record (state_of (stands_at modules store task lines m asks over)) { turns = n; asks = told; over = ends }
    moved over told ends n e =
        ap (λ t. state_with t (length (output_at modules store task lines m'.used) - length m'.written)) (used ∙ sym e) ∙ ap (state_with n) shown_then
      where
        state_with : ℕ → ℕ → kernel.MachineState Session
        state_with t shown = record (state_of (stands_at modules store task lines m asks over)) { turns = t; shown = shown; asks = told; over = ends }

  module _ (over : Bool) (most : ℕ) where
    abbrev Turned : slices.Turned → Bool → Bool → turns.Turned → Type 0
    Turned done asks' over' answer = SliceDone i.code (vm.machine_config i m) (vm.machine_config i' m') most done k → HasTurned (state_of (stands_at modules store task lines m asks over)) most answer (state_of (stands_at modules store task lines m' asks' over'))

    pub ended : Turned slice.Ended false true turned.Ended
    ended d =
        let x = ended_at modules store task lines i r.follows r.begins m.used k most _ d.0 (comes_to why.Ended d.1) in
        (most, refl, ap told_outcome x.0, moved why.Ended d.1 over false true _ x.1)

    pub asked : Turned slice.NeedsLine true false turned.NeedsLine
    asked d =
        let x = asks_at modules store task lines i r.follows r.begins m.used k most _ d.0 (comes_to why.NeedsLine d.1) in
        (most, refl, ap told_outcome x.0, moved why.NeedsLine d.1 over true false _ x.1)

    pub trapped : (kind : TrapKind) (home line number : ℕ) (name : List ℕ) → number ≡ trap_number kind → name ≡ name_in (slice_get modules home) → Turned (slice.Trapped kind home line) false true (turned.Trapped (record { number = number; «module» = name; line = line }))
    trapped kind home line number name numbered named d =
        let x = trapped_at modules store task lines i r.follows r.begins m.used k most _ kind home line d.0 (comes_to (why.Trapped kind home line) d.1) in
        let told : told_outcome (cells.Trapped kind (name_in (slice_get modules home)) line) ≡ outcome.Trapped (record { number = number; «module» = name; line = line }) =
        ap (λ n. outcome.Trapped (record { number = trap_number kind; «module» = n; line = line })) (sym named) ∙ ap (λ n. outcome.Trapped (record { number = n; «module» = name; line = line })) (sym numbered) in
        (most, refl, ap told_outcome x.0 ∙ told, moved (why.Trapped kind home line) d.1 over false true _ x.1)

    pub stopped : Turned slice.Stopped false false turned.Stopped
    stopped d =
        let x = stopped_at modules store task lines i r.follows r.begins m.used k _ d.1.0 (comes_to (why.Stopped d.1.0) d.1.1) in
        (k, d.0, (grows d.1.0, ap told_outcome x.0), moved (why.Stopped d.1.0) d.1.1 over false false _ x.1)

    pub refused : Turned slice.NoMemory false false turned.NoMemory
    refused d =
        let x = stopped_at modules store task lines i r.follows r.begins m.used k _ d.1.0 (comes_to (why.Stopped d.1.0) d.1.2) in
        (k, d.0, ap told_outcome x.0 ∙ ap outcome.Stopped (grows_true d.1.0 d.1.1), moved (why.Stopped d.1.0) d.1.2 over false false _ x.1)

-- A line that is given.

-- a machine that asks takes it, and flows on without a turn
module _ (modules : List Module) (store : Value) (task : Task) (lines : List Line) (line : Line) (i i' : vm.ImageState) (m m' m'' : vm.MachineState) (r : IsRunning modules store task lines i m true) (took : vm.HasTakenLine i m line m') (same_turns : m'.used ≡ m.used) (o : Outcome) (s : StandsIn i.code 0 (vm.machine_config i m') (vm.machine_config i' m'') o) (used : m''.used ≡ m'.used) where
  abbrev more : List Line
  more = lines ++ line ∷ []

  fed : Comes i.code (Going (supply m.used more) (opens modules store task i)) (Going (supply 0 (line ∷ [])) (prefixed r.taken (vm.machine_config i m)))
  fed = more_lines i.code (line ∷ []) (supply m.used lines) (opens modules store task i) (Going (supply 0 []) (prefixed r.taken (vm.machine_config i m))) r.comes

  reads : Comes i.code (Going (supply 0 (line ∷ [])) (vm.machine_config i m)) (Standing o (supply 0 []) (vm.machine_config i' m''))
  reads = goes_on i.code _ _ _ (takes_line i.code 0 line [] took.next (vm.machine_config i m) took.reads)
      (subst (λ (c : Config). Comes i.code (Going (supply 0 []) c) (Standing o (supply 0 []) (vm.machine_config i' m''))) took.taken s)

  there : Comes i.code (Going (supply m.used more) (opens modules store task i)) (Going (supply 0 []) (prefixed r.taken (vm.machine_config i' m'')))
  there = stood i.code (supply m.used more) (opens modules store task i) o (supply 0 []) (prefixed r.taken (vm.machine_config i' m''))
      (goes_on i.code _ _ _ fed (run_prefixed i.code r.taken (supply 0 (line ∷ [])) (vm.machine_config i m) o (supply 0 []) (vm.machine_config i' m'') reads))

  pub given_kept : i'.code ≡ i.code → vm.IsOf i' m'' → IsRunning modules store task more i' m'' false
  given_kept same fits = record {
    fits = fits;
    follows = subst (λ (c : Code). Follows (program_of modules) c (task_meaning (program_of modules) task) (λ w. start c (home_of modules task) (picture w))) (sym same) r.follows;
    begins = r.begins;
    taken = r.taken;
    comes = subst (λ (c : Code). Comes c (Going (supply m''.used more) (start c (home_of modules task) (picture (world_before store)))) (Going (supply 0 []) (prefixed r.taken (vm.machine_config i' m'')))) (sym same)
        (subst (λ t. Comes i.code (Going (supply t more) (opens modules store task i)) (Going (supply 0 []) (prefixed r.taken (vm.machine_config i' m'')))) (sym (used ∙ same_turns)) there);
    asking = λ e. absurd (let no : false ≡ true = e in cc);
  }

  pub given_state : (over : Bool) → state_of (stands_at modules store task more m'' false over) ≡ line_given line (state_of (stands_at modules store task lines m true over))
  given_state over =
      let out = stands_now modules store task more i r.follows r.begins m.used _ there in
      let e = ap (λ (xs : List ℕ). length xs) out.0 in
      let both = length-append r.taken m''.written in
      let now : length (output_at modules store task more m.used) - length m''.written ≡ length r.taken = omega (arith, e, both) in
      ap (λ t. state_with t (length (output_at modules store task more t) - length m''.written)) (used ∙ same_turns) ∙ ap (state_with m.used) (now ∙ sym (shown_is modules store task lines i m true r))
    where
      state_with : ℕ → ℕ → kernel.MachineState Session
      state_with t shown = record (line_given line (state_of (stands_at modules store task lines m true over))) { turns = t; shown = shown }

-- The code is held where it is the same.

pub held : (modules : List Module) (known : List Known) (i i' : vm.ImageState) → i'.code ≡ i.code → i'.may_run ≡ i.may_run → IsHeld modules known i → IsHeld modules known i'
held modules known i i' e f h = record {
  compiled = subst (λ (c : Code). AreCompiled modules known (take (length modules) c)) (sym e) h.compiled;
  runs = λ n l. ap (λ fs. runs_of fs n) f ∙ h.runs n l;
  flags = let same = ap (λ (fs : List Bool). length fs) f in let long = h.flags in omega (arith, same, long);
  sized = ap all_cells e ∙ h.sized ∙ ap (λ (c : Code). all_cells (take (length modules) c)) (sym e);
  checkable = h.checkable;
  said = h.said;
}

-- Before the first turn.

pub begun : (modules : List Module) (store : Value) (task : Task) (i : vm.ImageState) (m : vm.MachineState) → vm.IsOf i m → Follows (program_of modules) i.code (task_meaning (program_of modules) task) (λ w. start i.code (home_of modules task) (picture w)) → MayBegin (program_of modules) (world_before store) → vm.machine_config i m ≡ opens modules store task i → m.used ≡ 0 → IsRunning modules store task [] i m false
begun modules store task i m fits follows begins at none = record {
  fits = fits;
  follows = follows;
  begins = begins;
  taken = [];
  comes = subst (λ t. Comes i.code (Going (supply t []) (opens modules store task i)) (Going (supply 0 []) (prefixed [] (vm.machine_config i m)))) (sym none)
      (subst (λ (c : Config). Comes i.code (Going (supply 0 []) (opens modules store task i)) (Going (supply 0 []) c)) (sym at) (stays i.code (Going (supply 0 []) (opens modules store task i))));
  asking = λ e. absurd (let no : false ≡ true = e in cc);
}

pub begun_state : (modules : List Module) (store : Value) (task : Task) (i : vm.ImageState) (m : vm.MachineState) → IsRunning modules store task [] i m false → vm.machine_config i m ≡ opens modules store task i → m.used ≡ 0 → stands_at modules store task [] m false false ≡ begun_in (record { modules = modules; store = store }) task
begun_state modules store task i m r at none =
    let out = stands_now modules store task [] i r.follows r.begins 0 _ (stays i.code (Going (supply 0 []) (opens modules store task i))) in
    let silent : length (output_at modules store task [] 0) ≡ 0 = ap (λ (xs : List ℕ). length xs) out.0 in
    let now : length (output_at modules store task [] m.used) - length m.written ≡ 0 = ap (λ t. length (output_at modules store task [] t) - length m.written) none ∙ (omega (arith, silent)) in
    ap (λ t. state_with t (length (output_at modules store task [] m.used) - length m.written)) none ∙ ap (state_with 0) now
  where
    state_with : ℕ → ℕ → MachineState
    state_with t shown = record { modules = modules; store = store; task = task; lines = []; turns = t; shown = shown; asks = false; over = false }
