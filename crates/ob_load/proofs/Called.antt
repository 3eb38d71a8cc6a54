-- Commands, their calls, and what is known of their modules, one after the other.
use Rattle.std.proofs.Common.{◌≡◌, ◌≢◌, ◌⊎◌, inl, inr, Bool, ℕ, zero, suc, ◌+◌, ◌<◌, ◌≤◌, true, List, [], ◌∷◌, ◌++◌, length, get_or, take, Some, None, refl, sym, ap, ◌∙◌, subst, arith}
use Rattle.std.specs.Prelude.{slice_get, slice_index}
use Rattle.std.proofs.lemmas.Bool.{cases_lt}
use Rattle.std.proofs.lemmas.List.{take_more, take_all}
use Rattle.ob_mean.specs.declared.expression.Callee.TheVariants.{OfImport}
use Rattle.ob_mean.specs.declared.face.Face.{Face}
use Rattle.ob_mean.specs.declared.module.TypedModule.{TypedModule}
use Rattle.ob_mean.specs.declared.statement.Action.TheVariants.{Call}
use Rattle.ob_mean.specs.declared.statement.TypedStatement.{TypedStatement}
use Rattle.ob_mean.specs.declared.statement.TypedStatement.TheVariants.{Simple}
use Rattle.ob_mean.specs.Programs.{Command}
use Rattle.ob_mean.specs.WellFormed.{IsWellFormed}
use Rattle.ob_code.specs.declared.instr.CodeModule.{CodeModule}
use Rattle.ob_code.specs.Machine.{Code}
use Rattle.ob_gen.specs.Correct.{AllRun}
use Rattle.ob_gen.specs.Generated.{IsGenerated}
use Rattle.ob_session.specs.Session.{Module}
use Rattle.ob_image.specs.Compiled.{Known, face_in, runs_in, AreCompiled, AreKnown}
use Rattle.ob_image.specs.CommandsCode.{IsCallable, AllCallable, AreCallable, calls_body, commands_tree}
use Rattle.ob_image.proofs.Commands.{commands_form}
use Rattle.ob_image.proofs.Imports.{running_at}
use Rattle.ob_load.specs.Commanded.{AreCalled, IsCodeOfCalls, WithHome}
use Rattle.ob_load.proofs.Loaded.{known_many, some_within}

-- ---- numbers that are nowhere in a list

-- a number that is not among the first of a list, nor the next, is not among one more
pub nowhere_more : (xs : List ℕ) (n x : ℕ) → ((k : ℕ) → k < n → slice_get xs k ≢ Some x) → slice_index xs n ≢ x → n < length xs → (k : ℕ) → k < n + 1 → slice_get xs k ≢ Some x
nowhere_more xs n x h other lt k less e = by (cases_lt k n)
  where
    indexed : (ys : List ℕ) (j y : ℕ) → slice_get ys j ≡ Some y → slice_index ys j ≡ y
    indexed [] j y g = absurd (let f : None ≡ Some y = g in cc)
    indexed (z ∷ ys) zero y g = let same : Some z ≡ Some y = g in cc
    indexed (z ∷ ys) (suc j) y g = indexed ys j y g

    by : (k < n) ⊎ (n ≤ k) → ⊥
    by (inl l) = h k l e
    by (inr le) = let same : k ≡ n = omega (arith, less, le) in other (ap (slice_index xs) (sym same) ∙ indexed xs k x e)

pub nowhere_all : (xs : List ℕ) (x : ℕ) → ((k : ℕ) → k < length xs → slice_get xs k ≢ Some x) → (k : ℕ) → slice_get xs k ≢ Some x
nowhere_all xs x h k e = h k (some_within xs k x e) e

-- ---- one more

callable_more : (modules : List Module) (homes : List ℕ) (cs : List Command) (ps : List (ℕ × ℕ)) (c : Command) (p : ℕ × ℕ) → AllCallable modules homes cs ps → IsCallable modules c p.1 → slice_get homes p.0 ≡ Some c.home → AllCallable modules homes (cs ++ c ∷ []) (ps ++ p ∷ [])
callable_more modules homes [] [] c p h k at = (k, at, tt)
callable_more modules homes [] (q ∷ qs) c p h k at = absurd h
callable_more modules homes (d ∷ ds) [] c p h k at = absurd h
callable_more modules homes (d ∷ ds) (q ∷ qs) c p h k at = (h.0, h.1, callable_more modules homes ds qs c p h.2 k at)

pub callable_next : (modules : List Module) (homes : List ℕ) (cs : List Command) (ps : List (ℕ × ℕ)) (n : ℕ) (d : Command) (p : ℕ × ℕ) → n < length cs → AllCallable modules homes (take n cs) ps → IsCallable modules (get_or cs n d) p.1 → slice_get homes p.0 ≡ Some (get_or cs n d).home → AllCallable modules homes (take (n + 1) cs) (ps ++ p ∷ [])
callable_next modules homes cs ps n d p lt h k at =
    subst (λ (xs : List Command). AllCallable modules homes xs (ps ++ p ∷ [])) (sym (take_more cs n d lt)) (callable_more modules homes (take n cs) ps (get_or cs n d) p h k at)

pub callable_all : (modules : List Module) (homes : List ℕ) (cs : List Command) (ps : List (ℕ × ℕ)) (n : ℕ) → length cs ≤ n → AllCallable modules homes (take n cs) ps → AllCallable modules homes cs ps
callable_all modules homes cs ps n le h = subst (λ (xs : List Command). AllCallable modules homes xs ps) (take_all n cs le) h

-- more imports change nothing of the calls
at_front : {A : Type 0} (xs ys : List A) (n : ℕ) (x : A) → slice_get xs n ≡ Some x → slice_get (xs ++ ys) n ≡ Some x
at_front [] ys n x e = absurd (let f : None ≡ Some x = e in cc)
at_front (y ∷ xs) ys zero x e = e
at_front (y ∷ xs) ys (suc n) x e = at_front xs ys n x e

callable_grow : (modules : List Module) (homes more : List ℕ) (cs : List Command) (ps : List (ℕ × ℕ)) → AllCallable modules homes cs ps → AllCallable modules (homes ++ more) cs ps
callable_grow modules homes more [] [] h = tt
callable_grow modules homes more [] (p ∷ ps) h = absurd h
callable_grow modules homes more (c ∷ cs) [] h = absurd h
callable_grow modules homes more (c ∷ cs) (p ∷ ps) h = (h.0, at_front homes more p.0 c.home h.1, callable_grow modules homes more cs ps h.2)

pub callable_with : (modules : List Module) (homes : List ℕ) (home : ℕ) (after : List ℕ) (cs : List Command) (ps : List (ℕ × ℕ)) → WithHome homes home after → AllCallable modules homes cs ps → AllCallable modules after cs ps
callable_with modules homes home after cs ps (inl e) h = subst (λ (hs : List ℕ). AllCallable modules hs cs ps) (sym e) h
callable_with modules homes home after cs ps (inr e) h = subst (λ (hs : List ℕ). AllCallable modules hs cs ps) (sym e) (callable_grow modules homes (home ∷ []) cs ps h)

run_grow : (runs : ℕ → Bool) (homes : List ℕ) (home : ℕ) → AllRun runs homes → runs home ≡ true → AllRun runs (homes ++ home ∷ [])
run_grow runs [] home h k = (k, tt)
run_grow runs (x ∷ xs) home h k = (h.0, run_grow runs xs home h.1 k)

pub run_with : (runs : ℕ → Bool) (homes : List ℕ) (home : ℕ) (after : List ℕ) → WithHome homes home after → AllRun runs homes → runs home ≡ true → AllRun runs after
run_with runs homes home after (inl e) h k = subst (λ (hs : List ℕ). AllRun runs hs) (sym e) h
run_with runs homes home after (inr e) h k = subst (λ (hs : List ℕ). AllRun runs hs) (sym e) (run_grow runs homes home h k)

known_behind : (known : List Known) (is : List ℕ) (fs : List Face) (i : ℕ) (f : Face) → AreKnown known is fs → face_in (slice_get known i) ≡ Some f → AreKnown known (is ++ i ∷ []) (fs ++ f ∷ [])
known_behind known [] [] i f h k = (k, tt)
known_behind known [] (g ∷ gs) i f h k = absurd h
known_behind known (j ∷ js) [] i f h k = absurd h
known_behind known (j ∷ js) (g ∷ gs) i f h k = (h.0, known_behind known js gs i f h.1 k)

-- modules that may run are known
pub homes_within : (modules : List Module) (known : List Known) (all : Code) → AreCompiled modules known all → (homes : List ℕ) → AllRun (runs_in modules) homes → (k : ℕ) → k < length homes → slice_index homes k < length known
homes_within modules known all h [] run k lt = absurd (omega (arith, lt))
homes_within modules known all h (home ∷ homes) run zero lt =
    let r = running_at modules home run.0 in
    let inside = some_within modules home r.m r.there in
    let many = known_many modules modules known all 0 h.each in
    omega (arith, inside, many)
homes_within modules known all h (home ∷ homes) run (suc k) lt = homes_within modules known all h homes run.1 k (omega (arith, lt))

pub known_next : (known : List Known) (is : List ℕ) (fs : List Face) (n d : ℕ) (f : Face) → n < length is → AreKnown known (take n is) fs → face_in (slice_get known (get_or is n d)) ≡ Some f → AreKnown known (take (n + 1) is) (fs ++ f ∷ [])
known_next known is fs n d f lt h k =
    subst (λ (xs : List ℕ). AreKnown known xs (fs ++ f ∷ [])) (sym (take_more is n d lt)) (known_behind known (take n is) fs (get_or is n d) f h k)

-- ---- calls

abbrev pub call : ℕ → ℕ → TypedStatement
call i place = Simple (Call (OfImport i place) 0 [])

calls_more : (ps : List (ℕ × ℕ)) (p : ℕ × ℕ) → calls_body (ps ++ p ∷ []) ≡ calls_body ps ++ call p.0 p.1 ∷ []
calls_more [] p = refl
calls_more (q ∷ qs) p = ap (λ ss. call q.0 q.1 ∷ ss) (calls_more qs p)

pub calls_next : (calls : List (ℕ × ℕ)) (n : ℕ) (d : ℕ × ℕ) → n < length calls → calls_body (take (n + 1) calls) ≡ calls_body (take n calls) ++ call (get_or calls n d).0 (get_or calls n d).1 ∷ []
calls_next calls n d lt = ap calls_body (take_more calls n d lt) ∙ calls_more (take n calls) (get_or calls n d)

-- ---- their module

module _ (modules : List Module) (known : List Known) (all : Code) (cs : List Command) (homes : List ℕ) (calls : List (ℕ × ℕ)) (faces : List Face) (tree : TypedModule) (compiled : AreCompiled modules known all) (called : AreCalled modules cs homes calls) (agree : AreKnown known homes faces) (tree_is : tree ≡ commands_tree calls) where
  callable : AreCallable modules known cs homes calls faces
  callable = record { each = called.each; run = called.run; agree = agree }

  pub tree_formed : IsWellFormed faces tree
  tree_formed = subst (λ (t : TypedModule). IsWellFormed faces t) (sym tree_is) (commands_form modules known all cs homes calls faces compiled callable)

  pub code_of : (code : CodeModule) → IsGenerated faces tree code → IsCodeOfCalls modules known cs homes code
  code_of code g = record {
    calls = calls;
    faces = faces;
    callable = callable;
    generated = subst (λ (t : TypedModule). IsGenerated faces t code) tree_is g;
  }
