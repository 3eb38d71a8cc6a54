-- What it means that the machine does what a piece of a program means, and what follows for pieces one after the other.
use Rattle.std.proofs.Common.{◌≡◌, ℕ, zero, suc, ◌+◌, ◌<◌, ◌≤◌, ℤ, pos, negsuc, List, [], ◌∷◌, ◌++◌, length, Some, refl, ap, ◌∙◌, subst, arith, append_assoc, length-append}
use Rattle.std.specs.Prelude.{slice_get}
use Rattle.std.proofs.lemmas.Option.{slice_get-get_or}
use Rattle.std.proofs.Math.Seq.{get_or-append_seam}
use Rattle.ob_mean.specs.declared.expression.TypedExpr.{TypedExpr}
use Rattle.ob_mean.specs.declared.expression.Variable.{Variable}
use Rattle.ob_mean.specs.declared.outcome.Outcome.{Outcome}
use Rattle.ob_mean.specs.declared.statement.Action.{Action}
use Rattle.ob_mean.specs.declared.statement.TypedStatement.{TypedStatement}
use Rattle.ob_mean.specs.declared.shape.Shape.TheVariants.{Basic}
use Rattle.ob_mean.specs.Values.{Place, Value, Cell, shape, get, number, append}
use Rattle.ob_mean.specs.Runs.{World, Supply, Run, Goes, Stands, Done, and_then, choose, stored}
use Rattle.ob_mean.specs.Expressions.{Scope, value_of, variable_place}
use Rattle.ob_mean.specs.Statements.{action_meaning, list_meaning}
use Rattle.ob_mean.specs.WellFormed.{Of, Names, variable_object, ExprFits, ActionFits, ListFits}
use Rattle.ob_code.specs.declared.instr.Instr.TheVariants.{Skip, SkipIfZero, Load, Store}
use Rattle.ob_code.specs.declared.instr.Line.{Line}
use Rattle.ob_code.specs.declared.instr.Name.{Name}
use Rattle.ob_code.specs.declared.instr.Frame.{Frame}
use Rattle.ob_code.specs.Machine.{Code, Config, picture, Point, Going, Standing, lines_of, Comes}
use Rattle.ob_gen.specs.TypesAgree.{Shapes, ExprAgrees, ActionAgrees, ListAgrees}
use Rattle.ob_gen.specs.Code.{line, root_of, expr_code, action_code, list_code}
use Rattle.ob_code.proofs.machine.Runs.{goes_on, performs}

-- ---- lines that stand in a procedure

-- these lines stand in the procedure from this place on
abbrev pub HasAt : List Line → ℕ → List Line → Type 0
HasAt lines pc [] = Unit {0}
HasAt lines pc (i ∷ is) = (slice_get lines pc ≡ Some i) × HasAt lines (pc + 1) is

pub has_front : (lines : List Line) (pc : ℕ) (a b : List Line) → HasAt lines pc (a ++ b) → HasAt lines pc a
has_front lines pc [] b h = tt
has_front lines pc (i ∷ a) b h = (h.0, has_front lines (pc + 1) a b h.1)

pub has_back : (lines : List Line) (pc : ℕ) (a b : List Line) → HasAt lines pc (a ++ b) → HasAt lines (pc + length a) b
has_back lines pc [] b h = let e : pc ≡ pc + 0 = omega arith in subst (λ n. HasAt lines n b) e h
has_back lines pc (i ∷ a) b h =
    let e : pc + 1 + length a ≡ pc + length (i ∷ a) = omega arith in
    subst (λ n. HasAt lines n b) e (has_back lines (pc + 1) a b h.1)

pub has_all : (is pre : List Line) → HasAt (pre ++ is) (length pre) is
has_all [] pre = tt
has_all (i ∷ is) pre =
    let within : length pre < length (pre ++ i ∷ is) = omega (arith, length-append pre (i ∷ is)) in
    let stands = slice_get-get_or (pre ++ i ∷ is) (length pre) i within ∙ ap Some (get_or-append_seam pre i is i) in
    let n : length (pre ++ i ∷ []) ≡ length pre + 1 = omega (arith, length-append pre (i ∷ [])) in
    let rest = has_all is (pre ++ i ∷ []) in
    let rest' = subst (λ l. HasAt l (length (pre ++ i ∷ [])) is) (append_assoc pre (i ∷ []) is) rest in
    (stands, subst (λ m. HasAt (pre ++ i ∷ is) m is) n rest')

-- ---- where a run is

-- What stays while a procedure runs: which procedure it is, where its cells and its names begin, its callers, their operands,
-- and the names of all open calls.
pub record Running : Type 0 where
  pub home : ℕ
  pub procedure : ℕ
  pub cells : ℕ
  pub names : ℕ
  pub frames : List Frame
  pub under : List ℤ
  pub below : List Name

-- at a place of it, with these operands of its own, with these names of arguments that are pending, and in this world
abbrev pub conf : Running → ℕ → List ℤ → List Name → World → Config
conf r pc stack pending w = record {
  at = record { home = r.home; procedure = r.procedure; place = pc; cells = r.cells; names = r.names };
  stack = stack ++ r.under;
  names = r.below ++ pending;
  frames = r.frames;
  memory = picture w;
}

abbrev pub here : Running → ℕ → List ℤ → List Name → Supply → World → Point
here r pc stack pending n w = Going n (conf r pc stack pending w)

-- the lines of the running procedure
abbrev pub lines_in : Code → Running → List Line
lines_in code r = lines_of code r.home r.procedure

-- ---- what a run comes to

-- a store of this shape, or with more after it
pub data BeginsWith (s t : Value) : Type 0 where
  Same : t ≡ s → BeginsWith s t
  Longer : (more : Value) → t ≡ append s more → BeginsWith s t

-- the machine comes to stand for this reason, with this supply and a picture of this world, whose store begins so
pub record Halts (code : Code) (s : Value) (from : Point) (why : Outcome) (n : Supply) (w : World) : Type 0 where
  pub there : Config
  pub comes : Comes code from (Standing why n there)
  pub same : there.memory ≡ picture w
  pub kept : BeginsWith s (shape w.store)

-- at most so many turns left, and a store of this shape
pub record Good (most : ℕ) (s : Value) (n : Supply) (w : World) : Type 0 where
  pub less : n.turns ≤ most
  pub fits : shape w.store ≡ s

-- from a point the machine comes to where a value leaves it, which is good and such a value, or to stand
abbrev pub Reaches : {A : Type 0} → Code → ℕ → Value → (A → Type 0) → Point → (A → Supply → World → Point) → Run A → Type 0
Reaches code most s keep from to (Goes a n w) = Good most s n w × keep a × Comes code from (to a n w)
Reaches code most s keep from to (Stands why n w) = Halts code s from why n w

abbrev pub AnyNumber : ℤ → Type 0
AnyNumber v = Unit {0}

abbrev pub AnyDone : Done → Type 0
AnyDone d = Unit {0}

abbrev pub SoMany : ℕ → List ℤ → Type 0
SoMany k vs = length vs ≡ k

-- ---- what the halves of the proof ask of each other

-- the code of each expression does what it means
abbrev pub ExprRuns : Code → Shapes → Running → Value → Names → Scope → Type 0
ExprRuns code shapes r s names scope = (e : TypedExpr) (h k pc : ℕ) (stack : List ℤ) (pending : List Name) (n : Supply) (most : ℕ) (w : World) → ExprFits names e → ExprAgrees shapes e → Good most s n w → HasAt (lines_in code r) pc (expr_code names h k e) → Reaches code most s AnyNumber (here r pc stack pending n w) (λ v n' w'. here r (pc + length (expr_code names h k e)) (v ∷ stack) pending n' w') (value_of scope e n w)

-- and of each statement without others in it
abbrev pub ActionRuns : Code → Shapes → Running → Value → Names → Scope → Type 0
ActionRuns code shapes r s names scope = (a : Action) (pc : ℕ) (n : Supply) (most : ℕ) (w : World) → ActionFits names a → ActionAgrees shapes a → Good most s n w → HasAt (lines_in code r) pc (action_code names a) → Reaches code most s AnyDone (here r pc [] [] n w) (λ d n' w'. here r (pc + length (action_code names a)) [] [] n' w') (action_meaning scope a n w)

-- and of a list of statements
abbrev pub ListRuns : Code → Shapes → Running → Value → Names → Scope → Type 0
ListRuns code shapes r s names scope = (xs : List TypedStatement) (pc : ℕ) (n : Supply) (most : ℕ) (w : World) → ListFits names xs → ListAgrees shapes xs → Good most s n w → HasAt (lines_in code r) pc (list_code names xs) → Reaches code most s AnyDone (here r pc [] [] n w) (λ d n' w'. here r (pc + length (list_code names xs)) [] [] n' w') (list_meaning scope xs n w)

-- a variable of basic type is at one place as long as the procedure runs, and is read and set there
pub record Holds (code : Code) (r : Running) (s : Value) (names : Names) (scope : Scope) (v : Variable) : Type 0 where
  pub place : Place
  pub stands : (w : World) → shape w.store ≡ s → variable_place scope v w.store ≡ place
  pub loads : (h k pc : ℕ) (stack : List ℤ) (pending : List Name) (n : Supply) (w : World) → shape w.store ≡ s → slice_get (lines_in code r) pc ≡ Some (line h k (Load (root_of names v))) → Comes code (here r pc stack pending n w) (here r (pc + 1) (number (get w.store place) ∷ stack) pending n w)
  pub stores : (h k pc : ℕ) (z : ℤ) (stack : List ℤ) (pending : List Name) (n : Supply) (w : World) → shape w.store ≡ s → slice_get (lines_in code r) pc ≡ Some (line h k (Store (root_of names v))) → Comes code (here r pc (z ∷ stack) pending n w) (here r (pc + 1) stack pending n (stored w place (Cell z)))
  pub keeps : (z : ℤ) (w : World) → shape w.store ≡ s → shape (stored w place (Cell z)).store ≡ s

abbrev pub VariablesHold : Code → Running → Value → Names → Scope → Type 0
VariablesHold code r s names scope = (v : Variable) → variable_object names v ≡ Some (Of Basic) → Holds code r s names scope v

-- ---- pieces one after the other

module _ (code : Code) where
  pub weaken : {A : Type 0} (m most : ℕ) (s : Value) (keep : A → Type 0) (from : Point) (to : A → Supply → World → Point) (r : Run A) → m ≤ most → Reaches code m s keep from to r → Reaches code most s keep from to r
  weaken m most s keep from to (Goes a n w) le h = let g = h.0 in (record { less = omega (arith, g.less); fits = g.fits }, h.1, h.2)
  weaken m most s keep from to (Stands why n w) le h = h

  -- a value of more than is asked
  pub keeps_less : {A : Type 0} (most : ℕ) (s : Value) (keep less : A → Type 0) (from : Point) (to : A → Supply → World → Point) (r : Run A) → ((a : A) → keep a → less a) → Reaches code most s keep from to r → Reaches code most s less from to r
  keeps_less most s keep less from to (Goes a n w) f h = (h.0, f a h.1, h.2)
  keeps_less most s keep less from to (Stands why n w) f h = h

  -- what follows a stretch
  pub follows : {A : Type 0} (most : ℕ) (s : Value) (keep : A → Type 0) (p q : Point) (to : A → Supply → World → Point) (r : Run A) → Comes code p q → Reaches code most s keep q to r → Reaches code most s keep p to r
  follows most s keep p q to (Goes a n w) c h = (h.0, h.1, goes_on code p q (to a n w) c h.2)
  follows most s keep p q to (Stands why n w) c h =
      record { there = h.there; comes = goes_on code p q (Standing why n h.there) c h.comes; same = h.same; kept = h.kept }

  -- one piece and then another
  pub binds : {A B : Type 0} (most : ℕ) (s s' : Value) (k : A → Type 0) (k' : B → Type 0) (from : Point) (mid : A → Supply → World → Point) (to : B → Supply → World → Point) (r : Run A) (f : A → Supply → World → Run B) → Reaches code most s k from mid r → ((t : Value) → BeginsWith s t → BeginsWith s' t) → ((a : A) (n : Supply) (w : World) → Good most s n w → k a → Reaches code most s' k' (mid a n w) to (f a n w)) → Reaches code most s' k' from to (and_then r f)
  binds most s s' k k' from mid to (Goes a n w) f h begins next = follows most s' k' from (mid a n w) to (f a n w) h.2 (next a n w h.0 h.1)
  binds most s s' k k' from mid to (Stands why n w) f h begins next = record { there = h.there; comes = h.comes; same = h.same; kept = begins (shape w.store) h.kept }

  -- where the store keeps its shape
  pub ties : {A B : Type 0} (most : ℕ) (s : Value) (k : A → Type 0) (k' : B → Type 0) (from : Point) (mid : A → Supply → World → Point) (to : B → Supply → World → Point) (r : Run A) (f : A → Supply → World → Run B) → Reaches code most s k from mid r → ((a : A) (n : Supply) (w : World) → Good most s n w → k a → Reaches code most s k' (mid a n w) to (f a n w)) → Reaches code most s k' from to (and_then r f)
  ties most s k k' from mid to r f h next = binds most s s k k' from mid to r f h (λ t x. x) next

  -- the end of a piece, and what the machine does there
  pub then_comes : {A : Type 0} (most : ℕ) (s : Value) (k : A → Type 0) (from : Point) (mid to : A → Supply → World → Point) (r : Run A) → Reaches code most s k from mid r → ((a : A) (n : Supply) (w : World) → Good most s n w → k a → Comes code (mid a n w) (to a n w)) → Reaches code most s k from to r
  then_comes most s k from mid to (Goes a n w) h next = (h.0, h.1, goes_on code from (mid a n w) (to a n w) h.2 (next a n w h.0 h.1))
  then_comes most s k from mid to (Stands why n w) h next = h

  -- the place of the end, under another name
  pub moved : {A : Type 0} (most : ℕ) (s : Value) (pc pc' : ℕ) (k : A → Type 0) (to : ℕ → A → Supply → World → Point) (from : Point) (r : Run A) → pc ≡ pc' → Reaches code most s k from (to pc) r → Reaches code most s k from (to pc') r
  moved most s pc pc' k to from r e h = subst (λ p. Reaches code most s k from (to p) r) e h

  -- ---- in a procedure

  module _ (r : Running) (s : Value) where
    -- a jump forward
    pub skips : (h k j pc : ℕ) (stack : List ℤ) (pending : List Name) (n : Supply) (w : World) → slice_get (lines_in code r) pc ≡ Some (line h k (Skip j)) → Comes code (here r pc stack pending n w) (here r (pc + 1 + j) stack pending n w)
    skips h k j pc stack pending n w has = performs code n (conf r pc stack pending w) (line h k (Skip j)) (here r (pc + 1 + j) stack pending n w) has refl

    -- a number decides
    pub skip_runs : {A : Type 0} (v : ℤ) (h k j pc : ℕ) (stack : List ℤ) (pending : List Name) (n : Supply) (most : ℕ) (w : World) (keep : A → Type 0) (to : A → Supply → World → Point) (a b : Run A) → slice_get (lines_in code r) pc ≡ Some (line h k (SkipIfZero j)) → Reaches code most s keep (here r (pc + 1 + j) stack pending n w) to a → Reaches code most s keep (here r (pc + 1) stack pending n w) to b → Reaches code most s keep (here r pc (v ∷ stack) pending n w) to (choose v a b)
    skip_runs (pos zero) h k j pc stack pending n most w keep to a b has ra rb = follows most s keep _ (here r (pc + 1 + j) stack pending n w) to a (performs code n (conf r pc (pos zero ∷ stack) pending w) (line h k (SkipIfZero j)) _ has refl) ra
    skip_runs (pos (suc v)) h k j pc stack pending n most w keep to a b has ra rb = follows most s keep _ (here r (pc + 1) stack pending n w) to b (performs code n (conf r pc (pos (suc v) ∷ stack) pending w) (line h k (SkipIfZero j)) _ has refl) rb
    skip_runs (negsuc v) h k j pc stack pending n most w keep to a b has ra rb = follows most s keep _ (here r (pc + 1) stack pending n w) to b (performs code n (conf r pc (negsuc v ∷ stack) pending w) (line h k (SkipIfZero j)) _ has refl) rb

    -- one piece, and an instruction at its end
    pub one_runs : {A B : Type 0} (keep : A → Type 0) (keep' : B → Type 0) (x : A → List ℤ) (names : A → List Name) (ca : List Line) (i : Line) (to : ℕ → B → Supply → World → Point) (ra : Run A) (f : A → Supply → World → Run B) (pc : ℕ) (from : Point) (most : ℕ) → HasAt (lines_in code r) pc (ca ++ i ∷ [])
        → Reaches code most s keep from (λ a n' w'. here r (pc + length ca) (x a) (names a) n' w') ra
        → ((a : A) (n1 : Supply) (w1 : World) → Good most s n1 w1 → keep a → slice_get (lines_in code r) (pc + length ca) ≡ Some i → Reaches code most s keep' (here r (pc + length ca) (x a) (names a) n1 w1) (to (pc + length ca + 1)) (f a n1 w1))
        → Reaches code most s keep' from (to (pc + length (ca ++ i ∷ []))) (and_then ra f)
    one_runs keep keep' x names ca i to ra f pc from most has h rf =
        let at_i = (has_back (lines_in code r) pc ca (i ∷ []) has).0 in
        let len : pc + length ca + 1 ≡ pc + length (ca ++ i ∷ []) = omega (arith, length-append ca (i ∷ [])) in
        moved most s _ _ keep' to from (and_then ra f) len
        (ties most s keep keep' from (λ a n' w'. here r (pc + length ca) (x a) (names a) n' w') (to (pc + length ca + 1)) ra f h
        (λ a n' w' g ka. rf a n' w' g ka at_i))

    -- two pieces that leave an operand each, and an instruction that takes both
    pub two_runs : {A B C : Type 0} (k : A → Type 0) (k' : B → Type 0) (k'' : C → Type 0) (x : A → ℤ) (y : B → ℤ) (ca cb : List Line) (i : Line) (to : ℕ → C → Supply → World → Point) (ra : Run A) (rb : A → Supply → World → Run B) (f : A → B → Supply → World → Run C) (pc : ℕ) (stack : List ℤ) (pending : List Name) (from : Point) (most : ℕ) → HasAt (lines_in code r) pc (ca ++ (cb ++ i ∷ []))
        → Reaches code most s k from (λ a n' w'. here r (pc + length ca) (x a ∷ stack) pending n' w') ra
        → ((a : A) (n1 : Supply) (w1 : World) → Good most s n1 w1 → k a → HasAt (lines_in code r) (pc + length ca) cb → Reaches code most s k' (here r (pc + length ca) (x a ∷ stack) pending n1 w1) (λ b n' w'. here r (pc + length ca + length cb) (y b ∷ (x a ∷ stack)) pending n' w') (rb a n1 w1))
        → ((a : A) (b : B) (n2 : Supply) (w2 : World) → Good most s n2 w2 → k a → k' b → slice_get (lines_in code r) (pc + length ca + length cb) ≡ Some i → Reaches code most s k'' (here r (pc + length ca + length cb) (y b ∷ (x a ∷ stack)) pending n2 w2) (to (pc + length ca + length cb + 1)) (f a b n2 w2))
        → Reaches code most s k'' from (to (pc + length (ca ++ (cb ++ i ∷ [])))) (and_then ra (λ a n1 w1. and_then (rb a n1 w1) (λ b n2 w2. f a b n2 w2)))
    two_runs k k' k'' x y ca cb i to ra rb f pc stack pending from most has h rc rf =
        let hb = has_back (lines_in code r) pc ca (cb ++ i ∷ []) has in
        let hi = has_back (lines_in code r) (pc + length ca) cb (i ∷ []) hb in
        let len : pc + length ca + length cb + 1 ≡ pc + length (ca ++ (cb ++ i ∷ [])) = omega (arith, length-append ca (cb ++ i ∷ []), length-append cb (i ∷ [])) in
        moved most s _ _ k'' to from _ len
        (ties most s k k'' from (λ a n1 w1. here r (pc + length ca) (x a ∷ stack) pending n1 w1) (to (pc + length ca + length cb + 1)) ra _ h
        (λ a n1 w1 g1 ka. ties most s k' k'' (here r (pc + length ca) (x a ∷ stack) pending n1 w1) (λ b n2 w2. here r (pc + length ca + length cb) (y b ∷ (x a ∷ stack)) pending n2 w2) (to (pc + length ca + length cb + 1)) (rb a n1 w1) _
        (rc a n1 w1 g1 ka (has_front (lines_in code r) (pc + length ca) cb (i ∷ []) hb))
        (λ b n2 w2 g2 kb. rf a b n2 w2 g2 ka kb hi.0)))
