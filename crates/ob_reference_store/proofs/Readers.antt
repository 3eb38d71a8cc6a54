-- Readers, one line at a time.
use Rattle.std.proofs.Common.{◌≡◌, ℕ, zero, suc, ◌+◌, ◌<◌, arith, length, List, [], ◌∷◌, map, drop, slice_get, add-one, true, false, Option, Some, None, refl, sym, ap, ◌∙◌}
use Rattle.ob_inout.specs.declared.answer.Answer.{Answer}
use Rattle.ob_inout.specs.declared.answer.Answer.TheVariants as answers
use Rattle.ob_inout.specs.Reading.{Line, Input, Reading, given}
use Rattle.ob_mean.specs.declared.outcome.Outcome.TheVariants.{Stopped, NeedsLine}
use Rattle.ob_mean.specs.declared.outcome.TurnKind.TheVariants.{LineAsked}
use Rattle.ob_mean.specs.Values.{Value, count, row}
use Rattle.ob_mean.specs.Runs.{World, Run, Goes, Stands, supply, spend, with_input}
use Rattle.ob_mean.specs.Input.{reading, answered}
use Rattle.ob_reference_store.specs.declared.state.State.{State}
use Rattle.ob_reference_store.specs.declared.value.Value as declared
use Rattle.ob_reference_store.specs.Kept.{value_in}
use Rattle.ob_reference_store.specs.Reads.{Finds, GivesLine}
use Rattle.ob_reference_store.specs.States.{supply_in, world_in}

-- a reader that finds what it needs doesn't ask
pub reading_found : (find : Input → Reading Value) (turns : ℕ) (lines : List Line) (w : World) (v : Value) → (find w.input).answer ≡ answers.Value v → reading find turns lines w ≡ Goes (Some v) (supply turns lines) (with_input w (find w.input).input)
reading_found find turns [] w v e = ap (λ a. answered a (with_input w (find w.input).input) (supply turns []) (λ w1. spend turns [] LineAsked w1 (λ n. Stands NeedsLine n w1))) e
reading_found find turns (line ∷ lines) w v e = ap (λ a. answered a (with_input w (find w.input).input) (supply turns (line ∷ lines)) (λ w1. spend turns (line ∷ lines) LineAsked w1 (λ n. reading find n.turns lines (with_input w1 (given line w1.input))))) e

pub reading_failed : (find : Input → Reading Value) (turns : ℕ) (lines : List Line) (w : World) → (find w.input).answer ≡ answers.Failed → reading find turns lines w ≡ Goes None (supply turns lines) (with_input w (find w.input).input)
reading_failed find turns [] w e = ap (λ a. answered a (with_input w (find w.input).input) (supply turns []) (λ w1. spend turns [] LineAsked w1 (λ n. Stands NeedsLine n w1))) e
reading_failed find turns (line ∷ lines) w e = ap (λ a. answered a (with_input w (find w.input).input) (supply turns (line ∷ lines)) (λ w1. spend turns (line ∷ lines) LineAsked w1 (λ n. reading find n.turns lines (with_input w1 (given line w1.input))))) e

-- it asks, which is a turn
pub reading_waits : (find : Input → Reading Value) (lines : List Line) (w : World) → (find w.input).answer ≡ answers.NeedsLine → reading find 0 lines w ≡ Stands (Stopped LineAsked) (supply 0 lines) (with_input w (find w.input).input)
reading_waits find [] w e = ap (λ a. answered a (with_input w (find w.input).input) (supply 0 []) (λ w1. spend 0 [] LineAsked w1 (λ n. Stands NeedsLine n w1))) e
reading_waits find (line ∷ lines) w e = ap (λ a. answered a (with_input w (find w.input).input) (supply 0 (line ∷ lines)) (λ w1. spend 0 (line ∷ lines) LineAsked w1 (λ n. reading find n.turns lines (with_input w1 (given line w1.input))))) e

pub reading_asks : (find : Input → Reading Value) (turns : ℕ) (w : World) → (find w.input).answer ≡ answers.NeedsLine → reading find (suc turns) [] w ≡ Stands NeedsLine (supply turns []) (with_input w (find w.input).input)
reading_asks find turns w e = ap (λ a. answered a (with_input w (find w.input).input) (supply (suc turns) []) (λ w1. spend (suc turns) [] LineAsked w1 (λ n. Stands NeedsLine n w1))) e

pub reading_again : (find : Input → Reading Value) (turns : ℕ) (line : Line) (lines : List Line) (w : World) → (find w.input).answer ≡ answers.NeedsLine → reading find (suc turns) (line ∷ lines) w ≡ reading find turns lines (with_input w (given line (find w.input).input))
reading_again find turns line lines w e = ap (λ a. answered a (with_input w (find w.input).input) (supply (suc turns) (line ∷ lines)) (λ w1. spend (suc turns) (line ∷ lines) LineAsked w1 (λ n. reading find n.turns lines (with_input w1 (given line w1.input))))) e

next_suc : {A B : Type 0} (f : A → B) (xs : List A) (i : ℕ) (x : A) → slice_get xs i ≡ Some x → map f (drop i xs) ≡ f x ∷ map f (drop (suc i) xs)
next_suc f [] i x e = cc
next_suc f (y ∷ ys) zero x e = cc
next_suc f (y ∷ ys) (suc i) x e = next_suc f ys i x e

-- one item and the others
pub next_item : {A B : Type 0} (f : A → B) (xs : List A) (i : ℕ) (x : A) → slice_get xs i ≡ Some x → map f (drop i xs) ≡ f x ∷ map f (drop (i + 1) xs)
next_item f xs i x e = rw add-one (next_suc f xs i x e)

pub no_item : {A B : Type 0} (f : A → B) (xs : List A) (i : ℕ) → slice_get xs i ≡ None → map f (drop i xs) ≡ []
no_item f [] zero e = refl
no_item f [] (suc i) e = refl
no_item f (y ∷ ys) zero e = cc
no_item f (y ∷ ys) (suc i) e = no_item f ys i e

-- ---- from one state of the code to the next

-- the run of a reader from this state
abbrev pub read_from : (Input → Reading Value) → State → Run (Option Value)
read_from find s = reading find (supply_in s).turns (supply_in s).lines (world_in s)

pub found_read : (find : Input → Reading Value) (s0 s1 : State) (v : declared.Value) → Finds find (answers.Value v) s0 s1 → read_from find s0 ≡ Goes (Some (value_in v)) (supply_in s1) (world_in s1)
found_read find s0 s1 v h =
    reading_found find (supply_in s0).turns (supply_in s0).lines (world_in s0) (value_in v) h.answer
    ∙ ap (λ n. Goes (Some (value_in v)) n (with_input (world_in s0) (find s0.input.input).input)) (sym h.supply)
    ∙ ap (λ w. Goes (Some (value_in v)) (supply_in s1) w) (sym h.world)

pub failed_read : (find : Input → Reading Value) (s0 s1 : State) → Finds find answers.Failed s0 s1 → read_from find s0 ≡ Goes None (supply_in s1) (world_in s1)
failed_read find s0 s1 h =
    reading_failed find (supply_in s0).turns (supply_in s0).lines (world_in s0) h.answer
    ∙ ap (λ n. Goes None n (with_input (world_in s0) (find s0.input.input).input)) (sym h.supply)
    ∙ ap (λ w. Goes None (supply_in s1) w) (sym h.world)

-- there is no turn to ask in
pub waits_read : (find : Input → Reading Value) (s0 s1 : State) → Finds find answers.NeedsLine s0 s1 → s1.turns ≡ 0 → read_from find s0 ≡ Stands (Stopped LineAsked) (supply_in s1) (world_in s1)
waits_read find s0 s1 h e =
    ap (λ n. reading find n.turns n.lines (world_in s0)) (sym h.supply)
    ∙ ap (λ t. reading find t (supply_in s1).lines (world_in s0)) e
    ∙ reading_waits find (supply_in s1).lines (world_in s0) h.answer
    ∙ ap (λ t. Stands (Stopped LineAsked) (supply t (supply_in s1).lines) (with_input (world_in s0) (find s0.input.input).input)) (sym e)
    ∙ ap (λ w. Stands (Stopped LineAsked) (supply_in s1) w) (sym h.world)

-- the turn was taken
asked : (find : Input → Reading Value) (s0 s1 s2 : State) → Finds find answers.NeedsLine s0 s1 → s1.turns ≡ suc s2.turns → s2 ≡ record s1 { turns = s2.turns } → read_from find s0 ≡ reading find (suc s2.turns) (supply_in s2).lines (world_in s0)
asked find s0 s1 s2 h e same =
    ap (λ n. reading find n.turns n.lines (world_in s0)) (sym h.supply)
    ∙ ap (λ t. reading find t (supply_in s1).lines (world_in s0)) e
    ∙ ap (λ s. reading find (suc s2.turns) (supply_in s).lines (world_in s0)) (sym same)

asked_world : (find : Input → Reading Value) (s0 s1 s2 : State) → Finds find answers.NeedsLine s0 s1 → s2 ≡ record s1 { turns = s2.turns } → world_in s2 ≡ with_input (world_in s0) (find s0.input.input).input
asked_world find s0 s1 s2 h same = ap world_in same ∙ h.world

pub unread : (find : Input → Reading Value) (s0 s1 s2 s3 : State) → Finds find answers.NeedsLine s0 s1 → s1.turns ≡ suc s2.turns → s2 ≡ record s1 { turns = s2.turns } → GivesLine false s2 s3 → read_from find s0 ≡ Stands NeedsLine (supply_in s3) (world_in s3)
unread find s0 s1 s2 s3 h e same g =
    asked find s0 s1 s2 h e same
    ∙ ap (λ l. reading find (suc s2.turns) l (world_in s0)) g.0
    ∙ reading_asks find s2.turns (world_in s0) h.answer
    ∙ ap (λ l. Stands NeedsLine (supply s2.turns l) (with_input (world_in s0) (find s0.input.input).input)) (sym g.0)
    ∙ ap (λ w. Stands NeedsLine (supply_in s2) w) (sym (asked_world find s0 s1 s2 h same))
    ∙ ap (λ s. Stands NeedsLine (supply_in s) (world_in s)) (sym g.1)

pub read_on : (find : Input → Reading Value) (s0 s1 s2 s3 : State) → Finds find answers.NeedsLine s0 s1 → s1.turns ≡ suc s2.turns → s2 ≡ record s1 { turns = s2.turns } → GivesLine true s2 s3 → read_from find s0 ≡ read_from find s3
read_on find s0 s1 s2 s3 h e same g =
    asked find s0 s1 s2 h e same
    ∙ ap (λ l. reading find (suc s2.turns) l (world_in s0)) g.1
    ∙ reading_again find s2.turns g.0 (supply_in s3).lines (world_in s0) h.answer
    ∙ ap (λ w. reading find s2.turns (supply_in s3).lines (with_input w (given g.0 w.input))) (sym (asked_world find s0 s1 s2 h same))
    ∙ ap (λ w. reading find s2.turns (supply_in s3).lines w) (sym g.3)
    ∙ ap (λ t. reading find t (supply_in s3).lines (world_in s3)) (sym g.2)

-- and a line is used up
pub fewer_lines : (find : Input → Reading Value) (a : Answer declared.Value) (s0 s1 s2 s3 : State) → Finds find a s0 s1 → s2 ≡ record s1 { turns = s2.turns } → GivesLine true s2 s3 → length (supply_in s3).lines < length (supply_in s0).lines
fewer_lines find a s0 s1 s2 s3 h same g =
    let e : length (supply_in s0).lines ≡ length (g.0 ∷ (supply_in s3).lines) =
    ap (λ n. length n.lines) (sym h.supply) ∙ ap (λ s. length (supply_in s).lines) (sym same) ∙ ap length g.1 in
    omega (arith, e)

pub count_row : (n : ℕ) (v : Value) → count (row n v) ≡ n
count_row zero v = refl
count_row (suc n) v = ap suc (count_row n v)
