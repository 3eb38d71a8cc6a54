-- To be believed.
-- Sequences, choices and loops of pieces (Wirth, The Programming Language Oberon, Oberon-07). An entry of a loop's body is
-- a turn.
use Rattle.std.specs.Prelude.{ℕ, zero, suc, ℤ, ◌&&◌, int_le, cond, List, [], ◌∷◌, Bool, true, false, Option, Some, None}
use Rattle.ob_mean.specs.declared.outcome.Outcome.TheVariants.{Stopped}
use Rattle.ob_mean.specs.declared.outcome.TurnKind.TheVariants.{BodyEntry}
use Rattle.ob_mean.specs.declared.statement.LabelRange.{LabelRange}
use Rattle.ob_mean.specs.Runs.{Goes, Stands, Done, done, Piece, and_then, supply, turn, choose}

-- one after the other
abbrev pub in_order : List (Piece Done) → Piece Done
in_order [] n w = Goes done n w
in_order (s ∷ rest) n w = and_then (s n w) (λ _ n1 w1. in_order rest n1 w1)

-- statements under a guard
pub record Guarded : Type 0 where
  pub guard : Piece ℤ
  pub body : Piece Done

-- the first whose guard holds, entered so; and otherwise this
abbrev pub first_of : List Guarded → (Piece Done → Piece Done) → Piece Done → Piece Done
first_of [] enter otherwise n w = otherwise n w
first_of (b ∷ bs) enter otherwise n w =
    and_then (b.guard n w) (λ v n1 w1. choose v (first_of bs enter otherwise n1 w1) (enter b.body n1 w1))

-- IF: the body of the first whose guard holds, else what stands after ELSE
abbrev pub chosen : List Guarded → Piece Done → Piece Done
chosen bs rest = first_of bs (λ body. body) rest

abbrev pub nothing : Piece Done
nothing n w = Goes done n w

-- WHILE: as long as a guard holds, the body of the first. It enters a body at most as often as turns were left when it began.
abbrev pub looping : List Guarded → ℕ → Piece Done
looping bs zero = first_of bs (λ body n w. Stands (Stopped BodyEntry) (supply 0 n.lines) w) nothing
looping bs (suc most) = first_of bs (λ body n w. turn BodyEntry n w (λ n1. and_then (body n1 w) (λ _ n2 w2. looping bs most n2 w2))) nothing

-- REPEAT: the body, and again until this holds
abbrev pub repeating : Piece Done → Piece ℤ → ℕ → Piece Done
repeating body until zero n w = Stands (Stopped BodyEntry) (supply 0 n.lines) w
repeating body until (suc most) n w =
    turn BodyEntry n w (λ n1. and_then (body n1 w) (λ _ n2 w2. and_then (until n2 w2) (λ v n3 w3.
    choose v (repeating body until most n3 w3) (Goes done n3 w3))))

-- ---- CASE

-- statements under labels
pub record Arm : Type 0 where
  pub labels : List LabelRange
  pub body : Piece Done

abbrev pub is_labelled : List LabelRange → ℤ → Bool
is_labelled [] v = false
is_labelled (r ∷ rs) v = cond (int_le r.first v && int_le v r.last) true (is_labelled rs v)

-- the first arm with this label
abbrev pub arm_for : List Arm → ℤ → Option (Piece Done)
arm_for [] v = None
arm_for (a ∷ rest) v = cond (is_labelled a.labels v) (Some a.body) (arm_for rest v)
