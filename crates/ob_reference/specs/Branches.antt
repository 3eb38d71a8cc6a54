-- Branches and arms, one by one.
use Rattle.std.specs.Prelude.{◌≡◌, ℤ, cond, List, [], ◌∷◌, Option, Some, None}
use Rattle.ob_mean.specs.declared.statement.Branch.{Branch}
use Rattle.ob_mean.specs.declared.statement.CaseArm.{CaseArm}
use Rattle.ob_mean.specs.declared.statement.ForHead.{ForHead}
use Rattle.ob_mean.specs.declared.statement.TypedStatement.{TypedStatement}
use Rattle.ob_mean.specs.Values.{Place}
use Rattle.ob_mean.specs.Runs.{World, Supply, Stands, Done, Piece}
use Rattle.ob_mean.specs.Expressions.{Scope, value_of}
use Rattle.ob_mean.specs.Control.{Guarded, Arm, first_of, is_labelled}
use Rattle.ob_mean.specs.Statements.{for_guard, for_body, list_meaning}
use Rattle.ob_reference_store.specs.declared.state.State.{State}
use Rattle.ob_reference_store.specs.declared.stop.Stop.{Stop}
use Rattle.ob_reference_store.specs.declared.stop.Stop.TheVariants as stop
use Rattle.ob_reference_store.specs.States.{supply_in, world_in}

abbrev pub branch_pieces : Scope → List Branch → List Guarded
branch_pieces scope [] = []
branch_pieces scope (b ∷ bs) = record { guard = value_of scope b.guard; body = list_meaning scope b.body } ∷ branch_pieces scope bs

abbrev pub arm_pieces : Scope → List CaseArm → List Arm
arm_pieces scope [] = []
arm_pieces scope (a ∷ rest) = record { labels = a.labels; body = list_meaning scope a.body } ∷ arm_pieces scope rest

-- the statements of the first arm with this label
abbrev pub found_arm : List CaseArm → ℤ → Option (List TypedStatement)
found_arm [] v = None
found_arm (a ∷ rest) v = cond (is_labelled a.labels v) (Some a.body) (found_arm rest v)

-- the first branch whose guard holds has this body, and the state is this one then
abbrev pub EntersFirst : Scope → List Branch → Supply → World → List TypedStatement → State → Type 0
EntersFirst scope bs n w body s =
    (enter : Piece Done → Piece Done) (otherwise : Piece Done) → first_of (branch_pieces scope bs) enter otherwise n w ≡ enter (list_meaning scope body) (supply_in s) (world_in s)

-- no guard holds
abbrev pub PassesAll : Scope → List Branch → Supply → World → State → Type 0
PassesAll scope bs n w s =
    (enter : Piece Done → Piece Done) (otherwise : Piece Done) → first_of (branch_pieces scope bs) enter otherwise n w ≡ otherwise (supply_in s) (world_in s)

-- a guard gives no value
abbrev pub BranchStops : Scope → List Branch → Supply → World → Stop → State → Type 0
BranchStops scope bs n w (stop.Stands why) s =
    (enter : Piece Done → Piece Done) (otherwise : Piece Done) → first_of (branch_pieces scope bs) enter otherwise n w ≡ Stands why (supply_in s) (world_in s)
BranchStops scope bs n w stop.Unanswered s = Unit {0}

-- FOR as a loop with one guard
abbrev pub for_pieces : Scope → ForHead → Place → List TypedStatement → List Guarded
for_pieces scope head p body = record { guard = for_guard scope head p; body = for_body head p (list_meaning scope body) } ∷ []
