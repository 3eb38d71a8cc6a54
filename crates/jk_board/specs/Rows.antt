-- To be believed.
-- Rows of what holds entries, each part with the number of the entries before it.
use Rattle.std.specs.Prelude.{◌≡◌, ℕ, ◌<◌, List, take, length, get_or}
use Rattle.std.specs.List.{flat_map}
use Rattle.std.specs.Arc.{arc_value}
use Rattle.jk_log.specs.declared.entry.Entry.{Entry}
use Rattle.jk_board.specs.declared.posted.Part.{Part}
use Rattle.jk_board.specs.declared.posted.Row.{Row}

-- what parts hold in order, where each holds these entries
abbrev pub flat : {T : Type 0} → (T → List Entry) → List (Part T) → List Entry
flat entries = flat_map (λ p. entries p.held)

-- each part is whole, and has the number of the entries before it
abbrev pub AreNumbered : {T : Type 0} → (T → List Entry) → (T → Type 0) → List (Part T) → Type 0
AreNumbered {T = T} entries IsWhole ps =
    (i : ℕ) (p : Part T) → i < length ps → p ≡ get_or ps i p → (p.before ≡ length (flat entries (take i ps))) × IsWhole p.held

abbrev pub of_row : {T : Type 0} → (T → List Entry) → Row T → List Entry
of_row entries r = flat entries (arc_value r.parts).items

-- the numbers of a row and of its parts are right
abbrev pub IsWholeRow : {T : Type 0} → (T → List Entry) → (T → Type 0) → Row T → Type 0
IsWholeRow entries IsWhole r = AreNumbered entries IsWhole (arc_value r.parts).items × (r.count ≡ length (of_row entries r))
