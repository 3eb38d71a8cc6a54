-- To be believed.
-- What the rows of a board hold.
use Rattle.std.specs.Prelude.{◌≡◌, List, [], ◌∷◌, ◌++◌}
use Rattle.std.specs.Arc.{arc_value}
use Rattle.std.specs.declared.vec.Vec.{Vec}
use Rattle.std.specs.declared.alloc.Global.{Global}
use Rattle.jk_log.specs.declared.entry.Entry.{Entry}
use Rattle.jk_board.specs.declared.posted.Part.{Part}
use Rattle.jk_board.specs.declared.posted.Publication.{Publication}
use Rattle.jk_board.specs.declared.posted.Row.{Row}
use Rattle.jk_board.specs.Rows.{of_row, IsWholeRow}

abbrev pub published : Publication → List Entry
published p = (arc_value p.entries).items

abbrev pub of_newest : Row Publication → List Entry
of_newest = of_row published

abbrev pub of_older : Row (Row Publication) → List Entry
of_older = of_row of_newest

abbrev pub of_oldest : Row (Row (Row Publication)) → List Entry
of_oldest = of_row of_older

abbrev pub IsWholeNewest : Row Publication → Type 0
IsWholeNewest = IsWholeRow published (λ _. Unit {0})

abbrev pub IsWholeOlder : Row (Row Publication) → Type 0
IsWholeOlder = IsWholeRow of_newest IsWholeNewest

abbrev pub IsWholeOldest : Row (Row (Row Publication)) → Type 0
IsWholeOldest = IsWholeRow of_older IsWholeOlder

-- the numbers of each row are right
abbrev pub AreWhole : Row (Row (Row Publication)) → Row (Row Publication) → Row Publication → Type 0
AreWhole oldest older newest = IsWholeOldest oldest × IsWholeOlder older × IsWholeNewest newest

-- these entries are the last part of the row
abbrev pub RowEndsWith : Vec Entry Global → Row Publication → Type 0
RowEndsWith entries r = (before : List (Part Publication)) × (last : Part Publication) × ((arc_value r.parts).items ≡ before ++ last ∷ []) × (arc_value last.held.entries ≡ entries)
