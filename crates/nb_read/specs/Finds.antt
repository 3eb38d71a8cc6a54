-- What a function found is what a form gives. Where it found nothing, nothing is said.
use Rattle.std.specs.Prelude.{◌≡◌, Option, Some, Result, Ok, Err}
use Rattle.nb_read.specs.declared.unread.Unread.{Unread}

abbrev pub Finds : {X : Type 0} → Result X Unread → Option X → Type 0
Finds (Ok x) form = form ≡ Some x
Finds (Err e) form = Unit {0}

-- the same, where what was found is seen by view
abbrev pub FindsBy : {X Y : Type 0} → (X → Y) → Result X Unread → Option Y → Type 0
FindsBy view (Ok x) form = form ≡ Some (view x)
FindsBy view (Err e) form = Unit {0}
