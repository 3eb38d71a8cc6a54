-- To be believed.
-- What a driver has in hand.
use Rattle.std.specs.Prelude.{List, [], ◌∷◌, Option, None, Some}
use Rattle.std.specs.declared.vec.Vec.{Vec}
use Rattle.std.specs.declared.alloc.Global.{Global}
use Rattle.jk_log.specs.declared.entry.Entry.{Entry}

abbrev pub hand : {A : Type 0} → Option A → List A
hand None = []
hand (Some x) = x ∷ []

abbrev pub hand_entries : Option (Vec Entry Global) → List Entry
hand_entries None = []
hand_entries (Some entries) = entries.items
