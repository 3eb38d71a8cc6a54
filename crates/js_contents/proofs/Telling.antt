-- What a shelf tells over calls of which the first only read.
use Rattle.std.proofs.Common.{◌≡◌, Option, Some, None}
use Rattle.js_shelf.specs.Shelves.{Contents, Same, Tells}

-- what holds over both, where the shelf tells
pub tells_then : (c d e : Option Contents) (P Q R : Contents → Contents → Type 0) → Tells c d P → Tells d e Q → ((m k n : Contents) → P m k → Q k n → R m n) → Tells c e R
tells_then None d e P Q R h j f = tt
tells_then (Some m) None e P Q R h j f = absurd h
tells_then (Some m) (Some k) None P Q R h j f = absurd j
tells_then (Some m) (Some k) (Some n) P Q R h j f = f m k n h j

pub tells_weaker : (c d : Option Contents) (P Q : Contents → Contents → Type 0) → ((m n : Contents) → P m n → Q m n) → Tells c d P → Tells c d Q
tells_weaker None d P Q f h = tt
tells_weaker (Some m) None P Q f h = h
tells_weaker (Some m) (Some n) P Q f h = f m n h

pub tells_same : (c : Option Contents) (Q : Contents → Contents → Type 0) → ((m : Contents) → Q m m) → Tells c c Q
tells_same None Q f = tt
tells_same (Some m) Q f = f m

-- contents that agree everywhere are equal
pub same_is : (m n : Contents) → Same m n → n ≡ m
same_is m n h = λ i path. h path i
