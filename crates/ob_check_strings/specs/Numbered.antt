-- Which number each string has, and what of it is hashed.
use Rattle.std.specs.Prelude.{◌≡◌, ℕ, ◌-◌, ◌&&◌, ◌==◌, List, length, min, take, drop}
use Rattle.std.specs.Str.{bytes_eq}
use Rattle.std.specs.declared.hash.FoldHasher.{FoldHasher}
use Rattle.std.specs.declared.hash.BuildHasherDefault.{BuildHasherDefault}
use Rattle.std.specs.HashMap.{get_by, HashMap}
use Rattle.ob_check_strings.specs.declared.variables.Written.{Written}
use Rattle.ob_check_strings.specs.Strings.{Variables, string_at}

abbrev pub AreNumbers : HashMap Written ℕ (BuildHasherDefault FoldHasher) → Variables → Type 0
AreNumbers numbers vs =
    (q : Written) → get_by (λ w. bytes_eq q.characters w.characters && (q.elements == w.elements)) numbers ≡ string_at vs q.characters q.elements

-- so many characters at each end of a string are hashed
abbrev pub hashed : List ℕ → ℕ
hashed characters = min (length characters) 64

abbrev pub first_of : List ℕ → List ℕ
first_of characters = take (hashed characters) characters

abbrev pub last_of : List ℕ → List ℕ
last_of characters = drop (length characters - hashed characters) characters
