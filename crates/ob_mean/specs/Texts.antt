-- To be believed.
-- Strings and arrays of CHAR (Wirth, The Programming Language Oberon, Oberon-07). A character is its number.
use Rattle.std.specs.Prelude.{ℕ, zero, suc, ℤ, pos, negsuc, Bool, true, false, ◌==◌, ◌&&◌, ◌||◌, nat_lt, if◌then◌else◌, List, [], ◌∷◌}
use Rattle.ob_mean.specs.Values.{Value, Cell, Named, Open, Nothing, Beside, number}

-- the character of a number
abbrev pub natural : ℤ → ℕ
natural (pos n) = n
natural (negsuc n) = 0

-- the character that a cell holds: of a number from 0 to 255 that one, and 0X of any other, which no CHAR holds
abbrev pub character : ℤ → ℕ
character (pos n) = if nat_lt n 256 then n else 0
character (negsuc n) = 0

-- the characters of an array, to its end
abbrev pub characters : Value → List ℕ
characters (Cell z) = []
characters (Named p t) = []
characters (Open p k) = []
characters Nothing = []
characters (Beside v rest) = character (number v) ∷ characters rest

-- those before the first 0X, or all of them
abbrev pub before_zero : List ℕ → List ℕ
before_zero [] = []
before_zero (c ∷ cs) = if c == 0 then [] else c ∷ before_zero cs

-- the text that stands in an array
abbrev pub text_of : Value → List ℕ
text_of v = before_zero (characters v)

-- an array of so many elements with these characters at its front, and 0X after them
abbrev pub text_row : ℕ → List ℕ → Value
text_row zero cs = Nothing
text_row (suc n) [] = Beside (Cell (pos 0)) (text_row n [])
text_row (suc n) (c ∷ cs) = Beside (Cell (pos c)) (text_row n cs)

-- the order of texts is that of the first characters that differ
abbrev pub is_before : List ℕ → List ℕ → Bool
is_before [] [] = false
is_before [] (d ∷ ds) = true
is_before (c ∷ cs) [] = false
is_before (c ∷ cs) (d ∷ ds) = nat_lt c d || ((c == d) && is_before cs ds)
