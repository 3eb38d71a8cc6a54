-- To be believed.
-- The module Out (after the Oakwood Guidelines): what each procedure writes, as bytes of UTF-8.
use Rattle.std.specs.Prelude.{ℕ, ◌-◌, min, ◌==◌, if◌then◌else◌, List, [], ◌∷◌, ◌++◌, length, replicate, encode_utf8, ℤ, pos, negsuc}
use Rattle.std.specs.Fmt.{signed_decimal}

-- the width of a number's field: 0 to 1,024 characters
abbrev pub field_width : ℤ → ℕ
field_width (pos width) = min width 1024
field_width (negsuc below) = 0

-- Out.Int(value, width): blanks up to the width, and then the number
unfoldable pub int_text : ℤ → ℤ → List ℕ
int_text value width = let number = signed_decimal value in
    replicate (field_width width - length number) 32 ++ number

-- Out.Char(ch): the character of that number
unfoldable pub char_text : ℕ → List ℕ
char_text ch = encode_utf8 ch

-- Out.String(s): the characters before the first 0X, or all of them
abbrev pub string_text : List ℕ → List ℕ
string_text [] = []
string_text (ch ∷ others) = if ch == 0 then [] else char_text ch ++ string_text others

-- Out.Ln: the end of a line
abbrev pub line_end : List ℕ
line_end = 10 ∷ []
