-- To be believed.
-- Dates in answers (RFC 3339).
use Rattle.std.specs.Prelude.{◌≡◌, ℕ, ◌*◌, pos, List, ◌++◌, false, Some}
use Rattle.jiff_core.specs.declared.civil.datetime.DateTime.{DateTime}
use Rattle.jiff_core.specs.DateTime.{civil_nanos}
use Rattle.jiff_fmt.specs.Text.{datetime_text, zulu_text}

-- what a clock at UTC shows that many microseconds after 1970 began: date, `T`, time with six places of a second, `Z`
abbrev pub IsDate : ℕ → List ℕ → Type 0
IsDate moment text =
    (shown : DateTime) × (civil_nanos shown ≡ pos (moment * 1000))
    × (text ≡ datetime_text false 84 (Some 6) shown ++ zulu_text false)
