-- The characters that stand together, by the code's names for them.
use Rattle.std.specs.Prelude.{ℕ, Bool}
use Rattle.std.specs.Char.{is_ascii_digit}
use Rattle.ob_inout.specs.declared.front.Run.{Run}
use Rattle.ob_inout.specs.declared.front.Run.TheVariants as runs
use Rattle.ob_inout.specs.Reading.{is_blank, is_quoted, is_visible}

abbrev pub has : Run → ℕ → Bool
has runs.Blanks = is_blank
has runs.Digits = is_ascii_digit
has runs.Quoted = is_quoted
has runs.Visible = is_visible
