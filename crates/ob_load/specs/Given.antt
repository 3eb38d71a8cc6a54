-- Lines that were given.
use Rattle.std.specs.Prelude.{[], ◌∷◌, ◌++◌, List, Option, Some, None, String, string_bytes}
use Rattle.std.specs.declared.alloc.Global.{Global}
use Rattle.ob_inout.specs.Reading.{Line}

abbrev pub line_of : Option (String Global) → Line
line_of None = None
line_of (Some text) = Some (string_bytes text)

-- one more, after those before it; where there are none before it, it is none itself
abbrev pub lines_with : Option (List Line) → Line → List Line
lines_with None line = []
lines_with (Some before) line = before ++ line ∷ []
