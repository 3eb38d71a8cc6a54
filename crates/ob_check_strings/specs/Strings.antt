-- To be believed.
-- The variables of a module: the declared ones, and after them the strings that it passes and compares, each once.
use Rattle.std.specs.Prelude.{ℕ, suc, ◌==◌, Bool, false, ◌&&◌, List, [], ◌∷◌, ◌++◌, length, Option, Some, None, option_map, if◌then◌else◌}
use Rattle.std.specs.Str.{bytes_eq}
use Rattle.ob_mean.specs.declared.module.ModuleVariable.{ModuleVariable}
use Rattle.ob_mean.specs.declared.module.ModuleVariable.TheVariants as variable

abbrev pub Variables : Type 0
Variables = List ModuleVariable

-- whether a variable is this string, in so many elements
abbrev pub is_string : ModuleVariable → List ℕ → ℕ → Bool
is_string (variable.Declared shape) t n = false
is_string (variable.Text characters elements) t n = bytes_eq characters t && (elements == n)

-- the number of the variable that is this string, if there is one
abbrev pub string_at : Variables → List ℕ → ℕ → Option ℕ
string_at [] t n = None
string_at (v ∷ vs) t n = if is_string v t n then Some 0 else option_map suc (string_at vs t n)

abbrev pub number_or : Option ℕ → ℕ → ℕ
number_or (Some i) next = i
number_or None next = next

-- the number of the variable that stands for it: of that one, or of one more
abbrev pub string_number : Variables → List ℕ → ℕ → ℕ
string_number vs t n = number_or (string_at vs t n) (length vs)

abbrev pub with_more : Option ℕ → Variables → ModuleVariable → Variables
with_more (Some i) vs v = vs
with_more None vs v = vs ++ v ∷ []

-- and the variables then
abbrev pub with_string : Variables → List ℕ → ℕ → Variables
with_string vs t n = with_more (string_at vs t n) vs (variable.Text t n)
