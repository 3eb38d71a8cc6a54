-- To be believed.
-- The labels of CASE (Wirth, The Programming Language Oberon, Oberon-07): constants, numbers where a number is looked up and
-- characters where a character is. No label stands twice, and no range is empty.
use Rattle.std.specs.Prelude.{ℕ, ℤ, pos, int_le, int_lt, List, [], ◌∷◌, ◌++◌, Bool, true, false, ◌&&◌, ◌||◌, Option, Some, None}
use Rattle.ob_check_scope.specs.declared.rule.RuleCode.TheVariants as code
use Rattle.ob_tree.specs.declared.tree.Ident.{Ident}
use Rattle.ob_tree.specs.declared.tree.Label.{Label}
use Rattle.ob_tree.specs.declared.tree.Label.TheVariants as label
use Rattle.ob_tree.specs.declared.tree.LabelRange.{LabelRange}
use Rattle.ob_tree.specs.declared.tree.Qualident.{Qualident}
use Rattle.ob_types.specs.declared.exports.Constant.{Constant}
use Rattle.ob_types.specs.declared.exports.Constant.TheVariants as constant
use Rattle.ob_types.specs.declared.exports.Object.{Object}
use Rattle.ob_types.specs.declared.exports.Object.TheVariants as object
use Rattle.ob_types.specs.declared.structure.Basic.{Basic}
use Rattle.ob_types.specs.declared.structure.Basic.TheVariants as basic
use Rattle.ob_mean.specs.declared.statement.LabelRange.{LabelRange as TypedRange}
use Rattle.ob_check_scope.specs.declared.block.Entry.{Entry}
use Rattle.ob_check_scope.specs.declared.block.Entry.TheVariants as entry
use Rattle.ob_check_scope.specs.declared.predeclared.InputName.{InputName}
use Rattle.ob_check_scope.specs.declared.predeclared.InputName.TheVariants as input
use Rattle.ob_check_scope.specs.declared.predeclared.OutputName.{OutputName}
use Rattle.ob_check_scope.specs.declared.predeclared.OutputName.TheVariants as output
use Rattle.ob_check_scope.specs.declared.predeclared.Predeclared.{Predeclared}
use Rattle.ob_check_scope.specs.Imports.{Modules, exported_at}
use Rattle.ob_check_scope.specs.Predeclared.{absent, input_named, output_named}
use Rattle.ob_check_scope.specs.Rule.{Rule, Given, Breaks, Then, Needs, there}
use Rattle.ob_check_scope.specs.declared.scope.Scope.{Scope}
use Rattle.ob_check_scope.specs.Scope.{seen, outer}

-- ---- constants by their names

unfoldable pub own_constant : Option Entry → Predeclared → Rule Constant
own_constant (Some (entry.Constant c)) before = Given c
own_constant (Some (entry.Variable t standing)) before = Breaks code.NotConstant
own_constant (Some e) before = Breaks code.Types
own_constant None before = Breaks (absent before)

unfoldable pub object_constant : Object → Rule Constant
object_constant (object.Constant c) = Given c
object_constant (object.Variable t) = Breaks code.NotConstant
object_constant o = Breaks code.Types

-- In and Out export no constant
unfoldable pub input_constant : InputName → Rule Constant
input_constant input.Unknown = Breaks code.NotExported
input_constant input.Done = Breaks code.NotConstant
input_constant _ = Breaks code.Types

unfoldable pub output_constant : OutputName → Rule Constant
output_constant output.Unknown = Breaks code.NotExported
output_constant _ = Breaks code.Types

unfoldable pub other_constant : Modules → Option Entry → Predeclared → List ℕ → Rule Constant
other_constant ms (Some (entry.Module import place)) before name = Then (there (exported_at ms place name) code.NotExported) (λ o. object_constant o)
other_constant ms (Some entry.In) before name = input_constant (input_named name)
other_constant ms (Some entry.Out) before name = output_constant (output_named name)
other_constant ms (Some (entry.Variable t standing)) before name = Breaks code.NotConstant
other_constant ms (Some e) before name = Breaks code.Types
other_constant ms None before name = Breaks (absent before)

abbrev pub qualified_constant : Modules → Scope → Ident → Option Ident → Rule Constant
qualified_constant ms s first None = own_constant (seen s first.name) (outer s first.name)
qualified_constant ms s first (Some second) = other_constant ms (seen s first.name) (outer s first.name) second.name

unfoldable pub constant_named : Modules → Scope → Qualident → Rule Constant
constant_named ms s q = qualified_constant ms s q.first q.second

-- ---- labels

-- what is looked up: a character, or a number
abbrev pub is_character : Basic → Option Bool
is_character basic.Integer = Some false
is_character basic.Byte = Some false
is_character basic.Char = Some true
is_character basic.Boolean = None

unfoldable pub label_constant : Modules → Scope → Label → Rule Constant
label_constant ms s (label.Integer z span) = Given (constant.Integer z)
label_constant ms s (label.Text chars span) = Given (constant.Text chars)
label_constant ms s (label.Name q) = constant_named ms s q

-- the number of the only character
abbrev pub single : List ℕ → Option ℤ
single (c ∷ []) = Some (pos c)
single chars = None

abbrev pub character_label : Constant → Option ℤ
character_label (constant.Char c) = Some (pos c)
character_label (constant.Text chars) = single chars
character_label c = None

abbrev pub number_label : Constant → Option ℤ
number_label (constant.Integer z) = Some z
number_label c = None

-- the number of a label, if it is of the kind that is looked up
abbrev pub number_of_label : Bool → Constant → Option ℤ
number_of_label true c = character_label c
number_of_label false c = number_label c

unfoldable pub label_at : Modules → Scope → Bool → Label → Rule ℤ
label_at ms s character l = Then (label_constant ms s l) (λ c. there (number_of_label character c) code.Types)

-- a label alone is a range of one
unfoldable pub last_label : Modules → Scope → Bool → ℤ → Option Label → Rule ℤ
last_label ms s character first None = Given first
last_label ms s character first (Some l) = label_at ms s character l

unfoldable pub range_at : Modules → Scope → Bool → LabelRange → Rule TypedRange
range_at ms s character r =
    Then (label_at ms s character r.first) (λ first.
    Then (last_label ms s character first r.last) (λ last. Given (record { first = first; last = last })))

-- ---- no range is empty, and no label stands twice

abbrev pub are_apart : TypedRange → TypedRange → Bool
are_apart x y = int_lt x.last y.first || int_lt y.last x.first

-- whether a range has none of the labels of these
abbrev pub is_free : List TypedRange → TypedRange → Bool
is_free [] x = true
is_free (y ∷ ys) x = are_apart x y && is_free ys x

-- all labels of the CASE so far, the last first, and those of one arm
abbrev pub Labelling : Type 0
Labelling = List TypedRange × List TypedRange

unfoldable pub with_range : Labelling → TypedRange → Rule Labelling
with_range l x =
    Needs (int_le x.first x.last) code.Label (Needs (is_free l.0 x) code.Label (Given (x ∷ l.0, l.1 ++ x ∷ [])))

-- one range more
unfoldable pub next_range : Modules → Scope → Bool → Labelling → LabelRange → Rule Labelling
next_range ms s character l r = Then (range_at ms s character r) (λ x. with_range l x)
