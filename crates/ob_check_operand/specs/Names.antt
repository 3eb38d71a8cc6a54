-- To be believed.
-- What names stand for in expressions, as variables that are written, and in calls (Wirth, The Programming Language Oberon,
-- Oberon-07; In and Out after the Oakwood Guidelines). Imported variables and structured value parameters are read-only.
use Rattle.std.specs.Prelude.{ℕ, List, [], ◌∷◌, Bool, true, false, Option, Some, None}
use Rattle.ob_check_scope.specs.declared.rule.RuleCode.{RuleCode}
use Rattle.ob_check_scope.specs.declared.rule.RuleCode.TheVariants as code
use Rattle.ob_tree.specs.declared.tree.Designator.{Designator, out-Designator}
use Rattle.ob_tree.specs.declared.tree.Selector.{Selector, out-Selector}
use Rattle.ob_tree.specs.declared.tree.Factor.TheOpen.{Selector-F}
use Rattle.ob_types.specs.declared.exports.Object.{Object}
use Rattle.ob_types.specs.declared.exports.Object.TheVariants as object
use Rattle.ob_mean.specs.declared.expression.Callee.TheVariants as callee
use Rattle.ob_mean.specs.declared.expression.Variable.TheVariants as variable
use Rattle.ob_check_scope.specs.declared.block.Entry.{Entry}
use Rattle.ob_check_scope.specs.declared.block.Entry.TheVariants as entry
use Rattle.ob_check_scope.specs.declared.block.Standing.{Standing}
use Rattle.ob_check_scope.specs.declared.block.Standing.TheVariants as standing
use Rattle.ob_check_scope.specs.declared.predeclared.InputName.{InputName}
use Rattle.ob_check_scope.specs.declared.predeclared.InputName.TheVariants as input
use Rattle.ob_check_scope.specs.declared.predeclared.OutputName.{OutputName}
use Rattle.ob_check_scope.specs.declared.predeclared.OutputName.TheVariants as output
use Rattle.ob_check_scope.specs.declared.predeclared.Predeclared.{Predeclared}
use Rattle.ob_check_scope.specs.declared.predeclared.Predeclared.TheVariants as predeclared
use Rattle.ob_check_scope.specs.declared.scope.Scope.{Scope}
use Rattle.ob_check_const.specs.Constants.{SelectorLayer}
use Rattle.ob_check_scope.specs.Imports.{Modules, exported_at, variable_number, procedure_number}
use Rattle.ob_check_scope.specs.Predeclared.{absent, input_named, output_named, is_input, is_output}
use Rattle.ob_check_scope.specs.Rule.{Rule, Given, Breaks, Then, Needs, there}
use Rattle.ob_check_scope.specs.Scope.{seen, outer, variable_of, is_writable}
use Rattle.ob_check_operand.specs.Named.{Meant, Callable, Writable}
use Rattle.ob_check_operand.specs.Named as meaning

-- ---- variables

-- Whether a type is told of what a variable names: a VAR parameter may name the base part of a record of an extension, and is told
-- the type of that. All others have the type that they are declared with.
abbrev pub tells : Standing → Bool
tells (standing.Exported i) = false
tells (standing.Own i) = false
tells (standing.Local i) = false
tells (standing.ByParameter i) = true
tells (standing.ReadOnly i) = false

-- ---- names that are read

-- In.Done is a variable, and all else in In and Out a procedure
unfoldable pub input_read : InputName → List Selector → Rule Meant
input_read input.Unknown xs = Breaks code.NotExported
input_read input.Done [] = Given meaning.InputDone
input_read i xs = Breaks code.Types

unfoldable pub output_read : OutputName → Rule Meant
output_read output.Unknown = Breaks code.NotExported
output_read o = Breaks code.Types

-- what another module exports: `number` is its number among the variables there
unfoldable pub object_read : ℕ → ℕ → Object → List Selector → Rule Meant
object_read i number (object.Constant c) [] = Given (meaning.Constant c)
object_read i number (object.Constant c) (x ∷ xs) = Breaks code.Types
object_read i number (object.Variable t) xs = Given (meaning.Variable t (variable.OfImport i number) false xs)
object_read i number (object.TypeName t) xs = Breaks code.Types
object_read i number (object.Procedure p) xs = Breaks code.Types

abbrev pub member_read_layer : Modules → ℕ → ℕ → SelectorLayer → List Selector → Rule Meant
member_read_layer ms i place (Selector-F.Field f) xs =
    Then (there (exported_at ms place f.name) code.NotExported) (λ o. object_read i (variable_number ms place f.name) o xs)
member_read_layer ms i place (Selector-F.Index es) xs = Breaks code.Types
member_read_layer ms i place (Selector-F.Guard q) xs = Breaks code.Types

unfoldable pub member_read : Modules → ℕ → ℕ → Selector → List Selector → Rule Meant
member_read ms i place x xs = member_read_layer ms i place (out-Selector x) xs

abbrev pub input_member_layer : SelectorLayer → List Selector → Rule Meant
input_member_layer (Selector-F.Field f) xs = input_read (input_named f.name) xs
input_member_layer (Selector-F.Index es) xs = Breaks code.Types
input_member_layer (Selector-F.Guard q) xs = Breaks code.Types

abbrev pub output_member_layer : SelectorLayer → Rule Meant
output_member_layer (Selector-F.Field f) = output_read (output_named f.name)
output_member_layer (Selector-F.Index es) = Breaks code.Types
output_member_layer (Selector-F.Guard q) = Breaks code.Types

unfoldable pub input_member : Selector → List Selector → Rule Meant
input_member x xs = input_member_layer (out-Selector x) xs

unfoldable pub output_member : Selector → Rule Meant
output_member x = output_member_layer (out-Selector x)

-- a name of a type, a procedure or a module is no value
unfoldable pub entry_read : Modules → Scope → Entry → List Selector → Rule Meant
entry_read ms s (entry.Constant c) [] = Given (meaning.Constant c)
entry_read ms s (entry.Constant c) (x ∷ xs) = Breaks code.Types
entry_read ms s (entry.Variable t v) xs = Given (meaning.Variable t (variable_of s v) (tells v) xs)
entry_read ms s (entry.TypeName t) xs = Breaks code.Types
entry_read ms s (entry.Procedure p n) xs = Breaks code.Types
entry_read ms s entry.In [] = Breaks code.Types
entry_read ms s entry.In (x ∷ xs) = input_member x xs
entry_read ms s entry.Out [] = Breaks code.Types
entry_read ms s entry.Out (x ∷ xs) = output_member x
entry_read ms s (entry.Module i place) [] = Breaks code.Types
entry_read ms s (entry.Module i place) (x ∷ xs) = member_read ms i place x xs

unfoldable pub read_at : Modules → Scope → Designator → Rule Meant
read_at ms s d =
    Then (there (seen s (out-Designator d).name.name) (absent (outer s (out-Designator d).name.name))) (λ e.
    entry_read ms s e (out-Designator d).selectors)

-- ---- names that are written

-- what is broken where nothing declares a name that has to stand for a variable
abbrev pub no_variable : Predeclared → RuleCode
no_variable predeclared.LeftOut = code.LeftOut
no_variable predeclared.Unknown = code.UnknownName
no_variable (predeclared.Basic b) = code.ReadOnly
no_variable (predeclared.Function f) = code.ReadOnly
no_variable (predeclared.Procedure p) = code.ReadOnly

-- what is broken where something of another module would be written: that it isn't there, or may not be
abbrev pub unwritten : Bool → RuleCode
unwritten true = code.ReadOnly
unwritten false = code.NotExported

abbrev pub is_object : Option Object → Bool
is_object None = false
is_object (Some o) = true

-- whether a module has what a selector names: an index and a guard name nothing of it
abbrev pub has_input : SelectorLayer → Bool
has_input (Selector-F.Field f) = is_input (input_named f.name)
has_input (Selector-F.Index es) = true
has_input (Selector-F.Guard q) = true

abbrev pub has_output : SelectorLayer → Bool
has_output (Selector-F.Field f) = is_output (output_named f.name)
has_output (Selector-F.Index es) = true
has_output (Selector-F.Guard q) = true

abbrev pub has_object : Modules → ℕ → SelectorLayer → Bool
has_object ms place (Selector-F.Field f) = is_object (exported_at ms place f.name)
has_object ms place (Selector-F.Index es) = true
has_object ms place (Selector-F.Guard q) = true

unfoldable pub input_written : Selector → RuleCode
input_written x = unwritten (has_input (out-Selector x))

unfoldable pub output_written : Selector → RuleCode
output_written x = unwritten (has_output (out-Selector x))

unfoldable pub object_written : Modules → ℕ → Selector → RuleCode
object_written ms place x = unwritten (has_object ms place (out-Selector x))

-- a variable that may be written, whatever the selectors after it select
unfoldable pub entry_written : Modules → Scope → Entry → List Selector → Rule Writable
entry_written ms s (entry.Variable t v) xs = Needs (is_writable v) code.ReadOnly (Given (t, variable_of s v, tells v, xs))
entry_written ms s (entry.Constant c) xs = Breaks code.ReadOnly
entry_written ms s (entry.TypeName t) xs = Breaks code.ReadOnly
entry_written ms s (entry.Procedure p n) xs = Breaks code.ReadOnly
entry_written ms s entry.In [] = Breaks code.ReadOnly
entry_written ms s entry.In (x ∷ xs) = Breaks (input_written x)
entry_written ms s entry.Out [] = Breaks code.ReadOnly
entry_written ms s entry.Out (x ∷ xs) = Breaks (output_written x)
entry_written ms s (entry.Module i place) [] = Breaks code.ReadOnly
entry_written ms s (entry.Module i place) (x ∷ xs) = Breaks (object_written ms place x)

unfoldable pub written_at : Modules → Scope → Designator → Rule Writable
written_at ms s d =
    Then (there (seen s (out-Designator d).name.name) (no_variable (outer s (out-Designator d).name.name))) (λ e.
    entry_written ms s e (out-Designator d).selectors)

-- ---- names that are called

unfoldable pub predeclared_called : Predeclared → List Selector → Rule Callable
predeclared_called (predeclared.Function f) [] = Given (meaning.Function f)
predeclared_called (predeclared.Procedure p) [] = Given (meaning.Proper p)
predeclared_called p xs = Breaks (absent p)

-- what stands after a procedure is no part of it
abbrev pub whole : Callable → List Selector → Rule Callable
whole c [] = Given c
whole c (x ∷ xs) = Breaks code.Types

-- In.Done is no procedure
unfoldable pub input_called : InputName → List Selector → Rule Callable
input_called input.Unknown xs = Breaks code.NotExported
input_called input.Done xs = Breaks code.Types
input_called i xs = whole (meaning.Input i) xs

unfoldable pub output_called : OutputName → List Selector → Rule Callable
output_called output.Unknown xs = Breaks code.NotExported
output_called o xs = whole (meaning.Output o) xs

unfoldable pub object_called : ℕ → ℕ → Object → List Selector → Rule Callable
object_called i number (object.Procedure p) xs = whole (meaning.Procedure p (callee.OfImport i number)) xs
object_called i number (object.Constant c) xs = Breaks code.Types
object_called i number (object.Variable t) xs = Breaks code.Types
object_called i number (object.TypeName t) xs = Breaks code.Types

abbrev pub member_called_layer : Modules → ℕ → ℕ → SelectorLayer → List Selector → Rule Callable
member_called_layer ms i place (Selector-F.Field f) xs =
    Then (there (exported_at ms place f.name) code.NotExported) (λ o. object_called i (procedure_number ms place f.name) o xs)
member_called_layer ms i place (Selector-F.Index es) xs = Breaks code.Types
member_called_layer ms i place (Selector-F.Guard q) xs = Breaks code.Types

unfoldable pub member_called : Modules → ℕ → ℕ → Selector → List Selector → Rule Callable
member_called ms i place x xs = member_called_layer ms i place (out-Selector x) xs

abbrev pub input_call_layer : SelectorLayer → List Selector → Rule Callable
input_call_layer (Selector-F.Field f) xs = input_called (input_named f.name) xs
input_call_layer (Selector-F.Index es) xs = Breaks code.Types
input_call_layer (Selector-F.Guard q) xs = Breaks code.Types

abbrev pub output_call_layer : SelectorLayer → List Selector → Rule Callable
output_call_layer (Selector-F.Field f) xs = output_called (output_named f.name) xs
output_call_layer (Selector-F.Index es) xs = Breaks code.Types
output_call_layer (Selector-F.Guard q) xs = Breaks code.Types

unfoldable pub input_call : Selector → List Selector → Rule Callable
input_call x xs = input_call_layer (out-Selector x) xs

unfoldable pub output_call : Selector → List Selector → Rule Callable
output_call x xs = output_call_layer (out-Selector x) xs

-- what is no procedure is not called
unfoldable pub entry_called : Modules → Entry → List Selector → Rule Callable
entry_called ms (entry.Procedure p n) [] = Given (meaning.Procedure p (callee.OfModule n))
entry_called ms (entry.Module i place) (x ∷ xs) = member_called ms i place x xs
entry_called ms entry.In (x ∷ xs) = input_call x xs
entry_called ms entry.Out (x ∷ xs) = output_call x xs
entry_called ms e xs = Breaks code.Types

unfoldable pub name_called : Modules → Option Entry → Predeclared → List Selector → Rule Callable
name_called ms (Some e) p xs = entry_called ms e xs
name_called ms None p xs = predeclared_called p xs

unfoldable pub called_at : Modules → Scope → Designator → Rule Callable
called_at ms s d =
    name_called ms (seen s (out-Designator d).name.name) (outer s (out-Designator d).name.name) (out-Designator d).selectors
