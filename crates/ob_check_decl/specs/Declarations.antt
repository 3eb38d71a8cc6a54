-- To be believed.
-- Declarations: the imports of a module, and the constants, types and variables of a module or a procedure (Wirth, The
-- Programming Language Oberon, Oberon-07).
use Rattle.std.specs.Prelude.{ℕ, ◌+◌, List, [], ◌∷◌, ◌++◌, reverse, Bool, true, false, not, Option, Some, None, is_some, nat_eq, nat_le, nat_lt, slice_get, if◌then◌else◌}
use Rattle.std.specs.Str.{bytes_eq}
use Rattle.ob_check_scope.specs.declared.rule.RuleCode.TheVariants as code
use Rattle.ob_tree.specs.declared.tree.ConstDeclaration.{ConstDeclaration}
use Rattle.ob_tree.specs.declared.tree.Declarations.{Declarations, out-Declarations}
use Rattle.ob_tree.specs.declared.tree.Ident.{Ident}
use Rattle.ob_tree.specs.declared.tree.IdentDef.{IdentDef}
use Rattle.ob_tree.specs.declared.tree.Import.{Import}
use Rattle.ob_tree.specs.declared.tree.Module.{Module}
use Rattle.ob_tree.specs.declared.tree.TypeDeclaration.{TypeDeclaration}
use Rattle.ob_tree.specs.declared.tree.TypedNames.{TypedNames, out-TypedNames}
use Rattle.ob_types.specs.declared.structure.ObType.{ObType}
use Rattle.ob_types.specs.Types.{cells}
use Rattle.ob_check_scope.specs.declared.block.Declared.{Declared}
use Rattle.ob_check_scope.specs.declared.block.Entry.{Entry}
use Rattle.ob_check_scope.specs.declared.block.Entry.TheVariants as entry
use Rattle.ob_check_scope.specs.declared.block.Standing.TheVariants as standing
use Rattle.ob_check_scope.specs.declared.imports.StandardName.{StandardName}
use Rattle.ob_check_scope.specs.declared.imports.StandardName.TheVariants as standard
use Rattle.ob_check_scope.specs.declared.scope.Scope.{Scope}
use Rattle.ob_check_scope.specs.Block.{find}
use Rattle.ob_check_scope.specs.Exports.{Modules}
use Rattle.ob_check_scope.specs.Imports.{module_place, reaches, standard_named}
use Rattle.ob_check_scope.specs.Names.{is_among}
use Rattle.ob_check_scope.specs.Rule.{Rule, Given, Breaks, Then, Needs, there, through}
use Rattle.ob_check_const.specs.Constants.{constant_at}
use Rattle.ob_check_scope.specs.Scope.{opening, with_entry, naming}
use Rattle.ob_check_scope.specs.Stack.{is_empty}
use Rattle.ob_check_decl.specs.WrittenTypes.{type_at}

-- how many constructs nest
abbrev pub max_nesting : ℕ
max_nesting = 200

-- how many cells the variables of a module take, and those of a procedure
abbrev pub max_module_cells : ℕ
max_module_cells = 262144

abbrev pub max_procedure_cells : ℕ
max_procedure_cells = 16384

abbrev pub is_new : Option Entry → Bool
is_new None = true
is_new (Some e) = false

abbrev pub has_mark : IdentDef → Bool
has_mark name = is_some name.mark

-- no text has so many names
abbrev pub max_count : ℕ
max_count = 18446744073709551615

-- one more, of what there are not too many
abbrev pub one_more : ℕ → ℕ → Option ℕ
one_more most n = if nat_lt n most then Some (n + 1) else None

-- one name more, which neither the block has nor stands among those before it
unfoldable pub new_name : List Declared → List (List ℕ) → List ℕ → Rule (List (List ℕ))
new_name ds names name =
    Needs (is_new (find ds name)) code.DeclaredTwice (
    Needs (not (is_among names name)) code.DeclaredTwice (Given (names ++ name ∷ [])))

-- ---- imports

-- the name that the imported module has itself
abbrev pub own_name : Ident → Option Ident → List ℕ
own_name name None = name.name
own_name name (Some own) = own.name

-- a module that is loaded, and does not reach the one that imports it
unfoldable pub loaded_place : Modules → List ℕ → Option ℕ → Rule ℕ
loaded_place ms self None = Breaks code.NotLoaded
loaded_place ms self (Some place) = Needs (not (reaches (slice_get ms place) self)) code.ImportsItself (Given place)

-- the number that a name has for the module that is loaded at a place, if it stands for it
abbrev pub number_by : Entry → ℕ → Option ℕ
number_by (entry.Module import other) place = if nat_eq other place then Some import else None
number_by e place = None

abbrev pub or_other : Option ℕ → Option ℕ → Option ℕ
or_other (Some import) other = Some import
or_other None other = other

-- the number that the first of these names for that module has
abbrev pub number_among : List Declared → ℕ → Option ℕ
number_among [] place = None
number_among (d ∷ ds) place = or_other (number_by d.entry place) (number_among ds place)

-- the number that the last name for it has
abbrev pub number_of_module : List Declared → ℕ → Option ℕ
number_of_module ds place = number_among (reverse ds) place

-- The imported modules but for In and Out are numbered. A module that is imported under two names is one module, of one number.
unfoldable pub module_numbered : Scope → List ℕ → ℕ → Option ℕ → Rule Scope
module_numbered s name place (Some import) = Given (with_entry s name false (entry.Module import place))
module_numbered s name place None =
    Then (there (one_more max_count s.import_count) code.Size) (λ n.
    Given (with_entry (record s { import_count = n }) name false (entry.Module s.import_count place)))

abbrev pub with_module : Scope → List ℕ → ℕ → Rule Scope
with_module s name place = module_numbered s name place (number_of_module s.block place)

unfoldable pub other_module : Modules → Scope → List ℕ → List ℕ → Rule Scope
other_module ms s name own = Then (loaded_place ms s.module_name (module_place ms own)) (λ place. with_module s name place)

unfoldable pub imported_as : Modules → Scope → List ℕ → List ℕ → StandardName → Rule Scope
imported_as ms s name own standard.In = Given (with_entry s name false entry.In)
imported_as ms s name own standard.Out = Given (with_entry s name false entry.Out)
imported_as ms s name own standard.System = Breaks code.LeftOut
imported_as ms s name own standard.Other = other_module ms s name own

-- a module does not import itself
unfoldable pub import_named : Modules → Scope → List ℕ → List ℕ → Rule Scope
import_named ms s name own =
    Needs (not (bytes_eq own s.module_name)) code.ImportsItself (imported_as ms s name own (standard_named own))

-- a module under a name that is new
abbrev pub new_import : Modules → Scope → Import → Rule Scope
new_import ms s i = import_named ms s i.name.name (own_name i.name i.module_name)

-- no name is declared twice: the name here is judged before the module
unfoldable pub import_rule : Modules → Scope → Import → Rule Scope
import_rule ms s i = Needs (is_new (find s.block i.name.name)) code.DeclaredTwice (new_import ms s i)

-- ---- constants and types. The number says how many more constructs may nest

-- a constant of a name that is new
unfoldable pub new_constant : Modules → ℕ → Scope → ConstDeclaration → Rule Scope
new_constant ms n s d =
    Then (constant_at ms s n d.value) (λ c. Given (with_entry s d.name.name.name (has_mark d.name) (entry.Constant c)))

unfoldable pub constant_rule : Modules → ℕ → Scope → ConstDeclaration → Rule Scope
constant_rule ms n s d = Needs (is_new (find s.block d.name.name.name)) code.DeclaredTwice (new_constant ms n s d)

-- a type of a name that is new
unfoldable pub new_type : Modules → ℕ → Scope → TypeDeclaration → Rule Scope
new_type ms n s d =
    Then (type_at ms s (naming s d.name.name.name) n 0 d.of) (λ w.
    Given (with_entry s d.name.name.name (has_mark d.name) (entry.TypeName w.of)))

unfoldable pub type_rule : Modules → ℕ → Scope → TypeDeclaration → Rule Scope
type_rule ms n s d = Needs (is_new (find s.block d.name.name.name)) code.DeclaredTwice (new_type ms n s d)

-- ---- variables

-- a list of names is declared by the first
abbrev pub first_name : List IdentDef → List ℕ
first_name [] = []
first_name (n ∷ ns) = n.name.name

-- how many cells the variables of a block take, that of a module or not
abbrev pub most_cells : Bool → ℕ
most_cells true = max_module_cells
most_cells false = max_procedure_cells

-- how many cells are taken with a variable more, if they are not too many
abbrev pub cells_behind : ℕ → ℕ → ObType → Option ℕ
cells_behind most taken t = if nat_le (taken + cells t) most then Some (taken + cells t) else None

-- a variable takes a cell at least, so no more variables than this are counted
abbrev pub max_variables : ℕ
max_variables = 4294967295

unfoldable pub exported_variable : Scope → List ℕ → ObType → Rule Scope
exported_variable s name t =
    Then (there (one_more max_variables s.exported_count) code.Size) (λ n.
    Given (with_entry (record s { exported_count = n }) name true (entry.Variable t (standing.Exported s.exported_count))))

unfoldable pub own_variable : Scope → List ℕ → ObType → Rule Scope
own_variable s name t =
    Then (there (one_more max_variables s.own_count) code.Size) (λ n.
    Given (with_entry (record s { own_count = n }) name false (entry.Variable t (standing.Own s.own_count))))

unfoldable pub local_variable : Scope → List ℕ → ObType → Rule Scope
local_variable s name t =
    Then (there (one_more max_count s.local_count) code.Size) (λ n.
    Given (with_entry (record s { local_count = n }) name false (entry.Variable t (standing.Local s.local_count))))

-- a variable of the module with a mark, or without one, or of a procedure
unfoldable pub variable_in : Bool → Bool → Scope → List ℕ → ObType → Rule Scope
variable_in true true s name t = exported_variable s name t
variable_in true false s name t = own_variable s name t
variable_in false mark s name t = local_variable s name t

-- one variable more
unfoldable pub variable_rule : ObType → Scope → IdentDef → Rule Scope
variable_rule t s name =
    Needs (is_new (find s.block name.name.name)) code.DeclaredTwice (
    Then (there (cells_behind (most_cells (is_empty s.around)) s.cells_taken t) code.Size) (λ taken.
    variable_in (is_empty s.around) (has_mark name) (record s { cells_taken = taken }) name.name.name t))

abbrev pub variable_name : List Declared → List (List ℕ) → IdentDef → Rule (List (List ℕ))
variable_name ds names x = new_name ds names x.name.name

-- variables of one type
unfoldable pub typed_variables : Modules → ℕ → Scope → TypedNames → Rule Scope
typed_variables ms n s x =
    Then (type_at ms s (naming s (first_name (out-TypedNames x).names)) n 0 (out-TypedNames x).of) (λ w.
    through (variable_rule w.of) s (out-TypedNames x).names)

-- their names are judged before their type
unfoldable pub variables_rule : Modules → ℕ → Scope → TypedNames → Rule Scope
variables_rule ms n s x = Then (through (variable_name s.block) [] (out-TypedNames x).names) (λ names. typed_variables ms n s x)

-- ---- the declarations of a module or a procedure but for the procedures in it

unfoldable pub declarations_rule : Modules → ℕ → Scope → Declarations → Rule Scope
declarations_rule ms n s d =
    Then (through (constant_rule ms n) s (out-Declarations d).constants) (λ t.
    Then (through (type_rule ms n) t (out-Declarations d).types) (λ u.
    through (variables_rule ms n) u (out-Declarations d).variables))

abbrev pub is_other : StandardName → Bool
is_other standard.Other = true
is_other _ = false

-- a module is not named In, Out or SYSTEM
unfoldable pub module_rule : Modules → Module → Rule Scope
module_rule ms m =
    Needs (is_other (standard_named m.name.name)) code.DeclaredTwice (
    Then (through (import_rule ms) (opening m.name.name) m.imports) (λ s. declarations_rule ms max_nesting s m.declarations))
