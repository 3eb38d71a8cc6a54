-- To be believed.
-- Modules (Wirth, The Programming Language Oberon, Oberon-07): the typed module, its interface, and what it imports.
use Rattle.std.specs.Prelude.{ℕ, List, [], ◌∷◌, ◌++◌, length, Option, Some, None, nat_eq, slice_get, if◌then◌else◌}
use Rattle.ob_tree.specs.declared.tree.Declarations.{out-Declarations}
use Rattle.ob_tree.specs.declared.tree.Module.{Module}
use Rattle.ob_types.specs.InterfaceText.{interface_text}
use Rattle.ob_mean.specs.declared.module.ModuleVariable.{ModuleVariable}
use Rattle.ob_mean.specs.declared.module.ModuleVariable.TheVariants as variable
use Rattle.ob_mean.specs.declared.module.TypedProcedure.{TypedProcedure}
use Rattle.ob_mean.specs.declared.statement.TypedStatement.{TypedStatement}
use Rattle.ob_check_scope.specs.declared.block.Declared.{Declared}
use Rattle.ob_check_scope.specs.declared.block.Entry.{Entry}
use Rattle.ob_check_scope.specs.declared.block.Entry.TheVariants as entry
use Rattle.ob_check_scope.specs.declared.block.Standing.TheVariants as standing
use Rattle.ob_check_scope.specs.declared.scope.Scope.{Scope}
use Rattle.ob_check_decl.specs.Declarations as declarations
use Rattle.ob_check_scope.specs.Imports.{Modules}
use Rattle.ob_check_decl.specs.Interfaces.{interface_of, exported_procedures}
use Rattle.ob_check_scope.specs.LoadedTree.{LoadedTree}
use Rattle.ob_check_scope.specs.Rule.{Rule, Given, Then, through}
use Rattle.ob_check_module.specs.Procedures.{Checking, body_at, procedure_at}
use Rattle.ob_check_module.specs.CheckedTree.{CheckedTree}
use Rattle.ob_check_kinds.specs.Shapes.{shape_of}
use Rattle.ob_check_module.specs.declared.checked.Imported.{Imported}

-- ---- variables: those that others see come first

abbrev pub exported_variable : Entry → List ModuleVariable
exported_variable (entry.Variable t (standing.Exported i)) = variable.Declared (shape_of t) ∷ []
exported_variable e = []

abbrev pub exported_variables : List Declared → List ModuleVariable
exported_variables [] = []
exported_variables (d ∷ ds) = exported_variable d.entry ++ exported_variables ds

abbrev pub own_variable : Entry → List ModuleVariable
own_variable (entry.Variable t (standing.Own i)) = variable.Declared (shape_of t) ∷ []
own_variable e = []

abbrev pub own_variables : List Declared → List ModuleVariable
own_variables [] = []
own_variables (d ∷ ds) = own_variable d.entry ++ own_variables ds

abbrev pub declared_variables : List Declared → List ModuleVariable
declared_variables ds = exported_variables ds ++ own_variables ds

-- ---- imports, each with the key that the module has now: a module that has several names is one of them

abbrev pub with_key : Option LoadedTree → List Imported
with_key None = []
with_key (Some m) = record { name = m.interface.name; key = interface_text m.interface } ∷ []

-- the module that is the next one behind so many, if a name stands for it
abbrev pub imported_by : Modules → ℕ → Entry → List Imported
imported_by ms n (entry.Module import place) = if nat_eq import n then with_key (slice_get ms place) else []
imported_by ms n e = []

-- these, and those behind them
abbrev pub with_imports : Modules → List Imported → List Declared → List Imported
with_imports ms is [] = is
with_imports ms is (d ∷ ds) = with_imports ms (is ++ imported_by ms (length is) d.entry) ds

abbrev pub all_imported : Modules → List Declared → List Imported
all_imported ms ds = with_imports ms [] ds

-- ---- the whole

abbrev pub checked_of : Modules → Scope → List TypedProcedure → List TypedStatement → List ModuleVariable → CheckedTree
checked_of ms s procedures body variables = record {
  tree = record {
    name = s.module_name;
    variables = variables;
    procedures = procedures;
    exported = exported_procedures s.block;
    body = body;
  };
  interface = interface_of s.module_name s.block;
  imports = all_imported ms s.block;
}

unfoldable pub body_rule : Modules → Checking → Module → Rule CheckedTree
body_rule ms c m =
    Then (body_at ms c.0 declarations.max_nesting c.2 m.body) (λ b. Given (checked_of ms c.0 c.1 b.0 b.1))

-- the procedures, and then the body
unfoldable pub procedures_rule : Modules → Scope → List ModuleVariable → Module → Rule CheckedTree
procedures_rule ms s variables m =
    Then (through (procedure_at ms declarations.max_nesting) (s, [], variables) (out-Declarations m.declarations).procedures) (λ c.
    body_rule ms c m)

unfoldable pub checked_rule : Modules → Scope → Module → Rule CheckedTree
checked_rule ms s m = procedures_rule ms s (declared_variables s.block) m

unfoldable pub module_at : Modules → Module → Rule CheckedTree
module_at ms m = Then (declarations.module_rule ms m) (λ s. checked_rule ms s m)
