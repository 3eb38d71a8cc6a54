-- The tables by which names of a loaded module are looked up.
use Rattle.std.specs.Prelude.{◌≡◌, List, Option, Some, None}
use Rattle.ob_types.specs.declared.exports.Exported.{Exported}
use Rattle.ob_check_scope.specs.Exports.{names_of, variables_in, procedures_in}
use Rattle.ob_check_scope.specs.declared.imports.Tables.{Tables}

-- they are those of these exports
pub record IsTableOf (exports : List Exported) (t : Tables) : Type 0 where
  pub names : t.names ≡ names_of exports
  pub variables : t.variables ≡ variables_in exports
  pub procedures : t.procedures ≡ procedures_in exports

-- where there are any
abbrev pub AreTablesOf : List Exported → Option Tables → Type 0
AreTablesOf exports None = Unit {0}
AreTablesOf exports (Some t) = IsTableOf exports t
