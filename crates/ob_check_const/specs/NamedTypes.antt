-- To be believed.
-- Names of types (Wirth, The Programming Language Oberon, Oberon-07): a name that is seen, or one that a module exports.
use Rattle.std.specs.Prelude.{ℕ, List, Bool, true, false, Option, Some, None, option_copied}
use Rattle.ob_check_scope.specs.declared.rule.RuleCode.{RuleCode}
use Rattle.ob_check_scope.specs.declared.rule.RuleCode.TheVariants as code
use Rattle.ob_tree.specs.declared.tree.Ident.{Ident}
use Rattle.ob_tree.specs.declared.tree.Qualident.{Qualident}
use Rattle.ob_types.specs.declared.exports.Object.{Object}
use Rattle.ob_types.specs.declared.exports.Object.TheVariants as object
use Rattle.ob_types.specs.declared.structure.Field.{Field}
use Rattle.ob_types.specs.declared.structure.RecordType.{RecordType}
use Rattle.ob_types.specs.declared.structure.ObType.{ObType, out-ObType}
use Rattle.ob_types.specs.declared.structure.ObType.TheOpen.{ObType-F}
use Rattle.ob_types.specs.declared.structure.ObType.TheVariants.{Basic as OfBasic}
use Rattle.ob_check_scope.specs.declared.block.Entry.{Entry}
use Rattle.ob_check_scope.specs.declared.block.Entry.TheVariants as entry
use Rattle.ob_check_scope.specs.declared.predeclared.Predeclared.{Predeclared}
use Rattle.ob_check_scope.specs.declared.predeclared.Predeclared.TheVariants as predeclared
use Rattle.ob_check_scope.specs.declared.scope.Scope.{Scope}
use Rattle.ob_check_const.specs.declared.named_type.NameOfType.{NameOfType}
use Rattle.ob_check_scope.specs.Exports.{Modules}
use Rattle.ob_check_scope.specs.Imports.{exported_at}
use Rattle.ob_check_scope.specs.Predeclared.{absent, input_named, output_named, is_input, is_output}
use Rattle.ob_check_scope.specs.Scope.{seen, outer}
use Rattle.ob_check_scope.specs.Rule.{Rule, Given, Breaks, Then, there}

-- a name of a type as it is written
abbrev pub written : NameOfType → Qualident
written name = record { first = name.first.now; second = option_copied name.second }

unfoldable pub predeclared_type : Predeclared → Rule ObType
predeclared_type (predeclared.Basic b) = Given (OfBasic b)
predeclared_type p = Breaks (absent p)

-- a name alone
unfoldable pub own_type : Option Entry → Predeclared → Rule ObType
own_type (Some (entry.TypeName t)) p = Given t
own_type (Some e) p = Breaks code.Types
own_type None p = predeclared_type p

abbrev pub object_type : Object → Rule ObType
object_type (object.TypeName t) = Given t
object_type o = Breaks code.Types

-- a name of another module: In and Out export no type
abbrev pub no_type : Bool → RuleCode
no_type true = code.Types
no_type false = code.NotExported

unfoldable pub other_type : Modules → Option Entry → Predeclared → List ℕ → Rule ObType
other_type ms (Some (entry.Module number place)) p name =
    Then (there (exported_at ms place name) code.NotExported) (λ o. object_type o)
other_type ms (Some entry.In) p name = Breaks (no_type (is_input (input_named name)))
other_type ms (Some entry.Out) p name = Breaks (no_type (is_output (output_named name)))
other_type ms (Some e) p name = Breaks code.Types
other_type ms None p name = Breaks (absent p)

-- a name, by what its first part stands for
unfoldable pub qualified : Modules → Option Entry → Predeclared → Option Ident → Rule ObType
qualified ms e p None = own_type e p
qualified ms e p (Some second) = other_type ms e p second.name

unfoldable pub type_named : Modules → Scope → Qualident → Rule ObType
type_named ms s q = qualified ms (seen s q.first.name) (outer s q.first.name) q.second

-- ---- records

abbrev pub TypeLayer : Type 0
TypeLayer = ObType-F ObType Field RecordType

abbrev pub record_layer : TypeLayer → Bool
record_layer (ObType-F.Basic b) = false
record_layer (ObType-F.Array n e) = false
record_layer (ObType-F.Open e) = false
record_layer (ObType-F.Record r) = true

abbrev pub is_record : ObType → Bool
is_record t = record_layer (out-ObType t)
