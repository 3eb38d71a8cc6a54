-- To be believed.
-- Headings of procedures: their formal parameters and results (Wirth, The Programming Language Oberon, Oberon-07).
use Rattle.std.specs.Prelude.{ℕ, zero, suc, List, [], ◌∷◌, ◌++◌, length, Bool, true, false, Option, Some, None, is_some}
use Rattle.ob_check_scope.specs.declared.rule.RuleCode.TheVariants as code
use Rattle.ob_tree.specs.declared.tree.Formals.{Formals}
use Rattle.ob_tree.specs.declared.tree.FormalSection.{FormalSection}
use Rattle.ob_tree.specs.declared.tree.FormalType.{FormalType, out-FormalType}
use Rattle.ob_tree.specs.declared.tree.FormalType.TheOpen.{FormalType-F}
use Rattle.ob_tree.specs.declared.tree.Ident.{Ident}
use Rattle.ob_tree.specs.declared.tree.Procedure.{Procedure, out-Procedure}
use Rattle.ob_tree.specs.declared.tree.Qualident.{Qualident}
use Rattle.ob_types.specs.declared.exports.FormalKind.{FormalKind}
use Rattle.ob_types.specs.declared.exports.FormalKind.TheVariants as kind
use Rattle.ob_types.specs.declared.structure.Basic.{Basic}
use Rattle.ob_types.specs.declared.structure.ObType.{ObType}
use Rattle.ob_types.specs.declared.structure.ObType.TheVariants.{Basic as OfBasic, Open}
use Rattle.ob_types.specs.Types.{is_admitted}
use Rattle.ob_check_scope.specs.declared.block.Declared.{Declared}
use Rattle.ob_check_scope.specs.declared.block.Entry.TheVariants as entry
use Rattle.ob_check_scope.specs.declared.block.Standing.{Standing}
use Rattle.ob_check_scope.specs.declared.block.Standing.TheVariants as standing
use Rattle.ob_check_decl.specs.declared.heading.Entered.{Entered}
use Rattle.ob_check_decl.specs.declared.heading.Heading.{Heading}
use Rattle.ob_check_decl.specs.declared.heading.Parameters.{Parameters}
use Rattle.ob_check_scope.specs.declared.scope.Scope.{Scope}
use Rattle.ob_check_scope.specs.Block.{find}
use Rattle.ob_check_decl.specs.Declarations.{is_new, has_mark, new_name}
use Rattle.ob_check_scope.specs.Exports.{Modules}
use Rattle.ob_check_scope.specs.Rule.{Rule, Given, Breaks, Then, Needs, through}
use Rattle.ob_check_scope.specs.Scope.{with_entry, in_heading, entered}
use Rattle.ob_check_const.specs.NamedTypes.{type_named}

-- ---- types of formal parameters

-- an open array of a type, which has at most so many levels
unfoldable pub open_of : ObType → Rule ObType
open_of t = Needs (is_admitted (Open t)) code.Size (Given (Open t))

module _ (inner : FormalType → Rule ObType) (ms : Modules) (s : Scope) where
  abbrev pub formal_layer : FormalType-F FormalType → Rule ObType
  formal_layer (FormalType-F.Named q) = type_named ms s q
  formal_layer (FormalType-F.Open span element) = Then (inner element) (λ t. open_of t)

  unfoldable pub formal_rule : FormalType → Rule ObType
  formal_rule f = formal_layer (out-FormalType f)

-- each open array is a construct, of which so many more may nest: a heading that nests deeper has no size
unfoldable pub inner_formal : Modules → Scope → ℕ → FormalType → Rule ObType
inner_formal ms s zero f = Breaks code.Size
inner_formal ms s (suc n) f = formal_rule (inner_formal ms s n) ms s f

unfoldable pub formal_at : Modules → Scope → ℕ → FormalType → Rule ObType
formal_at ms s n f = formal_rule (inner_formal ms s n) ms s f

-- ---- formal parameters

-- how a parameter is passed: by VAR, or as a value
abbrev pub kind_of : Bool → FormalKind
kind_of true = kind.Variable
kind_of false = kind.Value

-- A parameter names a variable of the caller, but for a value of basic type, which is the procedure's own.
abbrev pub standing_of : Bool → ObType → ℕ → Standing
standing_of true t i = standing.ByParameter i
standing_of false (OfBasic b) i = standing.Local i
standing_of false t i = standing.ReadOnly i

abbrev pub no_parameters : Parameters
no_parameters = record { formals = []; block = [] }

-- one parameter more, by VAR or not
unfoldable pub parameter_rule : Bool → ObType → Parameters → Ident → Rule Parameters
parameter_rule var t p name =
    Needs (is_new (find p.block name.name)) code.DeclaredTwice (
    Given (record {
      formals = p.formals ++ record { kind = kind_of var; of = t } ∷ [];
      block = p.block ++ record { name = name.name; exported = false; entry = entry.Variable t (standing_of var t (length p.block)) } ∷ [];
    }))

abbrev pub parameter_name : List Declared → List (List ℕ) → Ident → Rule (List (List ℕ))
parameter_name ds names x = new_name ds names x.name

-- parameters of this type
abbrev pub parameters_of : ObType → Parameters → FormalSection → Rule Parameters
parameters_of t p x = through (parameter_rule (is_some x.by_reference) t) p x.names

-- parameters of one type: those before them are visible in it
unfoldable pub typed_parameters : Modules → ℕ → Scope → Parameters → FormalSection → Rule Parameters
typed_parameters ms n s p x = Then (formal_at ms (in_heading s p.block) n x.of) (λ t. parameters_of t p x)

-- their names are judged before their type
unfoldable pub section_rule : Modules → ℕ → Scope → Parameters → FormalSection → Rule Parameters
section_rule ms n s p x = Then (through (parameter_name p.block) [] x.names) (λ names. typed_parameters ms n s p x)

-- ---- results

-- a result is of basic type
unfoldable pub basic_of : ObType → Rule Basic
basic_of (OfBasic b) = Given b
basic_of t = Breaks code.Parameters

unfoldable pub result_rule : Modules → Scope → Option Qualident → Rule (Option Basic)
result_rule ms s None = Given None
result_rule ms s (Some q) = Then (type_named ms s q) (λ t. Then (basic_of t) (λ b. Given (Some b)))

-- ---- headings

abbrev pub heading_of : Parameters → Option Basic → Heading
heading_of p result_type = record { signature = record { formals = p.formals; result = result_type }; block = p.block }

-- all parameters are visible in the type of the result
unfoldable pub formals_rule : Modules → ℕ → Scope → Formals → Rule Heading
formals_rule ms n s f =
    Then (through (section_rule ms n s) no_parameters f.sections) (λ p.
    Then (result_rule ms (in_heading s p.block) f.result) (λ r. Given (heading_of p r)))

unfoldable pub heading_rule : Modules → ℕ → Scope → Option Formals → Rule Heading
heading_rule ms n s None = Given (heading_of no_parameters None)
heading_rule ms n s (Some f) = formals_rule ms n s f

-- ---- entering a procedure, which has this number among those of the module

abbrev pub entered_by : Scope → List ℕ → Bool → ℕ → Heading → Entered
entered_by s name mark number h = record {
  scope = entered (with_entry s name mark (entry.Procedure h.signature number)) name h.block;
  signature = h.signature;
}

-- a procedure of a name that is new
unfoldable pub new_procedure : Modules → ℕ → ℕ → Scope → Procedure → Rule Entered
new_procedure ms n number s p =
    Then (heading_rule ms n s (out-Procedure p).formals) (λ h.
    Given (entered_by s (out-Procedure p).name.name.name (has_mark (out-Procedure p).name) number h))

-- Its name is declared after its heading, and so it is visible in its own declarations and body.
unfoldable pub procedure_rule : Modules → ℕ → ℕ → Scope → Procedure → Rule Entered
procedure_rule ms n number s p =
    Needs (is_new (find s.block (out-Procedure p).name.name.name)) code.DeclaredTwice (new_procedure ms n number s p)
