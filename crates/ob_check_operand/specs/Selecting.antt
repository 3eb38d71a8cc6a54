-- To be believed.
-- Parts of variables: fields of records and of their bases, elements of arrays, and guards (Wirth, The Programming Language Oberon,
-- Oberon-07). Another module sees the exported fields alone.
use Rattle.std.specs.Prelude.{ℕ, ◌+◌, List, [], ◌∷◌, Bool, true, false, ◌||◌, Option, Some, None, option_map, if◌then◌else◌}
use Rattle.std.specs.Str.{bytes_eq}
use Rattle.ob_check_scope.specs.declared.rule.RuleCode.{RuleCode}
use Rattle.ob_check_scope.specs.declared.rule.RuleCode.TheVariants as code
use Rattle.ob_tree.specs.declared.tree.Expr.{Expr}
use Rattle.ob_tree.specs.declared.tree.Qualident.{Qualident}
use Rattle.ob_tree.specs.declared.tree.Selector.{Selector, out-Selector}
use Rattle.ob_tree.specs.declared.tree.Factor.TheOpen.{Selector-F}
use Rattle.ob_tree.specs.FirstToken.{first_of}
use Rattle.ob_types.specs.declared.structure.Field.{Field}
use Rattle.ob_types.specs.declared.structure.RecordType.{RecordType, out-RecordType}
use Rattle.ob_types.specs.declared.structure.ObType.{ObType, out-ObType}
use Rattle.ob_types.specs.declared.structure.ObType.TheOpen.{ObType-F}
use Rattle.ob_types.specs.Types.{same, chain}
use Rattle.ob_mean.specs.declared.expression.Designator.{Designator}
use Rattle.ob_mean.specs.declared.expression.Designator.TheVariants as designator
use Rattle.ob_mean.specs.declared.expression.TypedExpr.TheVariants as typed
use Rattle.ob_types.specs.declared.structure.Basic.TheVariants as basic
use Rattle.ob_check_scope.specs.declared.scope.Scope.{Scope}
use Rattle.ob_check_const.specs.Constants.{SelectorLayer}
use Rattle.ob_check_const.specs.NamedTypes.{is_record, type_named}
use Rattle.ob_check_kinds.specs.Kinds.{names_of, kind_of, levels_to}
use Rattle.ob_check_scope.specs.Exports.{Modules}
use Rattle.ob_check_scope.specs.Rule.{Rule, Given, Breaks, Then, Needs, there, through}
use Rattle.ob_check_operand.specs.declared.operand.Operand.{Operand}
use Rattle.ob_check_operand.specs.declared.operand.Operand.TheVariants as operand
use Rattle.ob_check_operand.specs.Operands.{TypeLayer, Variables, number_of}

-- ---- fields

-- the field of a name, with its number, counted from a number
abbrev pub field_from : ℕ → List Field → List ℕ → Option (ℕ × Field)
field_from n [] name = None
field_from n (f ∷ fs) name = if bytes_eq f.name name then Some (n, f) else field_from (n + 1) fs name

-- what is broken where a record has no such field: its own module would see it
abbrev pub no_field : Bool → RuleCode
no_field true = code.UnknownName
no_field false = code.NotExported

-- a field that is found: the module of its record, the field, and its place
abbrev pub FoundField : Type 0
FoundField = List ℕ × Field × Designator

-- a field of the record itself, with its number
abbrev pub own_layer : TypeLayer → List ℕ → Option (List ℕ × ℕ × Field)
own_layer (ObType-F.Basic b) name = None
own_layer (ObType-F.Array n e) name = None
own_layer (ObType-F.Open e) name = None
own_layer (ObType-F.Record r) name =
    option_map (λ (p : ℕ × Field). ((out-RecordType r).name.module_name, p.0, p.1)) (field_from 0 (out-RecordType r).fields name)

abbrev pub nearest : Designator → Option (List ℕ × ℕ × Field) → Option FoundField → Option FoundField
nearest d None other = other
nearest d (Some p) other = Some (p.0, p.2, designator.Field d p.1)

-- the field of a name in a record or its bases: the base of a variable is its first field
abbrev pub field_along : List ObType → List ℕ → Designator → Option FoundField
field_along [] name d = None
field_along (t ∷ ts) name d = nearest d (own_layer (out-ObType t) name) (field_along ts name (designator.Field d 0))

-- a field, of a record of this module or of another: where there is none, by the record that was asked
unfoldable pub seen_field : List ℕ → Bool → Option FoundField → Rule (ObType × Designator)
seen_field home own None = Breaks (no_field own)
seen_field home own (Some f) = Needs (bytes_eq f.0 home || f.1.exported) code.NotExported (Given (f.1.of, f.2))

abbrev pub field_layer : Scope → ObType → List ℕ → Designator → TypeLayer → Rule (ObType × Designator)
field_layer s t name d (ObType-F.Basic b) = Breaks code.Types
field_layer s t name d (ObType-F.Array n e) = Breaks code.Types
field_layer s t name d (ObType-F.Open e) = Breaks code.Types
field_layer s t name d (ObType-F.Record r) =
    seen_field s.module_name (bytes_eq (out-RecordType r).name.module_name s.module_name) (field_along (chain t) name d)

-- the field of a name: its type and its place
unfoldable pub field_of : Scope → ObType → List ℕ → Designator → Rule (ObType × Designator)
field_of s t name d = field_layer s t name d (out-ObType t)

-- ---- bases

-- the part of a variable that is of the first type: itself, or the base of it, and so on
abbrev pub part_along : ObType → List ObType → Designator → Option Designator
part_along to [] d = None
part_along to (t ∷ ts) d = if same to t then Some d else part_along to ts (designator.Field d 0)

abbrev pub part_as : ObType → ObType → Designator → Option Designator
part_as to t d = part_along to (chain t) d

-- ---- elements

abbrev pub element_layer : TypeLayer → Option ObType
element_layer (ObType-F.Basic b) = None
element_layer (ObType-F.Array n e) = Some e
element_layer (ObType-F.Open e) = Some e
element_layer (ObType-F.Record r) = None

-- the type of the elements of an array
abbrev pub element_of : ObType → Option ObType
element_of t = element_layer (out-ObType t)

-- ---- selectors, from left to right

-- a part, with its type, the strings so far, and whether a type is told of it
abbrev pub Selected : Type 0
Selected = ObType × Designator × Variables × Bool

-- The record type that a guard or a test names, and how many bases down from it the type stands that is asked: that type itself,
-- or an extension of it.
unfoldable pub extension_named : Modules → Scope → ObType → Qualident → Rule (ObType × ℕ)
extension_named ms s of q =
    Then (type_named ms s q) (λ t.
    Needs (is_record t) code.Types (
    Then (there (levels_to of t) code.Types) (λ levels. Given (t, levels))))

-- What is guarded, of which a type has to be told: it is a record of the type that the guard names. A trap names the line of that
-- name.
unfoldable pub guarded : Modules → Scope → Selected → Qualident → Rule Selected
guarded ms s at q =
    Then (extension_named ms s at.0 q) (λ t.
    Needs at.3 code.Types (
    Given (t.0, designator.Guarded at.1 q.first.span.line (kind_of t.0) t.1, at.2, true)))

-- A test, of what a type has to be told too: whether what it names is of the named type or of one that extends that.
unfoldable pub tested : Modules → Scope → Selected → Qualident → Rule (Operand × Variables)
tested ms s at q =
    Needs at.3 code.Types (
    Then (extension_named ms s at.0 q) (λ t. Given (operand.Value basic.Boolean (typed.Test at.1 (names_of t.0)), at.2)))

module _ (inner : Variables → Expr → Rule (Operand × Variables)) where
  -- one index, a number: a trap names the line of its first token
  unfoldable pub indexed : Selected → Expr → Rule Selected
  indexed at e =
      Then (there (element_of at.0) code.Types) (λ t.
      Then (inner at.2 e) (λ v.
      Then (there (number_of v.0) code.Types) (λ i.
      Given (t, designator.Element at.1 (first_of e).line i, v.1, false))))

  -- `a[i, j]` is `a[i][j]`
  abbrev pub selector_layer : Modules → Scope → Selected → SelectorLayer → Rule Selected
  selector_layer ms s at (Selector-F.Field f) = Then (field_of s at.0 f.name at.1) (λ p. Given (p.0, p.1, at.2, false))
  selector_layer ms s at (Selector-F.Index es) = through indexed at es
  selector_layer ms s at (Selector-F.Guard q) = guarded ms s at q

  unfoldable pub selected : Modules → Scope → Selected → Selector → Rule Selected
  selected ms s at x = selector_layer ms s at (out-Selector x)
