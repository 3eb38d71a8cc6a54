-- Reading declarations.
use Rattle.std.specs.Prelude.{ℕ, zero, suc, List, [], ◌∷◌, Option, Ok, Err, if◌then◌else◌}
use Rattle.std.specs.Str.{bytes_eq}
use Rattle.ob_base.specs.declared.fault.Code.TheVariants as codes
use Rattle.ob_scan.specs.declared.token.Kind.{Kind}
use Rattle.ob_scan.specs.declared.token.Kind.TheVariants as kinds
use Rattle.ob_scan.specs.declared.token.Symbol.TheVariants as s
use Rattle.ob_scan.specs.declared.token.Token.{Token}
use Rattle.ob_tree.specs.declared.tree.Qualident.{Qualident}
use Rattle.ob_tree.specs.declared.tree.FormalType.{FormalType, roll-FormalType}
use Rattle.ob_tree.specs.declared.tree.FormalType.TheOpen.{FormalType-F}
use Rattle.ob_tree.specs.declared.tree.FormalSection.{FormalSection}
use Rattle.ob_tree.specs.declared.tree.Formals.{Formals}
use Rattle.ob_tree.specs.declared.tree.ConstDeclaration.{ConstDeclaration}
use Rattle.ob_tree.specs.declared.tree.TypeDeclaration.{TypeDeclaration}
use Rattle.ob_tree.specs.declared.tree.TypedNames.{TypedNames}
use Rattle.ob_tree.specs.declared.tree.Declarations.{Declarations, roll-Declarations}
use Rattle.ob_tree.specs.declared.tree.Procedure.{Procedure, roll-Procedure}
use Rattle.ob_tree.specs.declared.tree.Returned.{Returned}
use Rattle.ob_parse_expression.specs.Reading.{Outcome, Reader, ◌>>=◌, ◌>>◌, pure, refuse, eat, expect, ident, opens, many, where_some, not_there, separated, optional, closed_by, if_ident}
use Rattle.ob_parse_expression.specs.NameReading.{ident_def, qualident}
use Rattle.ob_parse_expression.specs.ExpressionReading as expression
use Rattle.ob_parse.specs.StructureReading.{type_expr, typed_names}
use Rattle.ob_parse.specs.StatementReading.{statements}

-- ---- formal parameters

unfoldable pub formal_of : ℕ → Reader FormalType → Reader FormalType
formal_of levels inner = do
  array ← eat s.Array
  not_there array (do
    q ← qualident
    pure (roll-FormalType (FormalType-F.Named q))) (λ span. do
      opens levels
      expect s.Of
      element ← inner
      pure (roll-FormalType (FormalType-F.Open span element)))

abbrev pub inner_formal : ℕ → Reader FormalType
inner_formal zero = refuse codes.Nesting
inner_formal (suc n) = formal_of n (inner_formal n)

abbrev pub formal_type : ℕ → Reader FormalType
formal_type levels = formal_of levels (inner_formal levels)

unfoldable pub section : ℕ → Reader FormalSection
section levels = do
  by_reference ← eat s.Var
  names ← separated s.Comma ident
  expect s.Colon
  of ← formal_type levels
  pure (record { by_reference = by_reference; names = names; of = of })

-- the type after a colon, if a colon comes
unfoldable pub result_type : Reader (Option Qualident)
result_type = eat s.Colon >>= where_some (λ _. qualident)

-- what stands after the opening parenthesis
unfoldable pub formals_of : ℕ → Reader Formals
formals_of levels = do
  sections ← closed_by s.RightParen (separated s.Semicolon (section levels))
  result ← result_type
  pure (record { sections = sections; result = result })

unfoldable pub formals : ℕ → Reader (Option Formals)
formals levels = eat s.LeftParen >>= where_some (λ _. formals_of levels)

-- ---- declarations

unfoldable pub const_declaration : ℕ → Reader ConstDeclaration
const_declaration levels = do
  name ← ident_def
  expect s.Equal
  value ← expression.expr levels
  expect s.Semicolon
  pure (record { name = name; value = value })

unfoldable pub type_declaration : ℕ → Reader TypeDeclaration
type_declaration levels = do
  name ← ident_def
  expect s.Equal
  of ← type_expr levels
  expect s.Semicolon
  pure (record { name = name; of = of })

unfoldable pub variables : ℕ → Reader TypedNames
variables levels = do
  names ← typed_names levels
  expect s.Semicolon
  pure names

unfoldable pub returned : ℕ → Reader (Option Returned)
returned levels = eat s.Return >>= where_some (λ span. do
  value ← expression.expr levels
  pure (record { span = span; value = value }))

abbrev pub name_by : List ℕ → Kind → List Token → Outcome (Unit {0})
name_by name (kinds.Ident found) ts = if bytes_eq found name then Ok (tt, ts) else Err codes.EndName
name_by name _ ts = Err codes.Token

unfoldable pub name_again : List ℕ → Reader (Unit {0})
name_again name [] = Err codes.Token
name_again name (t ∷ ts) = name_by name t.kind ts

module _ (levels : ℕ) (inner : Reader Procedure) where
  -- what stands after PROCEDURE, and the semicolon after it
  unfoldable pub procedure_part : Reader Procedure
  procedure_part = do
    opens levels
    p ← inner
    expect s.Semicolon
    pure p

  -- a procedure, if one comes next
  unfoldable pub next_procedure : Reader (Option Procedure)
  next_procedure = eat s.Procedure >>= where_some (λ _. procedure_part)

  unfoldable pub declarations_of : Reader Declarations
  declarations_of = do
    constants ← optional s.Const (many (if_ident (const_declaration levels)))
    types ← optional s.Type (many (if_ident (type_declaration levels)))
    vars ← optional s.Var (many (if_ident (variables levels)))
    procedures ← many next_procedure
    pure (roll-Declarations (record { constants = constants; types = types; variables = vars; procedures = procedures }))

  unfoldable pub procedure_of : Reader Procedure
  procedure_of = do
    name ← ident_def
    f ← formals levels
    expect s.Semicolon
    d ← declarations_of
    b ← optional s.Begin (statements levels)
    value ← returned levels
    expect s.End
    name_again name.name.name
    pure (roll-Procedure (record { name = name; formals = f; declarations = d; body = b; returned = value }))

abbrev pub inner_procedure : ℕ → Reader Procedure
inner_procedure zero = refuse codes.Nesting
inner_procedure (suc n) = procedure_of n (inner_procedure n)

abbrev pub declarations : ℕ → Reader Declarations
declarations levels = declarations_of levels (inner_procedure levels)
