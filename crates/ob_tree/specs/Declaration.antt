-- To be believed.
-- The grammar of declarations. The number says how many more constructs may nest in one.
use Rattle.std.specs.Prelude.{◌≡◌, ℕ, zero, suc, List, ◌∷◌}
use Rattle.ob_scan.specs.declared.token.Kind.TheVariants as kinds
use Rattle.ob_scan.specs.declared.token.Span.{Span}
use Rattle.ob_scan.specs.declared.token.Symbol.TheVariants as s
use Rattle.ob_tree.specs.declared.tree.FormalType.{FormalType, out-FormalType}
use Rattle.ob_tree.specs.declared.tree.FormalType.TheOpen.{FormalType-F}
use Rattle.ob_tree.specs.declared.tree.FormalSection.{FormalSection}
use Rattle.ob_tree.specs.declared.tree.Formals.{Formals}
use Rattle.ob_tree.specs.declared.tree.ConstDeclaration.{ConstDeclaration}
use Rattle.ob_tree.specs.declared.tree.TypeDeclaration.{TypeDeclaration}
use Rattle.ob_tree.specs.declared.tree.TypedNames.{TypedNames}
use Rattle.ob_tree.specs.declared.tree.Declarations.{Declarations, out-Declarations}
use Rattle.ob_tree.specs.declared.tree.Procedure.{Procedure, out-Procedure}
use Rattle.ob_tree.specs.declared.tree.Returned.{Returned}
use Rattle.ob_tree.specs.Phrase.{Phrase, ◌⨾◌, symbol_at, symbol, ident, each, maybe, separated, listed, optional, opens}
use Rattle.ob_tree.specs.Name.{ident_def, qualident}
use Rattle.ob_tree.specs.Expression as expression
use Rattle.ob_tree.specs.Structure.{type_expr, typed_names}
use Rattle.ob_tree.specs.Statement.{statements}

-- ---- formal parameters

abbrev pub FormalLayer : Type 0
FormalLayer = FormalType-F FormalType

-- {ARRAY OF} qualident
abbrev pub formal_layer : ℕ → (FormalType → Phrase) → FormalLayer → Phrase
formal_layer levels inner (FormalType-F.Named q) = qualident q
formal_layer levels inner (FormalType-F.Open span element) = symbol_at s.Array span ⨾ opens levels ⨾ symbol s.Of ⨾ inner element

abbrev pub inner_formal : ℕ → FormalType → Phrase
inner_formal zero t tokens rest = ⊥
inner_formal (suc n) t tokens rest = formal_layer n (inner_formal n) (out-FormalType t) tokens rest

abbrev pub formal_type : ℕ → FormalType → Phrase
formal_type levels t = formal_layer levels (inner_formal levels) (out-FormalType t)

-- [VAR] ident {"," ident} ":" formal type
abbrev pub section : ℕ → FormalSection → Phrase
section levels x = maybe (symbol_at s.Var) x.by_reference ⨾ separated s.Comma ident x.names ⨾ symbol s.Colon ⨾ formal_type levels x.of

-- "(" [section {";" section}] ")" [":" qualident]
abbrev pub formals : ℕ → Formals → Phrase
formals levels f = symbol s.LeftParen ⨾ listed s.Semicolon (section levels) f.sections ⨾ symbol s.RightParen ⨾ maybe (λ q. symbol s.Colon ⨾ qualident q) f.result

-- ---- declarations

-- identdef "=" expr ";"
abbrev pub const_declaration : ℕ → ConstDeclaration → Phrase
const_declaration levels c = ident_def c.name ⨾ symbol s.Equal ⨾ expression.expr levels c.value ⨾ symbol s.Semicolon

-- identdef "=" type ";"
abbrev pub type_declaration : ℕ → TypeDeclaration → Phrase
type_declaration levels t = ident_def t.name ⨾ symbol s.Equal ⨾ type_expr levels t.of ⨾ symbol s.Semicolon

-- IdentList ":" type ";"
abbrev pub variables : ℕ → TypedNames → Phrase
variables levels t = typed_names levels t ⨾ symbol s.Semicolon

-- RETURN expr
abbrev pub returned : ℕ → Returned → Phrase
returned levels x = symbol_at s.Return x.span ⨾ expression.expr levels x.value

-- a name that is written again, anywhere
abbrev pub name_again : List ℕ → Phrase
name_again name tokens rest = (span : Span) × (tokens ≡ record { kind = kinds.Ident name; span = span } ∷ rest)

module _ (levels : ℕ) (inner : Procedure → Phrase) where
  -- PROCEDURE, the rest of a procedure, ";"
  abbrev pub procedure_part : Procedure → Phrase
  procedure_part p = symbol s.Procedure ⨾ opens levels ⨾ inner p ⨾ symbol s.Semicolon

  abbrev pub declarations_phrase : Declarations → Phrase
  declarations_phrase d = optional s.Const (each (const_declaration levels)) (out-Declarations d).constants
      ⨾ optional s.Type (each (type_declaration levels)) (out-Declarations d).types
      ⨾ optional s.Var (each (variables levels)) (out-Declarations d).variables
      ⨾ each procedure_part (out-Declarations d).procedures

  -- what stands after PROCEDURE
  abbrev pub procedure_phrase : Procedure → Phrase
  procedure_phrase p = ident_def (out-Procedure p).name ⨾ maybe (formals levels) (out-Procedure p).formals ⨾ symbol s.Semicolon
      ⨾ declarations_phrase (out-Procedure p).declarations ⨾ optional s.Begin (statements levels) (out-Procedure p).body
      ⨾ maybe (returned levels) (out-Procedure p).returned ⨾ symbol s.End ⨾ name_again (out-Procedure p).name.name.name

-- a procedure inside one more construct, from after its word
abbrev pub inner_procedure : ℕ → Procedure → Phrase
inner_procedure zero p tokens rest = ⊥
inner_procedure (suc n) p tokens rest = procedure_phrase n (inner_procedure n) p tokens rest

abbrev pub declarations : ℕ → Declarations → Phrase
declarations levels = declarations_phrase levels (inner_procedure levels)
