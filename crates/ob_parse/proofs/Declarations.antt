-- Each reader of a declaration is exact for its production.
use Rattle.std.proofs.Common.{◌≡◌, ℕ, zero, suc, ◌<◌, Bool, true, false, cond, List, [], ◌∷◌, length, Option, Some, None, Err, refl, sym, ap, subst, ◌∙◌, arith}
use Rattle.std.specs.Str.{bytes_eq}
use Rattle.std.proofs.lemmas.Slice.Eq.{bytes_eq-Decides}
use Rattle.ob_base.specs.declared.fault.Code.TheVariants as codes
use Rattle.ob_scan.specs.declared.token.Kind.{Kind}
use Rattle.ob_scan.specs.declared.token.Kind.TheVariants as kinds
use Rattle.ob_scan.specs.declared.token.Span.{Span}
use Rattle.ob_scan.specs.declared.token.Symbol.TheVariants as s
use Rattle.ob_scan.specs.declared.token.Token.{Token}
use Rattle.ob_scan.specs.Symbols.{same_symbol}
use Rattle.ob_tree.specs.declared.tree.Ident.{Ident}
use Rattle.ob_tree.specs.declared.tree.Qualident.{Qualident}
use Rattle.ob_tree.specs.declared.tree.FormalType.{FormalType, out-FormalType, roll-FormalType, out-roll-FormalType, roll-out-FormalType}
use Rattle.ob_tree.specs.declared.tree.FormalType.TheOpen.{FormalType-F}
use Rattle.ob_tree.specs.declared.tree.FormalSection.{FormalSection}
use Rattle.ob_tree.specs.declared.tree.Formals.{Formals}
use Rattle.ob_tree.specs.declared.tree.ConstDeclaration.{ConstDeclaration}
use Rattle.ob_tree.specs.declared.tree.TypeDeclaration.{TypeDeclaration}
use Rattle.ob_tree.specs.declared.tree.TypedNames.{TypedNames}
use Rattle.ob_tree.specs.declared.tree.Returned.{Returned}
use Rattle.ob_tree.specs.Phrase as phrase
use Rattle.ob_tree.specs.Phrase.{Phrase, ◌⨾◌, symbol_at, symbol, each, maybe, separated, listed, optional, opens}
use Rattle.ob_tree.specs.Name.{qualident}
use Rattle.ob_tree.specs.Expression as ex
use Rattle.ob_tree.specs.Structure as structure
use Rattle.ob_tree.specs.Statement.{statements}
use Rattle.ob_tree.specs.Declaration as p
use Rattle.ob_tree.specs.Declaration.{FormalLayer}
use Rattle.ob_parse_expression.specs.Reading as reading
use Rattle.ob_parse_expression.specs.Reading.{Reader, ◌>>=◌, pure, eat, at_ident, many, if_ident}
use Rattle.ob_parse.specs.DeclarationReading as r
use Rattle.ob_parse_expression.specs.NameReading as names
use Rattle.ob_parse_expression.specs.ExpressionReading as exr
use Rattle.ob_parse.specs.StatementReading as statement
use Rattle.ob_parse_expression.proofs.Exact.{Exact, Anything, OrAbsent, IsAbsent, answer, answers, Seq, Is, Made, Either, exact_seq, exact_pure, exact_as, exact_maybe_as, exact_where, exact_made, exact_either, exact_where_some, absent_where, before_made, before_pure, exact_refuse}
use Rattle.ob_parse_expression.proofs.OneToken.{exact_expect, exact_eat, exact_opens, Opens, Ends, ends_by, Starts, absent_start, other_symbol, Closes, closes_at, closes_ends, absent_closing}
use Rattle.ob_parse_expression.proofs.Separated.{exact_separated}
use Rattle.ob_parse.proofs.Optional.{exact_optional, closed_list, exact_closed}
use Rattle.ob_parse_expression.proofs.Entries.{exact_entries}
use Rattle.ob_parse.proofs.Sections.{Later, later_at, later_by, absent_later, later_no_ident, later_closes}
use Rattle.ob_parse_expression.proofs.Expressions.{exact_expression, pred_of, some_levels}
use Rattle.ob_parse_expression.proofs.Names.{exact_ident_def, ident_def_at, no_mark, exact_idents, idents_start, exact_qualident, qualident_starts}
use Rattle.ob_parse.proofs.Structures.{exact_type_expr, exact_typed_names, names_of_at}
use Rattle.ob_parse.proofs.Statements.{exact_statements}

-- ---- types of formal parameters

module _ (levels : ℕ) (P : FormalType → Phrase) (R : Reader FormalType) (exact_inner : Exact P R (λ t. Ends 5)) where
  abbrev layer : FormalLayer → Phrase
  layer = p.formal_layer levels P

  abbrev named_read : FormalType → Phrase
  named_read = Seq qualident (λ q. Made out-FormalType (FormalType-F.Named q))

  abbrev open_read : Span → FormalType → Phrase
  open_read span = Seq (Opens levels) (λ n. Seq (symbol_at s.Of) (λ of. Seq P (λ e. Made out-FormalType (FormalType-F.Open span e))))

  abbrev formal_read : FormalType → Phrase
  formal_read = Seq (maybe (symbol_at s.Array)) (Either named_read open_read)

  array_follows : (found : Option Span) (t : FormalType) (middle rest : List Token) → Either named_read open_read found t middle rest → OrAbsent (eat s.Array) Anything found middle
  array_follows None t middle rest h = absent_start s.Array middle refl (record { first = omega (arith, (qualident_starts h.0 middle h.1 h.2).first) })
  array_follows (Some span) t middle rest h = tt

  formal_there : (found : Option Span) (t : FormalType) (tokens middle rest : List Token) → maybe (symbol_at s.Array) found tokens middle → Either named_read open_read found t middle rest → layer (out-FormalType t) tokens rest
  formal_there None t tokens middle rest k h =
      subst (λ ts. layer (out-FormalType t) ts rest) (sym k) (subst (λ l. layer l middle rest) (sym h.3.0) (subst (λ z. qualident h.0 middle z) h.3.1 h.2))
  formal_there (Some span) t tokens middle rest k h =
      subst (λ l. layer l tokens rest) (sym h.3.3.3.0)
      (middle, k, (h.1, (some_levels levels h.0 h.2.0, h.2.1), (h.3.1, (h.3.0, h.3.2), subst (λ z. P h.3.3.0 h.3.1 z) h.3.3.3.1 h.3.3.2)))

  formal_back : (t : FormalType) (l : FormalLayer) (tokens rest : List Token) → out-FormalType t ≡ l → layer l tokens rest → formal_read t tokens rest
  formal_back t (FormalType-F.Named q) tokens rest is h = (None, tokens, refl, (q, rest, h, (is, refl)))
  formal_back t (FormalType-F.Open span e) tokens rest is h =
      let n = pred_of levels h.2.1.0 in
      (Some span, h.0, h.1, (n.0, h.2.0, (n.1, h.2.1.1), (h.2.2.1.0, h.2.2.0, h.2.2.1.1, (e, rest, h.2.2.2, (is, refl)))))

  exact_formal_of : Exact (λ t. layer (out-FormalType t)) (r.formal_of levels R) (λ t. Ends 5)
  unfolding r.formal_of
  exact_formal_of = exact_as
      (exact_seq (exact_eat s.Array) (λ found. exact_either
      (exact_seq exact_qualident (λ q. exact_made out-FormalType roll-FormalType out-roll-FormalType roll-out-FormalType (FormalType-F.Named q)) (λ q c middle rest h g. before_made (Ends 5) out-FormalType (FormalType-F.Named q) c middle rest h g))
      (λ span. exact_seq (exact_opens levels) (λ n. exact_seq (exact_expect s.Of) (λ of. exact_seq exact_inner (λ e. exact_made out-FormalType roll-FormalType out-roll-FormalType roll-out-FormalType (FormalType-F.Open span e)) (λ e c middle rest h g. before_made (Ends 5) out-FormalType (FormalType-F.Open span e) c middle rest h g)) (λ of c middle rest h g. tt)) (λ n c middle rest h g. tt)) found)
      (λ found c middle rest h g. array_follows found c middle rest h))
      (λ t tokens rest h. formal_there h.0 t tokens h.1 rest h.2 h.3)
      (λ t tokens rest h. formal_back t (out-FormalType t) tokens rest refl h)

exact_inner_formal : (n : ℕ) → Exact (p.inner_formal n) (r.inner_formal n) (λ t. Ends 5)
exact_inner_formal zero = exact_refuse codes.Nesting
exact_inner_formal (suc n) = exact_formal_of n (p.inner_formal n) (r.inner_formal n) (exact_inner_formal n)

exact_formal_type : (levels : ℕ) → Exact (p.formal_type levels) (r.formal_type levels) (λ t. Ends 5)
exact_formal_type levels = exact_formal_of levels (p.inner_formal levels) (r.inner_formal levels) (exact_inner_formal levels)

-- ---- sections of formal parameters

var_follows : (found : Option Span) (tokens : List Token) → Starts 2 tokens → OrAbsent (eat s.Var) Anything found tokens
var_follows None tokens e = absent_start s.Var tokens refl (record { first = omega (arith, e.first) })
var_follows (Some span) tokens e = tt

exact_section : (levels : ℕ) → Exact (p.section levels) (r.section levels) (λ x. Ends 5)
unfolding r.section
exact_section levels = exact_as
    (exact_seq (exact_eat s.Var) (λ found. exact_seq exact_idents (λ xs. exact_seq (exact_expect s.Colon) (λ a. exact_seq (exact_formal_type levels) (λ t. exact_pure (record { by_reference = found; names = xs; of = t }))
    (λ t c middle rest h g. before_pure (Ends 5) (record { by_reference = found; names = xs; of = t }) c middle rest h g)) (λ a c middle rest h g. tt))
    (λ xs c middle rest h g. ends_by 0 s.Colon h.0 middle h.1 h.2 (omega arith)))
    (λ found c middle rest h g. var_follows found middle (idents_start h.0 middle h.1 h.2)))
    (λ x tokens rest h.
    let b = h.3.3.3 in
    subst (λ (y : FormalSection). p.section levels y tokens rest) (sym b.3.0)
    (h.1, h.2, (h.3.1, h.3.2, (h.3.3.1, (h.3.3.0, h.3.3.2), subst (λ z. p.formal_type levels b.0 h.3.3.1 z) b.3.1 b.2))))
    (λ x tokens rest h. (x.by_reference, h.0, h.1, (x.names, h.2.0, h.2.1, (h.2.2.1.0, h.2.2.0, h.2.2.1.1, (x.of, rest, h.2.2.2, (refl, refl))))))

-- what may follow the sections
record EndsSections (tokens : List Token) : Type 0 where
  pub no_more : IsAbsent (eat s.Semicolon) tokens
  pub loose : Ends 5 tokens

sections_at_close : (span : Span) (tokens rest : List Token) → symbol_at s.RightParen span tokens rest → EndsSections tokens
unfolding same_symbol
sections_at_close span tokens rest h = record {
  no_more = subst (IsAbsent (eat s.Semicolon)) (sym h) (other_symbol s.Semicolon s.RightParen span rest refl);
  loose = ends_by 5 s.RightParen span tokens rest h (omega arith);
}

exact_sections : (levels : ℕ) → Exact (separated s.Semicolon (p.section levels)) (reading.separated s.Semicolon (r.section levels)) (λ xs. EndsSections)
exact_sections levels = exact_separated s.Semicolon (p.section levels) (r.section levels) (Ends 5) EndsSections (exact_section levels)
    (λ span tokens rest h. ends_by 5 s.Semicolon span tokens rest h (omega arith))
    (λ tokens e. e.no_more)
    (λ tokens e. e.loose)

section_start : (found : Option Span) (xs : List Ident) (tokens middle rest : List Token) → maybe (symbol_at s.Var) found tokens middle → separated s.Comma phrase.ident xs middle rest → IsAbsent (eat s.RightParen) tokens
unfolding same_symbol
section_start None xs tokens middle rest k h = subst (IsAbsent (eat s.RightParen)) (sym k) (absent_start s.RightParen middle refl (record { first = omega (arith, (idents_start xs middle rest h).first) }))
section_start (Some span) xs tokens middle rest k h = subst (IsAbsent (eat s.RightParen)) (sym k) (other_symbol s.RightParen s.Var span middle refl)

sections_start : (levels : ℕ) (xs : List FormalSection) (tokens rest : List Token) → separated s.Semicolon (p.section levels) xs tokens rest → IsAbsent (eat s.RightParen) tokens
sections_start levels [] tokens rest h = absurd h
sections_start levels (x ∷ xs) tokens rest h = section_start x.by_reference x.names tokens h.1.0 h.1.2.0 h.1.1 h.1.2.1

exact_closed_sections : (levels : ℕ) → Exact (closed_list s.RightParen s.Semicolon (p.section levels)) (reading.closed_by s.RightParen (reading.separated s.Semicolon (r.section levels))) Anything
exact_closed_sections levels = exact_closed s.RightParen s.Semicolon (p.section levels) (reading.separated s.Semicolon (r.section levels)) EndsSections (exact_sections levels) sections_at_close (sections_start levels)

-- ---- headings

abbrev to_result : Qualident → Phrase
to_result q = symbol s.Colon ⨾ qualident q

exact_result_type : Exact (maybe to_result) r.result_type (OrAbsent r.result_type (λ q. Ends 5))
unfolding r.result_type
exact_result_type = exact_maybe_as (exact_where_some (exact_eat s.Colon) (λ a. exact_qualident)) (λ q tokens rest h. (h.1, (h.0, h.2), h.3)) (λ q tokens rest h. (h.1.0, h.0, h.1.1, h.2))

result_follows : (x : Option Qualident) (tokens : List Token) → Closes 1 tokens → OrAbsent r.result_type (λ q. Ends 5) x tokens
unfolding r.result_type
result_follows None tokens e = absent_where (eat s.Colon) (λ _. names.qualident) tokens (absent_closing s.Colon 1 tokens (omega arith) e)
result_follows (Some q) tokens e = closes_ends 5 tokens e

abbrev behind_paren : ℕ → Formals → Phrase
behind_paren levels f = listed s.Semicolon (p.section levels) f.sections ⨾ symbol s.RightParen ⨾ maybe to_result f.result

exact_formals_of : (levels : ℕ) → Exact (behind_paren levels) (r.formals_of levels) (λ f. Closes 1)
unfolding r.formals_of
exact_formals_of levels = exact_as
    (exact_seq (exact_closed_sections levels) (λ xs. exact_seq exact_result_type (λ q. exact_pure (record { sections = xs; result = q })) (λ q c middle rest h g. result_follows q middle (before_pure (Closes 1) (record { sections = xs; result = q }) c middle rest h g))) (λ xs c middle rest h g. tt))
    (λ f tokens rest h. subst (λ (y : Formals). behind_paren levels y tokens rest) (sym h.3.3.0) (h.2.0, h.2.1, (h.1, h.2.2, subst (λ z. maybe to_result h.3.0 h.1 z) h.3.3.1 h.3.2)))
    (λ f tokens rest h. (f.sections, h.2.0, (h.0, h.1, h.2.1), (f.result, rest, h.2.2, (refl, refl))))

pub exact_formals : (levels : ℕ) → Exact (maybe (p.formals levels)) (r.formals levels) (OrAbsent (r.formals levels) (λ f. Closes 1))
unfolding r.formals
exact_formals levels = exact_maybe_as (exact_where_some (exact_eat s.LeftParen) (λ a. exact_formals_of levels)) (λ f tokens rest h. (h.1, (h.0, h.2), h.3)) (λ f tokens rest h. (h.1.0, h.0, h.1.1, h.2))

pub formals_follow : (levels : ℕ) (x : Option Formals) (tokens : List Token) → Closes 1 tokens → OrAbsent (r.formals levels) (λ f. Closes 1) x tokens
unfolding r.formals
formals_follow levels None tokens e = absent_where (eat s.LeftParen) (λ _. r.formals_of levels) tokens (absent_closing s.LeftParen 1 tokens (omega arith) e)
formals_follow levels (Some f) tokens e = e

no_mark_at_paren : (span : Span) (tokens rest : List Token) → symbol_at s.LeftParen span tokens rest → IsAbsent (eat s.Times) tokens
unfolding same_symbol
no_mark_at_paren span tokens rest h = subst (IsAbsent (eat s.Times)) (sym h) (other_symbol s.Times s.LeftParen span rest refl)

pub heading_follows : (levels : ℕ) (x : Option Formals) (tokens rest : List Token) → maybe (p.formals levels) x tokens rest → Closes 1 rest → IsAbsent (eat s.Times) tokens
heading_follows levels None tokens rest h e = no_mark tokens (closes_ends 3 tokens (subst (Closes 1) (sym h) e))
heading_follows levels (Some f) tokens rest h e = no_mark_at_paren h.1.0 tokens h.0 h.1.1

-- ---- constants, types, variables

exact_const : (levels : ℕ) → Exact (p.const_declaration levels) (r.const_declaration levels) Anything
unfolding r.const_declaration
exact_const levels = exact_as
    (exact_seq exact_ident_def (λ name. exact_seq (exact_expect s.Equal) (λ a. exact_seq (exact_expression levels) (λ value. exact_seq (exact_expect s.Semicolon) (λ b. exact_pure (record { name = name; value = value })) (λ b c middle rest h g. tt)) (λ value c middle rest h g. ends_by 1 s.Semicolon h.0 middle h.1 h.2 (omega arith))) (λ a c middle rest h g. tt))
    (λ name c middle rest h g. no_mark middle (ends_by 3 s.Equal h.0 middle h.1 h.2 (omega arith))))
    (λ x tokens rest h.
    let d = h.3.3.3 in
    subst (λ (y : ConstDeclaration). p.const_declaration levels y tokens rest) (sym d.3.0)
    (h.1, h.2, (h.3.1, (h.3.0, h.3.2), (h.3.3.1, h.3.3.2, (d.0, subst (λ z. symbol_at s.Semicolon d.0 h.3.3.1 z) d.3.1 d.2)))))
    (λ x tokens rest h. (x.name, h.0, h.1, (h.2.1.0, h.2.0, h.2.1.1, (x.value, h.2.2.0, h.2.2.1, (h.2.2.2.0, rest, h.2.2.2.1, (refl, refl))))))

exact_type_declaration : (levels : ℕ) → Exact (p.type_declaration levels) (r.type_declaration levels) Anything
unfolding r.type_declaration
exact_type_declaration levels = exact_as
    (exact_seq exact_ident_def (λ name. exact_seq (exact_expect s.Equal) (λ a. exact_seq (exact_type_expr levels) (λ t. exact_seq (exact_expect s.Semicolon) (λ b. exact_pure (record { name = name; of = t })) (λ b c middle rest h g. tt)) (λ t c middle rest h g. ends_by 5 s.Semicolon h.0 middle h.1 h.2 (omega arith))) (λ a c middle rest h g. tt))
    (λ name c middle rest h g. no_mark middle (ends_by 3 s.Equal h.0 middle h.1 h.2 (omega arith))))
    (λ x tokens rest h.
    let d = h.3.3.3 in
    subst (λ (y : TypeDeclaration). p.type_declaration levels y tokens rest) (sym d.3.0)
    (h.1, h.2, (h.3.1, (h.3.0, h.3.2), (h.3.3.1, h.3.3.2, (d.0, subst (λ z. symbol_at s.Semicolon d.0 h.3.3.1 z) d.3.1 d.2)))))
    (λ x tokens rest h. (x.name, h.0, h.1, (h.2.1.0, h.2.0, h.2.1.1, (x.of, h.2.2.0, h.2.2.1, (h.2.2.2.0, rest, h.2.2.2.1, (refl, refl))))))

exact_variables : (levels : ℕ) → Exact (p.variables levels) (r.variables levels) Anything
unfolding r.variables
exact_variables levels = exact_as
    (exact_seq (exact_typed_names levels) (λ x. exact_seq (exact_expect s.Semicolon) (λ b. exact_pure x) (λ b c middle rest h g. tt)) (λ x c middle rest h g. ends_by 5 s.Semicolon h.0 middle h.1 h.2 (omega arith)))
    (λ x tokens rest h. subst (λ (y : TypedNames). p.variables levels y tokens rest) (sym h.3.3.0) (h.1, h.2, (h.3.0, subst (λ z. symbol_at s.Semicolon h.3.0 h.1 z) h.3.3.1 h.3.2)))
    (λ x tokens rest h. (x, h.0, h.1, (h.2.0, rest, h.2.1, (refl, refl))))

const_takes : (levels : ℕ) (x : ConstDeclaration) (tokens rest : List Token) → p.const_declaration levels x tokens rest → length rest < length tokens
const_takes levels x tokens rest h = omega (arith, exact_ident_def.shorter x.name tokens h.0 h.1, ap length h.2.1.1, (exact_expression levels).shorter x.value h.2.0 h.2.2.0 h.2.2.1, ap length h.2.2.2.1)

type_takes : (levels : ℕ) (x : TypeDeclaration) (tokens rest : List Token) → p.type_declaration levels x tokens rest → length rest < length tokens
type_takes levels x tokens rest h = omega (arith, exact_ident_def.shorter x.name tokens h.0 h.1, ap length h.2.1.1, (exact_type_expr levels).shorter x.of h.2.0 h.2.2.0 h.2.2.1, ap length h.2.2.2.1)

variables_take : (levels : ℕ) (x : TypedNames) (tokens rest : List Token) → p.variables levels x tokens rest → length rest < length tokens
variables_take levels x tokens rest h = omega (arith, (exact_typed_names levels).shorter x tokens h.0 h.1, ap length h.2.1)

pub exact_constants : (levels : ℕ) → Exact (optional s.Const (each (p.const_declaration levels))) (reading.optional s.Const (many (if_ident (r.const_declaration levels)))) (λ xs. Later 3)
exact_constants levels = exact_optional s.Const (each (p.const_declaration levels)) (many (if_ident (r.const_declaration levels))) (Later 3)
    (exact_entries (p.const_declaration levels) (r.const_declaration levels) (λ ts. Unit {0}) (Later 3) (exact_const levels)
    (λ x tokens rest h. ident_def_at x.name tokens h.0 h.1) (const_takes levels) (λ x tokens rest h. tt) (λ tokens e. later_no_ident tokens (later_at 3 1 tokens e (omega arith))) (λ tokens e. tt))
    (λ tokens e. absent_later s.Const 3 tokens (omega arith) e)

pub exact_types : (levels : ℕ) → Exact (optional s.Type (each (p.type_declaration levels))) (reading.optional s.Type (many (if_ident (r.type_declaration levels)))) (λ xs. Later 4)
exact_types levels = exact_optional s.Type (each (p.type_declaration levels)) (many (if_ident (r.type_declaration levels))) (Later 4)
    (exact_entries (p.type_declaration levels) (r.type_declaration levels) (λ ts. Unit {0}) (Later 4) (exact_type_declaration levels)
    (λ x tokens rest h. ident_def_at x.name tokens h.0 h.1) (type_takes levels) (λ x tokens rest h. tt) (λ tokens e. later_no_ident tokens (later_at 4 1 tokens e (omega arith))) (λ tokens e. tt))
    (λ tokens e. absent_later s.Type 4 tokens (omega arith) e)

pub exact_vars : (levels : ℕ) → Exact (optional s.Var (each (p.variables levels))) (reading.optional s.Var (many (if_ident (r.variables levels)))) (λ xs. Later 5)
exact_vars levels = exact_optional s.Var (each (p.variables levels)) (many (if_ident (r.variables levels))) (Later 5)
    (exact_entries (p.variables levels) (r.variables levels) (λ ts. Unit {0}) (Later 5) (exact_variables levels)
    (λ x tokens rest h. names_of_at (structure.type_expr levels) x tokens h.0 h.1) (variables_take levels) (λ x tokens rest h. tt) (λ tokens e. later_no_ident tokens (later_at 5 1 tokens e (omega arith))) (λ tokens e. tt))
    (λ tokens e. absent_later s.Var 5 tokens (omega arith) e)

-- ---- the ends of a block

pub exact_body : (levels : ℕ) → Exact (optional s.Begin (statements levels)) (reading.optional s.Begin (statement.statements levels)) (λ b. Later 7)
exact_body levels = exact_optional s.Begin (statements levels) (statement.statements levels) (Later 7)
    (exact_where (exact_statements levels) (λ b tokens rest h e. closes_at 4 2 rest (later_closes rest e) (omega arith)))
    (λ tokens e. absent_later s.Begin 7 tokens (omega arith) e)

returned_there : (levels : ℕ) (x : Returned) (tokens rest : List Token) → Seq (symbol_at s.Return) (λ span. Seq (ex.expr levels) (λ value. Is (record { span = span; value = value }))) x tokens rest → p.returned levels x tokens rest
returned_there levels x tokens rest h = subst (λ (y : Returned). p.returned levels y tokens rest) (sym h.3.3.0) (h.1, h.2, subst (λ z. ex.expr levels h.3.0 h.1 z) h.3.3.1 h.3.2)

pub exact_returned : (levels : ℕ) → Exact (maybe (p.returned levels)) (r.returned levels) (OrAbsent (r.returned levels) (λ x. Later 8))
unfolding r.returned
exact_returned levels = exact_maybe_as
    (exact_where_some (exact_eat s.Return) (λ span. exact_seq (exact_expression levels) (λ value. exact_pure (record { span = span; value = value })) (λ value c middle rest h g. closes_ends 1 middle (closes_at 4 1 middle (later_closes middle (later_at 8 7 middle (before_pure (Later 8) (record { span = span; value = value }) c middle rest h g) (omega arith))) (omega arith)))))
    (returned_there levels)
    (λ x tokens rest h. (x.span, h.0, h.1, (x.value, rest, h.2, (refl, refl))))

pub returned_follows : (levels : ℕ) (x : Option Returned) (tokens : List Token) → Later 8 tokens → OrAbsent (r.returned levels) (λ y. Later 8) x tokens
unfolding r.returned
returned_follows levels None tokens e = absent_where (eat s.Return) (λ span. exr.expr levels >>= (λ value. pure (record { span = span; value = value }))) tokens (absent_later s.Return 8 tokens (omega arith) e)
returned_follows levels (Some x) tokens e = e

pub body_follows : (levels : ℕ) (x : Option Returned) (tokens rest : List Token) → maybe (p.returned levels) x tokens rest → Later 8 rest → Later 7 tokens
body_follows levels None tokens rest h e = later_at 8 7 tokens (subst (Later 8) (sym h) e) (omega arith)
body_follows levels (Some x) tokens rest h e = later_by 7 s.Return x.span tokens h.0 h.1 (omega arith)

-- ---- the name after END

abbrev pub Again : List ℕ → Unit {0} → Phrase
Again name u = p.name_again name

chosen_name : (found name : List ℕ) (span : Span) (b : Bool) (u : Unit {0}) (ts rest : List Token) → bytes_eq found name ≡ b → cond b (answer tt ts) (Err codes.EndName) ≡ answer u rest → p.name_again name (record { kind = kinds.Ident found; span = span } ∷ ts) rest
chosen_name found name span true u ts rest is e =
    let b = answers tt u ts rest e in
    let same : found ≡ name = (bytes_eq-Decides found name).0 is in
    (span, ap (λ (n : List ℕ). record { kind = kinds.Ident n; span = span } ∷ ts) same ∙ ap (λ r. record { kind = kinds.Ident name; span = span } ∷ r) b.1)
chosen_name found name span false u ts rest is e = absurd cc

name_by_sound : (name : List ℕ) (k : Kind) (span : Span) (u : Unit {0}) (ts rest : List Token) → r.name_by name k ts ≡ answer u rest → p.name_again name (record { kind = k; span = span } ∷ ts) rest
name_by_sound name (kinds.Ident found) span u ts rest e = chosen_name found name span (bytes_eq found name) u ts rest refl e
name_by_sound name (kinds.Integer n) span u ts rest e = absurd cc
name_by_sound name (kinds.Text n) span u ts rest e = absurd cc
name_by_sound name (kinds.Symbol n) span u ts rest e = absurd cc

name_sound : (name : List ℕ) (u : Unit {0}) (tokens rest : List Token) → r.name_again name tokens ≡ answer u rest → p.name_again name tokens rest
unfolding r.name_again
name_sound name u [] rest e = absurd cc
name_sound name u (t ∷ ts) rest e = name_by_sound name t.kind t.span u ts rest e

name_made : (name : List ℕ) (span : Span) (rest : List Token) → r.name_again name (record { kind = kinds.Ident name; span = span } ∷ rest) ≡ answer tt rest
unfolding r.name_again
name_made name span rest = ap (λ b. cond b (answer tt rest) (Err codes.EndName)) ((bytes_eq-Decides name name).1 refl)

pub exact_name : (name : List ℕ) → Exact (Again name) (r.name_again name) Anything
exact_name name = record {
  sound = name_sound name;
  complete = λ u tokens rest h g. ap (r.name_again name) h.1 ∙ name_made name h.0 rest;
  shorter = λ u tokens rest h. omega (arith, ap length h.1);
}
