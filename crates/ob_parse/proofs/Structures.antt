-- Each reader of a type is exact for its production.
use Rattle.std.proofs.Common.{◌≡◌, ℕ, zero, suc, ◌≤◌, Bool, true, false, cond, List, [], ◌∷◌, length, Option, Some, None, refl, sym, ap, subst, ◌∙◌, arith}
use Rattle.ob_base.specs.declared.fault.Code.TheVariants as codes
use Rattle.ob_scan.specs.declared.token.Kind.{Kind}
use Rattle.ob_scan.specs.declared.token.Kind.TheVariants as kinds
use Rattle.ob_scan.specs.declared.token.Span.{Span}
use Rattle.ob_scan.specs.declared.token.Symbol.TheVariants as s
use Rattle.ob_scan.specs.declared.token.Token.{Token}
use Rattle.ob_tree.specs.declared.tree.Qualident.{Qualident}
use Rattle.ob_tree.specs.declared.tree.TypeExpr.{TypeExpr, out-TypeExpr, roll-TypeExpr, out-roll-TypeExpr, roll-out-TypeExpr}
use Rattle.ob_tree.specs.declared.tree.TypedNames.{TypedNames, out-TypedNames, roll-TypedNames, out-roll-TypedNames, roll-out-TypedNames}
use Rattle.ob_tree.specs.declared.tree.TypeExpr.TheOpen.{TypeExpr-F, TypedNames-F}
use Rattle.ob_tree.specs.Phrase.{Phrase, ◌⨾◌, symbol_at, symbol, maybe, separated}
use Rattle.ob_tree.specs.Name.{ident_list, qualident}
use Rattle.ob_tree.specs.Expression as ex
use Rattle.ob_tree.specs.Structure as p
use Rattle.ob_tree.specs.Structure.{TypeLayer}
use Rattle.ob_parse_expression.specs.Reading as reading
use Rattle.ob_parse_expression.specs.Reading.{Reader, eat, at_ident}
use Rattle.ob_parse.specs.StructureReading as r
use Rattle.ob_parse_expression.proofs.Exact.{Exact, Anything, OrAbsent, IsAbsent, answer, Seq, Is, Made, exact_seq, exact_pure, exact_as, exact_maybe_as, exact_where_some, absent_where, exact_made, before_made, exact_refuse}
use Rattle.ob_parse_expression.proofs.OneToken.{exact_expect, exact_eat, exact_opens, Opens, Ends, ends_by, absent_eat, absent_start, Closes, closes_at, closes_by, closes_ends, absent_closing}
use Rattle.ob_tree.proofs.Tokens.{made}
use Rattle.ob_parse_expression.proofs.Separated.{exact_separated}
use Rattle.ob_parse.proofs.Optional.{closed_list, exact_closed}
use Rattle.ob_parse_expression.proofs.Expressions.{exact_exprs_in, pred_of, some_levels}
use Rattle.ob_parse_expression.proofs.Names.{exact_ident_list, ident_list_at, ident_list_starts, exact_qualident}

abbrev NamesLayer : Type 0
NamesLayer = TypedNames-F TypeExpr TypedNames

-- ---- names of one type

pub exact_names_of : (P : TypeExpr → Phrase) (R : Reader TypeExpr) → Exact P R (λ t. Ends 5) → Exact (p.names_of P) (r.names_of R) (λ t. Ends 5)
unfolding r.names_of
exact_names_of P R exact = exact_as
    (exact_seq exact_ident_list (λ names. exact_seq (exact_expect s.Colon) (λ span. exact_seq exact (λ t. exact_made out-TypedNames roll-TypedNames out-roll-TypedNames roll-out-TypedNames (record { names = names; of = t })) (λ t c middle rest h g. before_made (Ends 5) out-TypedNames (record { names = names; of = t }) c middle rest h g)) (λ span c middle rest h g. tt))
    (λ names c middle rest h g. ends_by 0 s.Colon h.0 middle h.1 h.2 (omega arith)))
    (λ x tokens rest h. subst (λ (l : NamesLayer). (ident_list l.names ⨾ symbol s.Colon ⨾ P l.of) tokens rest) (sym h.3.3.3.0) (h.1, h.2, (h.3.1, (h.3.0, h.3.2), subst (λ z. P h.3.3.0 h.3.1 z) h.3.3.3.1 h.3.3.2)))
    (λ x tokens rest h. ((out-TypedNames x).names, h.0, h.1, (h.2.1.0, h.2.0, h.2.1.1, ((out-TypedNames x).of, rest, h.2.2, (refl, refl)))))

pub names_of_at : (P : TypeExpr → Phrase) (x : TypedNames) (tokens rest : List Token) → p.names_of P x tokens rest → at_ident tokens ≡ true
names_of_at P x tokens rest h = ident_list_at (out-TypedNames x).names tokens h.0 h.1

-- a name is no parenthesis
ident_no_paren_by : (k : Kind) (span : Span) (ts : List Token) → reading.is_ident k ≡ true → IsAbsent (eat s.LeftParen) (made k span ∷ ts)
unfolding eat
ident_no_paren_by (kinds.Ident n) span ts e = refl
ident_no_paren_by _ span ts e = absurd cc

ident_no_paren : (tokens : List Token) → at_ident tokens ≡ true → IsAbsent (eat s.LeftParen) tokens
ident_no_paren [] e = absurd cc
ident_no_paren (t ∷ ts) e = ident_no_paren_by t.kind t.span ts e

-- ---- types

module _ (levels : ℕ) (P : TypeExpr → Phrase) (R : Reader TypeExpr) (exact_inner : Exact P R (λ t. Ends 5)) where
  abbrev layer : TypeLayer → Phrase
  layer = p.type_layer levels P

  abbrev named_read : TypeExpr → Phrase
  named_read = Seq qualident (λ q. Made out-TypeExpr (TypeExpr-F.Named q))

  exact_named : Exact named_read r.named (λ t. Ends 5)
  unfolding r.named
  exact_named = exact_seq exact_qualident (λ q. exact_made out-TypeExpr roll-TypeExpr out-roll-TypeExpr roll-out-TypeExpr (TypeExpr-F.Named q)) (λ q c middle rest h g. before_made (Ends 5) out-TypeExpr (TypeExpr-F.Named q) c middle rest h g)

  abbrev array_read : Span → TypeExpr → Phrase
  array_read span = Seq (Opens levels) (λ n. Seq (separated s.Comma (ex.inner levels)) (λ lengths. Seq (symbol_at s.Of) (λ of. Seq P (λ e. Made out-TypeExpr (TypeExpr-F.Array span lengths e)))))

  exact_array : (span : Span) → Exact (array_read span) (r.array levels R span) (λ t. Ends 5)
  unfolding r.array
  exact_array span = exact_seq (exact_opens levels) (λ n. exact_seq (exact_exprs_in levels) (λ lengths. exact_seq (exact_expect s.Of) (λ of. exact_seq exact_inner (λ e. exact_made out-TypeExpr roll-TypeExpr out-roll-TypeExpr roll-out-TypeExpr (TypeExpr-F.Array span lengths e)) (λ e c middle rest h g. before_made (Ends 5) out-TypeExpr (TypeExpr-F.Array span lengths e) c middle rest h g)) (λ of c middle rest h g. tt))
      (λ lengths c middle rest h g. ends_by 0 s.Of h.0 middle h.1 h.2 (omega arith))) (λ n c middle rest h g. tt)

  exact_fields : Exact (separated s.Semicolon (p.names_of P)) (reading.separated s.Semicolon (r.names_of R)) (λ xs. Closes 2)
  exact_fields = exact_separated s.Semicolon (p.names_of P) (r.names_of R) (Ends 5) (Closes 2) (exact_names_of P R exact_inner)
      (λ span tokens rest h. ends_by 5 s.Semicolon span tokens rest h (omega arith))
      (λ tokens e. absent_closing s.Semicolon 2 tokens (omega arith) e)
      (λ tokens e. closes_ends 5 tokens (closes_at 2 1 tokens e (omega arith)))

  fields_start : (xs : List TypedNames) (tokens rest : List Token) → separated s.Semicolon (p.names_of P) xs tokens rest → IsAbsent (eat s.End) tokens
  fields_start [] tokens rest h = absurd h
  fields_start (x ∷ xs) tokens rest h = absent_start s.End tokens refl (record { first = omega (arith, (ident_list_starts (out-TypedNames x).names tokens h.1.0 h.1.1).first) })

  abbrev fields : List TypedNames → Phrase
  fields = closed_list s.End s.Semicolon (p.names_of P)

  exact_closed_fields : Exact fields (reading.closed_by s.End (reading.separated s.Semicolon (r.names_of R))) Anything
  exact_closed_fields = exact_closed s.End s.Semicolon (p.names_of P) (reading.separated s.Semicolon (r.names_of R)) (Closes 2) exact_fields (λ span tokens rest h. closes_by 2 s.End span tokens rest h (omega arith)) fields_start

  -- the name of a base

  abbrev name_read : Qualident → Phrase
  name_read = Seq qualident (λ q. Seq (symbol_at s.RightParen) (λ close. Is q))

  exact_base_name : Exact name_read r.base_name Anything
  unfolding r.base_name
  exact_base_name = exact_seq exact_qualident (λ q. exact_seq (exact_expect s.RightParen) (λ close. exact_pure q) (λ close c middle rest h g. tt)) (λ q c middle rest h g. ends_by 5 s.RightParen h.0 middle h.1 h.2 (omega arith))

  name_there : (q : Qualident) (tokens rest : List Token) → Seq (symbol_at s.LeftParen) (λ span. name_read) q tokens rest → p.base_name q tokens rest
  name_there q tokens rest h =
      let e = h.3.3.3 in
      let name : qualident q h.1 h.3.1 = subst (λ x. qualident x h.1 h.3.1) (sym e.0) h.3.2 in
      let end : symbol_at s.RightParen h.3.3.0 h.3.1 rest = subst (λ z. symbol_at s.RightParen h.3.3.0 h.3.1 z) e.1 h.3.3.2 in
      (h.1, (h.0, h.2), (h.3.1, name, (h.3.3.0, end)))

  name_back : (q : Qualident) (tokens rest : List Token) → p.base_name q tokens rest → Seq (symbol_at s.LeftParen) (λ span. name_read) q tokens rest
  name_back q tokens rest h = (h.1.0, h.0, h.1.1, (q, h.2.0, h.2.1, (h.2.2.0, rest, h.2.2.1, (refl, refl))))

  exact_base : Exact (maybe p.base_name) r.base (OrAbsent r.base Anything)
  unfolding r.base
  exact_base = exact_maybe_as (exact_where_some (exact_eat s.LeftParen) (λ span. exact_base_name)) name_there name_back

  -- fields begin with a name, or END comes
  names_no_base : (xs : List TypedNames) (tokens rest : List Token) → separated s.Semicolon (p.names_of P) xs tokens rest → IsAbsent r.base tokens
  unfolding r.base
  names_no_base [] tokens rest h = absurd h
  names_no_base (x ∷ xs) tokens rest h = absent_where (eat s.LeftParen) (λ _. r.base_name) tokens (ident_no_paren tokens (names_of_at P x tokens h.0 h.1))

  end_no_base : (span : Span) (tokens rest : List Token) → symbol_at s.End span tokens rest → IsAbsent r.base tokens
  unfolding r.base
  end_no_base span tokens rest h = absent_where (eat s.LeftParen) (λ _. r.base_name) tokens (absent_eat s.LeftParen 4 tokens (omega arith) (ends_by 4 s.End span tokens rest h (omega arith)))

  fields_no_base : (fs : List TypedNames) (tokens rest : List Token) → fields fs tokens rest → IsAbsent r.base tokens
  fields_no_base [] tokens rest h = end_no_base h.2.0 tokens rest (subst (λ ts. symbol_at s.End h.2.0 ts rest) (sym h.1) h.2.1)
  fields_no_base (x ∷ xs) tokens rest h = names_no_base (x ∷ xs) tokens h.0 h.1

  base_follows : (b : Option Qualident) (fs : List TypedNames) (tokens rest : List Token) → fields fs tokens rest → OrAbsent r.base Anything b tokens
  base_follows None fs tokens rest h = fields_no_base fs tokens rest h
  base_follows (Some q) fs tokens rest h = tt

  abbrev record_read : Span → TypeExpr → Phrase
  record_read span = Seq (Opens levels) (λ n. Seq (maybe p.base_name) (λ b. Seq fields (λ fs. Made out-TypeExpr (TypeExpr-F.Record span b fs))))

  exact_record : (span : Span) → Exact (record_read span) (r.record_type levels R span) (λ t. Ends 5)
  unfolding r.record_type
  exact_record span = exact_seq (exact_opens levels) (λ n. exact_seq exact_base (λ b. exact_seq exact_closed_fields (λ fs. exact_made out-TypeExpr roll-TypeExpr out-roll-TypeExpr roll-out-TypeExpr (TypeExpr-F.Record span b fs)) (λ fs c middle rest h g. tt)) (λ b c middle rest h g. base_follows b h.0 middle h.1 h.2)) (λ n c middle rest h g. tt)

  type_there : (k : Kind) (span : Span) (t : TypeExpr) (ts rest : List Token) → r.type_by levels R k span (made k span ∷ ts) ts ≡ answer t rest → layer (out-TypeExpr t) (made k span ∷ ts) rest
  type_there (kinds.Ident n) span t ts rest e =
      let h = exact_named.sound t (made (kinds.Ident n) span ∷ ts) rest e in
      subst (λ l. layer l (made (kinds.Ident n) span ∷ ts) rest) (sym h.3.0) (subst (λ z. qualident h.0 (made (kinds.Ident n) span ∷ ts) z) h.3.1 h.2)
  type_there (kinds.Symbol s.Array) span t ts rest e =
      let h = (exact_array span).sound t ts rest e in
      let a = h.3.3.3 in
      subst (λ l. layer l (made (kinds.Symbol s.Array) span ∷ ts) rest) (sym a.3.0)
      (ts, refl, (h.1, (some_levels levels h.0 h.2.0, h.2.1), (h.3.1, h.3.2, (h.3.3.1, (h.3.3.0, h.3.3.2), subst (λ z. P a.0 h.3.3.1 z) a.3.1 a.2))))
  type_there (kinds.Symbol s.Record) span t ts rest e =
      let h = (exact_record span).sound t ts rest e in
      let f = h.3.3 in
      subst (λ l. layer l (made (kinds.Symbol s.Record) span ∷ ts) rest) (sym f.3.0)
      (ts, refl, (h.1, (some_levels levels h.0 h.2.0, h.2.1), (h.3.1, h.3.2, subst (λ z. fields f.0 h.3.1 z) f.3.1 f.2)))
  type_there _ span t ts rest e = absurd cc

  type_sound : (t : TypeExpr) (tokens rest : List Token) → r.type_of levels R tokens ≡ answer t rest → p.type_phrase levels P t tokens rest
  unfolding r.type_of
  type_sound t [] rest e = absurd cc
  type_sound t (x ∷ ts) rest e = type_there x.kind x.span t ts rest e

  type_at : (t : Token) (ts : List Token) → r.type_of levels R (t ∷ ts) ≡ r.type_by levels R t.kind t.span (t ∷ ts) ts
  unfolding r.type_of
  type_at t ts = refl

  named_first : (q : Qualident) (tokens rest : List Token) → qualident q tokens rest → r.type_of levels R tokens ≡ r.named tokens
  named_first q tokens rest h = subst (λ ts. r.type_of levels R ts ≡ r.named ts) (sym h.1) (type_at (made (kinds.Ident q.first.name) q.first.span) h.0)

  type_back : (t : TypeExpr) (l : TypeLayer) (tokens rest : List Token) → out-TypeExpr t ≡ l → layer l tokens rest → Ends 5 rest → r.type_of levels R tokens ≡ answer t rest
  type_back t (TypeExpr-F.Named q) tokens rest is h g = named_first q tokens rest h ∙ exact_named.complete t tokens rest (q, rest, h, (is, refl)) g
  type_back t (TypeExpr-F.Array span lengths e) tokens rest is h g =
      let n = pred_of levels h.2.1.0 in
      ap (r.type_of levels R) h.1 ∙ type_at (made (kinds.Symbol s.Array) span) h.0
      ∙ (exact_array span).complete t h.0 rest (n.0, h.2.0, (n.1, h.2.1.1), (lengths, h.2.2.0, h.2.2.1, (h.2.2.2.1.0, h.2.2.2.0, h.2.2.2.1.1, (e, rest, h.2.2.2.2, (is, refl))))) g
  type_back t (TypeExpr-F.Record span b fs) tokens rest is h g =
      let n = pred_of levels h.2.1.0 in
      ap (r.type_of levels R) h.1 ∙ type_at (made (kinds.Symbol s.Record) span) h.0
      ∙ (exact_record span).complete t h.0 rest (n.0, h.2.0, (n.1, h.2.1.1), (b, h.2.2.0, h.2.2.1, (fs, rest, h.2.2.2, (is, refl)))) g

  type_shorter : (l : TypeLayer) (tokens rest : List Token) → layer l tokens rest → length rest ≤ length tokens
  type_shorter (TypeExpr-F.Named q) tokens rest h = exact_qualident.shorter q tokens rest h
  type_shorter (TypeExpr-F.Array span lengths e) tokens rest h =
      omega (arith, ap length h.1, ap length h.2.1.1, (exact_exprs_in levels).shorter lengths h.2.0 h.2.2.0 h.2.2.1, ap length h.2.2.2.1.1, exact_inner.shorter e h.2.2.2.0 rest h.2.2.2.2)
  type_shorter (TypeExpr-F.Record span b fs) tokens rest h = omega (arith, ap length h.1, ap length h.2.1.1, exact_base.shorter b h.2.0 h.2.2.0 h.2.2.1, exact_closed_fields.shorter fs h.2.2.0 rest h.2.2.2)

  pub exact_type : Exact (p.type_phrase levels P) (r.type_of levels R) (λ t. Ends 5)
  exact_type = record {
    sound = type_sound;
    complete = λ t tokens rest h g. type_back t (out-TypeExpr t) tokens rest refl h g;
    shorter = λ t tokens rest h. type_shorter (out-TypeExpr t) tokens rest h;
  }

-- at every depth of nesting
exact_inner_type : (n : ℕ) → Exact (p.inner n) (r.inner n) (λ t. Ends 5)
exact_inner_type zero = exact_refuse codes.Nesting
exact_inner_type (suc n) = exact_type n (p.inner n) (r.inner n) (exact_inner_type n)

pub exact_type_expr : (levels : ℕ) → Exact (p.type_expr levels) (r.type_expr levels) (λ t. Ends 5)
exact_type_expr levels = exact_type levels (p.inner levels) (r.inner levels) (exact_inner_type levels)

pub exact_typed_names : (levels : ℕ) → Exact (p.typed_names levels) (r.typed_names levels) (λ t. Ends 5)
exact_typed_names levels = exact_names_of (p.type_expr levels) (r.type_expr levels) (exact_type_expr levels)
