-- Each reader of a part of an expression is exact for its production.
use Rattle.std.proofs.Common.{◌≡◌, ℕ, zero, suc, ◌<◌, ◌≤◌, Bool, true, false, cond, Ok, List, [], ◌∷◌, length, Option, Some, None, refl, sym, ap, subst, ◌∙◌, arith}
use Rattle.ob_base.specs.declared.fault.Code.TheVariants as codes
use Rattle.ob_scan.specs.declared.token.Kind.{Kind}
use Rattle.ob_scan.specs.declared.token.Kind.TheVariants as kinds
use Rattle.ob_scan.specs.declared.token.Span.{Span}
use Rattle.ob_scan.specs.declared.token.Symbol.TheVariants as s
use Rattle.ob_scan.specs.declared.token.Token.{Token}
use Rattle.ob_scan.specs.Symbols.{same_symbol}
use Rattle.ob_tree.specs.declared.tree.Sign.{Sign}
use Rattle.ob_tree.specs.declared.tree.Expr.{Expr, out-Expr, roll-Expr, out-roll-Expr, roll-out-Expr}
use Rattle.ob_tree.specs.declared.tree.Related.{Related, out-Related, roll-Related, out-roll-Related, roll-out-Related}
use Rattle.ob_tree.specs.declared.tree.Simple.{Simple, out-Simple, roll-Simple, out-roll-Simple, roll-out-Simple}
use Rattle.ob_tree.specs.declared.tree.AddedTerm.{AddedTerm, out-AddedTerm, roll-AddedTerm, out-roll-AddedTerm, roll-out-AddedTerm}
use Rattle.ob_tree.specs.declared.tree.Term.{Term, out-Term, roll-Term, out-roll-Term, roll-out-Term}
use Rattle.ob_tree.specs.declared.tree.NextFactor.{NextFactor, out-NextFactor, roll-NextFactor, out-roll-NextFactor, roll-out-NextFactor}
use Rattle.ob_tree.specs.declared.tree.Factor.{Factor, out-Factor, roll-Factor, out-roll-Factor, roll-out-Factor}
use Rattle.ob_tree.specs.declared.tree.Designator.{Designator, out-Designator, roll-Designator, out-roll-Designator, roll-out-Designator}
use Rattle.ob_tree.specs.declared.tree.Selector.{Selector, out-Selector, roll-Selector, out-roll-Selector, roll-out-Selector}
use Rattle.ob_tree.specs.declared.tree.Factor.TheOpen.{Factor-F, Selector-F, Related-F, AddedTerm-F, Designator-F, Expr-F, NextFactor-F, Simple-F, Term-F}
use Rattle.ob_tree.specs.declared.tree.Relation.{Relation}
use Rattle.ob_tree.specs.Ahead.{at_guard, opened, ahead}
use Rattle.ob_tree.specs.Name as names
use Rattle.ob_parse_expression.proofs.Names.{exact_qualident}
use Rattle.ob_tree.specs.Phrase as phrase
use Rattle.ob_tree.specs.Phrase.{Phrase, ◌⨾◌, nothing, symbol_at, symbol, each, maybe, separated, listed, opens}
use Rattle.ob_tree.specs.Expression as p
use Rattle.ob_tree.specs.Expression.{FactorLayer, SelectorLayer, RelatedLayer, sign_symbol, add_symbol, mul_symbol, relation_symbol}
use Rattle.ob_parse_expression.specs.Reading.{Reader, ◌>>=◌, pure, eat, operator, many, not_there}
use Rattle.ob_parse_expression.specs.ExpressionReading as r
use Rattle.ob_parse_expression.specs.Reading as reading
use Rattle.ob_parse_expression.specs.Reading.{and_then}
use Rattle.ob_parse_expression.specs.NameReading as name_reading
use Rattle.ob_parse_expression.specs.ExpressionReading.{sign_of, add_of, mul_of, relation_of}
use Rattle.ob_parse_expression.proofs.Exact.{Exact, Follow, Anything, OrAbsent, IsAbsent, Repeats, answer, same_answer, Seq, Is, Made, Either, exact_seq, exact_pure, exact_as, exact_maybe_as, exact_many, each_follows, exact_made, exact_either, exact_or_absent, exact_where_some, absent_where, before_made, before_pure, exact_refuse, MadeSome, exact_made_some, exact_where, answers, and_then_ok, many_stops}
use Rattle.ob_parse_expression.proofs.OneToken.{operator_phrase, binding, exact_expect, exact_eat, exact_ident, exact_operator, exact_opens, Opens, Ends, ends_at, ends_by, absent_eat, absent_operator, Starts, starts_by, absent_start, absent_operator_start, other_symbol}
use Rattle.ob_parse_expression.proofs.Operators.{signs, relations, adds, muls, sign_starts, relation_ends, add_ends, mul_ends, add_binding, mul_binding, relation_binding, sign_starts_expr}

abbrev AddedTermLayer : Type 0
AddedTermLayer = AddedTerm-F Factor Related Selector AddedTerm Designator Expr NextFactor Simple Term

abbrev NextFactorLayer : Type 0
NextFactorLayer = NextFactor-F Factor Related Selector AddedTerm Designator Expr NextFactor Simple Term

abbrev DesignatorLayer : Type 0
DesignatorLayer = Designator-F Factor Related Selector AddedTerm Designator Expr NextFactor Simple Term

abbrev TermLayer : Type 0
TermLayer = Term-F Factor Related Selector AddedTerm Designator Expr NextFactor Simple Term

abbrev SimpleLayer : Type 0
SimpleLayer = Simple-F Factor Related Selector AddedTerm Designator Expr NextFactor Simple Term

abbrev ExprLayer : Type 0
ExprLayer = Expr-F Factor Related Selector AddedTerm Designator Expr NextFactor Simple Term

pub pred_of : (n : ℕ) → 0 < n → (m : ℕ) × (n ≡ suc m)
pred_of zero h = absurd (omega arith)
pred_of (suc m) h = (m, refl)

pub some_levels : (n m : ℕ) → n ≡ suc m → 0 < n
some_levels n m e = omega arith

-- what may follow all selectors
abbrev pub NoSelector : List Token → Type 0
NoSelector rest = Ends 5 rest × (at_guard rest ≡ false)

module _ (levels : ℕ) (P : Expr → Phrase) (R : Reader Expr) (PF : Factor → Phrase) (RF : Reader Factor)
    (exact_inner : Exact P R (λ e. Ends 1)) (exact_inner_factor : Exact PF RF (λ f. Ends 4))
    (inner_starts : (e : Expr) (tokens rest : List Token) → P e tokens rest → Starts 1 tokens) where
  -- ---- lists of expressions

  abbrev next_expr_phrase : Expr → Phrase
  next_expr_phrase e = symbol s.Comma ⨾ P e

  exact_next_expr : Exact (maybe next_expr_phrase) (r.next_expr R) (OrAbsent (r.next_expr R) (λ e. Ends 1))
  unfolding r.next_expr
  exact_next_expr = exact_maybe_as (exact_where_some (exact_eat s.Comma) (λ a. exact_inner)) (λ e tokens rest h. (h.1, (h.0, h.2), h.3)) (λ e tokens rest h. (h.1.0, h.0, h.1.1, h.2))

  absent_next_expr : (tokens : List Token) → Ends 0 tokens → IsAbsent (r.next_expr R) tokens
  unfolding r.next_expr
  absent_next_expr tokens e = absent_where (eat s.Comma) (λ _. R) tokens (absent_eat s.Comma 0 tokens (omega arith) e)

  next_exprs : Repeats next_expr_phrase (r.next_expr R) (Ends 1) (Ends 0)
  next_exprs = record {
    exact = exact_next_expr;
    begins = λ e tokens rest h. ends_by 1 s.Comma h.1.0 tokens h.0 h.1.1 (omega arith);
    takes = λ e tokens rest h. omega (arith, ap length h.1.1, exact_inner.shorter e h.0 rest h.2);
    absent = absent_next_expr;
    inside = λ tokens e. ends_at 0 1 tokens e (omega arith);
  }

  exprs_back : (es : List Expr) (tokens rest : List Token) → separated s.Comma P es tokens rest → Seq P (λ first. Seq (each next_expr_phrase) (λ others. Is (first ∷ others))) es tokens rest
  exprs_back [] tokens rest h = absurd h
  exprs_back (e ∷ es) tokens rest h = (e, h.0, h.1, (es, rest, h.2, (refl, refl)))

  pub exact_exprs : Exact (separated s.Comma P) (r.exprs R) (λ es. Ends 0)
  unfolding r.exprs
  exact_exprs = exact_as
      (exact_seq exact_inner (λ first. exact_seq (exact_many next_exprs) (λ others. exact_pure (first ∷ others)) (λ others c middle rest h g. before_pure (Ends 0) (first ∷ others) c middle rest h g))
      (λ first c middle rest h g. each_follows next_exprs h.0 middle h.1 h.2 (before_pure (Ends 0) (first ∷ h.0) c h.1 rest h.3 g)))
      (λ c tokens rest h. subst (λ es. separated s.Comma P es tokens rest) (sym h.3.3.0) (h.1, h.2, subst (λ z. each next_expr_phrase h.3.0 h.1 z) h.3.3.1 h.3.2))
      exprs_back

  -- ---- actual parameters, after the parenthesis

  abbrev pub behind : List Expr → Phrase
  behind es = opens levels ⨾ listed s.Comma P es ⨾ symbol s.RightParen

  listed_from : (es : List Expr) (tokens rest : List Token) → separated s.Comma P es tokens rest → listed s.Comma P es tokens rest
  listed_from [] tokens rest h = absurd h
  listed_from (e ∷ es) tokens rest h = h

  separated_starts : (es : List Expr) (tokens rest : List Token) → separated s.Comma P es tokens rest → Starts 1 tokens
  separated_starts [] tokens rest h = absurd h
  separated_starts (e ∷ es) tokens rest h = inner_starts e tokens h.0 h.1

  abbrev some_actuals : List Expr → Phrase
  some_actuals = Seq (separated s.Comma P) (λ es. Seq (symbol_at s.RightParen) (λ span. Is es))

  abbrev read_actuals : List Expr → Phrase
  read_actuals = Seq (Opens levels) (λ n. Seq (maybe (symbol_at s.RightParen)) (λ closed. Either some_actuals (λ span. Is []) closed))

  actuals_there_by : (closed : Option Span) (es : List Expr) (tokens middle rest : List Token) → 0 < levels → maybe (symbol_at s.RightParen) closed tokens middle → Either some_actuals (λ span. Is []) closed es middle rest → behind es tokens rest
  actuals_there_by None es tokens middle rest lt h g =
      let list : separated s.Comma P es middle g.1 = subst (λ x. separated s.Comma P x middle g.1) (sym g.3.3.0) g.2 in
      let end : symbol_at s.RightParen g.3.0 g.1 rest = subst (λ z. symbol_at s.RightParen g.3.0 g.1 z) g.3.3.1 g.3.2 in
      (middle, (lt, h), (g.1, listed_from es middle g.1 list, (g.3.0, end)))
  actuals_there_by (Some span) es tokens middle rest lt h g =
      let end : symbol_at s.RightParen span tokens rest = subst (λ z. symbol_at s.RightParen span tokens z) g.1 h in
      subst (λ x. behind x tokens rest) (sym g.0) (tokens, (lt, refl), (tokens, refl, (span, end)))

  actuals_there : (es : List Expr) (tokens rest : List Token) → read_actuals es tokens rest → behind es tokens rest
  actuals_there es tokens rest h =
      subst (λ ts. behind es ts rest) (sym h.2.1) (actuals_there_by h.3.0 es h.1 h.3.1 rest (some_levels levels h.0 h.2.0) h.3.2 h.3.3)

  actuals_back : (es : List Expr) (tokens rest : List Token) → behind es tokens rest → read_actuals es tokens rest
  actuals_back [] tokens rest h =
      let n = pred_of levels h.1.0 in
      let end : symbol_at s.RightParen h.2.2.0 h.0 rest = subst (λ z. symbol_at s.RightParen h.2.2.0 z rest) (sym h.2.1) h.2.2.1 in
      (n.0, h.0, (n.1, h.1.1), (Some h.2.2.0, rest, end, (refl, refl)))
  actuals_back (e ∷ es) tokens rest h =
      let n = pred_of levels h.1.0 in
      (n.0, h.0, (n.1, h.1.1), (None, h.0, refl, (e ∷ es, h.2.0, h.2.1, (h.2.2.0, rest, h.2.2.1, (refl, refl)))))

  closed_follows : (closed : Option Span) (es : List Expr) (middle rest : List Token) → Either some_actuals (λ span. Is []) closed es middle rest → OrAbsent (eat s.RightParen) Anything closed middle
  closed_follows None es middle rest h = absent_start s.RightParen middle refl (separated_starts h.0 middle h.1 h.2)
  closed_follows (Some span) es middle rest h = tt

  pub exact_actuals : Exact behind (r.actuals levels R) Anything
  unfolding r.actuals
  exact_actuals = exact_as
      (exact_seq (exact_opens levels) (λ n. exact_seq (exact_eat s.RightParen) (λ closed. exact_either
      (exact_seq exact_exprs (λ es. exact_seq (exact_expect s.RightParen) (λ span. exact_pure es) (λ span c middle rest h g. tt)) (λ es c middle rest h g. ends_by 0 s.RightParen h.0 middle h.1 h.2 (omega arith)))
      (λ span. exact_pure []) closed) (λ closed c middle rest h g. closed_follows closed c middle rest h)) (λ n c middle rest h g. tt))
      actuals_there actuals_back

  -- ---- designators

  abbrev selector_phrase : Selector → Phrase
  selector_phrase = p.selector levels P PF

  abbrev field_read : Option Selector → Phrase
  field_read = Seq phrase.ident (λ name. MadeSome out-Selector (Selector-F.Field name))

  abbrev index_read : Option Selector → Phrase
  index_read = Seq (Opens levels) (λ n. Seq (separated s.Comma P) (λ es. Seq (symbol_at s.RightBracket) (λ span. MadeSome out-Selector (Selector-F.Index es))))

  -- a name in parentheses

  abbrev named_read : Option Selector → Phrase
  named_read = Seq (symbol_at s.LeftParen) (λ paren. Seq names.qualident (λ q. Seq (symbol_at s.RightParen) (λ close. MadeSome out-Selector (Selector-F.Guard q))))

  exact_named : Exact named_read r.guard_name Anything
  unfolding r.guard_name
  exact_named = exact_seq (exact_expect s.LeftParen) (λ paren. exact_seq exact_qualident (λ q. exact_seq (exact_expect s.RightParen) (λ close. exact_made_some out-Selector roll-Selector out-roll-Selector roll-out-Selector (Selector-F.Guard q)) (λ close c middle rest h g. tt)) (λ q c middle rest h g. ends_by 5 s.RightParen h.0 middle h.1 h.2 (omega arith))) (λ paren c middle rest h g. tt)

  abbrev guard_phrase : Option Selector → Phrase
  guard_phrase None tokens rest = (at_guard tokens ≡ false) × (tokens ≡ rest)
  guard_phrase (Some x) tokens rest = (at_guard tokens ≡ true) × named_read (Some x) tokens rest

  named_some : (x : Option Selector) (tokens rest : List Token) → at_guard tokens ≡ true → named_read x tokens rest → guard_phrase x tokens rest
  named_some None tokens rest b h = absurd h.3.3.3
  named_some (Some x) tokens rest b h = (b, h)

  guard_sound_by : (b : Bool) (x : Option Selector) (tokens rest : List Token) → at_guard tokens ≡ b → cond b (r.guard_name tokens) (answer None tokens) ≡ answer x rest → guard_phrase x tokens rest
  guard_sound_by true x tokens rest is e = named_some x tokens rest is (exact_named.sound x tokens rest e)
  guard_sound_by false x tokens rest is e = let b = answers None x tokens rest e in subst (λ y. guard_phrase y tokens rest) b.0 (is, b.1)

  guard_sound : (x : Option Selector) (tokens rest : List Token) → r.guard tokens ≡ answer x rest → guard_phrase x tokens rest
  unfolding r.guard
  guard_sound x tokens rest e = guard_sound_by (at_guard tokens) x tokens rest refl e

  guard_complete : (x : Option Selector) (tokens rest : List Token) → guard_phrase x tokens rest → r.guard tokens ≡ answer x rest
  unfolding r.guard
  guard_complete None tokens rest h = ap (λ b. cond b (r.guard_name tokens) (answer None tokens)) h.0 ∙ same_answer None None tokens rest refl h.1
  guard_complete (Some x) tokens rest h = ap (λ b. cond b (r.guard_name tokens) (answer None tokens)) h.0 ∙ exact_named.complete (Some x) tokens rest h.1 tt

  guard_shorter : (x : Option Selector) (tokens rest : List Token) → guard_phrase x tokens rest → length rest ≤ length tokens
  guard_shorter None tokens rest h = omega (arith, ap length h.1)
  guard_shorter (Some x) tokens rest h = exact_named.shorter (Some x) tokens rest h.1

  exact_guard : {F : Follow (Option Selector)} → Exact guard_phrase r.guard F
  exact_guard = record {
    sound = guard_sound;
    complete = λ x tokens rest h g. guard_complete x tokens rest h;
    shorter = guard_shorter;
  }

  abbrev bracket_read : Option Selector → Phrase
  bracket_read = Seq (maybe (symbol_at s.LeftBracket)) (Either guard_phrase (λ span. index_read))

  abbrev selector_read : Option Selector → Phrase
  selector_read = Seq (maybe (symbol_at s.Period)) (Either bracket_read (λ span. field_read))

  abbrev SelectorFollow : Follow (Option Selector)
  SelectorFollow None rest = NoSelector rest
  SelectorFollow (Some x) rest = Unit {0}

  guard_ends : (x : Option Selector) (middle rest : List Token) → guard_phrase x middle rest → SelectorFollow x rest → Ends 5 middle
  guard_ends None middle rest h g = subst (Ends 5) (sym h.1) g.0
  guard_ends (Some x) middle rest h g = ends_by 5 s.LeftParen h.1.0 middle h.1.1 h.1.2 (omega arith)

  bracket_follows : (bracket : Option Span) (x : Option Selector) (middle rest : List Token) → Either guard_phrase (λ span. index_read) bracket x middle rest → SelectorFollow x rest → OrAbsent (eat s.LeftBracket) Anything bracket middle
  bracket_follows None x middle rest h g = absent_eat s.LeftBracket 5 middle (omega arith) (guard_ends x middle rest h g)
  bracket_follows (Some span) x middle rest h g = tt

  bracket_is_other : (span : Span) (rest : List Token) → IsAbsent (eat s.Period) (record { kind = kinds.Symbol s.LeftBracket; span = span } ∷ rest)
  unfolding same_symbol
  bracket_is_other span rest = other_symbol s.Period s.LeftBracket span rest refl

  period_follows_by : (bracket : Option Span) (x : Option Selector) (tokens middle rest : List Token) → maybe (symbol_at s.LeftBracket) bracket tokens middle → Either guard_phrase (λ span. index_read) bracket x middle rest → SelectorFollow x rest → IsAbsent (eat s.Period) tokens
  period_follows_by None x tokens middle rest k h g = absent_eat s.Period 5 tokens (omega arith) (subst (Ends 5) (sym k) (guard_ends x middle rest h g))
  period_follows_by (Some span) x tokens middle rest k h g = subst (IsAbsent (eat s.Period)) (sym k) (bracket_is_other span middle)

  period_follows : (period : Option Span) (x : Option Selector) (middle rest : List Token) → Either bracket_read (λ span. field_read) period x middle rest → SelectorFollow x rest → OrAbsent (eat s.Period) Anything period middle
  period_follows None x middle rest h g = period_follows_by h.0 x middle h.1 rest h.2 h.3 g
  period_follows (Some span) x middle rest h g = tt

  index_there : (x : Option Selector) (span : Span) (tokens middle rest : List Token) → symbol_at s.LeftBracket span tokens middle → index_read x middle rest → maybe selector_phrase x tokens rest
  index_there None span tokens middle rest k h = absurd h.3.3.3
  index_there (Some x) span tokens middle rest k h =
      let lt = some_levels levels h.0 h.2.0 in
      let end : symbol_at s.RightBracket h.3.3.0 h.3.1 rest = subst (λ z. symbol_at s.RightBracket h.3.3.0 h.3.1 z) h.3.3.3.1 h.3.3.2 in
      subst (λ l. p.selector_layer levels P PF l tokens rest) (sym h.3.3.3.0) (middle, (span, k), (h.1, (lt, h.2.1), (h.3.1, h.3.2, (h.3.3.0, end))))

  field_there : (x : Option Selector) (span : Span) (tokens middle rest : List Token) → symbol_at s.Period span tokens middle → field_read x middle rest → maybe selector_phrase x tokens rest
  field_there None span tokens middle rest k h = absurd h.3
  field_there (Some x) span tokens middle rest k h =
      let name : phrase.ident h.0 middle rest = subst (λ z. phrase.ident h.0 middle z) h.3.1 h.2 in
      subst (λ l. p.selector_layer levels P PF l tokens rest) (sym h.3.0) (middle, (span, k), name)

  named_there : (x : Selector) (tokens rest : List Token) → at_guard tokens ≡ true → named_read (Some x) tokens rest → selector_phrase x tokens rest
  named_there x tokens rest b h =
      let end : symbol_at s.RightParen h.3.3.0 h.3.1 rest = subst (λ z. symbol_at s.RightParen h.3.3.0 h.3.1 z) h.3.3.3.1 h.3.3.2 in
      subst (λ l. p.selector_layer levels P PF l tokens rest) (sym h.3.3.3.0) (tokens, (b, refl), (h.1, (h.0, h.2), (h.3.1, h.3.2, (h.3.3.0, end))))

  guard_there : (x : Option Selector) (tokens middle rest : List Token) → tokens ≡ middle → guard_phrase x middle rest → maybe selector_phrase x tokens rest
  guard_there None tokens middle rest k h = k ∙ h.1
  guard_there (Some x) tokens middle rest k h = subst (λ ts. selector_phrase x ts rest) (sym k) (named_there x middle rest h.0 h.1)

  bracket_there : (bracket : Option Span) (x : Option Selector) (tokens middle rest : List Token) → maybe (symbol_at s.LeftBracket) bracket tokens middle → Either guard_phrase (λ span. index_read) bracket x middle rest → maybe selector_phrase x tokens rest
  bracket_there None x tokens middle rest k h = guard_there x tokens middle rest k h
  bracket_there (Some span) x tokens middle rest k h = index_there x span tokens middle rest k h

  period_there : (period : Option Span) (x : Option Selector) (tokens middle rest : List Token) → maybe (symbol_at s.Period) period tokens middle → Either bracket_read (λ span. field_read) period x middle rest → maybe selector_phrase x tokens rest
  period_there None x tokens middle rest k h = subst (λ ts. maybe selector_phrase x ts rest) (sym k) (bracket_there h.0 x middle h.1 rest h.2 h.3)
  period_there (Some span) x tokens middle rest k h = field_there x span tokens middle rest k h

  selector_there : (x : Option Selector) (tokens rest : List Token) → selector_read x tokens rest → maybe selector_phrase x tokens rest
  selector_there x tokens rest h = period_there h.0 x tokens h.1 rest h.2 h.3

  layer_back : (x : Selector) (l : SelectorLayer) (tokens rest : List Token) → out-Selector x ≡ l → p.selector_layer levels P PF l tokens rest → selector_read (Some x) tokens rest
  layer_back x (Selector-F.Field name) tokens rest is h = (Some h.1.0, h.0, h.1.1, (name, rest, h.2, (is, refl)))
  layer_back x (Selector-F.Index es) tokens rest is h =
      let n = pred_of levels h.2.1.0 in
      (None, tokens, refl, (Some h.1.0, h.0, h.1.1, (n.0, h.2.0, (n.1, h.2.1.1), (es, h.2.2.0, h.2.2.1, (h.2.2.2.0, rest, h.2.2.2.1, (is, refl))))))
  layer_back x (Selector-F.Guard q) tokens rest is h =
      let paren : symbol_at s.LeftParen h.2.1.0 tokens h.2.0 = subst (λ ts. symbol_at s.LeftParen h.2.1.0 ts h.2.0) (sym h.1.1) h.2.1.1 in
      (None, tokens, refl, (None, tokens, refl, (h.1.0, (h.2.1.0, h.2.0, paren, (q, h.2.2.0, h.2.2.1, (h.2.2.2.0, rest, h.2.2.2.1, (is, refl)))))))

  selector_back : (x : Option Selector) (tokens rest : List Token) → maybe selector_phrase x tokens rest → SelectorFollow x rest → selector_read x tokens rest
  selector_back None tokens rest h g = (None, tokens, refl, (None, tokens, refl, (subst (λ ts. at_guard ts ≡ false) (sym h) g.1, h)))
  selector_back (Some x) tokens rest h g = layer_back x (out-Selector x) tokens rest refl h

  exact_selector_read : Exact selector_read (r.selector levels R) SelectorFollow
  unfolding r.selector
  exact_selector_read =
      (exact_seq (exact_eat s.Period) (λ period. exact_either
      (exact_seq (exact_eat s.LeftBracket) (λ bracket. exact_either exact_guard
      (λ span. exact_seq (exact_opens levels) (λ n. exact_seq exact_exprs (λ es. exact_seq (exact_expect s.RightBracket) (λ close. exact_made_some out-Selector roll-Selector out-roll-Selector roll-out-Selector (Selector-F.Index es)) (λ close c middle rest h g. tt)) (λ es c middle rest h g. ends_by 0 s.RightBracket h.0 middle h.1 h.2 (omega arith))) (λ n c middle rest h g. tt)) bracket) bracket_follows)
      (λ span. exact_seq exact_ident (λ name. exact_made_some out-Selector roll-Selector out-roll-Selector roll-out-Selector (Selector-F.Field name)) (λ name c middle rest h g. tt)) period) period_follows)

  selector_takes : (l : SelectorLayer) (tokens rest : List Token) → p.selector_layer levels P PF l tokens rest → length rest < length tokens
  selector_takes (Selector-F.Field name) tokens rest h = omega (arith, ap length h.1.1, ap length h.2)
  selector_takes (Selector-F.Index es) tokens rest h = omega (arith, ap length h.1.1, ap length h.2.1.1, exact_exprs.shorter es h.2.0 h.2.2.0 h.2.2.1, ap length h.2.2.2.1)
  selector_takes (Selector-F.Guard q) tokens rest h = omega (arith, ap length h.1.1, ap length h.2.1.1, exact_qualident.shorter q h.2.0 h.2.2.0 h.2.2.1, ap length h.2.2.2.1)

  selector_shorter : (x : Option Selector) (tokens rest : List Token) → maybe selector_phrase x tokens rest → length rest ≤ length tokens
  selector_shorter None tokens rest h = omega (arith, ap length h)
  selector_shorter (Some x) tokens rest h = omega (arith, selector_takes (out-Selector x) tokens rest h)

  exact_selector : Exact (maybe selector_phrase) (r.selector levels R) SelectorFollow
  exact_selector = record {
    sound = λ x tokens rest e. selector_there x tokens rest (exact_selector_read.sound x tokens rest e);
    complete = λ x tokens rest h g. exact_selector_read.complete x tokens rest (selector_back x tokens rest h g) g;
    shorter = selector_shorter;
  }

  -- where no selector is read none begins

  bracket_stops : (bracket : Option Span) (tokens middle rest : List Token) → Either guard_phrase (λ span. index_read) bracket None middle rest → at_guard rest ≡ false
  bracket_stops None tokens middle rest h = subst (λ ts. at_guard ts ≡ false) h.1 h.0
  bracket_stops (Some span) tokens middle rest h = absurd h.3.3.3

  period_stops : (period : Option Span) (tokens middle rest : List Token) → Either bracket_read (λ span. field_read) period None middle rest → at_guard rest ≡ false
  period_stops None tokens middle rest h = bracket_stops h.0 middle h.1 rest h.3
  period_stops (Some span) tokens middle rest h = absurd h.3

  selector_stops : (tokens middle : List Token) → r.selector levels R tokens ≡ Ok (None, middle) → at_guard middle ≡ false
  selector_stops tokens middle e = let h = exact_selector_read.sound None tokens middle e in period_stops h.0 tokens h.1 middle h.3

  selectors : Repeats selector_phrase (r.selector levels R) (λ ts. Unit {0}) NoSelector
  selectors = record {
    exact = exact_or_absent exact_selector;
    begins = λ x tokens rest h. tt;
    takes = λ x tokens rest h. selector_takes (out-Selector x) tokens rest h;
    absent = λ tokens e. exact_selector.complete None tokens tokens refl e;
    inside = λ tokens e. tt;
  }

  pub exact_designator : Exact (p.designator levels P PF) (r.designator levels R) (λ d. NoSelector)
  unfolding r.designator
  exact_designator = exact_as
      (exact_seq exact_ident (λ name. exact_seq (exact_many selectors) (λ xs. exact_made out-Designator roll-Designator out-roll-Designator roll-out-Designator (record { name = name; selectors = xs })) (λ xs c middle rest h g. before_made NoSelector out-Designator (record { name = name; selectors = xs }) c middle rest h g)) (λ name c middle rest h g. tt))
      (λ d tokens rest h. subst (λ (l : DesignatorLayer). (phrase.ident l.name ⨾ each selector_phrase l.selectors) tokens rest) (sym h.3.3.0) (h.1, h.2, subst (λ z. each selector_phrase h.3.0 h.1 z) h.3.3.1 h.3.2))
      (λ d tokens rest h. ((out-Designator d).name, h.0, h.1, ((out-Designator d).selectors, rest, h.2, (refl, refl))))

  pub designator_stops : (d : Designator) (tokens rest : List Token) → r.designator levels R tokens ≡ answer d rest → at_guard rest ≡ false
  unfolding r.designator
  designator_stops d tokens rest e =
      let b = and_then_ok (reading.ident tokens) (λ name. many (r.selector levels R) >>= (λ xs. pure (roll-Designator (record { name = name; selectors = xs })))) d rest e in
      let c = and_then_ok (many (r.selector levels R) b.1) (λ xs. pure (roll-Designator (record { name = b.0; selectors = xs }))) d rest b.3 in
      let a = answers (roll-Designator (record { name = b.0; selectors = c.0 })) d c.1 rest c.3 in
      subst (λ ts. at_guard ts ≡ false) a.1 (many_stops (r.selector levels R) (λ ts. at_guard ts ≡ false) selector_stops c.0 b.1 c.1 c.2)

  no_guard_kind : (k : Kind) (ts : List Token) → binding k ≤ 4 → opened k ts ≡ false
  no_guard_kind (kinds.Symbol s.LeftParen) ts h = absurd (omega arith)
  no_guard_kind _ ts h = refl

  pub ends_no_guard : (tokens : List Token) → Ends 4 tokens → at_guard tokens ≡ false
  ends_no_guard [] e = refl
  ends_no_guard (t ∷ ts) e = no_guard_kind t.kind ts e.loose

  -- ---- factors

  abbrev factor_layer : FactorLayer → Phrase
  factor_layer = p.factor_layer levels P PF

  abbrev call_read : Designator → Option Span → Factor → Phrase
  call_read d = Either (Made out-Factor (Factor-F.Value d)) (λ span. Seq behind (λ es. Made out-Factor (Factor-F.Call d es)))

  abbrev NoGuard : Option Span → List Token → Type 0
  NoGuard None tokens = Unit {0}
  NoGuard (Some span) tokens = at_guard tokens ≡ false

  abbrev after_read : Designator → Factor → Phrase
  after_read d = Seq (maybe (symbol_at s.LeftParen)) (call_read d)

  abbrev value_read : Factor → Phrase
  value_read f tokens rest = (d : Designator) × (middle : List Token) × p.designator levels P PF d tokens middle × (a : after_read d f middle rest) × NoGuard a.0 middle

  paren_follows : (d : Designator) (paren : Option Span) (f : Factor) (middle rest : List Token) → call_read d paren f middle rest → Ends 4 rest → OrAbsent (eat s.LeftParen) Anything paren middle
  paren_follows d None f middle rest h g = absent_eat s.LeftParen 4 middle (omega arith) (subst (Ends 4) (sym h.1) g)
  paren_follows d (Some span) f middle rest h g = tt

  designator_follows : (d : Designator) (paren : Option Span) (f : Factor) (tokens middle rest : List Token) → maybe (symbol_at s.LeftParen) paren tokens middle → call_read d paren f middle rest → Ends 4 rest → Ends 5 tokens
  designator_follows d None f tokens middle rest k h g = ends_at 4 5 tokens (subst (Ends 4) (sym (k ∙ h.1)) g) (omega arith)
  designator_follows d (Some span) f tokens middle rest k h g = ends_by 5 s.LeftParen span tokens middle k (omega arith)

  abbrev after : Designator → Reader Factor
  after d = eat s.LeftParen >>= (λ paren. not_there paren (pure (roll-Factor (Factor-F.Value d))) (λ span. r.actuals levels R >>= (λ es. pure (roll-Factor (Factor-F.Call d es)))))

  exact_after : (d : Designator) → Exact (after_read d) (after d) (λ f. Ends 4)
  exact_after d = exact_seq (exact_eat s.LeftParen) (λ paren. exact_either
      (exact_made out-Factor roll-Factor out-roll-Factor roll-out-Factor (Factor-F.Value d))
      (λ span. exact_seq exact_actuals (λ es. exact_made out-Factor roll-Factor out-roll-Factor roll-out-Factor (Factor-F.Call d es)) (λ es c middle rest h g. tt)) paren) (paren_follows d)

  no_guard : (paren : Option Span) (ts : List Token) → at_guard ts ≡ false → NoGuard paren ts
  no_guard None ts e = tt
  no_guard (Some span) ts e = e

  no_guard_at : (d : Designator) (paren : Option Span) (f : Factor) (tokens middle rest : List Token) → NoGuard paren tokens → maybe (symbol_at s.LeftParen) paren tokens middle → call_read d paren f middle rest → Ends 4 rest → at_guard tokens ≡ false
  no_guard_at d None f tokens middle rest ng k h g = ends_no_guard tokens (subst (Ends 4) (sym (k ∙ h.1)) g)
  no_guard_at d (Some span) f tokens middle rest ng k h g = ng

  value_sound : (f : Factor) (tokens rest : List Token) → r.value_or_call levels R tokens ≡ answer f rest → value_read f tokens rest
  unfolding r.value_or_call
  value_sound f tokens rest e =
      let b = and_then_ok (r.designator levels R tokens) after f rest e in
      let a = (exact_after b.0).sound f b.1 rest b.3 in
      (b.0, b.1, exact_designator.sound b.0 tokens b.1 b.2, a, no_guard a.0 b.1 (designator_stops b.0 tokens b.1 b.2))

  value_complete : (f : Factor) (tokens rest : List Token) → value_read f tokens rest → Ends 4 rest → r.value_or_call levels R tokens ≡ answer f rest
  unfolding r.value_or_call
  value_complete f tokens rest h g =
      let a = h.3 in
      let none : NoSelector h.1 = (designator_follows h.0 a.0 f h.1 a.1 rest a.2 a.3 g, no_guard_at h.0 a.0 f h.1 a.1 rest h.4 a.2 a.3 g) in
      ap (λ o. and_then o after) (exact_designator.complete h.0 tokens h.1 h.2 none) ∙ (exact_after h.0).complete f h.1 rest a g

  exact_value : Exact value_read (r.value_or_call levels R) (λ f. Ends 4)
  exact_value = record {
    sound = value_sound;
    complete = value_complete;
    shorter = λ f tokens rest h. omega (arith, exact_designator.shorter h.0 tokens h.1 h.2, (exact_after h.0).shorter f h.1 rest h.3);
  }

  call_there : (d : Designator) (paren : Option Span) (f : Factor) (tokens middle after rest : List Token) → p.designator levels P PF d tokens middle → NoGuard paren middle → maybe (symbol_at s.LeftParen) paren middle after → call_read d paren f after rest → factor_layer (out-Factor f) tokens rest
  call_there d None f tokens middle after rest h ng k g =
      subst (λ l. factor_layer l tokens rest) (sym g.0) (subst (λ z. p.designator levels P PF d tokens z) (k ∙ g.1) h)
  call_there d (Some span) f tokens middle after rest h ng k g =
      let list : behind g.0 after rest = subst (λ z. behind g.0 after z) g.3.1 g.2 in
      subst (λ l. factor_layer l tokens rest) (sym g.3.0) (middle, h, (middle, (ng, refl), (after, (span, k), list)))

  abbrev parens_read : Span → Factor → Phrase
  parens_read span = Seq (Opens levels) (λ n. Seq P (λ e. Seq (symbol_at s.RightParen) (λ close. Made out-Factor (Factor-F.Parens span e))))

  exact_parens : (span : Span) → Exact (parens_read span) (r.parens levels R span) (λ f. Ends 4)
  unfolding r.parens
  exact_parens span = exact_seq (exact_opens levels) (λ n. exact_seq exact_inner (λ e. exact_seq (exact_expect s.RightParen) (λ close. exact_made out-Factor roll-Factor out-roll-Factor roll-out-Factor (Factor-F.Parens span e)) (λ close c middle rest h g. tt)) (λ e c middle rest h g. ends_by 1 s.RightParen h.0 middle h.1 h.2 (omega arith))) (λ n c middle rest h g. tt)

  abbrev not_read : Span → Factor → Phrase
  not_read span = Seq (Opens levels) (λ n. Seq PF (λ f. Made out-Factor (Factor-F.Not span f)))

  exact_not : (span : Span) → Exact (not_read span) (r.negated levels RF span) (λ f. Ends 4)
  unfolding r.negated
  exact_not span = exact_seq (exact_opens levels) (λ n. exact_seq exact_inner_factor (λ f. exact_made out-Factor roll-Factor out-roll-Factor roll-out-Factor (Factor-F.Not span f)) (λ f c middle rest h g. before_made (Ends 4) out-Factor (Factor-F.Not span f) c middle rest h g)) (λ n c middle rest h g. tt)

  abbrev token : Kind → Span → Token
  token kind span = record { kind = kind; span = span }

  -- a factor of one token
  one_there : (k : Kind) (span : Span) (l : FactorLayer) (f : Factor) (ts rest : List Token) → ((z : List Token) → factor_layer l (token k span ∷ z) z) → answer (roll-Factor l) ts ≡ answer f rest → factor_layer (out-Factor f) (token k span ∷ ts) rest
  one_there k span l f ts rest made e =
      let h = (exact_made {F = Anything} out-Factor roll-Factor out-roll-Factor roll-out-Factor l).sound f ts rest e in
      subst (λ m. factor_layer m (token k span ∷ ts) rest) (sym h.0) (subst (λ z. factor_layer l (token k span ∷ ts) z) h.1 (made ts))

  factor_there : (k : Kind) (span : Span) (f : Factor) (ts rest : List Token) → r.factor_by levels R RF k span (token k span ∷ ts) ts ≡ answer f rest → factor_layer (out-Factor f) (token k span ∷ ts) rest
  factor_there (kinds.Ident n) span f ts rest e =
      let h = exact_value.sound f (token (kinds.Ident n) span ∷ ts) rest e in
      call_there h.0 h.3.0 f (token (kinds.Ident n) span ∷ ts) h.1 h.3.1 rest h.2 h.4 h.3.2 h.3.3
  factor_there (kinds.Integer n) span f ts rest e = one_there (kinds.Integer n) span (Factor-F.Integer n span) f ts rest (λ z. refl) e
  factor_there (kinds.Text t) span f ts rest e = one_there (kinds.Text t) span (Factor-F.Text t span) f ts rest (λ z. refl) e
  factor_there (kinds.Symbol s.True) span f ts rest e = one_there (kinds.Symbol s.True) span (Factor-F.Truth true span) f ts rest (λ z. refl) e
  factor_there (kinds.Symbol s.False) span f ts rest e = one_there (kinds.Symbol s.False) span (Factor-F.Truth false span) f ts rest (λ z. refl) e
  factor_there (kinds.Symbol s.LeftParen) span f ts rest e =
      let h = (exact_parens span).sound f ts rest e in
      let end : symbol_at s.RightParen h.3.3.0 h.3.1 rest = subst (λ z. symbol_at s.RightParen h.3.3.0 h.3.1 z) h.3.3.3.1 h.3.3.2 in
      subst (λ l. factor_layer l (token (kinds.Symbol s.LeftParen) span ∷ ts) rest) (sym h.3.3.3.0)
      (ts, refl, (h.1, (some_levels levels h.0 h.2.0, h.2.1), (h.3.1, h.3.2, (h.3.3.0, end))))
  factor_there (kinds.Symbol s.Not) span f ts rest e =
      let h = (exact_not span).sound f ts rest e in
      subst (λ l. factor_layer l (token (kinds.Symbol s.Not) span ∷ ts) rest) (sym h.3.3.0)
      (ts, refl, (h.1, (some_levels levels h.0 h.2.0, h.2.1), subst (λ z. PF h.3.0 h.1 z) h.3.3.1 h.3.2))
  factor_there _ span f ts rest e = absurd cc

  factor_sound : (f : Factor) (tokens rest : List Token) → r.factor_of levels R RF tokens ≡ answer f rest → p.factor_phrase levels P PF f tokens rest
  unfolding r.factor_of
  factor_sound f [] rest e = absurd cc
  factor_sound f (t ∷ ts) rest e = factor_there t.kind t.span f ts rest e

  factor_at : (t : Token) (ts : List Token) → r.factor_of levels R RF (t ∷ ts) ≡ r.factor_by levels R RF t.kind t.span (t ∷ ts) ts
  unfolding r.factor_of
  factor_at t ts = refl

  -- a designator begins with a name
  named_first : (d : Designator) (tokens middle : List Token) → p.designator levels P PF d tokens middle → r.factor_of levels R RF tokens ≡ r.value_or_call levels R tokens
  named_first d tokens middle h =
      subst (λ ts. r.factor_of levels R RF ts ≡ r.value_or_call levels R ts) (sym h.1) (factor_at (token (kinds.Ident (out-Designator d).name.name) (out-Designator d).name.span) h.0)

  roll_is : (f : Factor) (l : FactorLayer) → out-Factor f ≡ l → roll-Factor l ≡ f
  roll_is f l is = ap roll-Factor (sym is) ∙ roll-out-Factor f

  factor_back : (f : Factor) (l : FactorLayer) (tokens rest : List Token) → out-Factor f ≡ l → factor_layer l tokens rest → Ends 4 rest → r.factor_of levels R RF tokens ≡ answer f rest
  factor_back f (Factor-F.Integer n span) tokens rest is h g =
      ap (r.factor_of levels R RF) h ∙ factor_at (token (kinds.Integer n) span) rest ∙ same_answer (roll-Factor (Factor-F.Integer n span)) f rest rest (roll_is f (Factor-F.Integer n span) is) refl
  factor_back f (Factor-F.Text t span) tokens rest is h g =
      ap (r.factor_of levels R RF) h ∙ factor_at (token (kinds.Text t) span) rest ∙ same_answer (roll-Factor (Factor-F.Text t span)) f rest rest (roll_is f (Factor-F.Text t span) is) refl
  factor_back f (Factor-F.Truth true span) tokens rest is h g =
      ap (r.factor_of levels R RF) h ∙ factor_at (token (kinds.Symbol s.True) span) rest ∙ same_answer (roll-Factor (Factor-F.Truth true span)) f rest rest (roll_is f (Factor-F.Truth true span) is) refl
  factor_back f (Factor-F.Truth false span) tokens rest is h g =
      ap (r.factor_of levels R RF) h ∙ factor_at (token (kinds.Symbol s.False) span) rest ∙ same_answer (roll-Factor (Factor-F.Truth false span)) f rest rest (roll_is f (Factor-F.Truth false span) is) refl
  factor_back f (Factor-F.Value d) tokens rest is h g =
      named_first d tokens rest h ∙ exact_value.complete f tokens rest (d, rest, h, (None, rest, refl, (is, refl)), tt) g
  factor_back f (Factor-F.Call d es) tokens rest is h g =
      named_first d tokens h.0 h.1 ∙ (let k : symbol_at s.LeftParen h.2.2.1.0 h.0 h.2.2.0 = subst (λ ts. symbol_at s.LeftParen h.2.2.1.0 ts h.2.2.0) (sym h.2.1.1) h.2.2.1.1 in
      exact_value.complete f tokens rest (d, h.0, h.1, (Some h.2.2.1.0, h.2.2.0, k, (es, rest, h.2.2.2, (is, refl))), h.2.1.0) g)
  factor_back f (Factor-F.Parens span e) tokens rest is h g =
      let n = pred_of levels h.2.1.0 in
      ap (r.factor_of levels R RF) h.1 ∙ factor_at (token (kinds.Symbol s.LeftParen) span) h.0
      ∙ (exact_parens span).complete f h.0 rest (n.0, h.2.0, (n.1, h.2.1.1), (e, h.2.2.0, h.2.2.1, (h.2.2.2.0, rest, h.2.2.2.1, (is, refl)))) g
  factor_back f (Factor-F.Not span x) tokens rest is h g =
      let n = pred_of levels h.2.1.0 in
      ap (r.factor_of levels R RF) h.1 ∙ factor_at (token (kinds.Symbol s.Not) span) h.0
      ∙ (exact_not span).complete f h.0 rest (n.0, h.2.0, (n.1, h.2.1.1), (x, rest, h.2.2, (is, refl))) g

  factor_shorter : (l : FactorLayer) (tokens rest : List Token) → factor_layer l tokens rest → length rest ≤ length tokens
  factor_shorter (Factor-F.Integer n span) tokens rest h = omega (arith, ap length h)
  factor_shorter (Factor-F.Text t span) tokens rest h = omega (arith, ap length h)
  factor_shorter (Factor-F.Truth true span) tokens rest h = omega (arith, ap length h)
  factor_shorter (Factor-F.Truth false span) tokens rest h = omega (arith, ap length h)
  factor_shorter (Factor-F.Value d) tokens rest h = exact_designator.shorter d tokens rest h
  factor_shorter (Factor-F.Call d es) tokens rest h = omega (arith, exact_designator.shorter d tokens h.0 h.1, ap length h.2.1.1, ap length h.2.2.1.1, exact_actuals.shorter es h.2.2.0 rest h.2.2.2)
  factor_shorter (Factor-F.Parens span e) tokens rest h = omega (arith, ap length h.1, ap length h.2.1.1, exact_inner.shorter e h.2.0 h.2.2.0 h.2.2.1, ap length h.2.2.2.1)
  factor_shorter (Factor-F.Not span f) tokens rest h = omega (arith, ap length h.1, ap length h.2.1.1, exact_inner_factor.shorter f h.2.0 rest h.2.2)

  pub exact_factor : Exact (p.factor_phrase levels P PF) (r.factor_of levels R RF) (λ f. Ends 4)
  exact_factor = record {
    sound = factor_sound;
    complete = λ f tokens rest h g. factor_back f (out-Factor f) tokens rest refl h g;
    shorter = λ f tokens rest h. factor_shorter (out-Factor f) tokens rest h;
  }

  designator_starts : (d : Designator) (tokens rest : List Token) → p.designator levels P PF d tokens rest → Starts 2 tokens
  designator_starts d tokens rest h = starts_by 2 (kinds.Ident (out-Designator d).name.name) (out-Designator d).name.span tokens h.0 h.1 (omega arith)

  factor_starts : (l : FactorLayer) (tokens rest : List Token) → factor_layer l tokens rest → Starts 2 tokens
  factor_starts (Factor-F.Integer n span) tokens rest h = starts_by 2 (kinds.Integer n) span tokens rest h (omega arith)
  factor_starts (Factor-F.Text t span) tokens rest h = starts_by 2 (kinds.Text t) span tokens rest h (omega arith)
  factor_starts (Factor-F.Truth true span) tokens rest h = starts_by 2 (kinds.Symbol s.True) span tokens rest h (omega arith)
  factor_starts (Factor-F.Truth false span) tokens rest h = starts_by 2 (kinds.Symbol s.False) span tokens rest h (omega arith)
  factor_starts (Factor-F.Value d) tokens rest h = designator_starts d tokens rest h
  factor_starts (Factor-F.Call d es) tokens rest h = designator_starts d tokens h.0 h.1
  factor_starts (Factor-F.Parens span e) tokens rest h = starts_by 2 (kinds.Symbol s.LeftParen) span tokens h.0 h.1 (omega arith)
  factor_starts (Factor-F.Not span f) tokens rest h = starts_by 2 (kinds.Symbol s.Not) span tokens h.0 h.1 (omega arith)

  -- ---- terms

  abbrev next_factor_phrase : NextFactor → Phrase
  next_factor_phrase = p.next_factor levels P PF

  exact_next_factor : Exact (maybe next_factor_phrase) (r.next_factor levels R RF) (OrAbsent (r.next_factor levels R RF) (λ x. Ends 4))
  unfolding r.next_factor
  exact_next_factor = exact_maybe_as
      (exact_where_some (exact_operator mul_of mul_symbol muls) (λ o. exact_seq exact_factor (λ f. exact_made out-NextFactor roll-NextFactor out-roll-NextFactor roll-out-NextFactor (record { operator = o.0; span = o.1; factor = f })) (λ f c middle rest h g. before_made (Ends 4) out-NextFactor (record { operator = o.0; span = o.1; factor = f }) c middle rest h g)))
      (λ x tokens rest h. subst (λ (l : NextFactorLayer). (symbol_at (mul_symbol l.operator) l.span ⨾ p.factor_phrase levels P PF l.factor) tokens rest) (sym h.3.3.0) (h.1, h.2, subst (λ z. p.factor_phrase levels P PF h.3.0 h.1 z) h.3.3.1 h.3.2))
      (λ x tokens rest h. (((out-NextFactor x).operator, (out-NextFactor x).span), h.0, h.1, ((out-NextFactor x).factor, rest, h.2, (refl, refl))))

  absent_next_factor : (tokens : List Token) → Ends 3 tokens → IsAbsent (r.next_factor levels R RF) tokens
  unfolding r.next_factor
  absent_next_factor tokens e = absent_where (operator mul_of) (λ o. r.factor_of levels R RF >>= (λ f. pure (roll-NextFactor (record { operator = o.0; span = o.1; factor = f })))) tokens (absent_operator mul_of 3 mul_ends tokens e)

  next_factors : Repeats next_factor_phrase (r.next_factor levels R RF) (Ends 4) (Ends 3)
  next_factors = record {
    exact = exact_next_factor;
    begins = λ x tokens rest h. ends_by 4 (mul_symbol (out-NextFactor x).operator) (out-NextFactor x).span tokens h.0 h.1 (mul_binding (out-NextFactor x).operator);
    takes = λ x tokens rest h. omega (arith, ap length h.1, exact_factor.shorter (out-NextFactor x).factor h.0 rest h.2);
    absent = absent_next_factor;
    inside = λ tokens e. ends_at 3 4 tokens e (omega arith);
  }

  pub exact_term : Exact (p.term levels P PF) (r.term levels R RF) (λ t. Ends 3)
  unfolding r.term
  exact_term = exact_as
      (exact_seq exact_factor (λ first. exact_seq (exact_many next_factors) (λ others. exact_made out-Term roll-Term out-roll-Term roll-out-Term (record { first = first; others = others })) (λ others c middle rest h g. before_made (Ends 3) out-Term (record { first = first; others = others }) c middle rest h g))
      (λ first c middle rest h g. each_follows next_factors h.0 middle h.1 h.2 (before_made (Ends 3) out-Term (record { first = first; others = h.0 }) c h.1 rest h.3 g)))
      (λ t tokens rest h. subst (λ (l : TermLayer). (p.factor_phrase levels P PF l.first ⨾ each next_factor_phrase l.others) tokens rest) (sym h.3.3.0) (h.1, h.2, subst (λ z. each next_factor_phrase h.3.0 h.1 z) h.3.3.1 h.3.2))
      (λ t tokens rest h. ((out-Term t).first, h.0, h.1, ((out-Term t).others, rest, h.2, (refl, refl))))

  term_starts : (t : Term) (tokens rest : List Token) → p.term levels P PF t tokens rest → Starts 2 tokens
  term_starts t tokens rest h = factor_starts (out-Factor (out-Term t).first) tokens h.0 h.1

  -- ---- simple expressions

  abbrev added_term_phrase : AddedTerm → Phrase
  added_term_phrase = p.added_term levels P PF

  exact_added_term : Exact (maybe added_term_phrase) (r.added_term levels R RF) (OrAbsent (r.added_term levels R RF) (λ x. Ends 3))
  unfolding r.added_term
  exact_added_term = exact_maybe_as
      (exact_where_some (exact_operator add_of add_symbol adds) (λ o. exact_seq exact_term (λ t. exact_made out-AddedTerm roll-AddedTerm out-roll-AddedTerm roll-out-AddedTerm (record { operator = o.0; span = o.1; term = t })) (λ t c middle rest h g. before_made (Ends 3) out-AddedTerm (record { operator = o.0; span = o.1; term = t }) c middle rest h g)))
      (λ x tokens rest h. subst (λ (l : AddedTermLayer). (symbol_at (add_symbol l.operator) l.span ⨾ p.term levels P PF l.term) tokens rest) (sym h.3.3.0) (h.1, h.2, subst (λ z. p.term levels P PF h.3.0 h.1 z) h.3.3.1 h.3.2))
      (λ x tokens rest h. (((out-AddedTerm x).operator, (out-AddedTerm x).span), h.0, h.1, ((out-AddedTerm x).term, rest, h.2, (refl, refl))))

  absent_added_term : (tokens : List Token) → Ends 2 tokens → IsAbsent (r.added_term levels R RF) tokens
  unfolding r.added_term
  absent_added_term tokens e = absent_where (operator add_of) (λ o. r.term levels R RF >>= (λ t. pure (roll-AddedTerm (record { operator = o.0; span = o.1; term = t })))) tokens (absent_operator add_of 2 add_ends tokens e)

  added_terms : Repeats added_term_phrase (r.added_term levels R RF) (Ends 3) (Ends 2)
  added_terms = record {
    exact = exact_added_term;
    begins = λ x tokens rest h. ends_by 3 (add_symbol (out-AddedTerm x).operator) (out-AddedTerm x).span tokens h.0 h.1 (add_binding (out-AddedTerm x).operator);
    takes = λ x tokens rest h. omega (arith, ap length h.1, exact_term.shorter (out-AddedTerm x).term h.0 rest h.2);
    absent = absent_added_term;
    inside = λ tokens e. ends_at 2 3 tokens e (omega arith);
  }

  sign_follows : (sign : Option (Sign × Span)) (tokens : List Token) → Starts 2 tokens → OrAbsent (operator sign_of) Anything sign tokens
  sign_follows None tokens e = absent_operator_start sign_of 2 sign_starts tokens e
  sign_follows (Some o) tokens e = tt

  pub exact_simple : Exact (p.simple levels P PF) (r.simple levels R RF) (λ x. Ends 2)
  unfolding r.simple
  exact_simple = exact_as
      (exact_seq (exact_operator sign_of sign_symbol signs) (λ sign. exact_seq exact_term (λ first. exact_seq (exact_many added_terms) (λ others. exact_made out-Simple roll-Simple out-roll-Simple roll-out-Simple (record { sign = sign; first = first; others = others })) (λ others c middle rest h g. before_made (Ends 2) out-Simple (record { sign = sign; first = first; others = others }) c middle rest h g))
      (λ first c middle rest h g. each_follows added_terms h.0 middle h.1 h.2 (before_made (Ends 2) out-Simple (record { sign = sign; first = first; others = h.0 }) c h.1 rest h.3 g)))
      (λ sign c middle rest h g. sign_follows sign middle (term_starts h.0 middle h.1 h.2)))
      (λ x tokens rest h. subst (λ (l : SimpleLayer). (maybe p.sign_phrase l.sign ⨾ p.term levels P PF l.first ⨾ each added_term_phrase l.others) tokens rest) (sym h.3.3.3.0) (h.1, h.2, (h.3.1, h.3.2, subst (λ z. each added_term_phrase h.3.3.0 h.3.1 z) h.3.3.3.1 h.3.3.2)))
      (λ x tokens rest h. ((out-Simple x).sign, h.0, h.1, ((out-Simple x).first, h.2.0, h.2.1, ((out-Simple x).others, rest, h.2.2, (refl, refl)))))

  signed_starts : (sign : Option (Sign × Span)) (tokens middle : List Token) → maybe p.sign_phrase sign tokens middle → Starts 2 middle → Starts 1 tokens
  signed_starts None tokens middle h e = record { first = omega (arith, (subst (Starts 2) (sym h) e).first) }
  signed_starts (Some o) tokens middle h e = starts_by 1 (kinds.Symbol (sign_symbol o.0)) o.1 tokens middle h (sign_starts_expr o.0)

  simple_starts : (x : Simple) (tokens rest : List Token) → p.simple levels P PF x tokens rest → Starts 1 tokens
  simple_starts x tokens rest h = signed_starts (out-Simple x).sign tokens h.0 h.1 (term_starts (out-Simple x).first h.0 h.2.0 h.2.1)

  -- ---- expressions

  abbrev related_phrase : Related → Phrase
  related_phrase = p.related levels P PF

  abbrev asked_phrase : Related → Phrase
  asked_phrase = Seq (symbol_at s.Is) (λ span. Seq names.qualident (λ q. Made out-Related (Related-F.Is span q)))

  exact_asked : Exact (maybe asked_phrase) r.asked (OrAbsent r.asked (λ x. Ends 5))
  unfolding r.asked
  exact_asked = exact_where_some (exact_eat s.Is) (λ span. exact_seq exact_qualident (λ q. exact_made out-Related roll-Related out-roll-Related roll-out-Related (Related-F.Is span q)) (λ q c middle rest h g. before_made (Ends 5) out-Related (Related-F.Is span q) c middle rest h g))

  absent_asked : (tokens : List Token) → Ends 1 tokens → IsAbsent r.asked tokens
  unfolding r.asked
  absent_asked tokens e = absent_where (eat s.Is) (λ span. name_reading.qualident >>= (λ q. pure (roll-Related (Related-F.Is span q)))) tokens (absent_eat s.Is 1 tokens (omega arith) e)

  abbrev by_read : Relation × Span → Option Related → Phrase
  by_read o = Seq (p.simple levels P PF) (λ x. MadeSome out-Related (Related-F.By o.0 o.1 x))

  abbrev related_read : Option Related → Phrase
  related_read = Seq (maybe (operator_phrase relation_symbol)) (Either (maybe asked_phrase) by_read)

  abbrev RelatedFollow : Follow (Option Related)
  RelatedFollow None rest = Ends 1 rest
  RelatedFollow (Some x) rest = Ends 2 rest

  asked_follows : (x : Option Related) (tokens rest : List Token) → maybe asked_phrase x tokens rest → RelatedFollow x rest → OrAbsent r.asked (λ y. Ends 5) x rest
  asked_follows None tokens rest h g = absent_asked rest g
  asked_follows (Some x) tokens rest h g = ends_at 2 5 rest g (omega arith)

  made_ends : (l : RelatedLayer) (x : Option Related) (middle rest : List Token) → MadeSome out-Related l x middle rest → RelatedFollow x rest → Ends 2 middle
  made_ends l None middle rest h g = absurd h
  made_ends l (Some x) middle rest h g = subst (Ends 2) (sym h.1) g

  is_no_relation : (span : Span) (rest : List Token) → IsAbsent (operator relation_of) (record { kind = kinds.Symbol s.Is; span = span } ∷ rest)
  unfolding operator
  is_no_relation span rest = refl

  no_operator : (x : Option Related) (middle rest : List Token) → maybe asked_phrase x middle rest → RelatedFollow x rest → IsAbsent (operator relation_of) middle
  no_operator None middle rest h g = absent_operator relation_of 1 relation_ends middle (subst (Ends 1) (sym h) g)
  no_operator (Some x) middle rest h g = subst (IsAbsent (operator relation_of)) (sym h.2) (is_no_relation h.0 h.1)

  operator_follows : (o : Option (Relation × Span)) (x : Option Related) (middle rest : List Token) → Either (maybe asked_phrase) by_read o x middle rest → RelatedFollow x rest → OrAbsent (operator relation_of) Anything o middle
  operator_follows None x middle rest h g = no_operator x middle rest h g
  operator_follows (Some o) x middle rest h g = tt

  asked_there : (x : Option Related) (tokens middle rest : List Token) → tokens ≡ middle → maybe asked_phrase x middle rest → maybe related_phrase x tokens rest
  asked_there None tokens middle rest k h = k ∙ h
  asked_there (Some x) tokens middle rest k h =
      let name : names.qualident h.3.0 h.1 rest = subst (λ z. names.qualident h.3.0 h.1 z) h.3.3.1 h.3.2 in
      subst (λ ts. related_phrase x ts rest) (sym k) (subst (λ l. p.related_layer levels P PF l middle rest) (sym h.3.3.0) (h.1, h.2, name))

  by_there : (o : Relation × Span) (x : Option Related) (tokens middle rest : List Token) → symbol_at (relation_symbol o.0) o.1 tokens middle → by_read o x middle rest → maybe related_phrase x tokens rest
  by_there o None tokens middle rest k h = absurd h.3
  by_there o (Some x) tokens middle rest k h =
      let side : p.simple levels P PF h.0 middle rest = subst (λ z. p.simple levels P PF h.0 middle z) h.3.1 h.2 in
      subst (λ l. p.related_layer levels P PF l tokens rest) (sym h.3.0) (middle, k, side)

  related_there_by : (o : Option (Relation × Span)) (x : Option Related) (tokens middle rest : List Token) → maybe (operator_phrase relation_symbol) o tokens middle → Either (maybe asked_phrase) by_read o x middle rest → maybe related_phrase x tokens rest
  related_there_by None x tokens middle rest k h = asked_there x tokens middle rest k h
  related_there_by (Some o) x tokens middle rest k h = by_there o x tokens middle rest k h

  related_layer_back : (x : Related) (l : RelatedLayer) (tokens rest : List Token) → out-Related x ≡ l → p.related_layer levels P PF l tokens rest → related_read (Some x) tokens rest
  related_layer_back x (Related-F.By relation span side) tokens rest is h = (Some (relation, span), h.0, h.1, (side, rest, h.2, (is, refl)))
  related_layer_back x (Related-F.Is span q) tokens rest is h = (None, tokens, refl, (span, h.0, h.1, (q, rest, h.2, (is, refl))))

  related_back : (x : Option Related) (tokens rest : List Token) → maybe related_phrase x tokens rest → related_read x tokens rest
  related_back None tokens rest h = (None, tokens, refl, h)
  related_back (Some x) tokens rest h = related_layer_back x (out-Related x) tokens rest refl h

  exact_related : Exact (maybe related_phrase) (r.related levels R RF) RelatedFollow
  unfolding r.related
  exact_related = exact_as
      (exact_seq (exact_operator relation_of relation_symbol relations) (λ found. exact_either (exact_where exact_asked asked_follows)
      (λ o. exact_seq exact_simple (λ x. exact_made_some out-Related roll-Related out-roll-Related roll-out-Related (Related-F.By o.0 o.1 x)) (λ x c middle rest h g. made_ends (Related-F.By o.0 o.1 x) c middle rest h g)) found) operator_follows)
      (λ x tokens rest h. related_there_by h.0 x tokens h.1 rest h.2 h.3)
      related_back

  related_follows : (x : Option Related) (rest : List Token) → Ends 1 rest → RelatedFollow x rest
  related_follows None rest e = e
  related_follows (Some y) rest e = ends_at 1 2 rest e (omega arith)

  left_layer : (l : RelatedLayer) (tokens rest : List Token) → p.related_layer levels P PF l tokens rest → Ends 2 tokens
  left_layer (Related-F.By relation span x) tokens rest h = ends_by 2 (relation_symbol relation) span tokens h.0 h.1 (relation_binding relation)
  left_layer (Related-F.Is span q) tokens rest h = ends_by 2 s.Is span tokens h.0 h.1 (omega arith)

  left_follows : (x : Option Related) (tokens rest : List Token) → maybe related_phrase x tokens rest → Ends 1 rest → Ends 2 tokens
  left_follows None tokens rest h e = ends_at 1 2 tokens (subst (Ends 1) (sym h) e) (omega arith)
  left_follows (Some y) tokens rest h e = left_layer (out-Related y) tokens rest h

  pub exact_expr : Exact (p.expr_phrase levels P PF) (r.expr_of levels R RF) (λ e. Ends 1)
  unfolding r.expr_of
  exact_expr = exact_as
      (exact_seq exact_simple (λ left. exact_seq exact_related (λ right. exact_made out-Expr roll-Expr out-roll-Expr roll-out-Expr (record { left = left; right = right })) (λ right c middle rest h g. related_follows right middle (before_made (Ends 1) out-Expr (record { left = left; right = right }) c middle rest h g)))
      (λ left c middle rest h g. left_follows h.0 middle h.1 h.2 (before_made (Ends 1) out-Expr (record { left = left; right = h.0 }) c h.1 rest h.3 g)))
      (λ x tokens rest h. subst (λ (l : ExprLayer). (p.simple levels P PF l.left ⨾ maybe related_phrase l.right) tokens rest) (sym h.3.3.0) (h.1, h.2, subst (λ z. maybe related_phrase h.3.0 h.1 z) h.3.3.1 h.3.2))
      (λ x tokens rest h. ((out-Expr x).left, h.0, h.1, ((out-Expr x).right, rest, h.2, (refl, refl))))

  pub expr_starts : (e : Expr) (tokens rest : List Token) → p.expr_phrase levels P PF e tokens rest → Starts 1 tokens
  expr_starts e tokens rest h = simple_starts (out-Expr e).left tokens h.0 h.1

-- ---- at every depth of nesting

pub record AtDepth (n : ℕ) : Type 0 where
  pub exact_inner : Exact (p.inner n) (r.inner n) (λ e. Ends 1)
  pub exact_inner_factor : Exact (p.inner_factor n) (r.inner_factor n) (λ f. Ends 4)
  pub starts : (e : Expr) (tokens rest : List Token) → p.inner n e tokens rest → Starts 1 tokens

pub at_depth : (n : ℕ) → AtDepth n
at_depth zero = record {
  exact_inner = exact_refuse codes.Nesting;
  exact_inner_factor = exact_refuse codes.Nesting;
  starts = λ e tokens rest h. absurd h;
}
at_depth (suc n) =
    let d = at_depth n in
    record {
      exact_inner = exact_expr n (p.inner n) (r.inner n) (p.inner_factor n) (r.inner_factor n) d.exact_inner d.exact_inner_factor d.starts;
      exact_inner_factor = exact_factor n (p.inner n) (r.inner n) (p.inner_factor n) (r.inner_factor n) d.exact_inner d.exact_inner_factor d.starts;
      starts = expr_starts n (p.inner n) (r.inner n) (p.inner_factor n) (r.inner_factor n) d.exact_inner d.exact_inner_factor d.starts;
    }

pub exact_expression : (levels : ℕ) → Exact (p.expr levels) (r.expr levels) (λ e. Ends 1)
exact_expression n =
    let d = at_depth n in exact_expr n (p.inner n) (r.inner n) (p.inner_factor n) (r.inner_factor n) d.exact_inner d.exact_inner_factor d.starts

-- and where one was read none follows
pub designator_stops_in : (levels : ℕ) (d : Designator) (tokens rest : List Token) → r.designator levels (r.inner levels) tokens ≡ answer d rest → at_guard rest ≡ false
designator_stops_in n =
    let d = at_depth n in designator_stops n (p.inner n) (r.inner n) (p.inner_factor n) (r.inner_factor n) d.exact_inner d.exact_inner_factor d.starts

pub exact_designator_in : (levels : ℕ) → Exact (p.designator levels (p.inner levels) (p.inner_factor levels)) (r.designator levels (r.inner levels)) (λ d. NoSelector)
exact_designator_in n =
    let d = at_depth n in exact_designator n (p.inner n) (r.inner n) (p.inner_factor n) (r.inner_factor n) d.exact_inner d.exact_inner_factor d.starts

-- what stands after an opening parenthesis
abbrev pub behind_paren : ℕ → List Expr → Phrase
behind_paren levels es = opens levels ⨾ listed s.Comma (p.inner levels) es ⨾ symbol s.RightParen

pub exact_actuals_in : (levels : ℕ) → Exact (behind_paren levels) (r.actuals levels (r.inner levels)) Anything
exact_actuals_in n =
    let d = at_depth n in exact_actuals n (p.inner n) (r.inner n) (p.inner_factor n) (r.inner_factor n) d.exact_inner d.exact_inner_factor d.starts

pub exact_exprs_in : (levels : ℕ) → Exact (separated s.Comma (p.inner levels)) (r.exprs (r.inner levels)) (λ es. Ends 0)
exact_exprs_in n =
    let d = at_depth n in exact_exprs n (p.inner n) (r.inner n) (p.inner_factor n) (r.inner_factor n) d.exact_inner d.exact_inner_factor d.starts
