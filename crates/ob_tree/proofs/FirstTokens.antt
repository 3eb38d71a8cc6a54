-- An expression begins with the token that its tree names.
use Rattle.std.proofs.Common.{◌≡◌, ℕ, true, false, List, ◌∷◌, Option, Some, None, refl, sym, subst}
use Rattle.ob_scan.specs.declared.token.Kind.{Kind}
use Rattle.ob_scan.specs.declared.token.Span.{Span}
use Rattle.ob_scan.specs.declared.token.Token.{Token}
use Rattle.ob_tree.specs.declared.tree.Sign.{Sign}
use Rattle.ob_tree.specs.declared.tree.Expr.{Expr, out-Expr}
use Rattle.ob_tree.specs.declared.tree.Simple.{out-Simple}
use Rattle.ob_tree.specs.declared.tree.Term.{Term, out-Term}
use Rattle.ob_tree.specs.declared.tree.Factor.{Factor, out-Factor}
use Rattle.ob_tree.specs.declared.tree.Designator.{Designator, out-Designator}
use Rattle.ob_tree.specs.declared.tree.Factor.TheOpen.{Factor-F}
use Rattle.ob_tree.specs.Phrase.{Phrase, maybe}
use Rattle.ob_tree.specs.Expression as p
use Rattle.ob_tree.specs.Expression.{FactorLayer}
use Rattle.ob_tree.specs.FirstToken.{first_of, first_of_factor, first_of_designator, first_of_term, first_of_signed, BeginsAt}
use Rattle.ob_tree.proofs.Tokens.{made}

begins : (k : Kind) (span : Span) (tokens rest : List Token) → tokens ≡ made k span ∷ rest → BeginsAt span tokens
begins k span tokens rest h = subst (BeginsAt span) (sym h) refl

module _ (levels : ℕ) (P : Expr → Phrase) (PF : Factor → Phrase) where
  designator_begins : (d : Designator) (tokens rest : List Token) → p.designator levels P PF d tokens rest → BeginsAt (first_of_designator d) tokens
  designator_begins d tokens rest h = begins _ (out-Designator d).name.span tokens h.0 h.1

  factor_begins : (l : FactorLayer) (tokens rest : List Token) → p.factor_layer levels P PF l tokens rest → BeginsAt (first_of_factor l) tokens
  factor_begins (Factor-F.Integer n span) tokens rest h = begins _ span tokens rest h
  factor_begins (Factor-F.Text t span) tokens rest h = begins _ span tokens rest h
  factor_begins (Factor-F.Truth true span) tokens rest h = begins _ span tokens rest h
  factor_begins (Factor-F.Truth false span) tokens rest h = begins _ span tokens rest h
  factor_begins (Factor-F.Value d) tokens rest h = designator_begins d tokens rest h
  factor_begins (Factor-F.Call d es) tokens rest h = designator_begins d tokens h.0 h.1
  factor_begins (Factor-F.Parens span e) tokens rest h = begins _ span tokens h.0 h.1
  factor_begins (Factor-F.Not span f) tokens rest h = begins _ span tokens h.0 h.1

  term_begins : (t : Term) (tokens rest : List Token) → p.term levels P PF t tokens rest → BeginsAt (first_of_term t) tokens
  term_begins t tokens rest h = factor_begins (out-Factor (out-Term t).first) tokens h.0 h.1

  signed_begins : (sign : Option (Sign × Span)) (t : Term) (tokens middle rest : List Token) → maybe p.sign_phrase sign tokens middle → p.term levels P PF t middle rest → BeginsAt (first_of_signed sign t) tokens
  signed_begins None t tokens middle rest h k = subst (BeginsAt (first_of_term t)) (sym h) (term_begins t middle rest k)
  signed_begins (Some o) t tokens middle rest h k = begins _ o.1 tokens middle h

  pub phrase_begins : (e : Expr) (tokens rest : List Token) → p.expr_phrase levels P PF e tokens rest → BeginsAt (first_of e) tokens
  phrase_begins e tokens rest h = signed_begins (out-Simple (out-Expr e).left).sign (out-Simple (out-Expr e).left).first tokens h.1.0 h.1.2.0 h.1.1 h.1.2.1

pub expr_begins : (levels : ℕ) (e : Expr) (tokens rest : List Token) → p.expr levels e tokens rest → BeginsAt (first_of e) tokens
expr_begins levels e tokens rest h = phrase_begins levels (p.inner levels) (p.inner_factor levels) e tokens rest h
