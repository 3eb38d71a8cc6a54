-- One or more, with separators between.
use Rattle.std.proofs.Common.{List, [], ◌∷◌, length, refl, sym, ap, subst, arith}
use Rattle.ob_scan.specs.declared.token.Span.{Span}
use Rattle.ob_scan.specs.declared.token.Symbol.{Symbol}
use Rattle.ob_scan.specs.declared.token.Token.{Token}
use Rattle.ob_tree.specs.Phrase.{Phrase, ◌⨾◌, symbol_at, symbol, each, maybe, separated}
use Rattle.ob_parse_expression.specs.Reading as reading
use Rattle.ob_parse_expression.specs.Reading.{Reader, eat, next_item, where_some}
use Rattle.ob_parse_expression.proofs.Exact.{Exact, OrAbsent, IsAbsent, Repeats, Seq, Is, exact_seq, exact_pure, exact_as, exact_maybe_as, exact_many, each_follows, exact_where_some, absent_where, before_pure}
use Rattle.ob_parse_expression.proofs.OneToken.{exact_eat}

module _ {A : Type 0} (separator : Symbol) (P : A → Phrase) (R : Reader A) (Inside Outside : List Token → Type 0) (exact : Exact P R (λ x. Inside))
    (begins : (span : Span) (tokens rest : List Token) → symbol_at separator span tokens rest → Inside tokens)
    (absent : (tokens : List Token) → Outside tokens → IsAbsent (eat separator) tokens)
    (inside : (tokens : List Token) → Outside tokens → Inside tokens) where
  abbrev item : A → Phrase
  item x = symbol separator ⨾ P x

  exact_item : Exact (maybe item) (next_item separator R) (OrAbsent (next_item separator R) (λ x. Inside))
  unfolding next_item
  exact_item = exact_maybe_as (exact_where_some (exact_eat separator) (λ a. exact)) (λ e tokens rest h. (h.1, (h.0, h.2), h.3)) (λ e tokens rest h. (h.1.0, h.0, h.1.1, h.2))

  absent_item : (tokens : List Token) → Outside tokens → IsAbsent (next_item separator R) tokens
  unfolding next_item
  absent_item tokens e = absent_where (eat separator) (λ _. R) tokens (absent tokens e)

  items : Repeats item (next_item separator R) Inside Outside
  items = record {
    exact = exact_item;
    begins = λ e tokens rest h. begins h.1.0 tokens h.0 h.1.1;
    takes = λ e tokens rest h. omega (arith, ap length h.1.1, exact.shorter e h.0 rest h.2);
    absent = absent_item;
    inside = inside;
  }

  back : (xs : List A) (tokens rest : List Token) → separated separator P xs tokens rest → Seq P (λ first. Seq (each item) (λ others. Is (first ∷ others))) xs tokens rest
  back [] tokens rest h = absurd h
  back (x ∷ xs) tokens rest h = (x, h.0, h.1, (xs, rest, h.2, (refl, refl)))

  pub exact_separated : Exact (separated separator P) (reading.separated separator R) (λ xs. Outside)
  unfolding reading.separated
  exact_separated = exact_as
      (exact_seq exact (λ first. exact_seq (exact_many items) (λ others. exact_pure (first ∷ others)) (λ others c middle rest h g. before_pure Outside (first ∷ others) c middle rest h g))
      (λ first c middle rest h g. each_follows items h.0 middle h.1 h.2 (before_pure Outside (first ∷ h.0) c h.1 rest h.3 g)))
      (λ c tokens rest h. subst (λ xs. separated separator P xs tokens rest) (sym h.3.3.0) (h.1, h.2, subst (λ z. each item h.3.0 h.1 z) h.3.3.1 h.3.2))
      back
