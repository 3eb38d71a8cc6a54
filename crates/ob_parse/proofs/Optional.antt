-- What may be absent: a list after a word, and a list before a closing symbol.
use Rattle.std.proofs.Common.{inl, inr, List, [], ◌∷◌, Option, Some, None, refl, sym, subst, ◌∙◌}
use Rattle.ob_scan.specs.declared.token.Span.{Span}
use Rattle.ob_scan.specs.declared.token.Symbol.{Symbol}
use Rattle.ob_scan.specs.declared.token.Token.{Token}
use Rattle.ob_tree.specs.Phrase.{Phrase, ◌⨾◌, symbol_at, symbol, maybe, separated, listed, optional}
use Rattle.ob_parse_expression.specs.Reading as reading
use Rattle.ob_parse_expression.specs.Reading.{Reader, eat, closed_by}
use Rattle.ob_parse_expression.proofs.Exact.{Exact, Anything, OrAbsent, IsAbsent, Seq, Is, Either, exact_seq, exact_pure, exact_as, exact_either}
use Rattle.ob_parse_expression.proofs.OneToken.{exact_eat, exact_expect}

module _ {A : Type 0} (word : Symbol) (P : List A → Phrase) (R : Reader (List A)) (Outside : List Token → Type 0) (exact : Exact P R (λ xs. Outside))
    (absent : (tokens : List Token) → Outside tokens → IsAbsent (eat word) tokens) where
  abbrev behind_word : Option Span → List A → Phrase
  behind_word = Either (Is []) (λ span. P)

  optional_there : (found : Option Span) (xs : List A) (tokens middle rest : List Token) → maybe (symbol_at word) found tokens middle → behind_word found xs middle rest → optional word P xs tokens rest
  optional_there None xs tokens middle rest k h = inl (h.0, k ∙ h.1)
  optional_there (Some span) xs tokens middle rest k h = inr (middle, (span, k), h)

  optional_back : (xs : List A) (tokens rest : List Token) → optional word P xs tokens rest → Seq (maybe (symbol_at word)) behind_word xs tokens rest
  optional_back xs tokens rest (inl h) = (None, tokens, refl, (h.0, h.1))
  optional_back xs tokens rest (inr h) = (Some h.1.0, h.0, h.1.1, h.2)

  word_follows : (found : Option Span) (xs : List A) (middle rest : List Token) → behind_word found xs middle rest → Outside rest → OrAbsent (eat word) Anything found middle
  word_follows None xs middle rest h g = absent middle (subst Outside (sym h.1) g)
  word_follows (Some span) xs middle rest h g = tt

  pub exact_optional : Exact (optional word P) (reading.optional word R) (λ xs. Outside)
  unfolding reading.optional
  exact_optional = exact_as
      (exact_seq (exact_eat word) (λ found. exact_either (exact_pure []) (λ span. exact) found) word_follows)
      (λ xs tokens rest h. optional_there h.0 xs tokens h.1 rest h.2 h.3)
      optional_back

-- what stands before an optional list
pub optional_begins : {A : Type 0} (word : Symbol) (P : List A → Phrase) (Inside Outside : List Token → Type 0) → ((span : Span) (tokens rest : List Token) → symbol_at word span tokens rest → Inside tokens) → ((tokens : List Token) → Outside tokens → Inside tokens)
    → (xs : List A) (tokens rest : List Token) → optional word P xs tokens rest → Outside rest → Inside tokens
optional_begins word P Inside Outside begins inside xs tokens rest (inl h) g = subst Inside (sym h.1) (inside rest g)
optional_begins word P Inside Outside begins inside xs tokens rest (inr h) g = begins h.1.0 tokens h.0 h.1.1

-- nothing or a list, and the symbol that closes it
abbrev pub closed_list : {A : Type 0} → Symbol → Symbol → (A → Phrase) → List A → Phrase
closed_list close separator p xs = listed separator p xs ⨾ symbol close

module _ {A : Type 0} (close separator : Symbol) (P : A → Phrase) (R : Reader (List A)) (Inside : List Token → Type 0) (exact : Exact (separated separator P) R (λ xs. Inside))
    (meets : (span : Span) (tokens rest : List Token) → symbol_at close span tokens rest → Inside tokens)
    (starts : (xs : List A) (tokens rest : List Token) → separated separator P xs tokens rest → IsAbsent (eat close) tokens) where
  abbrev closed : List A → Phrase
  closed = closed_list close separator P

  listed_from : (xs : List A) (tokens rest : List Token) → separated separator P xs tokens rest → listed separator P xs tokens rest
  listed_from [] tokens rest h = absurd h
  listed_from (x ∷ xs) tokens rest h = h

  abbrev some_items : List A → Phrase
  some_items = Seq (separated separator P) (λ xs. Seq (symbol_at close) (λ span. Is xs))

  abbrev to_close : Option Span → List A → Phrase
  to_close = Either some_items (λ span. Is [])

  closed_there : (found : Option Span) (xs : List A) (tokens middle rest : List Token) → maybe (symbol_at close) found tokens middle → to_close found xs middle rest → closed xs tokens rest
  closed_there None xs tokens middle rest k h =
      let list : separated separator P xs middle h.1 = subst (λ x. separated separator P x middle h.1) (sym h.3.3.0) h.2 in
      let end : symbol_at close h.3.0 h.1 rest = subst (λ z. symbol_at close h.3.0 h.1 z) h.3.3.1 h.3.2 in
      subst (λ ts. closed xs ts rest) (sym k) (h.1, listed_from xs middle h.1 list, (h.3.0, end))
  closed_there (Some span) xs tokens middle rest k h =
      subst (λ x. closed x tokens rest) (sym h.0) (tokens, refl, (span, subst (λ z. symbol_at close span tokens z) h.1 k))

  closed_back : (xs : List A) (tokens rest : List Token) → closed xs tokens rest → Seq (maybe (symbol_at close)) to_close xs tokens rest
  closed_back [] tokens rest h = (Some h.2.0, rest, subst (λ z. symbol_at close h.2.0 z rest) (sym h.1) h.2.1, (refl, refl))
  closed_back (x ∷ xs) tokens rest h = (None, tokens, refl, (x ∷ xs, h.0, h.1, (h.2.0, rest, h.2.1, (refl, refl))))

  close_follows : (found : Option Span) (xs : List A) (middle rest : List Token) → to_close found xs middle rest → OrAbsent (eat close) Anything found middle
  close_follows None xs middle rest h = starts h.0 middle h.1 h.2
  close_follows (Some span) xs middle rest h = tt

  pub exact_closed : Exact closed (closed_by close R) Anything
  unfolding closed_by
  exact_closed = exact_as
      (exact_seq (exact_eat close) (λ found. exact_either (exact_seq exact (λ xs. exact_seq (exact_expect close) (λ span. exact_pure xs) (λ span c middle rest h g. tt)) (λ xs c middle rest h g. meets h.0 middle h.1 h.2)) (λ span. exact_pure []) found) (λ found c middle rest h g. close_follows found c middle rest h))
      (λ xs tokens rest h. closed_there h.0 xs tokens h.1 rest h.2 h.3)
      closed_back
