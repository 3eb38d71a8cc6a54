-- To be believed.
-- Phrases of tokens, and how they are put together.
use Rattle.std.specs.Prelude.{◌≡◌, ℕ, ◌<◌, ◌⊎◌, List, [], ◌∷◌, Option, Some, None}
use Rattle.ob_scan.specs.declared.token.Kind.TheVariants as kinds
use Rattle.ob_scan.specs.declared.token.Span.{Span}
use Rattle.ob_scan.specs.declared.token.Symbol.{Symbol}
use Rattle.ob_scan.specs.declared.token.Token.{Token}
use Rattle.ob_tree.specs.declared.tree.Ident.{Ident}

-- which tokens a phrase is: the list that begins with it, and the list after it
abbrev pub Phrase : Type 1
Phrase = List Token → List Token → Type 0

-- one phrase and then another
infixr 12 ◌⨾◌
abbrev pub ◌⨾◌ : Phrase → Phrase → Phrase
(p ⨾ q) tokens rest = (middle : List Token) × p tokens middle × q middle rest

-- no token
abbrev pub nothing : Phrase
nothing tokens rest = tokens ≡ rest

-- a symbol, at a place that the tree keeps
abbrev pub symbol_at : Symbol → Span → Phrase
symbol_at symbol span tokens rest = tokens ≡ record { kind = kinds.Symbol symbol; span = span } ∷ rest

-- a symbol, anywhere
abbrev pub symbol : Symbol → Phrase
symbol s tokens rest = (span : Span) × symbol_at s span tokens rest

abbrev pub ident : Ident → Phrase
ident i tokens rest = tokens ≡ record { kind = kinds.Ident i.name; span = i.span } ∷ rest

-- { p }
abbrev pub each : {A : Type 0} → (A → Phrase) → List A → Phrase
each p [] = nothing
each p (x ∷ xs) = p x ⨾ each p xs

-- [ p ]
abbrev pub maybe : {A : Type 0} → (A → Phrase) → Option A → Phrase
maybe p None = nothing
maybe p (Some x) = p x

-- p { separator p }
abbrev pub separated : {A : Type 0} → Symbol → (A → Phrase) → List A → Phrase
separated separator p [] tokens rest = ⊥
separated separator p (x ∷ xs) tokens rest = (p x ⨾ each (λ y. symbol separator ⨾ p y) xs) tokens rest

-- [ p { separator p } ]
abbrev pub listed : {A : Type 0} → Symbol → (A → Phrase) → List A → Phrase
listed separator p [] = nothing
listed separator p (x ∷ xs) = separated separator p (x ∷ xs)

-- another construct may open inside the constructs that are open
abbrev pub opens : ℕ → Phrase
opens levels tokens rest = (0 < levels) × (tokens ≡ rest)

-- [ word p ], where an absent list is empty
abbrev pub optional : {A : Type 0} → Symbol → (List A → Phrase) → List A → Phrase
optional word p xs tokens rest = ((xs ≡ []) × (tokens ≡ rest)) ⊎ (symbol word ⨾ p xs) tokens rest
