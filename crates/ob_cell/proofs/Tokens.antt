-- What stands after a phrase stood among its tokens: names of tokens are words, and so are those after a phrase.
use Rattle.std.proofs.Common.{◌≡◌, ℕ, List, [], ◌∷◌, Option, Some, None, inl, inr, sym, subst}
use Rattle.ob_scan.specs.declared.class.Class.{Class}
use Rattle.ob_scan.specs.declared.class.Class.TheVariants as classes
use Rattle.ob_scan.specs.declared.class.Suffix.{Suffix}
use Rattle.ob_scan.specs.declared.class.Suffix.TheVariants as suffixes
use Rattle.ob_scan.specs.declared.place.Place.{Place}
use Rattle.ob_scan.specs.declared.token.Kind.{Kind}
use Rattle.ob_scan.specs.declared.token.Kind.TheVariants as kinds
use Rattle.ob_scan.specs.declared.token.Span.{Span}
use Rattle.ob_scan.specs.declared.token.Symbol.{Symbol}
use Rattle.ob_scan.specs.declared.token.Token.{Token}
use Rattle.ob_scan.specs.Tokens.{WordKind, NumberKind, StandsAs, Scans, done, next, class_at, suffix_of}
use Rattle.ob_tree.specs.Phrase.{Phrase, ◌⨾◌, nothing, symbol_at, symbol, ident, each, maybe, separated, listed, opens, optional}
use Rattle.ob_tree.specs.declared.tree.Ident.{Ident}
use Rattle.ob_load.specs.Words.{IsWord}

abbrev pub KindWord : Kind → Type 0
KindWord (kinds.Ident name) = IsWord name
KindWord _ = Unit {0}

abbrev pub TokenWords : List Token → Type 0
TokenWords [] = Unit {0}
TokenWords (t ∷ ts) = KindWord t.kind × TokenWords ts

-- ---- the tokens of a text

word_kind : (run : List ℕ) (kind : Kind) → IsWord run → WordKind run kind → KindWord kind
word_kind run (kinds.Ident name) h k = subst IsWord (sym k.0) h
word_kind run (kinds.Symbol symbol) h k = tt
word_kind run (kinds.Integer number) h k = tt
word_kind run (kinds.Text chars) h k = tt

number_kind : (suffix : Suffix) (run middle : List ℕ) (kind : Kind) (rest : List ℕ) → NumberKind suffix run middle kind rest → KindWord kind
number_kind suffixes.Plain run middle kind rest h = subst KindWord (sym h.0) tt
number_kind suffixes.Hexadecimal run middle kind rest h = subst KindWord (sym h.0) tt
number_kind suffixes.Character run middle kind rest h = subst KindWord (sym h.0) tt

stands_kind : (o : Option Class) (text : List ℕ) (kind : Kind) (rest : List ℕ) → StandsAs o text kind rest → KindWord kind
stands_kind None text kind rest h = absurd h
stands_kind (Some classes.Letter) text kind rest h = word_kind h.run kind h.longest.each h.kind_of
stands_kind (Some classes.Digit) text kind rest h = number_kind (suffix_of h.middle) h.run h.middle kind rest h.ends.0
stands_kind (Some classes.Quote) text kind rest h = subst KindWord (sym h.kind_of) tt
stands_kind (Some classes.Other) text kind rest h = subst KindWord (sym h.kind_of) tt

pub token_words : (p : Place) (text : List ℕ) (tokens : List Token) → Scans p text tokens → TokenWords tokens
token_words p text tokens (done gap) = tt
token_words p text tokens (next {middle = middle} {rest = rest} {kind = kind} {tokens = more} gap settled stands scans) =
    (stands_kind (class_at middle) middle kind rest stands, token_words _ rest more scans)

-- ---- phrases

pub record Keeps (p : Phrase) : Type 0 where
  pub keeps : (tokens rest : List Token) → p tokens rest → TokenWords tokens → TokenWords rest

pub then : {p q : Phrase} → Keeps p → Keeps q → Keeps (p ⨾ q)
then k l = record { keeps = λ tokens rest h w. l.keeps h.0 rest h.2 (k.keeps tokens h.0 h.1 w) }

pub one : (kind : Kind) (span : Span) → Keeps (λ tokens rest. tokens ≡ record { kind = kind; span = span } ∷ rest)
one kind span = record { keeps = λ tokens rest h w. (subst TokenWords h w).1 }

pub empty : Keeps nothing
empty = record { keeps = λ tokens rest h w. subst TokenWords h w }

pub never : Keeps (λ tokens rest. ⊥)
never = record { keeps = λ tokens rest h w. absurd h }

pub sign : (symbol : Symbol) (span : Span) → Keeps (symbol_at symbol span)
sign symbol span = one (kinds.Symbol symbol) span

pub mark : (x : Symbol) → Keeps (symbol x)
mark x = record { keeps = λ tokens rest h w. (sign x h.0).keeps tokens rest h.1 w }

pub name : (i : Ident) → Keeps (ident i)
name i = one (kinds.Ident i.name) i.span

pub deeper : (levels : ℕ) → Keeps (opens levels)
deeper levels = record { keeps = λ tokens rest h w. subst TokenWords h.1 w }

pub every : {A : Type 0} (p : A → Phrase) → ((x : A) → Keeps (p x)) → (xs : List A) → Keeps (each p xs)
every p k [] = empty
every p k (x ∷ xs) = then (k x) (every p k xs)

pub perhaps : {A : Type 0} (p : A → Phrase) → ((x : A) → Keeps (p x)) → (o : Option A) → Keeps (maybe p o)
perhaps p k None = empty
perhaps p k (Some x) = k x

pub between : {A : Type 0} (separator : Symbol) (p : A → Phrase) → ((x : A) → Keeps (p x)) → (xs : List A) → Keeps (separated separator p xs)
between separator p k [] = record { keeps = λ tokens rest h w. absurd h }
between separator p k (x ∷ xs) =
    record { keeps = λ tokens rest h w. (then (k x) (every (λ y. symbol separator ⨾ p y) (λ y. then (mark separator) (k y)) xs)).keeps tokens rest h w }

pub list_of : {A : Type 0} (separator : Symbol) (p : A → Phrase) → ((x : A) → Keeps (p x)) → (xs : List A) → Keeps (listed separator p xs)
list_of separator p k [] = empty
list_of separator p k (x ∷ xs) = between separator p k (x ∷ xs)

pub behind_word : {A : Type 0} (word : Symbol) (p : List A → Phrase) → ((xs : List A) → Keeps (p xs)) → (xs : List A) → Keeps (optional word p xs)
behind_word word p k xs = record { keeps = λ tokens rest h w. by tokens rest h w }
  where
    by : (tokens rest : List Token) → optional word p xs tokens rest → TokenWords tokens → TokenWords rest
    by tokens rest (inl e) w = subst TokenWords e.1 w
    by tokens rest (inr h) w = (then (mark word) (k xs)).keeps tokens rest h w
