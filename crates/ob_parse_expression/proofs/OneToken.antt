-- Readers of one token, and which tokens go on with what stands before them.
use Rattle.std.proofs.Common.{◌≡◌, ℕ, zero, suc, ◌<◌, ◌≤◌, Bool, true, false, cond, List, [], ◌∷◌, length, Option, Some, None, Err, refl, sym, ap, subst, ◌∙◌, arith}
use Rattle.ob_base.specs.declared.fault.Code.TheVariants as codes
use Rattle.ob_scan.specs.declared.token.Kind.{Kind}
use Rattle.ob_scan.specs.declared.token.Kind.TheVariants as kinds
use Rattle.ob_scan.specs.declared.token.Span.{Span}
use Rattle.ob_scan.specs.declared.token.Symbol.{Symbol}
use Rattle.ob_scan.specs.declared.token.Symbol.TheVariants as s
use Rattle.ob_scan.specs.declared.token.Token.{Token}
use Rattle.ob_scan.specs.Symbols.{same_symbol}
use Rattle.ob_scan.proofs.SymbolLemmas.{same_symbol_is, same_symbol_self}
use Rattle.ob_tree.specs.declared.tree.Ident.{Ident}
use Rattle.ob_tree.proofs.Tokens.{made}
use Rattle.ob_tree.specs.Phrase as phrase
use Rattle.ob_tree.specs.Phrase.{Phrase, symbol_at, maybe}
use Rattle.ob_parse_expression.specs.Reading as reading
use Rattle.ob_parse_expression.specs.Reading.{Outcome, eat, expect, is_symbol, operator, operator_by, ident_by}
use Rattle.ob_parse_expression.proofs.Exact.{Exact, Anything, OrAbsent, IsAbsent, answer, answers, same_answer}

-- ---- a symbol

pub is_symbol_is : (symbol : Symbol) (k : Kind) → is_symbol symbol k ≡ true → k ≡ kinds.Symbol symbol
is_symbol_is symbol (kinds.Symbol a) e = ap (λ x. kinds.Symbol x) (same_symbol_is a symbol e)
is_symbol_is symbol (kinds.Ident n) e = absurd cc
is_symbol_is symbol (kinds.Integer n) e = absurd cc
is_symbol_is symbol (kinds.Text n) e = absurd cc

pub is_symbol_self : (symbol : Symbol) → is_symbol symbol (kinds.Symbol symbol) ≡ true
is_symbol_self symbol = same_symbol_self symbol

-- tokens that begin with a token
pub begins_by : (k l : Kind) (span : Span) (ts rest : List Token) → k ≡ l → ts ≡ rest → made k span ∷ ts ≡ made l span ∷ rest
begins_by k l span ts rest e f = cc

chosen_expect : (symbol : Symbol) (t : Token) (ts : List Token) (b : Bool) (x : Span) (rest : List Token) → is_symbol symbol t.kind ≡ b → cond b (answer t.span ts) (Err codes.Token) ≡ answer x rest → symbol_at symbol x (t ∷ ts) rest
chosen_expect symbol t ts true x rest is e =
    let b = answers t.span x ts rest e in
    subst (λ y. symbol_at symbol y (t ∷ ts) rest) b.0 (begins_by t.kind (kinds.Symbol symbol) t.span ts rest (is_symbol_is symbol t.kind is) b.1)
chosen_expect symbol t ts false x rest is e = absurd cc

expect_sound : (symbol : Symbol) (x : Span) (tokens rest : List Token) → expect symbol tokens ≡ answer x rest → symbol_at symbol x tokens rest
unfolding expect
expect_sound symbol x [] rest e = absurd cc
expect_sound symbol x (t ∷ ts) rest e = chosen_expect symbol t ts (is_symbol symbol t.kind) x rest refl e

expect_made : (symbol : Symbol) (x : Span) (rest : List Token) → expect symbol (made (kinds.Symbol symbol) x ∷ rest) ≡ answer x rest
unfolding expect
expect_made symbol x rest = ap (λ b. cond b (answer x rest) (Err codes.Token)) (is_symbol_self symbol)

pub exact_expect : (symbol : Symbol) → Exact (symbol_at symbol) (expect symbol) Anything
exact_expect symbol = record {
  sound = expect_sound symbol;
  complete = λ x tokens rest h follows. ap (expect symbol) h ∙ expect_made symbol x rest;
  shorter = λ x tokens rest h. omega (arith, ap length h);
}

chosen_eat : (symbol : Symbol) (t : Token) (ts : List Token) (b : Bool) (x : Option Span) (rest : List Token) → is_symbol symbol t.kind ≡ b → cond b (answer (Some t.span) ts) (answer None (t ∷ ts)) ≡ answer x rest → maybe (symbol_at symbol) x (t ∷ ts) rest
chosen_eat symbol t ts true x rest is e =
    let b = answers (Some t.span) x ts rest e in
    subst (λ y. maybe (symbol_at symbol) y (t ∷ ts) rest) b.0 (begins_by t.kind (kinds.Symbol symbol) t.span ts rest (is_symbol_is symbol t.kind is) b.1)
chosen_eat symbol t ts false x rest is e =
    let b = answers None x (t ∷ ts) rest e in
    subst (λ y. maybe (symbol_at symbol) y (t ∷ ts) rest) b.0 b.1

eat_sound : (symbol : Symbol) (x : Option Span) (tokens rest : List Token) → eat symbol tokens ≡ answer x rest → maybe (symbol_at symbol) x tokens rest
unfolding eat
eat_sound symbol x [] rest e = let b = answers None x [] rest e in subst (λ y. maybe (symbol_at symbol) y [] rest) b.0 b.1
eat_sound symbol x (t ∷ ts) rest e = chosen_eat symbol t ts (is_symbol symbol t.kind) x rest refl e

eat_made : (symbol : Symbol) (x : Span) (rest : List Token) → eat symbol (made (kinds.Symbol symbol) x ∷ rest) ≡ answer (Some x) rest
unfolding eat
eat_made symbol x rest = ap (λ b. cond b (answer (Some x) rest) (answer None (made (kinds.Symbol symbol) x ∷ rest))) (is_symbol_self symbol)

eat_complete : (symbol : Symbol) (x : Option Span) (tokens rest : List Token) → maybe (symbol_at symbol) x tokens rest → OrAbsent (eat symbol) Anything x rest → eat symbol tokens ≡ answer x rest
eat_complete symbol None tokens rest h follows = ap (eat symbol) h ∙ follows
eat_complete symbol (Some x) tokens rest h follows = ap (eat symbol) h ∙ eat_made symbol x rest

pub maybe_shorter : {A : Type 0} (p : A → Phrase) → ((x : A) (tokens rest : List Token) → p x tokens rest → length rest ≤ length tokens) → (x : Option A) (tokens rest : List Token) → maybe p x tokens rest → length rest ≤ length tokens
maybe_shorter p shorter None tokens rest h = omega (arith, ap length h)
maybe_shorter p shorter (Some x) tokens rest h = shorter x tokens rest h

pub exact_eat : (symbol : Symbol) → Exact (maybe (symbol_at symbol)) (eat symbol) (OrAbsent (eat symbol) Anything)
exact_eat symbol = record {
  sound = eat_sound symbol;
  complete = eat_complete symbol;
  shorter = maybe_shorter (symbol_at symbol) (exact_expect symbol).shorter;
}

-- ---- a name

ident_by_sound : (k : Kind) (span : Span) (ts : List Token) (x : Ident) (rest : List Token) → ident_by k span ts ≡ answer x rest → phrase.ident x (made k span ∷ ts) rest
ident_by_sound (kinds.Ident n) span ts x rest e =
    let b = answers (record { name = n; span = span }) x ts rest e in
    subst (λ (y : Ident). phrase.ident y (made (kinds.Ident n) span ∷ ts) rest) b.0 (ap (λ r. made (kinds.Ident n) span ∷ r) b.1)
ident_by_sound (kinds.Symbol n) span ts x rest e = absurd cc
ident_by_sound (kinds.Integer n) span ts x rest e = absurd cc
ident_by_sound (kinds.Text n) span ts x rest e = absurd cc

ident_sound : (x : Ident) (tokens rest : List Token) → reading.ident tokens ≡ answer x rest → phrase.ident x tokens rest
unfolding reading.ident
ident_sound x [] rest e = absurd cc
ident_sound x (t ∷ ts) rest e = ident_by_sound t.kind t.span ts x rest e

ident_made : (x : Ident) (rest : List Token) → reading.ident (made (kinds.Ident x.name) x.span ∷ rest) ≡ answer x rest
unfolding reading.ident
ident_made x rest = refl

pub exact_ident : Exact phrase.ident reading.ident Anything
exact_ident = record {
  sound = ident_sound;
  complete = λ x tokens rest h follows. ap reading.ident h ∙ ident_made x rest;
  shorter = λ x tokens rest h. omega (arith, ap length h);
}

-- ---- an operator of a class

pub record IsClass {O : Type 0} (of : Kind → Option O) (symbol_of : O → Symbol) : Type 0 where
  pub back : (k : Kind) (o : O) → of k ≡ Some o → k ≡ kinds.Symbol (symbol_of o)
  pub again : (o : O) → of (kinds.Symbol (symbol_of o)) ≡ Some o

abbrev pub operator_phrase : {O : Type 0} → (O → Symbol) → O × Span → Phrase
operator_phrase symbol_of o = symbol_at (symbol_of o.0) o.1

module _ {O : Type 0} (of : Kind → Option O) (symbol_of : O → Symbol) (class : IsClass of symbol_of) where
  operator_by_sound : (found : Option O) (t : Token) (ts : List Token) (x : Option (O × Span)) (rest : List Token) → of t.kind ≡ found → operator_by found t ts ≡ answer x rest → maybe (operator_phrase symbol_of) x (t ∷ ts) rest
  operator_by_sound (Some o) t ts x rest is e =
      let b = answers (Some (o, t.span)) x ts rest e in
      subst (λ y. maybe (operator_phrase symbol_of) y (t ∷ ts) rest) b.0 (begins_by t.kind (kinds.Symbol (symbol_of o)) t.span ts rest (class.back t.kind o is) b.1)
  operator_by_sound None t ts x rest is e =
      let b = answers None x (t ∷ ts) rest e in
      subst (λ y. maybe (operator_phrase symbol_of) y (t ∷ ts) rest) b.0 b.1

  operator_sound : (x : Option (O × Span)) (tokens rest : List Token) → operator of tokens ≡ answer x rest → maybe (operator_phrase symbol_of) x tokens rest
  unfolding operator
  operator_sound x [] rest e = let b = answers None x [] rest e in subst (λ y. maybe (operator_phrase symbol_of) y [] rest) b.0 b.1
  operator_sound x (t ∷ ts) rest e = operator_by_sound (of t.kind) t ts x rest refl e

  operator_made : (o : O × Span) (rest : List Token) → operator of (made (kinds.Symbol (symbol_of o.0)) o.1 ∷ rest) ≡ answer (Some o) rest
  unfolding operator
  operator_made o rest = ap (λ f. operator_by f (made (kinds.Symbol (symbol_of o.0)) o.1) rest) (class.again o.0)

  operator_complete : (x : Option (O × Span)) (tokens rest : List Token) → maybe (operator_phrase symbol_of) x tokens rest → OrAbsent (operator of) Anything x rest → operator of tokens ≡ answer x rest
  operator_complete None tokens rest h follows = ap (operator of) h ∙ follows
  operator_complete (Some o) tokens rest h follows = ap (operator of) h ∙ operator_made o rest

  pub exact_operator : Exact (maybe (operator_phrase symbol_of)) (operator of) (OrAbsent (operator of) Anything)
  exact_operator = record {
    sound = operator_sound;
    complete = operator_complete;
    shorter = maybe_shorter (operator_phrase symbol_of) (λ o tokens rest h. omega (arith, ap length h));
  }

-- ---- room for one more construct

opens_sound : (levels x : ℕ) (tokens rest : List Token) → reading.opens levels tokens ≡ answer x rest → (levels ≡ suc x) × (tokens ≡ rest)
unfolding reading.opens
opens_sound zero x tokens rest e = absurd cc
opens_sound (suc n) x tokens rest e = let b = answers n x tokens rest e in (ap suc b.0, b.1)

opens_made : (x : ℕ) (rest : List Token) → reading.opens (suc x) rest ≡ answer x rest
unfolding reading.opens
opens_made x rest = refl

abbrev pub Opens : ℕ → ℕ → Phrase
Opens levels x tokens rest = (levels ≡ suc x) × (tokens ≡ rest)

pub exact_opens : (levels : ℕ) → Exact (Opens levels) (reading.opens levels) Anything
exact_opens levels = record {
  sound = opens_sound levels;
  complete = λ x tokens rest h follows. ap (λ n. reading.opens n tokens) h.0 ∙ opens_made x tokens ∙ same_answer x x tokens rest refl h.1;
  shorter = λ x tokens rest h. omega (arith, ap length h.1);
}

-- ---- how tightly a token goes on with what stands before it

abbrev pub binding_of : Symbol → ℕ
binding_of s.Period = 6
binding_of s.LeftBracket = 6
binding_of s.LeftParen = 5
binding_of s.Times = 4
binding_of s.Div = 4
binding_of s.Mod = 4
binding_of s.And = 4
binding_of s.Plus = 3
binding_of s.Minus = 3
binding_of s.Or = 3
binding_of s.Equal = 2
binding_of s.NotEqual = 2
binding_of s.Less = 2
binding_of s.LessEqual = 2
binding_of s.Greater = 2
binding_of s.GreaterEqual = 2
binding_of s.Is = 2
binding_of s.Comma = 1
binding_of _ = 0

abbrev pub binding : Kind → ℕ
binding (kinds.Symbol a) = binding_of a
binding _ = 0

abbrev pub binding_at : List Token → ℕ
binding_at [] = 0
binding_at (t ∷ ts) = binding t.kind

-- no token follows that binds tighter than level
pub record Ends (level : ℕ) (tokens : List Token) : Type 0 where
  pub loose : binding_at tokens ≤ level

pub ends_at : (m n : ℕ) (tokens : List Token) → Ends m tokens → m ≤ n → Ends n tokens
ends_at m n tokens e le = record { loose = omega (arith, e.loose) }

pub ends_by : (n : ℕ) (symbol : Symbol) (span : Span) (tokens rest : List Token) → symbol_at symbol span tokens rest → binding_of symbol ≤ n → Ends n tokens
ends_by n symbol span tokens rest h le = subst (Ends n) (sym h) (record { loose = le })

absent_eat_by : (symbol : Symbol) (n : ℕ) (t : Token) (ts : List Token) (b : Bool) → is_symbol symbol t.kind ≡ b → n < binding_of symbol → binding t.kind ≤ n → cond b (answer (Some t.span) ts) (answer None (t ∷ ts)) ≡ answer None (t ∷ ts)
absent_eat_by symbol n t ts false is lt le = refl
absent_eat_by symbol n t ts true is lt le = absurd (omega (arith, ap binding (is_symbol_is symbol t.kind is)))

pub absent_eat : (symbol : Symbol) (n : ℕ) (tokens : List Token) → n < binding_of symbol → Ends n tokens → IsAbsent (eat symbol) tokens
unfolding eat
absent_eat symbol n [] lt e = refl
absent_eat symbol n (t ∷ ts) lt e = absent_eat_by symbol n t ts (is_symbol symbol t.kind) refl lt e.loose

absent_operator_by : {O : Type 0} (of : Kind → Option O) (t : Token) (ts : List Token) → of t.kind ≡ None → operator_by (of t.kind) t ts ≡ answer None (t ∷ ts)
absent_operator_by of t ts e = ap (λ f. operator_by f t ts) e

pub absent_operator : {O : Type 0} (of : Kind → Option O) (n : ℕ) → ((k : Kind) → binding k ≤ n → of k ≡ None) → (tokens : List Token) → Ends n tokens → IsAbsent (operator of) tokens
unfolding operator
absent_operator of n none [] e = refl
absent_operator of n none (t ∷ ts) e = absent_operator_by of t ts (none t.kind e.loose)

-- ---- what begins an expression: 2 where it begins a factor, 1 where it is a sign

abbrev pub start_of : Kind → ℕ
start_of (kinds.Ident n) = 2
start_of (kinds.Integer n) = 2
start_of (kinds.Text t) = 2
start_of (kinds.Symbol s.True) = 2
start_of (kinds.Symbol s.False) = 2
start_of (kinds.Symbol s.LeftParen) = 2
start_of (kinds.Symbol s.Not) = 2
start_of (kinds.Symbol s.Plus) = 1
start_of (kinds.Symbol s.Minus) = 1
start_of _ = 0

abbrev pub start_at : List Token → ℕ
start_at [] = 0
start_at (t ∷ ts) = start_of t.kind

pub record Starts (n : ℕ) (tokens : List Token) : Type 0 where
  pub first : n ≤ start_at tokens

pub starts_by : (n : ℕ) (k : Kind) (span : Span) (tokens rest : List Token) → tokens ≡ made k span ∷ rest → n ≤ start_of k → Starts n tokens
starts_by n k span tokens rest h le = subst (Starts n) (sym h) (record { first = le })

absent_start_by : (symbol : Symbol) (t : Token) (ts : List Token) (b : Bool) → is_symbol symbol t.kind ≡ b → start_of (kinds.Symbol symbol) ≡ 0 → 1 ≤ start_of t.kind → cond b (answer (Some t.span) ts) (answer None (t ∷ ts)) ≡ answer None (t ∷ ts)
absent_start_by symbol t ts false is other le = refl
absent_start_by symbol t ts true is other le = absurd (omega (arith, ap start_of (is_symbol_is symbol t.kind is)))

pub absent_start : (symbol : Symbol) (tokens : List Token) → start_of (kinds.Symbol symbol) ≡ 0 → Starts 1 tokens → IsAbsent (eat symbol) tokens
unfolding eat
absent_start symbol [] other e = refl
absent_start symbol (t ∷ ts) other e = absent_start_by symbol t ts (is_symbol symbol t.kind) refl other e.first

pub absent_operator_start : {O : Type 0} (of : Kind → Option O) (n : ℕ) → ((k : Kind) → n ≤ start_of k → of k ≡ None) → (tokens : List Token) → Starts n tokens → IsAbsent (operator of) tokens
unfolding operator
absent_operator_start of n none [] e = refl
absent_operator_start of n none (t ∷ ts) e = absent_operator_by of t ts (none t.kind e.first)

-- another symbol comes next
pub other_symbol : (symbol other : Symbol) (span : Span) (rest : List Token) → same_symbol other symbol ≡ false → IsAbsent (eat symbol) (made (kinds.Symbol other) span ∷ rest)
unfolding eat
other_symbol symbol other span rest e = ap (λ b. cond b (answer (Some span) rest) (answer None (made (kinds.Symbol other) span ∷ rest))) e

-- ---- what may follow a statement: 1 for a semicolon, more for what ends a sequence

abbrev pub closing_of : Symbol → ℕ
closing_of s.Semicolon = 1
closing_of s.Elsif = 2
closing_of s.Else = 3
closing_of s.End = 4
closing_of s.Until = 4
closing_of s.Return = 4
closing_of s.Bar = 4
closing_of _ = 0

abbrev pub closing : Kind → ℕ
closing (kinds.Symbol a) = closing_of a
closing _ = 0

abbrev pub closing_at : List Token → ℕ
closing_at [] = 0
closing_at (t ∷ ts) = closing t.kind

pub record Closes (n : ℕ) (tokens : List Token) : Type 0 where
  pub first : n ≤ closing_at tokens

pub closes_at : (m n : ℕ) (tokens : List Token) → Closes m tokens → n ≤ m → Closes n tokens
closes_at m n tokens e le = record { first = omega (arith, e.first) }

pub closes_by : (n : ℕ) (symbol : Symbol) (span : Span) (tokens rest : List Token) → symbol_at symbol span tokens rest → n ≤ closing_of symbol → Closes n tokens
closes_by n symbol span tokens rest h le = subst (Closes n) (sym h) (record { first = le })

closing_binds : (k : Kind) → 1 ≤ closing k → binding k ≤ 0
closing_binds (kinds.Symbol s.Semicolon) h = omega arith
closing_binds (kinds.Symbol s.Elsif) h = omega arith
closing_binds (kinds.Symbol s.Else) h = omega arith
closing_binds (kinds.Symbol s.End) h = omega arith
closing_binds (kinds.Symbol s.Until) h = omega arith
closing_binds (kinds.Symbol s.Return) h = omega arith
closing_binds (kinds.Symbol s.Bar) h = omega arith
closing_binds _ h = absurd (omega arith)

pub closes_ends : (n : ℕ) (tokens : List Token) → Closes 1 tokens → Ends n tokens
closes_ends n [] e = record { loose = omega arith }
closes_ends n (t ∷ ts) e = record { loose = omega (arith, closing_binds t.kind e.first) }

absent_closing_by : (symbol : Symbol) (n : ℕ) (t : Token) (ts : List Token) (b : Bool) → is_symbol symbol t.kind ≡ b → closing_of symbol < n → n ≤ closing t.kind → cond b (answer (Some t.span) ts) (answer None (t ∷ ts)) ≡ answer None (t ∷ ts)
absent_closing_by symbol n t ts false is lt le = refl
absent_closing_by symbol n t ts true is lt le = absurd (omega (arith, ap closing (is_symbol_is symbol t.kind is)))

pub absent_closing : (symbol : Symbol) (n : ℕ) (tokens : List Token) → closing_of symbol < n → Closes n tokens → IsAbsent (eat symbol) tokens
unfolding eat
absent_closing symbol n [] lt e = refl
absent_closing symbol n (t ∷ ts) lt e = absent_closing_by symbol n t ts (is_symbol symbol t.kind) refl lt e.first
