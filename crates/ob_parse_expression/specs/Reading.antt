-- Reading from left to right, with one token ahead: what is read and the tokens after it, or what is wrong.
use Rattle.std.specs.Prelude.{◌≡◌, ℕ, zero, suc, Bool, true, false, List, [], ◌∷◌, length, Option, Some, None, Result, Ok, Err, if◌then◌else◌}
use Rattle.ob_base.specs.declared.fault.Code.{Code}
use Rattle.ob_base.specs.declared.fault.Code.TheVariants as codes
use Rattle.ob_base.specs.declared.fault.Refused.{Refused}
use Rattle.ob_base.specs.declared.fault.Refused.TheVariants as refused
use Rattle.ob_scan.specs.declared.token.Kind.{Kind}
use Rattle.ob_scan.specs.declared.token.Kind.TheVariants as kinds
use Rattle.ob_scan.specs.declared.token.Span.{Span}
use Rattle.ob_scan.specs.declared.token.Symbol.{Symbol}
use Rattle.ob_scan.specs.declared.token.Token.{Token}
use Rattle.ob_scan.specs.Symbols.{same_symbol}
use Rattle.ob_tree.specs.declared.tree.Ident.{Ident}

abbrev pub Outcome : Type 0 → Type 0
Outcome A = Result (A × List Token) Code

abbrev pub Reader : Type 0 → Type 0
Reader A = List Token → Outcome A

abbrev pub and_then : {A B : Type 0} → Outcome A → (A → Reader B) → Outcome B
and_then (Ok p) f = f p.0 p.1
and_then (Err e) f = Err e

infixl 10 ◌>>=◌
abbrev pub ◌>>=◌ : {A B : Type 0} → Reader A → (A → Reader B) → Reader B
r >>= f = λ tokens. and_then (r tokens) f

infixl 10 ◌>>◌
abbrev pub ◌>>◌ : {A B : Type 0} → Reader A → Reader B → Reader B
r >> q = r >>= (λ _. q)

abbrev pub pure : {A : Type 0} → A → Reader A
pure a = λ tokens. Ok (a, tokens)

abbrev pub refuse : {A : Type 0} → Code → Reader A
refuse code = λ tokens. Err code

-- ---- one token

abbrev pub is_symbol : Symbol → Kind → Bool
is_symbol symbol (kinds.Symbol k) = same_symbol k symbol
is_symbol symbol _ = false

-- a symbol, if it comes next
unfoldable pub eat : Symbol → Reader (Option Span)
eat symbol [] = Ok (None, [])
eat symbol (t ∷ ts) = if is_symbol symbol t.kind then Ok (Some t.span, ts) else Ok (None, t ∷ ts)

unfoldable pub expect : Symbol → Reader Span
expect symbol [] = Err codes.Token
expect symbol (t ∷ ts) = if is_symbol symbol t.kind then Ok (t.span, ts) else Err codes.Token

abbrev pub ident_by : Kind → Span → List Token → Outcome Ident
ident_by (kinds.Ident name) span ts = Ok (record { name = name; span = span }, ts)
ident_by _ span ts = Err codes.Token

unfoldable pub ident : Reader Ident
ident [] = Err codes.Token
ident (t ∷ ts) = ident_by t.kind t.span ts

-- an operator, if one comes next
abbrev pub operator_by : {O : Type 0} → Option O → Token → List Token → Outcome (Option (O × Span))
operator_by (Some o) t ts = Ok (Some (o, t.span), ts)
operator_by None t ts = Ok (None, t ∷ ts)

unfoldable pub operator : {O : Type 0} → (Kind → Option O) → Reader (Option (O × Span))
operator of [] = Ok (None, [])
operator of (t ∷ ts) = operator_by (of t.kind) t ts

-- one more construct opens
unfoldable pub opens : ℕ → Reader ℕ
opens zero tokens = Err codes.Nesting
opens (suc n) tokens = Ok (n, tokens)

-- ---- repetition. The number bounds the turns, and each turn takes a token, so the count of tokens is enough.

abbrev pub with_first : {A : Type 0} → A → Outcome (List A) → Outcome (List A)
with_first x (Ok p) = Ok (x ∷ p.0, p.1)
with_first x (Err e) = Err e

abbrev pub goes_on : {A : Type 0} → Option A → List Token → Reader (List A) → Outcome (List A)
goes_on None tokens more = Ok ([], tokens)
goes_on (Some x) tokens more = with_first x (more tokens)

abbrev pub many_after : {A : Type 0} → Outcome (Option A) → Reader (List A) → Outcome (List A)
many_after (Ok p) more = goes_on p.0 p.1 more
many_after (Err e) more = Err e

unfoldable pub many_from : {A : Type 0} → Reader (Option A) → ℕ → Reader (List A)
many_from step zero tokens = Err codes.Token
many_from step (suc n) tokens = many_after (step tokens) (many_from step n)

unfoldable pub many : {A : Type 0} → Reader (Option A) → Reader (List A)
many step tokens = many_from step (suc (length tokens)) tokens

-- what comes after the symbol, if the symbol comes
abbrev pub where_some : {A B : Type 0} → (A → Reader B) → Option A → Reader (Option B)
where_some f None = pure None
where_some f (Some a) = f a >>= λ b. pure (Some b)

-- one more after a separator, if the separator comes
unfoldable pub next_item : {A : Type 0} → Symbol → Reader A → Reader (Option A)
next_item separator r = eat separator >>= where_some (λ _. r)

-- one or more, with separators between
unfoldable pub separated : {A : Type 0} → Symbol → Reader A → Reader (List A)
separated separator r = do
  first ← r
  others ← many (next_item separator r)
  pure (first ∷ others)

-- one or the other, by what came
abbrev pub not_there : {A B : Type 0} → Option A → Reader B → (A → Reader B) → Reader B
not_there None none some = none
not_there (Some a) none some = some a

-- what stands after a word, and nothing where the word doesn't come
unfoldable pub optional : {A : Type 0} → Symbol → Reader (List A) → Reader (List A)
optional word r = eat word >>= λ found. not_there found (pure []) (λ _. r)

-- nothing or a list, up to a closing symbol
unfoldable pub closed_by : {A : Type 0} → Symbol → Reader (List A) → Reader (List A)
closed_by close r = do
  closed ← eat close
  not_there closed (do xs ← r; expect close; pure xs) (λ _. pure [])

abbrev pub is_ident : Kind → Bool
is_ident (kinds.Ident name) = true
is_ident _ = false

abbrev pub at_ident : List Token → Bool
at_ident [] = false
at_ident (t ∷ ts) = is_ident t.kind

-- what begins with a name, if a name comes next
unfoldable pub if_ident : {A : Type 0} → Reader A → Reader (Option A)
if_ident r tokens = if at_ident tokens then and_then (r tokens) (λ x. pure (Some x)) else Ok (None, tokens)

-- ---- what a function that parses ensures: it answers what reading answers, unless memory runs out

abbrev pub IsParseCode : Code → Type 0
IsParseCode codes.Token = Unit {0}
IsParseCode codes.Nesting = Unit {0}
IsParseCode codes.EndName = Unit {0}
IsParseCode _ = ⊥

abbrev pub Reads : {A : Type 0} → Outcome A → Result A Refused → List Token → Type 0
Reads outcome (Ok a) rest = outcome ≡ Ok (a, rest)
Reads outcome (Err refused.Memory) rest = Unit {0}
Reads outcome (Err (refused.Fault f)) rest = (outcome ≡ Err f.code) × IsParseCode f.code

-- a fault of this code
abbrev pub IsFault : Code → Refused → Type 0
IsFault code refused.Memory = ⊥
IsFault code (refused.Fault f) = f.code ≡ code
