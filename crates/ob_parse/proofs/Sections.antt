-- The order of the sections of a block.
use Rattle.std.proofs.Common.{◌≡◌, ℕ, ◌<◌, ◌≤◌, Bool, true, false, cond, List, [], ◌∷◌, Some, None, refl, sym, ap, subst, arith}
use Rattle.ob_scan.specs.declared.token.Kind.{Kind}
use Rattle.ob_scan.specs.declared.token.Kind.TheVariants as kinds
use Rattle.ob_scan.specs.declared.token.Span.{Span}
use Rattle.ob_scan.specs.declared.token.Symbol.{Symbol}
use Rattle.ob_scan.specs.declared.token.Symbol.TheVariants as s
use Rattle.ob_scan.specs.declared.token.Token.{Token}
use Rattle.ob_tree.specs.Phrase.{symbol_at}
use Rattle.ob_parse_expression.specs.Reading.{eat, is_symbol, is_ident, at_ident}
use Rattle.ob_parse_expression.proofs.Exact.{IsAbsent, answer}
use Rattle.ob_parse_expression.proofs.OneToken.{is_symbol_is, Closes, closing}

abbrev pub section_of : Symbol → ℕ
section_of s.Import = 1
section_of s.Const = 2
section_of s.Type = 3
section_of s.Var = 4
section_of s.Procedure = 5
section_of s.Begin = 6
section_of s.Return = 7
section_of s.End = 8
section_of _ = 0

abbrev pub section_kind : Kind → ℕ
section_kind (kinds.Symbol a) = section_of a
section_kind _ = 0

abbrev pub section_at : List Token → ℕ
section_at [] = 0
section_at (t ∷ ts) = section_kind t.kind

-- the section that comes next is the n-th or a later one
pub record Later (n : ℕ) (tokens : List Token) : Type 0 where
  pub first : n ≤ section_at tokens

pub later_at : (m n : ℕ) (tokens : List Token) → Later m tokens → n ≤ m → Later n tokens
later_at m n tokens e le = record { first = omega (arith, e.first) }

pub later_by : (n : ℕ) (symbol : Symbol) (span : Span) (tokens rest : List Token) → symbol_at symbol span tokens rest → n ≤ section_of symbol → Later n tokens
later_by n symbol span tokens rest h le = subst (Later n) (sym h) (record { first = le })

absent_by : (symbol : Symbol) (n : ℕ) (t : Token) (ts : List Token) (b : Bool) → is_symbol symbol t.kind ≡ b → section_of symbol < n → n ≤ section_kind t.kind → cond b (answer (Some t.span) ts) (answer None (t ∷ ts)) ≡ answer None (t ∷ ts)
absent_by symbol n t ts false is lt le = refl
absent_by symbol n t ts true is lt le = absurd (omega (arith, ap section_kind (is_symbol_is symbol t.kind is)))

pub absent_later : (symbol : Symbol) (n : ℕ) (tokens : List Token) → section_of symbol < n → Later n tokens → IsAbsent (eat symbol) tokens
unfolding eat
absent_later symbol n [] lt e = refl
absent_later symbol n (t ∷ ts) lt e = absent_by symbol n t ts (is_symbol symbol t.kind) refl lt e.first

section_no_ident : (k : Kind) → 1 ≤ section_kind k → is_ident k ≡ false
section_no_ident (kinds.Ident n) h = absurd (omega arith)
section_no_ident _ h = refl

pub later_no_ident : (tokens : List Token) → Later 1 tokens → at_ident tokens ≡ false
later_no_ident [] e = refl
later_no_ident (t ∷ ts) e = section_no_ident t.kind e.first

section_closes : (k : Kind) → 7 ≤ section_kind k → 4 ≤ closing k
section_closes (kinds.Symbol s.Import) h = absurd (omega arith)
section_closes (kinds.Symbol s.Const) h = absurd (omega arith)
section_closes (kinds.Symbol s.Type) h = absurd (omega arith)
section_closes (kinds.Symbol s.Var) h = absurd (omega arith)
section_closes (kinds.Symbol s.Procedure) h = absurd (omega arith)
section_closes (kinds.Symbol s.Begin) h = absurd (omega arith)
section_closes (kinds.Symbol s.Return) h = omega arith
section_closes (kinds.Symbol s.End) h = omega arith
section_closes _ h = absurd (omega arith)

pub later_closes : (tokens : List Token) → Later 7 tokens → Closes 4 tokens
later_closes [] e = absurd (omega (arith, e.first))
later_closes (t ∷ ts) e = record { first = section_closes t.kind e.first }
