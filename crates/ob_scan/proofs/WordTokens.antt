-- A word is read exactly.
use Rattle.std.proofs.Common.{◌≡◌, ℕ, ◌<◌, ◌≤◌, List, length, Some, None, Ok, Err, sym, ap, subst, ◌∙◌, arith}
use Rattle.std.specs.Borrow.{Bor}
use Rattle.ob_base.specs.declared.fault.Code.{Code}
use Rattle.ob_base.specs.declared.fault.Refused.{Refused}
use Rattle.ob_base.specs.declared.fault.Refused.TheVariants as refused
use Rattle.ob_scan.specs.declared.class.Alphabet.TheVariants as alphabets
use Rattle.ob_scan.specs.declared.token.Kind.{Kind}
use Rattle.ob_scan.specs.declared.token.Kind.TheVariants as kinds
use Rattle.ob_scan.specs.declared.token.Symbol.{Symbol}
use Rattle.ob_scan.specs.Exactly.{Exactly, IsFault, IsScanCode}
use Rattle.ob_scan.specs.Spelling.{symbol_of}
use Rattle.ob_scan.specs.Tokens.{IsRun, Word, WordKind, has}
use Rattle.ob_scan.proofs.Runs.{same_run}
use Rattle.ob_scan.proofs.Spellings.{one_spelling, found, not_found}

-- a fault where nothing stands
pub refuses : (p : Kind → List ℕ → Type 0) (code : Code) (r : Refused) → IsFault code r → IsScanCode code → ((kind : Kind) (rest : List ℕ) → p kind rest → ⊥) → Exactly p (Err r)
refuses p code refused.Memory is ok none = tt
refuses p code (refused.Fault fault) is ok none = (subst IsScanCode (sym is) ok, none)

-- a run means one thing
one_kind : (run : List ℕ) (a b : Kind) → WordKind run a → WordKind run b → a ≡ b
one_kind run (kinds.Symbol x) (kinds.Symbol y) g h = ap kinds.Symbol (one_spelling x y (g ∙ sym h))
one_kind run (kinds.Symbol x) (kinds.Ident name) g h = absurd (h.2 x g)
one_kind run (kinds.Ident name) (kinds.Symbol y) g h = absurd (g.2 y h)
one_kind run (kinds.Ident x) (kinds.Ident y) g h = ap kinds.Ident (g.0 ∙ sym h.0)
one_kind run (kinds.Symbol x) (kinds.Integer y) g h = absurd h
one_kind run (kinds.Symbol x) (kinds.Text y) g h = absurd h
one_kind run (kinds.Ident x) (kinds.Integer y) g h = absurd h
one_kind run (kinds.Ident x) (kinds.Text y) g h = absurd h
one_kind run (kinds.Integer x) b g h = absurd g
one_kind run (kinds.Text x) b g h = absurd g

pub word_by : (text run rest : List ℕ) (kind : Kind) (k : Kind) (r : List ℕ) → IsRun (has alphabets.Word) run text rest → WordKind run kind → Word text k r → (k ≡ kind) × (r ≡ rest)
word_by text run rest kind k r is means w =
    let same = same_run (has alphabets.Word) text w.run run r rest w.longest is in
    (one_kind run k kind (subst (λ z. WordKind z k) same.0 w.kind_of) means, same.1)

pub word_found : (text run : List ℕ) (kind : Kind) (rest : Bor (List ℕ)) → IsRun (has alphabets.Word) run text rest.now → WordKind run kind → Exactly (Word text) (Ok (record { kind = kind; rest = rest }))
word_found text run kind rest is means = (record { run = run; longest = is; kind_of = means }, λ k r w. word_by text run rest.now kind k r is means w)

pub reserved_found : (text run : List ℕ) (symbol : Symbol) (rest : Bor (List ℕ)) → IsRun (has alphabets.Word) run text rest.now → symbol_of run ≡ Some symbol → Exactly (Word text) (Ok (record { kind = kinds.Symbol symbol; rest = rest }))
reserved_found text run symbol rest is e = word_found text run (kinds.Symbol symbol) rest is (found symbol run e)

pub name_found : (text run name : List ℕ) (rest : Bor (List ℕ)) → IsRun (has alphabets.Word) run text rest.now → symbol_of run ≡ None → length run ≤ 64 → name ≡ run → Exactly (Word text) (Ok (record { kind = kinds.Ident name; rest = rest }))
name_found text run name rest is e short same = word_found text run (kinds.Ident name) rest is (same, short, λ symbol h. not_found symbol run e h)

long_name : (run : List ℕ) (kind : Kind) → symbol_of run ≡ None → 64 < length run → WordKind run kind → ⊥
long_name run (kinds.Symbol x) none long h = not_found x run none h
long_name run (kinds.Ident x) none long h = omega (arith, h.1)
long_name run (kinds.Integer x) none long h = h
long_name run (kinds.Text x) none long h = h

pub word_refused : (text run rest : List ℕ) (code : Code) (r : Refused) → IsRun (has alphabets.Word) run text rest → symbol_of run ≡ None → 64 < length run → IsFault code r → IsScanCode code → Exactly (Word text) (Err r)
word_refused text run rest code r is none long fault ok =
    refuses (Word text) code r fault ok (λ k t w. long_name run k none long (subst (λ z. WordKind z k) (same_run (has alphabets.Word) text w.run run t rest w.longest is).0 w.kind_of))
