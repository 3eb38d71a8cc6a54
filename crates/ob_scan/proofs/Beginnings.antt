-- The symbols that begin with one character are found among those alone.
use Rattle.std.proofs.Common.{◌≡◌, ◌≤◌, ℕ, Bool, true, false, ◌&&◌, ◌||◌, nat_lt, List, [], ◌∷◌, Some, None, refl, ap, sym, ◌∙◌, subst, bytes_eq, arith, cond, ltb-true}
use Rattle.std.specs.List.{list_all}
use Rattle.std.proofs.lemmas.Bool.{ne_eqb}
use Rattle.ob_scan.specs.declared.token.Symbol.{Symbol}
use Rattle.ob_scan.specs.Spelling.{spelling, symbols, find_in, symbol_of}

-- of texts that begin so, these symbols are enough
abbrev pub Suffice : List Symbol → ℕ → Type 0
Suffice few first = (rest : List ℕ) → find_in few (first ∷ rest) ≡ symbol_of (first ∷ rest)

pub moved : (few : List Symbol) (first c : ℕ) → first ≡ c → Suffice few c → Suffice few first
moved few first c e h = subst (Suffice few) (sym e) h

-- no small letter stands in front
abbrev begins_otherwise : List ℕ → Bool
begins_otherwise [] = true
begins_otherwise (c ∷ cs) = nat_lt c 97 || nat_lt 122 c

both : (a b : Bool) → (a && b) ≡ true → (a ≡ true) × (b ≡ true)
both true b e = (refl, e)
both false b e = absurd (let k : false ≡ true = e in cc)

apart_by : (c first : ℕ) (cs rest : List ℕ) (a b : Bool) → nat_lt c 97 ≡ a → nat_lt 122 c ≡ b → (a || b) ≡ true → 97 ≤ first → first ≤ 122 → bytes_eq (c ∷ cs) (first ∷ rest) ≡ false
apart_by c first cs rest true b e f o low high =
    ap (λ d. d && bytes_eq cs rest) (ne_eqb c first (λ is. omega (arith, is, low, ltb-true c 97 e)))
apart_by c first cs rest false true e f o low high =
    ap (λ d. d && bytes_eq cs rest) (ne_eqb c first (λ is. omega (arith, is, high, ltb-true 122 c f)))
apart_by c first cs rest false false e f o low high = absurd (let k : false ≡ true = o in cc)

apart : (word rest : List ℕ) (first : ℕ) → begins_otherwise word ≡ true → 97 ≤ first → first ≤ 122 → bytes_eq word (first ∷ rest) ≡ false
apart [] rest first e low high = refl
apart (c ∷ cs) rest first e low high = apart_by c first cs rest (nat_lt c 97) (nat_lt 122 c) refl refl e low high

none_in : (few : List Symbol) (rest : List ℕ) (first : ℕ) → list_all (λ s. begins_otherwise (spelling s)) few ≡ true → 97 ≤ first → first ≤ 122 → find_in few (first ∷ rest) ≡ None
none_in [] rest first e low high = refl
none_in (s ∷ few) rest first e low high =
    let parts = both (begins_otherwise (spelling s)) (list_all (λ s. begins_otherwise (spelling s)) few) e in
    ap (λ b. cond b (Some s) (find_in few (first ∷ rest))) (apart (spelling s) rest first parts.0 low high)
    ∙ none_in few rest first parts.1 low high

pub small : (first : ℕ) → 97 ≤ first → first ≤ 122 → Suffice [] first
unfolding symbol_of
small first low high rest = sym (none_in symbols rest first refl low high)

pub all : (first : ℕ) → Suffice symbols first
unfolding symbol_of
all first rest = refl
