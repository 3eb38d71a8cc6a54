-- The answer from left to right gives what the rule gives, and else breaks what the rule breaks.
use Rattle.std.proofs.Common.{Bool, true, false, cond, ◌≡◌, ◌⊎◌, Result, Ok, Err, refl, sym, ◌∙◌, ap, subst, inl, inr}
use Rattle.ob_check_scope.specs.declared.rule.RuleCode.{RuleCode}
use Rattle.std.specs.Prelude.{IfOk}
use Rattle.ob_check_scope.specs.declared.rejected.Rejected.{Rejected}
use Rattle.ob_check_scope.specs.declared.rejected.Rejected.TheVariants as rejected
use Rattle.ob_check_scope.specs.Rule.{Judged, Judges, AnswersTree, BrokenOnly, Rule, Given, Breaks, Then, Needs, Both, gives, breaks, answer, ◌>>=◌}

same_ok : {A : Type 0} (x : Result A RuleCode) (a b : A) → x ≡ Ok a → x ≡ Ok b → a ≡ b
same_ok x a b e f = cc

not_both : {A : Type 0} (x : Result A RuleCode) (a : A) (c : RuleCode) → x ≡ Ok a → x ≡ Err c → ⊥
not_both x a c e f = cc

same_err : {A : Type 0} (x : Result A RuleCode) (a b : RuleCode) → x ≡ Err a → x ≡ Err b → a ≡ b
same_err x a b e f = cc

bind_ok : {A B : Type 0} (r : Result A RuleCode) (f : A → Result B RuleCode) (b : B) → (r >>= f) ≡ Ok b → (a : A) × (r ≡ Ok a) × (f a ≡ Ok b)
bind_ok (Ok a) f b e = (a, refl, e)
bind_ok (Err c) f b e = absurd (not_both (Err c) b c e refl)

bind_err : {A B : Type 0} (r : Result A RuleCode) (f : A → Result B RuleCode) (c : RuleCode) → (r >>= f) ≡ Err c → (r ≡ Err c) ⊎ ((a : A) × (r ≡ Ok a) × (f a ≡ Err c))
bind_err (Ok a) f c e = inr (a, refl, e)
bind_err (Err d) f c e = inl (ap Err (same_err (Err d) d c refl e))

bind_of : {A B : Type 0} (r : Result A RuleCode) (f : A → Result B RuleCode) (a : A) → r ≡ Ok a → (r >>= f) ≡ f a
bind_of r f a e = ap (λ x. x >>= f) e

test_ok : {A : Type 0} (test : Bool) (code : RuleCode) (r : Result A RuleCode) (a : A) → cond test r (Err code) ≡ Ok a → (test ≡ true) × (r ≡ Ok a)
test_ok true code r a e = (refl, e)
test_ok false code r a e = absurd (not_both (Err code) a code e refl)

test_err : {A : Type 0} (test : Bool) (code : RuleCode) (r : Result A RuleCode) (c : RuleCode) → cond test r (Err code) ≡ Err c → ((test ≡ false) × (c ≡ code)) ⊎ ((test ≡ true) × (r ≡ Err c))
test_err true code r c e = inr (refl, e)
test_err false code r c e = inl (refl, same_err (Err code) c code e refl)

pub found : {A : Type 0} (r : Rule A) (a : A) → answer r ≡ Ok a → gives r a
found (Given x) a e = same_ok (Ok x) x a refl e
found (Breaks code) a e = not_both (Err code) a code e refl
found (Then r f) b e = let h = bind_ok (answer r) (λ a. answer (f a)) b e in (h.0, found r h.0 h.1, found (f h.0) b h.2)
found (Needs test code r) b e = let h = test_ok test code (answer r) b e in (h.0, found r b h.1)
found (Both r s) b e =
    let h = bind_ok (answer r) (λ x. answer s >>= λ y. Ok (x, y)) b e in
    let k = bind_ok (answer s) (λ y. Ok (h.0, y)) b h.2 in
    let p = same_ok (Ok (h.0, k.0)) (h.0, k.0) b refl k.2 in
    (subst (gives r) (ap (λ q. q.0) p) (found r h.0 h.1), subst (gives s) (ap (λ q. q.1) p) (found s k.0 k.1))

pub only : {A : Type 0} (r : Rule A) (a : A) → gives r a → answer r ≡ Ok a
only (Given x) a h = ap Ok h
only (Breaks code) a h = absurd h
only (Then r f) b h = bind_of (answer r) (λ a. answer (f a)) h.0 (only r h.0 h.1) ∙ only (f h.0) b h.2
only (Needs test code r) b h = ap (λ t. cond t (answer r) (Err code)) h.0 ∙ only r b h.1
only (Both r s) b h =
    bind_of (answer r) (λ x. answer s >>= λ y. Ok (x, y)) b.0 (only r b.0 h.0)
    ∙ bind_of (answer s) (λ y. Ok (b.0, y)) b.1 (only s b.1 h.1)

pub broken : {A : Type 0} (r : Rule A) (c : RuleCode) → answer r ≡ Err c → breaks r c
broken (Given x) c e = not_both (Ok x) x c refl e
broken (Breaks code) c e = same_err (Err code) c code e refl
broken (Then {A} {B} r f) c e =
    elim (bind_err (answer r) (λ a. answer (f a)) c e) as (λ _. breaks r c ⊎ ((a : A) × gives r a × breaks (f a) c)) [
      | inl p ↦ inl (broken r c p)
      | inr p ↦ inr (p.0, found r p.0 p.1, broken (f p.0) c p.2)
    ]
broken (Needs test code r) c e =
    elim (test_err test code (answer r) c e) as (λ _. ((test ≡ false) × (c ≡ code)) ⊎ ((test ≡ true) × breaks r c)) [
      | inl p ↦ inl p
      | inr p ↦ inr (p.0, broken r c p.1)
    ]
broken (Both {A} {B} r s) c e =
    elim (bind_err (answer r) (λ x. answer s >>= λ y. Ok (x, y)) c e) as (λ _. breaks r c ⊎ breaks s c) [
      | inl p ↦ inl (broken r c p)
      | inr p ↦ elim (bind_err (answer s) (λ y. Ok (p.0, y)) c p.2) as (λ _. breaks r c ⊎ breaks s c) [
        | inl q ↦ inr (broken s c q)
        | inr q ↦ absurd (not_both (Ok (p.0, q.0)) (p.0, q.0) c refl q.2)
      ]
    ]

-- what is refused has no tree
pub none : {A : Type 0} (r : Rule A) (c : RuleCode) (a : A) → answer r ≡ Err c → gives r a → ⊥
none r c a e h = not_both (answer r) a c (only r a h) e

-- two trees of one rule are one
pub one : {A : Type 0} (r : Rule A) (a b : A) → gives r a → gives r b → a ≡ b
one r a b g h = same_ok (answer r) a b (only r a g) (only r b h)

-- what a judged function answers
pub judged_found : {A : Type 0} (r : Rule A) (x : Result A Rejected) → Judges r x → IfOk x (λ a. gives r a)
judged_found r (Ok a) j = found r a j
judged_found r (Err e) j = tt

pub judged_only : {A : Type 0} (r : Rule A) (x : Result A Rejected) → Judges r x → (a : A) → gives r a → AnswersTree a x
judged_only r (Ok b) j a h = same_ok (answer r) b a j (only r a h)
judged_only r (Err rejected.Memory) j a h = tt
judged_only r (Err (rejected.Rule f)) j a h = none r f.code a j h

pub judged_broken : {A : Type 0} (r : Rule A) (x : Result A Rejected) → Judges r x → BrokenOnly r x
judged_broken r (Ok a) j = tt
judged_broken r (Err rejected.Memory) j = tt
judged_broken r (Err (rejected.Rule f)) j = (broken r f.code j, λ a h. none r f.code a j h)

-- a test that holds, and then a judged rule
pub judged_needs : {A : Type 0} (test : Bool) (code : RuleCode) (r : Rule A) (x : Result A Rejected) → test ≡ true → Judges r x → Judges (Needs test code r) x
judged_needs true code r x e j = j
judged_needs false code r x e j = absurd (let k : false ≡ true = e in cc)

-- a rule that gave something, and then a judged rule
pub judged_then : {A B : Type 0} (r : Rule A) (f : A → Rule B) (a : A) (x : Result B Rejected) → answer r ≡ Ok a → Judges (f a) x → Judges (Then r f) x
judged_then r f a x e j = subst (λ q. Judged (q >>= λ y. answer (f y)) x) (sym e) j
