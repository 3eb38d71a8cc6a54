-- To be believed.
-- Rules: what a construct needs, and the code that is broken where it is not there. A rule has three readings: what it
-- gives, which codes are broken, and the answer of somebody who goes through it from left to right.
use Rattle.std.specs.Prelude.{◌≡◌, Bool, true, false, Option, Some, None, List, [], ◌∷◌, if◌then◌else◌, ◌⊎◌, Result, Ok, Err}
use Rattle.ob_base.specs.declared.fault.Code.{Code}
use Rattle.ob_check_scope.specs.declared.rejected.Rejected.{Rejected}
use Rattle.ob_check_scope.specs.declared.rejected.Rejected.TheVariants as rejected
use Rattle.ob_check_scope.specs.declared.rule.RuleCode.{RuleCode}
use Rattle.ob_check_scope.specs.RuleCodes.{code_of}

pub data Rule : Type 0 → Type 1 where
  -- this is given
  Given : {A : Type 0} → A → Rule A
  -- this code is broken
  Breaks : {A : Type 0} → RuleCode → Rule A
  -- one rule, and then one that depends on what it gave
  Then : {A B : Type 0} → Rule A → (A → Rule B) → Rule B
  -- a test that has to hold, or else this code is broken, and then a rule
  Needs : {A : Type 0} → Bool → RuleCode → Rule A → Rule A
  -- two rules, neither of which needs the other
  Both : {A B : Type 0} → Rule A → Rule B → Rule (A × B)

abbrev pub gives : {A : Type 0} → Rule A → A → Type 0
gives (Given a) b = a ≡ b
gives (Breaks code) b = ⊥
gives (Then {A} r f) b = (a : A) × gives r a × gives (f a) b
gives (Needs test code r) b = (test ≡ true) × gives r b
gives (Both r s) b = gives r b.0 × gives s b.1

abbrev pub breaks : {A : Type 0} → Rule A → RuleCode → Type 0
breaks (Given a) code = ⊥
breaks (Breaks broken) code = code ≡ broken
breaks (Then {A} r f) code = breaks r code ⊎ ((a : A) × gives r a × breaks (f a) code)
breaks (Needs test other r) code = ((test ≡ false) × (code ≡ other)) ⊎ ((test ≡ true) × breaks r code)
breaks (Both r s) code = breaks r code ⊎ breaks s code

-- a rule is broken that has this code among those of all that can be wrong with a text
abbrev pub breaks_code : {A : Type 0} → Rule A → Code → Type 0
breaks_code r code = (broken : RuleCode) × breaks r broken × (code ≡ code_of broken)

infixl 10 ◌>>=◌
abbrev pub ◌>>=◌ : {A B : Type 0} → Result A RuleCode → (A → Result B RuleCode) → Result B RuleCode
(Ok x) >>= f = f x
(Err e) >>= f = Err e

abbrev pub answer : {A : Type 0} → Rule A → Result A RuleCode
answer (Given a) = Ok a
answer (Breaks code) = Err code
answer (Then r f) = answer r >>= λ a. answer (f a)
answer (Needs test code r) = if test then answer r else Err code
answer (Both r s) = answer r >>= λ a. (answer s >>= λ b. Ok (a, b))

-- what is there, or this code
abbrev pub there : {A : Type 0} → Option A → RuleCode → Rule A
there None code = Breaks code
there (Some a) code = Given a

-- A function of the code answers as somebody does who goes through the rule, unless memory runs out.
abbrev pub Judged : {A : Type 0} → Result A RuleCode → Result A Rejected → Type 0
Judged outcome (Ok a) = outcome ≡ Ok a
Judged outcome (Err rejected.Memory) = Unit {0}
Judged outcome (Err (rejected.Rule broken)) = outcome ≡ Err broken.code

abbrev pub Judges : {A : Type 0} → Rule A → Result A Rejected → Type 0
Judges r result = Judged (answer r) result

-- a rule for each of a list, each in the state that the one before it gave
abbrev pub through : {S A : Type 0} → (S → A → Rule S) → S → List A → Rule S
through r s [] = Given s
through r s (x ∷ xs) = Then (r s x) (λ t. through r t xs)

-- the tree that a rule gives is the answer, unless memory runs out
abbrev pub AnswersTree : {A : Type 0} → A → Result A Rejected → Type 0
AnswersTree tree (Ok a) = a ≡ tree
AnswersTree tree (Err rejected.Memory) = Unit {0}
AnswersTree tree (Err (rejected.Rule broken)) = ⊥

-- a code that is answered is broken, and there is no tree
abbrev pub BrokenOnly : {A : Type 0} → Rule A → Result A Rejected → Type 0
BrokenOnly r (Ok a) = Unit {0}
BrokenOnly r (Err rejected.Memory) = Unit {0}
BrokenOnly {A} r (Err (rejected.Rule broken)) = breaks r broken.code × ((a : A) → gives r a → ⊥)

-- this code is broken
abbrev pub IsBroken : RuleCode → Rejected → Type 0
IsBroken code rejected.Memory = ⊥
IsBroken code (rejected.Rule broken) = broken.code ≡ code
