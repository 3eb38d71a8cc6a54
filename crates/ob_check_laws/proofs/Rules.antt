-- What rules give.
use Rattle.std.proofs.Common.{◌≡◌, List, [], ◌∷◌, ◌++◌, length, Bool, true, false, cond, Option, Some, None, slice_get, refl, ap, ◌∙◌, subst}
use Rattle.ob_check_scope.specs.declared.rule.RuleCode.{RuleCode}
use Rattle.ob_check_scope.specs.Rule.{Rule, gives, there, through}
use Rattle.ob_check_laws.specs.Fitting.{StartsWith}

pub through_keeps : {S A : Type 0} (P : S → Type 0) (r : S → A → Rule S) → ((s : S) (a : A) (t : S) → gives (r s a) t → P s → P t) → (s : S) (xs : List A) (t : S) → gives (through r s xs) t → P s → P t
through_keeps P r step s [] t h p = subst P h p
through_keeps P r step s (x ∷ xs) t h p = through_keeps P r step h.0 xs t h.2 (step s x h.0 h.1 p)

pub there_is : {A : Type 0} (o : Option A) (code : RuleCode) (a : A) → gives (there o code) a → o ≡ Some a
there_is None code a h = absurd h
there_is (Some x) code a h = ap Some h

-- what a test lets through
pub if_some : {A : Type 0} (b : Bool) (x a : A) → cond b (Some x) None ≡ Some a → (b ≡ true) × (x ≡ a)
if_some true x a h = (refl, cc)
if_some false x a h = absurd (let k : None ≡ Some a = h in cc)

-- ---- lists that begin with others

pub joined_thrice : {A : Type 0} (xs ys zs : List A) → (xs ++ ys) ++ zs ≡ xs ++ (ys ++ zs)
joined_thrice [] ys zs = refl
joined_thrice (x ∷ xs) ys zs = ap (λ l. x ∷ l) (joined_thrice xs ys zs)

pub joined_none : {A : Type 0} (xs : List A) → xs ++ [] ≡ xs
joined_none [] = refl
joined_none (x ∷ xs) = ap (λ l. x ∷ l) (joined_none xs)

pub joined : {A : Type 0} (xs : List A) (x : A) (ys : List A) → (xs ++ x ∷ []) ++ ys ≡ xs ++ x ∷ ys
joined [] x ys = refl
joined (z ∷ xs) x ys = ap (λ l. z ∷ l) (joined xs x ys)

reads : {A : Type 0} (xs : List A) (x : A) (ys : List A) → slice_get (xs ++ x ∷ ys) (length xs) ≡ Some x
reads [] x ys = refl
reads (z ∷ xs) x ys = reads xs x ys

pub starts_before : {A : Type 0} (all xs : List A) (x : A) → StartsWith all (xs ++ x ∷ []) → StartsWith all xs
starts_before all xs x h = (x ∷ h.0, h.1 ∙ joined xs x h.0)

pub starts_reads : {A : Type 0} (all xs : List A) (x : A) → StartsWith all (xs ++ x ∷ []) → slice_get all (length xs) ≡ Some x
starts_reads all xs x h = ap (λ l. slice_get l (length xs)) (h.1 ∙ joined xs x h.0) ∙ reads xs x h.0
