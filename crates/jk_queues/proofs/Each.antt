-- What holds of each element, and the arrivals of one seat.
use Rattle.std.proofs.Common.{◌≡◌, ◌≢◌, ℕ, ◌==◌, cond, List, [], ◌∷◌, ◌++◌, map, sym, ap, ◌∙◌, append_assoc, ne_eqb}
use Rattle.std.specs.List.{AllByRecursion}
use Rattle.std.proofs.lemmas.List.Elements.{filter-append}
use Rattle.jk_log.specs.declared.arrival.Arrival.{Arrival}
use Rattle.jk_queues.specs.Inbox.{of}

module _ {X : Type 0} (P : X → Type 0) where
  pub All-append : (xs ys : List X) → AllByRecursion P xs → AllByRecursion P ys → AllByRecursion P (xs ++ ys)
  All-append [] ys a b = b
  All-append (x ∷ xs) ys a b = (a.0, All-append xs ys a.1 b)

  pub All-left : (xs ys : List X) → AllByRecursion P (xs ++ ys) → AllByRecursion P xs
  All-left [] ys h = tt
  All-left (x ∷ xs) ys h = (h.0, All-left xs ys h.1)

  pub All-right : (xs ys : List X) → AllByRecursion P (xs ++ ys) → AllByRecursion P ys
  All-right [] ys h = h
  All-right (x ∷ xs) ys h = All-right xs ys h.1

module _ {X Y : Type 0} (P : X → Type 0) (Q : Y → Type 0) (f : X → Y) where
  pub All-map : (xs : List X) → ((x : X) → P x → Q (f x)) → AllByRecursion P xs → AllByRecursion Q (map f xs)
  All-map [] h a = tt
  All-map (x ∷ xs) h a = (h x a.0, All-map xs h a.1)

module _ {X : Type 0} (P Q : X → Type 0) where
  pub All-weaker : (xs : List X) → ((x : X) → P x → Q x) → AllByRecursion P xs → AllByRecursion Q xs
  All-weaker [] h a = tt
  All-weaker (x ∷ xs) h a = (h x a.0, All-weaker xs h a.1)

pub of-append : (p : ℕ) (xs ys : List Arrival) → of p (xs ++ ys) ≡ of p xs ++ of p ys
of-append p = filter-append (λ x. x.seat == p)

-- one more at the back
pub of-snoc : (p : ℕ) (taken items : List Arrival) (x : Arrival) → of p (taken ++ (items ++ x ∷ [])) ≡ of p (taken ++ items) ++ of p (x ∷ [])
of-snoc p taken items x = ap (of p) (sym (append_assoc taken items (x ∷ []))) ∙ of-append p (taken ++ items) (x ∷ [])

pub of_other : (p : ℕ) (x : Arrival) → x.seat ≢ p → of p (x ∷ []) ≡ []
of_other p x n = ap (λ b. cond b (x ∷ []) []) (ne_eqb x.seat p n)

pub append_none : {X : Type 0} (xs ys : List X) → ys ≡ [] → xs ++ ys ≡ xs
append_none [] ys e = e
append_none (x ∷ xs) ys e = ap (λ l. x ∷ l) (append_none xs ys e)
