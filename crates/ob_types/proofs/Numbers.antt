-- Numbers up to a most.
use Rattle.std.proofs.Common.{◌≡◌, ℕ, zero, suc, ◌*◌, ◌≤◌, min, arith, inl, inr, ap, ◌∙◌, sym, subst}
use Rattle.std.proofs.Math.Nat.{mul-le-mul_left, le-mul_of_pos_right, mul_comm}
use Rattle.std.proofs.lemmas.Bool.{cases_lt}

no_times : (c : ℕ) → 0 * c ≡ 0
no_times c = omega arith

pub product_most : (n c m : ℕ) → min (n * min c m) m ≡ min (n * c) m
product_most zero c m = ap (λ x. min x m) (no_times (min c m) ∙ sym (no_times c))
product_most (suc n) c m = elim (cases_lt c m) as (λ _. min (suc n * min c m) m ≡ min (suc n * c) m) [
  | inl l ↦ ap (λ x. min (suc n * x) m) (omega arith)
  | inr g ↦
      let small : min c m ≡ m = omega arith in
      let one : m ≤ suc n * m = subst (λ x. m ≤ x) (mul_comm m (suc n)) (le-mul_of_pos_right m (omega arith)) in
      let two : suc n * m ≤ suc n * c = mul-le-mul_left (suc n) g in
      ap (λ x. min (suc n * x) m) small ∙ omega arith
]
