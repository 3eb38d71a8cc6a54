-- Each step keeps the rule of the word by which a pool is stopped.
use Rattle.std.proofs.Common.{◌≡◌, ◌≢◌, ℕ, zero, suc, Bool, true, false, true≢false, List, [], ◌∷◌, set, sym, refl, ◌∙◌, subst, ⊎_elim}
use mathlib.Core.Option.{some, some-ne-none, some-injective}
use lib.ListN.{get_elem?}
use Rattle.crossbeam_utils.specs.Register.{Turns, Forks}
use Rattle.atomic_table.proofs.Lists.{at_set, at_snoc}
use Rattle.jk_queues.specs.declared.stop.Known.{Known}
use Rattle.jk_queues.specs.Stop.{known, is_set, Fits, Stopping}

all_set : (F : ℕ → Known → Type 0) (views : List Known) (pass : ℕ) (w : Known) → F pass w → ((j : ℕ) (u : Known) → j ≢ pass → get_elem? views j ≡ some u → F j u) → (j : ℕ) (u : Known) → get_elem? (set views pass w) j ≡ some u → F j u
all_set F views pass w mine others j u e = ⊎_elim (λ (x : (j ≡ pass) × (w ≡ u)). subst (λ (y : ℕ × Known). F y.0 y.1) (λ i. (sym x.0 i, x.1 i)) mine)
    (λ (x : (j ≢ pass) × (get_elem? views j ≡ some u)). others j u x.0 x.1) (at_set views pass j w u e)

only : (F : ℕ → Known → Type 0) (w : Known) → F 0 w → (j : ℕ) (u : Known) → get_elem? (w ∷ []) j ≡ some u → F j u
only F w mine zero u e = subst (F 0) (some-injective w u e) mine
only F w mine (suc j) u e = absurd (some-ne-none u (sym e))

pub begins : Stopping (0 ∷ []) (known true false ∷ [])
begins = (0, only (Fits 0 (0 ∷ [])) (known true false) (λ _. (refl, λ _. refl), λ e. absurd (true≢false (sym e))))

-- the one that may stop the pool sets the word
pub stops : (pass : ℕ) (v : Known) → v.stops ≡ true → Turns Stopping pass v (λ _. 1 ∷ []) (λ v x y w. w ≡ known v.stops true)
stops pass v may x views h at =
    let is = ((h.1 pass v at).0 may).0 in (
      known v.stops true,
      (
        h.0,
        all_set (Fits h.0 (1 ∷ [])) views pass (known v.stops true) (λ _. (is, λ e. absurd (true≢false e)), λ _. refl)
            (λ j u other e. (λ s. absurd (other (((h.1 j u e).0 s).0 ∙ sym is)), λ _. refl)),
      ),
      refl,
    )

is_or_not : (b : Bool) (words : List ℕ) → is_set words ≡ b → (b ≡ false → is_set words ≡ false) × (b ≡ true → is_set words ≡ true)
is_or_not b words e = (λ n. e ∙ n, λ y. e ∙ y)

-- a pass looks, and the word stays
pub looks : (pass : ℕ) (v : Known) → Turns Stopping pass v (λ x. x) (λ v x y w. w ≡ known v.stops (is_set x))
looks pass v x views h at =
    let mine = h.1 pass v at in
    let now = is_or_not (is_set x) x refl in (
      known v.stops (is_set x),
      (h.0, all_set (Fits h.0 x) views pass (known v.stops (is_set x)) (λ s. ((mine.0 s).0, now.0), now.1) (λ j u other e. h.1 j u e)),
      refl,
    )

pub forks : (pass : ℕ) (v : Known) → Forks Stopping pass v v (known false false)
forks pass v x views h at = (
  h.0,
  λ j u e. ⊎_elim (all_set (Fits h.0 x) views pass v (h.1 pass v at) (λ j u _ e. h.1 j u e) j u)
      (λ (same : known false false ≡ u). subst (Fits h.0 x j) same (λ s. absurd (true≢false (sym s)), λ s. absurd (true≢false (sym s)))) (at_snoc (set views pass v) (known false false) u j e),
)
