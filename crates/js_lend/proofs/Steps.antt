-- Each step keeps the rule of one loan.
use Rattle.std.proofs.Common.{◌≡◌, ◌≢◌, ℕ, zero, suc, Bool, true, false, true≢false, List, [], ◌∷◌, ◌++◌, length, arith, set, sym, refl, ap, ◌∙◌, subst, ◌⊎◌, inl, inr, ⊎_elim}
use mathlib.Core.Option.{some, some-ne-none, some-injective}
use lib.ListN.{get_elem?}
use Rattle.crossbeam_queue.specs.Fifo.{Pushes, Pops, Forks, Learns}
use Rattle.crossbeam_queue.proofs.Lists.{at_set, at_snoc}
use Rattle.js_lend.specs.declared.rule.Was.{Was}
use Rattle.js_lend.specs.Loans.{was, is_one, is_lent, one_of, lent_where, lent_in, is_blank, IsEmpty, nothing, shown, of, Stands, AreBack, IsUnlent, IsShown, IsLent, OneLoan, Came}

module _ {T : Type 0} where
  -- of one view alone
  only_at : (v w : Was T) (port : ℕ) → get_elem? (v ∷ []) port ≡ some w → (port ≡ 0) × (v ≡ w)
  only_at v w zero e = (refl, some-injective v w e)
  only_at v w (suc j) e = absurd (some-ne-none w (sym e))

  alone : (v w : Was T) (views : List (Was T)) (port : ℕ) → views ≡ v ∷ [] → get_elem? views port ≡ some w → (port ≡ 0) × (v ≡ w)
  alone v w views port is at = only_at v w port (subst (λ (vs : List (Was T)). get_elem? vs port ≡ some w) is at)

  set_alone : (v u : Was T) (views : List (Was T)) (port : ℕ) → views ≡ v ∷ [] → port ≡ 0 → set views port u ≡ u ∷ []
  set_alone v u views port is first = subst (λ (p : List (Was T) × ℕ). set p.0 p.1 u ≡ u ∷ []) (λ i. (sym is i, sym first i)) refl

  all_set : (F : Was T → Type 0) (views : List (Was T)) (port : ℕ) (w : Was T) → F w → ((j : ℕ) (u : Was T) → get_elem? views j ≡ some u → F u) → (j : ℕ) (u : Was T) → get_elem? (set views port w) j ≡ some u → F u
  all_set F views port w mine others j u e = ⊎_elim (λ (x : (j ≡ port) × (w ≡ u)). subst F x.1 mine) (λ (x : (j ≢ port) × (get_elem? views j ≡ some u)). others j u x.1) (at_set views port j w u e)

  fresh_or : (x : T) (v : Was T) → v.fresh ≡ true → v ≢ of x
  fresh_or x v f e = true≢false (sym f ∙ ap (λ (y : Was T). y.fresh) e)

  some_shown : (x : T) → shown x ≢ nothing
  some_shown x e = let es : x ∷ [] ≡ [] = ap (λ (y : Was T). y.was) e in cc

  shown_is : (x y : T) → shown x ≡ shown y → x ≡ y
  shown_is x y e = let es : x ∷ [] ≡ y ∷ [] = ap (λ (v : Was T). v.was) e in cc

  of_is : (x y : T) → of x ≡ of y → x ≡ y
  of_is x y e = let es : x ∷ [] ≡ y ∷ [] = ap (λ (v : Was T). v.was) e in cc

  -- a pass that knows what is lent knows one value
  one_is : (xs : List T) (e : is_one xs ≡ true) → xs ≡ one_of xs e ∷ []
  one_is [] e = absurd (true≢false (sym e))
  one_is (x ∷ []) e = refl
  one_is (x ∷ (y ∷ ys)) e = absurd (true≢false (sym e))

  known_where : (f : Bool) (xs : List T) (e : is_lent (was f xs) ≡ true) → was f xs ≡ of (lent_where f xs e)
  known_where true xs e = absurd (true≢false (sym e))
  known_where false xs e = ap (was false) (one_is xs e)

  pub known : (v : Was T) (e : is_lent v ≡ true) → v ≡ of (lent_in v e)
  known v e = known_where v.fresh v.was e

  pub lent_is : (v : Was T) (e : is_lent v ≡ true) (x : T) → v ≡ of x → lent_in v e ≡ x
  lent_is v e x is = of_is (lent_in v e) x (sym (known v e) ∙ is)

  pub still : (v w : Was T) (e : is_lent v ≡ true) (f : is_lent w ≡ true) → w ≡ v → lent_in w f ≡ lent_in v e
  still v w e f same = lent_is w f (lent_in v e) (same ∙ known v e)

  blank_where : (f : Bool) (xs : List T) → is_blank (was f xs) ≡ true → was f xs ≡ nothing
  blank_where true [] e = refl
  blank_where true (x ∷ xs) e = absurd (true≢false (sym e))
  blank_where false xs e = absurd (true≢false (sym e))

  pub blank_is : (v : Was T) → is_blank v ≡ true → v ≡ nothing
  blank_is v e = blank_where v.fresh v.was e

  pub none_held : (xs : List T) → length xs ≡ 1 → xs ≡ [] → ⊥
  none_held [] n e = omega arith
  none_held (x ∷ xs) n e = cc

  pub none_left : (xs : List T) (x : T) → length xs ≡ 0 → xs ≡ x ∷ [] → ⊥
  none_left [] x n e = cc
  none_left (y ∷ ys) x n e = omega arith

  one_item : (x y : T) (ys : List T) → y ∷ ys ≡ x ∷ [] → (y ≡ x) × (ys ≡ [])
  one_item x y ys e = (cc, cc)

module _ {T : Type 0} (comes : T → T → Type 0) where
  pub begins : OneLoan comes [] (nothing ∷ [])
  begins = inl (refl, refl)

  back_snoc : (x y : T) (ys : List T) → AreBack comes x ys → comes x y → AreBack comes x (ys ++ y ∷ [])
  back_snoc x y [] all c = (c, tt)
  back_snoc x y (z ∷ zs) all c = (all.0, back_snoc x y zs all.1 c)

  pub shows : (n port : ℕ) (v : Was T) (x : T) → v ≡ nothing → Pushes (OneLoan comes) n port v x (λ w. w ≡ shown x)
  shows n port v x none items views room h at = (
    shown x,
    ⊎_elim
        (λ (u : IsUnlent comes items views). inr (inl (x, ap (λ (l : List T). l ++ x ∷ []) u.0, set_alone nothing (shown x) views port u.1 (alone nothing v views port u.1 at).0)))
        (λ (r : IsShown comes items views ⊎ IsLent comes items views). ⊎_elim
        (λ (s : IsShown comes items views). absurd (some_shown s.0 ((alone (shown s.0) v views port s.2 at).1 ∙ none)))
        (λ (l : IsLent comes items views). absurd (fresh_or l.0 v (ap (λ (y : Was T). y.fresh) none) (l.2 port v at))) r) h,
    refl,
  )

  pub learns_empty : (port : ℕ) (v : Was T) → Learns (OneLoan comes) port v (IsEmpty v)
  learns_empty port v items views h at is =
      ⊎_elim
      (λ (u : IsUnlent comes items views). u.0)
      (λ (r : IsShown comes items views ⊎ IsLent comes items views). ⊎_elim
      (λ (s : IsShown comes items views). absurd (some_shown s.0 ((alone (shown s.0) v views port s.2 at).1 ∙ is)))
      (λ (l : IsLent comes items views). absurd (fresh_or l.0 v (ap (λ (y : Was T). y.fresh) is) (l.2 port v at))) r) h

  pub lends : (port : ℕ) (v : Was T) (x : T) → v ≡ shown x → Pops (OneLoan comes) port v (λ y w. (v ≡ shown y) × (w ≡ of y))
  lends port v x is y items views h at = let found : OneLoan comes items (set views port (of y)) × (v ≡ shown y) = ⊎_elim
      (λ (u : IsUnlent comes (y ∷ items) views). let e : y ∷ items ≡ [] = u.0 in cc)
      (λ (r : IsShown comes (y ∷ items) views ⊎ IsLent comes (y ∷ items) views). ⊎_elim
      (λ (s : IsShown comes (y ∷ items) views).
      let i = one_item s.0 y items s.1 in
      let p = alone (shown s.0) v views port s.2 at in (
        inr (inr (y, subst (AreBack comes y) (sym i.1) tt, λ j u e. sym (only_at (of y) u j (subst (λ (vs : List (Was T)). get_elem? vs j ≡ some u) (set_alone (shown s.0) (of y) views port s.2 p.0) e)).1)),
        sym p.1 ∙ ap shown (sym i.0),
      ))
      (λ (l : IsLent comes (y ∷ items) views). absurd (fresh_or l.0 v (ap (λ (z : Was T). z.fresh) is) (l.2 port v at))) r) h
      in (of y, found.0, (found.1, refl))

  pub learns_shown : (port : ℕ) (v : Was T) → v.fresh ≡ true → Learns (OneLoan comes) port v (Stands v)
  learns_shown port v f items views h at x is =
      ⊎_elim
      (λ (u : IsUnlent comes items views). absurd (some_shown x (sym is ∙ sym (alone nothing v views port u.1 at).1)))
      (λ (r : IsShown comes items views ⊎ IsLent comes items views). ⊎_elim
      (λ (s : IsShown comes items views). s.1 ∙ ap (λ (z : T). z ∷ []) (shown_is s.0 x ((alone (shown s.0) v views port s.2 at).1 ∙ is)))
      (λ (l : IsLent comes items views). absurd (fresh_or l.0 v f (l.2 port v at))) r) h

  -- where a pass knows what is lent, it is lent
  lent : (port : ℕ) (v : Was T) (x : T) (items : List T) (views : List (Was T)) → v ≡ of x → OneLoan comes items views → get_elem? views port ≡ some v → AreBack comes x items × ((j : ℕ) (u : Was T) → get_elem? views j ≡ some u → u ≡ of x)
  lent port v x items views is h at =
      ⊎_elim
      (λ (u : IsUnlent comes items views). absurd (fresh_or x nothing refl ((alone nothing v views port u.1 at).1 ∙ is)))
      (λ (r : IsShown comes items views ⊎ IsLent comes items views). ⊎_elim
      (λ (s : IsShown comes items views). absurd (fresh_or x (shown s.0) refl ((alone (shown s.0) v views port s.2 at).1 ∙ is)))
      (λ (l : IsLent comes items views). let same : l.0 ≡ x = of_is l.0 x (sym (l.2 port v at) ∙ is) in
      (subst (λ (z : T). AreBack comes z items) same l.1, λ j u e. l.2 j u e ∙ ap of same)) r) h

  pub gives : (n port : ℕ) (v : Was T) (y x : T) → v ≡ of x → comes x y → Pushes (OneLoan comes) n port v y (λ w. w ≡ v)
  gives n port v y x is c items views room h at = let l = lent port v x items views is h at in (
    v,
    inr (inr (x, back_snoc x y items l.0 c, all_set (λ (u : Was T). u ≡ of x) views port v is l.1)),
    refl,
  )

  pub takes : (port : ℕ) (v : Was T) (x : T) → v ≡ of x → Pops (OneLoan comes) port v (λ y w. Came comes v y × (w ≡ v))
  takes port v x is y items views h at = let l = lent port v x (y ∷ items) views is h at in (
    v,
    inr (inr (x, l.0.1, all_set (λ (u : Was T). u ≡ of x) views port v is l.1)),
    ((x, is, l.0.0), refl),
  )

  pub came : (v : Was T) (e : is_lent v ≡ true) (y : T) → Came comes v y → comes (lent_in v e) y
  came v e y c = subst (λ (x : T). comes x y) (sym (lent_is v e c.0 c.1)) c.2

  pub forks : (port : ℕ) (v : Was T) (x : T) → v ≡ of x → Forks (OneLoan comes) port v v v
  forks port v x is items views h at = let l = lent port v x items views is h at in
      inr (inr (x, l.0, λ j u e. ⊎_elim (all_set (λ (w : Was T). w ≡ of x) views port v is l.1 j u) (λ (same : v ≡ u). sym same ∙ is) (at_snoc (set views port v) v u j e)))
