-- Each who asks is answered once or waits, whatever is done.
use Rattle.std.proofs.Common.{◌≡◌, List, [], ◌∷◌, ◌++◌, false, Option, None, Some, sym, refl, ap, ◌∙◌, subst, append_assoc}
use Rattle.std.specs.List.Sorted.{IsPermutation}
use Rattle.std.proofs.lemmas.List.Sorted.{IsPermutation-refl, IsPermutation-sym, IsPermutation-trans, IsPermutation-cons, IsPermutation-append_right, IsPermutation-middle}
use Rattle.js_desk.specs.Askers.{after, one}
use Rattle.std.specs.Option.{is_some}

pub after_push : {W : Type 0} (ws : List W) (w : W) (answered : List W) → after (ws ++ w ∷ []) answered ≡ w ∷ after ws answered
after_push [] w answered = refl
after_push (v ∷ vs) w answered = after_push vs w (v ∷ answered)

pub is_none : {A : Type 0} (t : Option A) → is_some t ≡ false → t ≡ None
is_none None h = refl
is_none (Some x) h = cc

module _ {W : Type 0} where
  pub are_after : (ws answered : List W) → IsPermutation (after ws answered) (ws ++ answered)
  are_after [] answered = IsPermutation-refl answered
  are_after (w ∷ ws) answered =
      IsPermutation-trans (after ws (w ∷ answered)) (ws ++ w ∷ answered) (w ∷ (ws ++ answered)) (are_after ws (w ∷ answered)) (IsPermutation-middle ws w answered)

  -- one who waited first is answered
  pub answers : (asked answered rest : List W) (w : W) → IsPermutation asked (answered ++ w ∷ rest) → IsPermutation asked (w ∷ (answered ++ rest))
  answers asked answered rest w all = IsPermutation-trans asked (answered ++ w ∷ rest) (w ∷ (answered ++ rest)) all (IsPermutation-middle answered w rest)

  -- one more asks
  pub asks : (asked answered rest : List W) (w : W) → IsPermutation asked (answered ++ rest) → IsPermutation (w ∷ asked) (answered ++ w ∷ rest)
  asks asked answered rest w all =
      IsPermutation-trans (w ∷ asked) (w ∷ (answered ++ rest)) (answered ++ w ∷ rest) (IsPermutation-cons w asked (answered ++ rest) all)
      (IsPermutation-sym (answered ++ w ∷ rest) (w ∷ (answered ++ rest)) (IsPermutation-middle answered w rest))

  -- those who wait are so, in another order
  pub moves : (asked answered rest now : List W) → IsPermutation rest now → IsPermutation asked (answered ++ rest) → IsPermutation asked (answered ++ now)
  moves asked answered rest now same all = IsPermutation-trans asked (answered ++ rest) (answered ++ now) all (IsPermutation-append_right answered rest now same)

  -- one who came first is held behind those who are
  pub is_held : (made held ending : List W) (w : W) → IsPermutation (w ∷ (made ++ (held ++ ending))) (made ++ ((held ++ w ∷ []) ++ ending))
  is_held made held ending w =
      subst (λ l. IsPermutation (w ∷ (made ++ (held ++ ending))) (made ++ l)) (sym (append_assoc held (w ∷ []) ending))
      (subst (λ l. IsPermutation (w ∷ (made ++ (held ++ ending))) l) (append_assoc made held (w ∷ ending))
      (subst (λ l. IsPermutation (w ∷ l) ((made ++ held) ++ w ∷ ending)) (append_assoc made held ending)
      (IsPermutation-sym ((made ++ held) ++ w ∷ ending) (w ∷ ((made ++ held) ++ ending)) (IsPermutation-middle (made ++ held) w ending))))

  -- one who came first waits for an end
  pub joins : (made held ending now : List W) (w : W) → IsPermutation now (w ∷ ending)
      → IsPermutation (w ∷ (made ++ (held ++ ending))) (made ++ (held ++ now))
  joins made held ending now w more =
      IsPermutation-trans (w ∷ (made ++ (held ++ ending))) (made ++ ((held ++ w ∷ []) ++ ending)) (made ++ (held ++ now)) (is_held made held ending w)
      (subst (λ l. IsPermutation (made ++ l) (made ++ (held ++ now))) (sym (append_assoc held (w ∷ []) ending))
      (IsPermutation-append_right made (held ++ w ∷ ending) (held ++ now) (IsPermutation-append_right held (w ∷ ending) now (IsPermutation-sym now (w ∷ ending) more))))

  gives : (answered before now ws : List W) → IsPermutation (answered ++ (before ++ (ws ++ now))) (after ws answered ++ (before ++ now))
  gives answered before now [] = IsPermutation-refl (answered ++ (before ++ now))
  gives answered before now (w ∷ ws) =
      let rest : List W = before ++ (ws ++ now) in
      IsPermutation-trans (answered ++ (before ++ w ∷ (ws ++ now))) (w ∷ (answered ++ rest)) (after ws (w ∷ answered) ++ (before ++ now))
      (answers (answered ++ (before ++ w ∷ (ws ++ now))) answered rest w (IsPermutation-append_right answered (before ++ w ∷ (ws ++ now)) (w ∷ rest) (IsPermutation-middle before w (ws ++ now))))
      (gives (w ∷ answered) before now ws)

  apart : (turn made held ending : List W) → (turn ++ (made ++ held)) ++ ending ≡ turn ++ (made ++ (held ++ ending))
  apart turn made held ending = append_assoc turn (made ++ held) ending ∙ ap (λ l. turn ++ l) (append_assoc made held ending)

  -- some who waited behind the others are answered
  pub ends : (asked answered before ending now ws : List W) → IsPermutation (ws ++ now) ending → IsPermutation asked (answered ++ (before ++ ending))
      → IsPermutation asked (after ws answered ++ (before ++ now))
  ends asked answered before ending now ws out all =
      IsPermutation-trans asked (answered ++ (before ++ (ws ++ now))) (after ws answered ++ (before ++ now))
      (moves asked answered (before ++ ending) (before ++ (ws ++ now)) (IsPermutation-append_right before ending (ws ++ now) (IsPermutation-sym (ws ++ now) ending out)) all)
      (gives answered before now ws)

  -- those who wait for the end of a kernel are answered
  pub end_answers : (asked answered turn made held ending now ws : List W) → IsPermutation (ws ++ now) ending
      → IsPermutation asked (answered ++ (turn ++ (made ++ (held ++ ending)))) → IsPermutation asked (after ws answered ++ (turn ++ (made ++ (held ++ now))))
  end_answers asked answered turn made held ending now ws out all =
      subst (λ l. IsPermutation asked (after ws answered ++ l)) (apart turn made held now)
      (ends asked answered (turn ++ (made ++ held)) ending now ws out (subst (λ l. IsPermutation asked (answered ++ l)) (sym (apart turn made held ending)) all))

  -- all who are held are answered
  pub stop_answers : (asked answered turn made held ending : List W)
      → IsPermutation asked (answered ++ (turn ++ (made ++ (held ++ ending)))) → IsPermutation asked (after held answered ++ (turn ++ (made ++ ending)))
  stop_answers asked answered turn made held ending all =
      subst (λ l. IsPermutation asked (after held answered ++ l)) (append_assoc turn made ending)
      (ends asked answered (turn ++ made) (held ++ ending) ending held (IsPermutation-refl (held ++ ending))
      (subst (λ l. IsPermutation asked (answered ++ l)) (sym (append_assoc turn made (held ++ ending))) all))

  -- ---- what each step keeps; d and e are who was answered before and after, t and u who is to be answered

  pub answered_keeps : (asked d e rest : List W) (w : W) (t u : Option W) → t ≡ Some w → u ≡ None → e ≡ w ∷ d
      → IsPermutation asked (d ++ (one t ++ rest)) → IsPermutation asked (e ++ (one u ++ rest))
  answered_keeps asked d e rest w t u was now more all = rw (now, more) (answers asked d rest w (rw was at all))

  pub asked_keeps : (asked more d rest : List W) (w : W) (t : Option W) → t ≡ None → more ≡ w ∷ asked
      → IsPermutation asked (d ++ (one t ++ rest)) → IsPermutation more (d ++ (w ∷ rest))
  asked_keeps asked more d rest w t none is all = rw is (asks asked d rest w (rw none at all))

  pub made_keeps : (asked d rest : List W) (w : W) (t u m : Option W) → t ≡ Some w → u ≡ None → m ≡ None
      → IsPermutation asked (d ++ (one t ++ (one m ++ rest))) → IsPermutation asked (d ++ (one u ++ (w ∷ rest)))
  made_keeps asked d rest w t u m was now none all = rw now (rw (was, none) at all)

  pub comes_keeps : (asked d rest : List W) (w : W) (t m n : Option W) → t ≡ None → m ≡ Some w → n ≡ None
      → IsPermutation asked (d ++ (one t ++ (one m ++ rest))) → IsPermutation asked (d ++ (w ∷ (one n ++ rest)))
  comes_keeps asked d rest w t m n none was now all = rw now (rw (none, was) at all)

  pub held_keeps : (asked d made h i ending : List W) (w : W) (t u : Option W) → t ≡ Some w → u ≡ None → i ≡ h ++ w ∷ []
      → IsPermutation asked (d ++ (one t ++ (made ++ (h ++ ending)))) → IsPermutation asked (d ++ (one u ++ (made ++ (i ++ ending))))
  held_keeps asked d made h i ending w t u was now more all =
      rw (now, more) (moves asked d (w ∷ (made ++ (h ++ ending))) (made ++ ((h ++ w ∷ []) ++ ending)) (is_held made h ending w) (rw was at all))

  pub next_keeps : (asked d made h i ending : List W) (w : W) (t : Option W) → t ≡ None → h ≡ w ∷ i
      → IsPermutation asked (d ++ (one t ++ (made ++ (h ++ ending)))) → IsPermutation asked (d ++ (w ∷ (made ++ (i ++ ending))))
  next_keeps asked d made h i ending w t none first all =
      moves asked d (made ++ (w ∷ (i ++ ending))) (w ∷ (made ++ (i ++ ending))) (IsPermutation-middle made w (i ++ ending)) (rw (none, first) at all)

  pub joined_keeps : (asked d made h ending now : List W) (w : W) (t u : Option W) → t ≡ Some w → u ≡ None → IsPermutation now (w ∷ ending)
      → IsPermutation asked (d ++ (one t ++ (made ++ (h ++ ending)))) → IsPermutation asked (d ++ (one u ++ (made ++ (h ++ now))))
  joined_keeps asked d made h ending now w t u was none more all =
      rw none (moves asked d (w ∷ (made ++ (h ++ ending))) (made ++ (h ++ now)) (joins made h ending now w more) (rw was at all))

  pub ended_keeps : (asked d e turn made h ending now ws : List W) → e ≡ after ws d → IsPermutation (ws ++ now) ending
      → IsPermutation asked (d ++ (turn ++ (made ++ (h ++ ending)))) → IsPermutation asked (e ++ (turn ++ (made ++ (h ++ now))))
  ended_keeps asked d e turn made h ending now ws more out all = rw more (end_answers asked d turn made h ending now ws out all)

  pub stopped_keeps : (asked d e turn made h i ending : List W) → e ≡ after h d → i ≡ []
      → IsPermutation asked (d ++ (turn ++ (made ++ (h ++ ending)))) → IsPermutation asked (e ++ (turn ++ (made ++ (i ++ ending))))
  stopped_keeps asked d e turn made h i ending more none all = rw (more, none) (stop_answers asked d turn made h ending all)

  pub begun_keeps : (asked d turn made h ending now : List W) → now ≡ ending
      → IsPermutation asked (d ++ (turn ++ (made ++ (h ++ ending)))) → IsPermutation asked (d ++ (turn ++ (made ++ (h ++ now))))
  begun_keeps asked d turn made h ending now same all = rw same all
