-- How a row is copied and read, part by part.
use Rattle.std.proofs.Common.{◌≡◌, ℕ, ◌+◌, ◌<◌, ◌≤◌, List, [], ◌∷◌, ◌++◌, take, drop, length, get_or, sym, ap, ◌∙◌, subst, ⊎_elim, arith, length-append, append-nil}
use Rattle.std.proofs.Math.ListN.{get_or-append}
use Rattle.std.proofs.Math.Seq.{get_or-append_seam, take-append_seam}
use Rattle.std.proofs.lemmas.Bool.{cases_lt}
use Rattle.std.proofs.lemmas.List.{take_more, take-append-le, take-append-drop, get_or-drop, length-drop}
use Rattle.std.proofs.Math.Seq.{drop-append_seam}
use Rattle.std.proofs.lemmas.List.Concat.{flat_map-cons}
use Rattle.std.proofs.lemmas.Grind.{flat_map-append}
use Rattle.jk_log.specs.declared.entry.Entry.{Entry}
use Rattle.jk_board.specs.declared.posted.Part.{Part}
use Rattle.jk_board.specs.Rows.{flat, AreNumbered}
use Rattle.jk_board.proofs.Lists.{take-add}

module _ {T : Type 0} (entries : T → List Entry) where
  one : (p : Part T) → flat entries (p ∷ []) ≡ entries p.held
  one p = flat_map-cons (λ (q : Part T). entries q.held) p [] ∙ append-nil (entries p.held)

  -- a part more
  pub flat_more : (ps : List (Part T)) (p : Part T) → flat entries (ps ++ p ∷ []) ≡ flat entries ps ++ entries p.held
  flat_more ps p = flat_map-append (λ (q : Part T). entries q.held) ps (p ∷ []) ∙ ap (λ l. flat entries ps ++ l) (one p)

  pub flat_next : (ps : List (Part T)) (i : ℕ) (p : Part T) → i < length ps → p ≡ get_or ps i p → flat entries (take (i + 1) ps) ≡ flat entries (take i ps) ++ entries p.held
  flat_next ps i p within is =
      ap (flat entries) (take_more ps i p within) ∙ flat_more (take i ps) (get_or ps i p)
      ∙ ap (λ (q : Part T). flat entries (take i ps) ++ entries q.held) (sym is)

  -- the first parts, and the others
  pub flat_both : (ps : List (Part T)) (i : ℕ) → flat entries (take i ps) ++ flat entries (drop i ps) ≡ flat entries ps
  flat_both ps i = sym (flat_map-append (λ (q : Part T). entries q.held) (take i ps) (drop i ps)) ∙ ap (flat entries) (take-append-drop i ps)

  -- the parts before the next one, and it
  pub numbered_more : (IsWhole : T → Type 0) (ps now : List (Part T)) (p : Part T) → AreNumbered entries IsWhole ps → p.before ≡ length (flat entries ps) → IsWhole p.held → now ≡ ps ++ p ∷ [] → AreNumbered entries IsWhole now
  numbered_more IsWhole ps now p h is whole all i q within at =
      let at' : q ≡ get_or (ps ++ p ∷ []) i q = at ∙ ap (λ (l : List (Part T)). get_or l i q) all in
      let inside : i < length ps + 1 = omega (arith, within, ap length all, length-append ps (p ∷ [])) in
      subst (λ (l : List (Part T)). (q.before ≡ length (flat entries (take i l))) × IsWhole q.held) (sym all)
      (⊎_elim
      (λ (t : i < length ps).
      subst (λ (l : List (Part T)). (q.before ≡ length (flat entries l)) × IsWhole q.held) (sym (take-append-le i ps (p ∷ []) (omega (arith, t))))
      (h i q t (at' ∙ get_or-append ps (p ∷ []) q i t)))
      (λ (t : length ps ≤ i).
      let e : i ≡ length ps = omega (arith, t, inside) in
      let same : q ≡ p = at' ∙ ap (λ k. get_or (ps ++ p ∷ []) k q) e ∙ get_or-append_seam ps p [] q in
      let front : take i (ps ++ p ∷ []) ≡ ps = ap (λ k. take k (ps ++ p ∷ [])) e ∙ take-append_seam ps (p ∷ []) in
      subst (λ (l : List (Part T)). (q.before ≡ length (flat entries l)) × IsWhole q.held) (sym front)
      (ap (λ (r : Part T). r.before) same ∙ is, subst (λ (r : Part T). IsWhole r.held) (sym same) whole))
      (cases_lt i (length ps)))

  -- what the parts from one on hold, and what stands before it
  pub flat_rest : (ps : List (Part T)) (from gone : ℕ) → gone ≡ length (flat entries (take from ps)) → flat entries (drop from ps) ≡ drop gone (flat entries ps)
  flat_rest ps from gone is =
      sym (drop-append_seam (flat entries (take from ps)) (flat entries (drop from ps)))
      ∙ ap (drop (length (flat entries (take from ps)))) (flat_both ps from)
      ∙ ap (λ n. drop n (flat entries ps)) (sym is)

  pub flat_within : (ps : List (Part T)) (from gone : ℕ) → gone ≡ length (flat entries (take from ps)) → gone ≤ length (flat entries ps)
  flat_within ps from gone is = omega (arith, is, ap length (flat_both ps from), length-append (flat entries (take from ps)) (flat entries (drop from ps)))

  -- of the parts from one on, each has the number of the entries before it, counted from the first part of all
  pub numbered_rest : (IsWhole : T → Type 0) (ps rest : List (Part T)) (from gone i : ℕ) (p : Part T) → AreNumbered entries IsWhole ps → from ≤ length ps
      → gone ≡ length (flat entries (take from ps)) → rest ≡ drop from ps → i < length rest → p ≡ get_or rest i p → (p.before ≡ gone + length (flat entries (take i rest))) × IsWhole p.held
  numbered_rest IsWhole ps rest from gone i p h inside is all within at =
      let long = ap length all ∙ length-drop from ps in
      let at' : p ≡ get_or ps (from + i) p = at ∙ ap (λ (l : List (Part T)). get_or l i p) all ∙ get_or-drop from ps i p in
      let there = h (from + i) p (omega (arith, inside, long, within)) at' in
      let both : flat entries (take (from + i) ps) ≡ flat entries (take from ps) ++ flat entries (take i rest) =
      ap (flat entries) (take-add from i ps) ∙ flat_map-append (λ (q : Part T). entries q.held) (take from ps) (take i (drop from ps))
      ∙ ap (λ (l : List (Part T)). flat entries (take from ps) ++ flat entries (take i l)) (sym all) in
      (omega (arith, there.0, is, ap length both, length-append (flat entries (take from ps)) (flat entries (take i rest))), there.1)
