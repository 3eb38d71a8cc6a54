-- Each step keeps the rule of the board.
use Rattle.std.proofs.Common.{◌≡◌, ◌≢◌, ℕ, ◌≤◌, List, [], ◌∷◌, ◌++◌, drop, length, set, sym, refl, ap, ◌∙◌, subst, ⊎_elim, append_assoc, append-nil, fold, Result, Ok, Err, arith}
use Rattle.std.specs.List.{AllByRecursion}
use Rattle.std.specs.Prelude.{MatchResult}
use mathlib.Core.Option.{some, some-ne-none}
use lib.ListN.{get_elem?}
use Rattle.jk_language.specs.Spoken.{Spoken}
use Rattle.jk_log.specs.declared.entry.Entry.{Entry}
use Rattle.crossbeam_utils.specs.Register.{Admits, TurnsAt, Forks, Merges}
use Rattle.atomic_table.proofs.Lists.{at_set, at_snoc}
use Rattle.jk_board.specs.declared.posted.Posted.{Posted}
use Rattle.jk_board.specs.declared.rule.Seen.{Seen}
use Rattle.jk_board.specs.declared.publisher.Replace.{Replace}
use Rattle.jk_board.specs.declared.publisher.Window.{Window}
use Rattle.jk_board.specs.Posted.{held_of, Shows, Follows}
use Rattle.jk_board.specs.Pending.{IsNext, window_of}
use Rattle.jk_board.specs.Boards.{StartsWith, IsBoard}
use Rattle.jk_board.specs.Rule.{sees, Begins, Grows, Finds}
use Rattle.jk_board.proofs.Lists.{same_all}
use Rattle.jk_board.proofs.Dropping.{shows_more}

All-weaker : {X : Type 0} (P Q : X → Type 0) (xs : List X) → ((x : X) → P x → Q x) → AllByRecursion P xs → AllByRecursion Q xs
All-weaker P Q [] h a = tt
All-weaker P Q (x ∷ xs) h a = (h x a.0, All-weaker P Q xs h a.1)

-- a list that begins with all of another begins with what that one begins with
longer : (all more first : List Entry) → StartsWith all first → StartsWith (all ++ more) first
longer all more first h = (h.0 ++ more, ap (λ l. l ++ more) h.1 ∙ append_assoc first h.0 more)

itself : (all : List Entry) → StartsWith all all
itself all = ([], sym (append-nil all))

still_begins : (all more : List Entry) (v : Seen) → Begins all v → Begins (all ++ more) v
still_begins all more v h = (longer all more v.seen h.0, All-weaker _ _ v.told (λ first. longer all more first) h.1)

only_new : (all : List Entry) (views : List Seen) (seat : ℕ) (w : Seen) → Begins all w → ((j : ℕ) (u : Seen) → get_elem? views j ≡ some u → Begins all u)
    → (j : ℕ) (u : Seen) → get_elem? (set views seat w) j ≡ some u → Begins all u
only_new all views seat w mine others j u e = ⊎_elim (λ (t : (j ≡ seat) × (w ≡ u)). subst (Begins all) t.1 mine) (λ (t : (j ≢ seat) × (get_elem? views j ≡ some u)). others j u t.1) (at_set views seat j w u e)

-- the whole board is what was seen, where the same part of both is kept
whole : (all seen : List Entry) (x : Posted) → StartsWith all seen → Shows seen x → Shows all x → all ≡ seen
whole all seen x starts saw shows =
    starts.1
    ∙ same_all x.dropped seen starts.0 [] saw.0 (ap (drop x.dropped) (sym starts.1) ∙ shows.1 ∙ sym saw.1 ∙ ap (drop x.dropped) (sym (append-nil seen)))
    ∙ append-nil seen

same_window : (all : List Entry) (x y : Posted) → window_of y ≡ window_of x → Shows all x → Shows all y
same_window all x y e s =
    let d : y.dropped ≡ x.dropped = ap (λ (w : Window). w.dropped) e in (
      subst (λ n. n ≤ length all) (sym d) s.0,
      ap (λ n. drop n all) d ∙ s.1 ∙ sym (ap (λ (w : Window). w.held) e),
    )

abbrev last_window : Window → List Replace → Window
last_window = fold (λ (w : Window) (next : Replace). window_of next.posted)

-- what is shown once the one board that is pending is shown
pub shown_next : (all : List Entry) (y : Posted) (x : Window) (now : List Replace) (next : Replace) → now ≡ next ∷ [] → window_of y ≡ fold (λ (w : Window) (next : Replace). window_of next.posted) x now → Shows all y → Shows all next.posted
shown_next all y x now next is shown s =
    let e : window_of y ≡ window_of next.posted = shown ∙ ap (last_window x) is in
    same_window all y next.posted (sym e) s

-- what was published once the one board that was pending is shown
pub published_next : (place : ℕ) (seen more now : List Entry) (x y : Posted) → Shows seen x → Follows place more x y → StartsWith now seen → Shows now y → now ≡ seen ++ more
published_next place seen more now x y saw follows starts there =
    let s = shows_more place seen more x y saw follows in
    starts.1 ∙ same_all y.dropped seen starts.0 more s.0 (ap (drop y.dropped) (sym starts.1) ∙ there.1 ∙ sym s.1.1)

module _ {S T : Type 0} (spoken : Spoken S T) where
  pub nothing_shown : IsBoard spoken []
  unfolding IsBoard
  nothing_shown = ([], record { each = tt; settled = refl }, ([], refl))

  -- a step after which the whole board is what it was, and then some more
  pub grows : (seat : ℕ) (v : Seen) (x y : Posted) (more : List Entry)
      → ((all : List Entry) → IsBoard spoken all → Shows all x → Begins all v → IsBoard spoken (all ++ more) × Shows (all ++ more) y)
      → TurnsAt (Grows spoken) seat v x y (Finds spoken)
  grows seat v x y more step views h at =
      let all = h.0 in
      let old = h.3 seat v at in
      let next = step all h.1 h.2 old in
      let w = sees (all ++ more) v.told in
      let mine = still_begins all more v old in (
        w,
        (all ++ more, next.0, next.1, only_new (all ++ more) views seat w (itself (all ++ more), mine.1) (λ j u e. still_begins all more u (h.3 j u e))),
        (next.0, next.1, mine, refl),
      )

  -- a step that leaves the board
  pub looks : (seat : ℕ) (v : Seen) (x : Posted) → TurnsAt (Grows spoken) seat v x x (Finds spoken)
  looks seat v x = grows seat v x x [] (λ all legal shows begins. (subst (IsBoard spoken) (sym (append-nil all)) legal, subst (λ (l : List Entry). Shows l x) (sym (append-nil all)) shows))

  pub admits : Admits (Grows spoken) (sees [] [])
  admits x views h = (h.0, h.1, h.2, λ j v e. ⊎_elim (h.3 j v) (λ (same : sees [] [] ≡ v). subst (Begins h.0) same ((h.0, refl), tt)) (at_snoc views (sees [] []) v j e))

  pub begins : (x : Posted) → x.dropped ≡ 0 → held_of x ≡ [] → Grows spoken x (sees [] [] ∷ [])
  begins x first none = (
    [],
    nothing_shown,
    (omega (arith, first), ap (λ n. drop n []) first ∙ sym none),
    λ j v e. ⊎_elim (λ (t : get_elem? {A = Seen} [] j ≡ some v). absurd (some-ne-none v (sym t))) (λ (same : sees [] [] ≡ v). subst (Begins []) same (([], refl), tt)) (at_snoc [] (sees [] []) v j e),
  )

  pub forks : (seat : ℕ) (v : Seen) → Forks (Grows spoken) seat v v v
  forks seat v x views h at = (
    h.0,
    h.1,
    h.2,
    λ j u e. ⊎_elim (only_new h.0 views seat v (h.3 seat v at) h.3 j u) (λ (same : v ≡ u). subst (Begins h.0) same (h.3 seat v at)) (at_snoc (set views seat v) v u j e),
  )

  pub merges : (seat : ℕ) (v : Seen) (other : ℕ) (w : Seen) → Merges (Grows spoken) seat v other w (sees v.seen (w.seen ∷ v.told)) (sees [] [])
  merges seat v other w x views h at apart there =
      let both = sees v.seen (w.seen ∷ v.told) in
      let mine = h.3 seat v at in
      let theirs = ⊎_elim (λ (t : (other ≡ seat) × (both ≡ w)). absurd (apart t.0)) (λ (t : (other ≢ seat) × (get_elem? views other ≡ some w)). h.3 other w t.1) (at_set views seat other both w there) in
      let joined : Begins h.0 both = (mine.0, (theirs.0, mine.1)) in
      (h.0, h.1, h.2, only_new h.0 (set views seat both) other (sees [] []) ((h.0, refl), tt) (only_new h.0 views seat both joined h.3))

  -- the one board that is pending is shown
  pub shows_next : (seat : ℕ) (v : Seen) (x y : Posted) (now : List Replace) → Shows v.seen x → IsNext spoken v.seen now
      → window_of y ≡ fold (λ (w : Window) (next : Replace). window_of next.posted) (window_of x) now → TurnsAt (Grows spoken) seat v x y (Finds spoken)
  shows_next seat v x y now saw next shown =
      let e : window_of y ≡ window_of next.0.posted = shown ∙ ap (last_window (window_of x)) next.2 in
      grows seat v x y next.1 (λ all legal shows begins.
      let same : v.seen ≡ all = sym (whole all v.seen x begins.0 saw shows) in (
        subst (λ (l : List Entry). IsBoard spoken (l ++ next.1)) same (next.3 (subst (IsBoard spoken) (sym same) legal)),
        subst (λ (l : List Entry). Shows (l ++ next.1) y) same (same_window (v.seen ++ next.1) next.0.posted y e next.5),
      ))

  pub one_pending : (place : ℕ) (seen seen' more : List Entry) (x : Posted) (next : Replace) (old now : List Replace) → seen' ≡ seen → old ≡ [] → now ≡ old ++ next ∷ [] → Shows seen x → Follows place more x next.posted
      → (IsBoard spoken seen → IsBoard spoken (seen ++ more)) → IsNext spoken seen' now
  one_pending place seen seen' more x next old now same none is saw follows legal =
      let s = shows_more place seen more x next.posted saw follows in
      subst (λ (l : List Entry). IsNext spoken l now) (sym same) (next, more, is ∙ ap (λ (l : List Replace). l ++ next ∷ []) none, legal, s.0, s.1)

  -- what was seen after a step that was made or was not
  pub stays_or_grows : {A E : Type 0} (r : Result A E) (first v w : Seen) (x y : Posted) → MatchResult r (λ _. Finds spoken v x y w) (λ _. w ≡ v) → v ≡ first → StartsWith w.seen first.seen
  stays_or_grows (Ok a) first v w x y then same = subst (λ (u : Seen). StartsWith w.seen u.seen) same then.2.0
  stays_or_grows (Err e) first v w x y then same = subst (λ (u : Seen). StartsWith w.seen u.seen) (then ∙ same) (itself w.seen)
