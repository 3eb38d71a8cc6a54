-- Each who waits is given back once or waits still.
use Rattle.std.proofs.Common.{Bool, true, false, Result, Ok, Err, OnOk, OnErr, ◌≡◌, ◌<◌, ℕ, zero, suc, List, [], ◌∷◌, ◌++◌, length, slice_index_or, slice_set, set, take, drop, sym, refl, ap, ◌∙◌, subst, append_assoc, append-nil, arith}
use Rattle.std.specs.List.{remove}
use Rattle.std.specs.List.Sorted.{IsPermutation}
use Rattle.std.proofs.lemmas.List.{take-set, drop-set-lt}
use Rattle.std.proofs.lemmas.List.Sorted.{IsPermutation-refl, IsPermutation-sym, IsPermutation-trans, IsPermutation-cons, IsPermutation-append_comm, IsPermutation-append_left, IsPermutation-append_right, IsPermutation-middle}
use Rattle.js_desk.specs.Endings.{Begins, Joins, JoinsAt, LetsGo, Ends, waiting}
use Rattle.js_desk.specs.Acts.{Act, Run, joined, given_back}
use Rattle.js_desk.specs.Rows.{Row}

-- ---- lists

remove_set : {X : Type 0} (xs : List X) (i : ℕ) (x : X) → remove (slice_set xs i x) i ≡ remove xs i
remove_set xs i x = ap (λ l. l ++ drop (suc i) (set xs i x)) (take-set xs i x) ∙ ap (λ l. take i xs ++ l) (drop-set-lt (suc i) xs i x (omega arith))

at_set : {X : Type 0} (xs : List X) (i : ℕ) (x : X) → i < length xs → x ≡ slice_index_or (slice_set xs i x) i x
at_set [] i x low = absurd (omega arith)
at_set (y ∷ ys) zero x low = refl
at_set (y ∷ ys) (suc i) x low = at_set ys i x (omega arith)

set_length : {X : Type 0} (xs : List X) (i : ℕ) (x : X) → length (slice_set xs i x) ≡ length xs
set_length [] i x = refl
set_length (y ∷ ys) zero x = refl
set_length (y ∷ ys) (suc i) x = ap suc (set_length ys i x)

module _ {W : Type 0} where
  -- ---- who waits

  -- an element further on, with what stands before it
  over : (us vs ws zs : List W) → IsPermutation vs (ws ++ zs) → IsPermutation (us ++ vs) (ws ++ (us ++ zs))
  over us vs ws zs h =
      IsPermutation-trans (us ++ vs) (us ++ (ws ++ zs)) (ws ++ (us ++ zs)) (IsPermutation-append_right us vs (ws ++ zs) h)
      (subst (λ l. IsPermutation l (ws ++ (us ++ zs))) (append_assoc us ws zs)
      (subst (λ l. IsPermutation ((us ++ ws) ++ zs) l) (append_assoc ws us zs) (IsPermutation-append_left zs (us ++ ws) (ws ++ us) (IsPermutation-append_comm us ws))))

  -- those of one row first
  apart : (rows : List (Row W)) (place : ℕ) (e : Row W) → place < length rows → e ≡ slice_index_or rows place e
      → IsPermutation (waiting rows) (e.waiters ++ waiting (remove rows place))
  apart [] place e low is = absurd (omega arith)
  apart (r ∷ rs) zero e low is = subst (λ (x : Row W). IsPermutation (r.waiters ++ waiting rs) (x.waiters ++ waiting rs)) (sym is) (IsPermutation-refl (r.waiters ++ waiting rs))
  apart (r ∷ rs) (suc place) e low is =
      over r.waiters (waiting rs) e.waiters (waiting (remove rs place)) (apart rs place e (omega arith) is)

  -- those of the row that has changed first
  apart_set : (rows : List (Row W)) (place : ℕ) (f : Row W) → place < length rows
      → IsPermutation (waiting (slice_set rows place f)) (f.waiters ++ waiting (remove rows place))
  apart_set rows place f low =
      subst (λ l. IsPermutation (waiting (slice_set rows place f)) (f.waiters ++ waiting l)) (remove_set rows place f)
      (apart (slice_set rows place f) place f (omega (arith, low, set_length rows place f)) (at_set rows place f low))

  waiting_append : (rows : List (Row W)) (e : Row W) → waiting (rows ++ e ∷ []) ≡ waiting rows ++ e.waiters
  waiting_append [] e = append-nil e.waiters
  waiting_append (r ∷ rs) e = ap (λ l. r.waiters ++ l) (waiting_append rs e) ∙ sym (append_assoc r.waiters (waiting rs) e.waiters)

  begin_waiting : (kernel : List ℕ) (old new : List (Row W)) → Begins kernel old new → waiting new ≡ waiting old
  begin_waiting kernel old new (e, is, none, grows) = ap waiting grows ∙ waiting_append old e ∙ ap (λ l. waiting old ++ l) none ∙ append-nil (waiting old)

  join_waiting : (place : ℕ) (w : W) (old new : List (Row W)) → JoinsAt place w old new → IsPermutation (waiting new) (w ∷ waiting old)
  join_waiting place w old new (e, f, low, is, (same, more), now) =
      let rest : List W = waiting (remove old place) in
      subst (λ l. IsPermutation (waiting l) (w ∷ waiting old)) (sym now)
      (IsPermutation-trans (waiting (slice_set old place f)) (f.waiters ++ rest) (w ∷ waiting old) (apart_set old place f low)
      (subst (λ l. IsPermutation (l ++ rest) (w ∷ waiting old)) (sym more)
      (subst (λ l. IsPermutation l (w ∷ waiting old)) (sym (append_assoc e.waiters (w ∷ []) rest))
      (IsPermutation-trans (e.waiters ++ w ∷ rest) (w ∷ (e.waiters ++ rest)) (w ∷ waiting old)
      (IsPermutation-middle e.waiters w rest)
      (IsPermutation-sym (w ∷ waiting old) (w ∷ (e.waiters ++ rest)) (IsPermutation-cons w (waiting old) (e.waiters ++ rest) (apart old place e low is)))))))

  pub let_go_waiting : (place : ℕ) (ws : List W) (old new : List (Row W)) → LetsGo place ws old new → IsPermutation (ws ++ waiting new) (waiting old)
  let_go_waiting place ws old new (e, f, low, is, (these, (same, none)), now) =
      let rest : List W = waiting (remove old place) in
      let left : IsPermutation (waiting new) rest =
      subst (λ l. IsPermutation (waiting l) rest) (sym now) (subst (λ l. IsPermutation (waiting (slice_set old place f)) (l ++ rest)) none (apart_set old place f low)) in
      IsPermutation-trans (ws ++ waiting new) (ws ++ rest) (waiting old) (IsPermutation-append_right ws (waiting new) rest left)
      (IsPermutation-sym (waiting old) (ws ++ rest) (subst (λ l. IsPermutation (waiting old) (l ++ rest)) (sym these) (apart old place e low is)))

  pub end_waiting : (place : ℕ) (ws : List W) (old new : List (Row W)) → Ends place ws old new → IsPermutation (ws ++ waiting new) (waiting old)
  end_waiting place ws old new (e, low, is, these, now) =
      subst (λ l. IsPermutation (ws ++ waiting l) (waiting old)) (sym now)
      (IsPermutation-sym (waiting old) (ws ++ waiting (remove old place)) (subst (λ l. IsPermutation (waiting old) (l ++ waiting (remove old place))) (sym these) (apart old place e low is)))

  -- whether it was ending already, or ends now, or there was no memory
  pub begun : {E : Type 0} (r : Result (Unit {0}) E) (b : Bool) (kernel : List ℕ) (old new : List (Row W)) → (b ≡ true → new ≡ old)
      → (b ≡ false → OnOk r (Begins kernel old new)) → OnErr r (new ≡ old) → waiting new ≡ waiting old
  begun r true kernel old new there fresh err = ap waiting (there refl)
  begun (Ok done) false kernel old new there fresh err = begin_waiting kernel old new (fresh refl)
  begun (Err e) false kernel old new there fresh err = ap waiting err

  pub joins_waiting : (kernel : List ℕ) (w : W) (old new : List (Row W)) → Joins kernel w old new → IsPermutation (waiting new) (w ∷ waiting old)
  joins_waiting kernel w old new (place, there, does) = join_waiting place w old new does

  -- ---- lists of acts

  -- those who were given back come first
  give : (ws gone late before joined_then : List W) (mid : List W) → IsPermutation (ws ++ mid) before
      → IsPermutation (gone ++ late) (mid ++ joined_then) → IsPermutation ((ws ++ gone) ++ late) (before ++ joined_then)
  give ws gone late before joined_then mid out rest =
      subst (λ l. IsPermutation l (before ++ joined_then)) (sym (append_assoc ws gone late))
      (IsPermutation-trans (ws ++ (gone ++ late)) (ws ++ (mid ++ joined_then)) (before ++ joined_then)
      (IsPermutation-append_right ws (gone ++ late) (mid ++ joined_then) rest)
      (subst (λ l. IsPermutation l (before ++ joined_then)) (append_assoc ws mid joined_then) (IsPermutation-append_left joined_then (ws ++ mid) before out)))

  take_in : (w : W) (all before joined_then mid : List W) → IsPermutation mid (w ∷ before) → IsPermutation all (mid ++ joined_then)
      → IsPermutation all (before ++ w ∷ joined_then)
  take_in w all before joined_then mid more rest =
      IsPermutation-trans all (mid ++ joined_then) (before ++ w ∷ joined_then) rest
      (IsPermutation-trans (mid ++ joined_then) (w ∷ (before ++ joined_then)) (before ++ w ∷ joined_then)
      (IsPermutation-append_left joined_then mid (w ∷ before) more)
      (IsPermutation-sym (before ++ w ∷ joined_then) (w ∷ (before ++ joined_then)) (IsPermutation-middle before w joined_then)))

  pub once : (old : List (Row W)) (acts : List (Act W)) (new : List (Row W)) → Run old acts new
      → IsPermutation (given_back acts ++ waiting new) (waiting old ++ joined acts)
  once old [] new is = subst (λ l. IsPermutation (waiting new) l) (sym (append-nil (waiting old))) (subst (λ l. IsPermutation (waiting new) (waiting l)) is (IsPermutation-refl (waiting new)))
  once old (Act.Begin kernel ∷ acts) new (mid, does, run) =
      subst (λ l. IsPermutation (given_back acts ++ waiting new) (l ++ joined acts)) (begin_waiting kernel old mid does) (once mid acts new run)
  once old (Act.Join kernel w ∷ acts) new (mid, (place, there, does), run) =
      take_in w (given_back acts ++ waiting new) (waiting old) (joined acts) (waiting mid) (join_waiting place w old mid does) (once mid acts new run)
  once old (Act.LetGo place ws ∷ acts) new (mid, does, run) =
      give ws (given_back acts) (waiting new) (waiting old) (joined acts) (waiting mid) (let_go_waiting place ws old mid does) (once mid acts new run)
  once old (Act.End place ws ∷ acts) new (mid, does, run) =
      give ws (given_back acts) (waiting new) (waiting old) (joined acts) (waiting mid) (end_waiting place ws old mid does) (once mid acts new run)
