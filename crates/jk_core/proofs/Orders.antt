-- What waits, in the order of its numbers.
use Rattle.std.proofs.Common.{◌≡◌, ℕ, zero, suc, ◌+◌, ◌<◌, ◌≤◌, Bool, true, false, List, [], ◌∷◌, ◌++◌, length, refl, sym, ◌∙◌, ap, subst, arith, None, Some, leb, leb-true, leb-false, get_or}
use Rattle.std.proofs.lemmas.Bool.Decides.{nat_tests}
use Rattle.std.proofs.lemmas.List.{length-append}
use Rattle.std.proofs.lemmas.Option.{slice_get-get_or, slice_get_within}
use Rattle.std.specs.Prelude.{◌&&◌, ◌-◌, IsTrue, drop, nat_lt, slice_get, slice_set}
use Rattle.std.proofs.Common.{Option}
use Rattle.jp_msg.specs.declared.message.Completeness.{Completeness}
use Rattle.jk_core.specs.declared.script.Task.{Task}
use Rattle.jk_core.specs.declared.script.Task.TheVariants.{Cell, Query}
use Rattle.std.specs.List.Sorted.{IsNonDecreasingBy, IsPartitionPoint}
use Rattle.jk_log.specs.declared.arrival.Sort.{Sort}
use Rattle.jk_log.specs.declared.arrival.Sort.TheVariants as sort
use Rattle.jk_core.specs.declared.script.Waiting.{Waiting}
use Rattle.jk_log.specs.Log.{Log}
use Rattle.jk_core.specs.State.{Ascends, PassedBy, is_cell}
use Rattle.jk_core.specs.Steps.{CanKeep, first_after, waits_with}
use Rattle.jk_core.proofs.Keeps.{some_same}

none_some : {A : Type 0} (x : A) (P : Type 0) → None ≡ Some x → P
none_some x P e = cc

lt_true : (a b : ℕ) → a < b → nat_lt a b ≡ true
lt_true a b h = grind (arith, nat_tests)

lt_false : (a b : ℕ) → b ≤ a → nat_lt a b ≡ false
lt_false a b h = grind (arith, nat_tests)

module _ {T : Type 0} where
  lower : (low from high : ℕ) (ws : List (Waiting T)) → low ≤ from → Ascends from high ws → Ascends low high ws
  lower low from high [] le h = omega (arith, le, h)
  lower low from high (w ∷ ws) le h = (omega (arith, le, h.0), h.1)

  pub popped : (low high : ℕ) (ws : List (Waiting T)) → Ascends low high ws → Ascends low high (drop 1 ws)
  popped low high [] h = h
  popped low high (w ∷ ws) h = lower low w.number high ws (let first = h.0 in omega arith) h.1

  raised : (low high most : ℕ) (ws : List (Waiting T)) → high ≤ most → Ascends low high ws → Ascends low most ws
  raised low high most [] le h = omega (arith, le, h)
  raised low high most (w ∷ ws) le h = (h.0, raised w.number high most ws le h.1)

  pushed : (t : Task T) (low high at n : ℕ) (ws : List (Waiting T)) → high < n → Ascends low high ws → Ascends low n (ws ++ record { at = at; number = n; task = t } ∷ [])
  pushed t low high at n [] lt h = (omega (arith, lt, h), omega arith)
  pushed t low high at n (w ∷ ws) lt h = (h.0, pushed t w.number high at n ws lt h.1)

  nothing_more : (low high : ℕ) (ws : List (Waiting T)) → Ascends low high ws → Ascends low high (ws ++ [])
  nothing_more low high [] h = h
  nothing_more low high (w ∷ ws) h = (h.0, nothing_more w.number high ws h.1)

  pub waits_more : (status : Option Completeness) (s : Sort) (high at : ℕ) (ws : List (Waiting T)) → Ascends 0 high ws → Ascends 0 (high + 1) (ws ++ waits_with status s at (high + 1))
  waits_more status sort.Execute high at ws h = pushed (Cell None) 0 high at (high + 1) ws (omega arith) h
  waits_more status sort.Query high at ws h = pushed (Query status) 0 high at (high + 1) ws (omega arith) h
  waits_more status sort.Join high at ws h = nothing_more 0 (high + 1) ws (raised 0 high (high + 1) ws (omega arith) h)
  waits_more status sort.Leave high at ws h = nothing_more 0 (high + 1) ws (raised 0 high (high + 1) ws (omega arith) h)
  waits_more status sort.Input high at ws h = nothing_more 0 (high + 1) ws (raised 0 high (high + 1) ws (omega arith) h)
  waits_more status sort.Interrupt high at ws h = nothing_more 0 (high + 1) ws (raised 0 high (high + 1) ws (omega arith) h)
  waits_more status sort.KernelInfo high at ws h = nothing_more 0 (high + 1) ws (raised 0 high (high + 1) ws (omega arith) h)
  waits_more status (sort.Shutdown restart) high at ws h = nothing_more 0 (high + 1) ws (raised 0 high (high + 1) ws (omega arith) h)
  waits_more status sort.Other high at ws h = nothing_more 0 (high + 1) ws (raised 0 high (high + 1) ws (omega arith) h)

  -- an arrival adds at most one
  pub waits_few : (status : Option Completeness) (s : Sort) (at number : ℕ) (ws : List (Waiting T)) → length (ws ++ waits_with status s at number) ≤ length ws + 1
  waits_few status sort.Execute at number ws = (let l = length-append ws (waits_with status sort.Execute at number) in omega (arith, l))
  waits_few status sort.Query at number ws = (let l = length-append ws (waits_with status sort.Query at number) in omega (arith, l))
  waits_few status sort.Join at number ws = (let l = length-append ws (waits_with status sort.Join at number) in omega (arith, l))
  waits_few status sort.Leave at number ws = (let l = length-append ws (waits_with status sort.Leave at number) in omega (arith, l))
  waits_few status sort.Input at number ws = (let l = length-append ws (waits_with status sort.Input at number) in omega (arith, l))
  waits_few status sort.Interrupt at number ws = (let l = length-append ws (waits_with status sort.Interrupt at number) in omega (arith, l))
  waits_few status sort.KernelInfo at number ws = (let l = length-append ws (waits_with status sort.KernelInfo at number) in omega (arith, l))
  waits_few status (sort.Shutdown restart) at number ws = (let l = length-append ws (waits_with status (sort.Shutdown restart) at number) in omega (arith, l))
  waits_few status sort.Other at number ws = (let l = length-append ws (waits_with status sort.Other at number) in omega (arith, l))

  pub set_same : (low high i : ℕ) (ws : List (Waiting T)) (w v : Waiting T) → slice_get ws i ≡ Some w → v.number ≡ w.number → Ascends low high ws → Ascends low high (slice_set ws i v)
  set_same low high i [] w v e same h = h
  set_same low high zero (x ∷ ws) w v e same h =
      let number : v.number ≡ x.number = same ∙ ap (λ (w : Waiting T). w.number) (sym (some_same x w e)) in
      (omega (arith, h.0, number), subst (λ (n : ℕ). Ascends n high ws) (sym number) h.1)
  set_same low high (suc i) (x ∷ ws) w v e same h = (h.0, set_same x.number high i ws w v e same h.1)

  above : (low high i : ℕ) (ws : List (Waiting T)) (w : Waiting T) → Ascends low high ws → slice_get ws i ≡ Some w → low < w.number
  above low high i [] w h e = none_some w _ e
  above low high zero (x ∷ ws) w h e = let same = ap (λ (w : Waiting T). w.number) (some_same x w e) in let first = h.0 in omega arith
  above low high (suc i) (x ∷ ws) w h e = let later = above x.number high i ws w h.1 e in let first = h.0 in omega arith

  -- the numbers ascend strictly
  rises : (low high i j : ℕ) (ws : List (Waiting T)) (v w : Waiting T) → Ascends low high ws → i < j → slice_get ws i ≡ Some v → slice_get ws j ≡ Some w → v.number < w.number
  rises low high i j [] v w h lt e f = none_some v _ e
  rises low high zero (suc j) (x ∷ ws) v w h lt e f = let same = ap (λ (w : Waiting T). w.number) (some_same x v e) in let later = above x.number high j ws w h.1 f in omega arith
  rises low high zero zero (x ∷ ws) v w h lt e f = absurd (omega (arith, lt))
  rises low high (suc i) zero (x ∷ ws) v w h lt e f = absurd (omega (arith, lt))
  rises low high (suc i) (suc j) (x ∷ ws) v w h lt e f = rises x.number high i j ws v w h.1 (omega (arith, lt)) e f

  pub sorted : (low high : ℕ) (ws : List (Waiting T)) → Ascends low high ws → IsNonDecreasingBy (λ (w : Waiting T). w.number) ws
  sorted low high [] h i j d le lt = absurd (omega (arith, lt))
  sorted low high (x ∷ ws) h zero zero d le lt = omega arith
  sorted low high (x ∷ ws) h zero (suc j) d le lt =
      let within : j < length ws = omega (arith, lt) in
      let there = slice_get-get_or ws j d within in
      let later = above x.number high j ws (get_or ws j d) h.1 there in
      omega (arith, later)
  sorted low high (x ∷ ws) h (suc i) zero d le lt = absurd (omega (arith, le))
  sorted low high (x ∷ ws) h (suc i) (suc j) d le lt = sorted x.number high ws h.1 i j d (omega (arith, le)) (omega (arith, lt))

  -- what stands at a place
  there_is : (ws : List (Waiting T)) (i : ℕ) (w : Waiting T) → slice_get ws i ≡ Some w → get_or ws i w ≡ w
  there_is ws i w e = some_same (get_or ws i w) w (sym (slice_get-get_or ws i w (slice_get_within ws i w e)) ∙ e)

  pub point_before : (number i n : ℕ) (ws : List (Waiting T)) (w : Waiting T) → IsPartitionPoint (λ (w : Waiting T). leb w.number number ≡ true) (λ (w : Waiting T). leb w.number number ≡ false) ws n → slice_get ws i ≡ Some w → i < n → w.number ≤ number
  point_before number i n ws w point e lt =
      leb-true w.number number (ap (λ (v : Waiting T). leb v.number number) (sym (there_is ws i w e)) ∙ point.0 i w (omega arith) lt)

  pub point_after : (number i n : ℕ) (ws : List (Waiting T)) (w : Waiting T) → IsPartitionPoint (λ (w : Waiting T). leb w.number number ≡ true) (λ (w : Waiting T). leb w.number number ≡ false) ws n → slice_get ws i ≡ Some w → n ≤ i → number < w.number
  point_after number i n ws w point e le =
      leb-false w.number number (ap (λ (v : Waiting T). leb v.number number) (sym (there_is ws i w e)) ∙ point.1 i w le (slice_get_within ws i w e))

  -- nothing is passed at first
  pub passed_none : (given : ℕ) (ws : List (Waiting T)) → PassedBy given 0 ws
  passed_none given ws = record { within = omega arith; none = λ i w e lt. absurd (omega (arith, lt)) }

  -- what was passed stays passed as more waits, and as the first goes
  get_before : (xs ys : List (Waiting T)) (i : ℕ) → i < length xs → slice_get (xs ++ ys) i ≡ slice_get xs i
  get_before [] ys i lt = absurd (omega (arith, lt))
  get_before (x ∷ xs) ys zero lt = refl
  get_before (x ∷ xs) ys (suc i) lt = get_before xs ys i (omega (arith, lt))

  pub passed_more : (given passed : ℕ) (ws more : List (Waiting T)) → PassedBy given passed ws → PassedBy given passed (ws ++ more)
  passed_more given passed ws more h = record {
    within = (let l = length-append ws more in let within = h.within in omega (arith, l, within));
    none = λ i w e lt. h.none i w (sym (get_before ws more i (let within = h.within in omega (arith, lt, within))) ∙ e) lt;
  }

  pub passed_drop : (given passed : ℕ) (ws : List (Waiting T)) → PassedBy given passed ws → PassedBy given (passed - 1) (drop 1 ws)
  passed_drop given passed [] h = (let within = h.within in record { within = omega (arith, within); none = λ i w e lt. absurd (omega (arith, lt, within)) })
  passed_drop given passed (x ∷ ws) h =
      (let within = h.within in record { within = omega (arith, within); none = λ i w e lt. h.none (suc i) w e (omega (arith, lt)) })

  -- a cell that is given is passed
  pub passed_given : (given i high : ℕ) (ws : List (Waiting T)) (w : Waiting T) → Ascends 0 high ws → slice_get ws i ≡ Some w → PassedBy given i ws → PassedBy w.number i ws
  passed_given given i high ws w order there h = record {
    within = h.within;
    none = λ j v e lt. never (is_cell v.task) w.number v.number (rises 0 high j i ws v w order lt e there);
  }
    where
      never : (b : Bool) (n m : ℕ) → m < n → b && nat_lt n m ≡ false
      never true n m lt = lt_false n m (omega (arith, lt))
      never false n m lt = refl

  set_length : (ws : List (Waiting T)) (i : ℕ) (v : Waiting T) → length (slice_set ws i v) ≡ length ws
  set_length [] i v = refl
  set_length (x ∷ ws) zero v = refl
  set_length (x ∷ ws) (suc i) v = ap suc (set_length ws i v)

  -- a result that is kept passes nothing more
  pub passed_set : (given passed i : ℕ) (ws : List (Waiting T)) (w v : Waiting T) → slice_get ws i ≡ Some w → v.number ≡ w.number → is_cell v.task ≡ is_cell w.task → PassedBy given passed ws → PassedBy given passed (slice_set ws i v)
  passed_set given passed i ws w v there number cell h = record {
    within = subst (λ (n : ℕ). passed ≤ n) (sym (set_length ws i v)) h.within;
    none = λ j u e lt. by ws i j u there e (λ x f. h.none j x f lt);
  }
    where
      by : (ws : List (Waiting T)) (i j : ℕ) (u : Waiting T) → slice_get ws i ≡ Some w → slice_get (slice_set ws i v) j ≡ Some u → ((x : Waiting T) → slice_get ws j ≡ Some x → is_cell x.task && nat_lt given x.number ≡ false) → is_cell u.task && nat_lt given u.number ≡ false
      by [] i j u there e none = none_some u _ e
      by (x ∷ ws) zero zero u there e none =
          let same = some_same v u e in let mine = some_same x w there in
          ap (λ (u : Waiting T). is_cell u.task && nat_lt given u.number) (sym same)
          ∙ ap (λ (b : Bool). b && nat_lt given v.number) (cell ∙ ap (λ (w : Waiting T). is_cell w.task) (sym mine))
          ∙ ap (λ (n : ℕ). is_cell x.task && nat_lt given n) (number ∙ ap (λ (w : Waiting T). w.number) (sym mine))
          ∙ none x refl
      by (x ∷ ws) zero (suc j) u there e none = none u e
      by (x ∷ ws) (suc i) zero u there e none = none u e
      by (x ∷ ws) (suc i) (suc j) u there e none = by ws i j u there e none

  -- the next that was not passed is passed too, unless it is to be given
  pub passed_next : (given i : ℕ) (ws : List (Waiting T)) (x : Waiting T) → slice_get ws i ≡ Some x → is_cell x.task && nat_lt given x.number ≡ false → PassedBy given i ws → PassedBy given (i + 1) ws
  passed_next given i ws x there not h = record {
    within = (let within = slice_get_within ws i x there in omega (arith, within));
    none = λ j w e lt. pick j w e lt (leb i j) refl;
  }
    where
      pick : (j : ℕ) (w : Waiting T) → slice_get ws j ≡ Some w → j < i + 1 → (b : Bool) → leb i j ≡ b → is_cell w.task && nat_lt given w.number ≡ false
      pick j w e lt false f = h.none j w e (leb-false i j f)
      pick j w e lt true f =
          let low = leb-true i j f in
          let same : i ≡ j = omega (arith, low, lt) in
          ap (λ (w : Waiting T). is_cell w.task && nat_lt given w.number) (sym (some_same x w (sym there ∙ ap (slice_get ws) same ∙ e))) ∙ not

  -- the first cell that was not given stands after all that are passed
  pub found_first : (given n : ℕ) (ws : List (Waiting T)) (w : Waiting T) → slice_get ws n ≡ Some w → is_cell w.task && nat_lt given w.number ≡ true → ((i : ℕ) (v : Waiting T) → slice_get ws i ≡ Some v → i < n → is_cell v.task && nat_lt given v.number ≡ false) → slice_get ws n ≡ first_after given ws
  found_first given n [] w there so before = none_some w _ there
  found_first given zero (x ∷ ws) w there so before =
      let same = some_same x w there in
      rw (ap (λ (w : Waiting T). is_cell w.task && nat_lt given w.number) same ∙ so) refl
  found_first given (suc n) (x ∷ ws) w there so before =
      rw (before 0 x refl (omega arith))
      (found_first given n ws w there so (λ i v e lt. before (suc i) v e (omega (arith, lt))))

  pub found_none : (given n : ℕ) (ws : List (Waiting T)) → length ws ≤ n → ((i : ℕ) (v : Waiting T) → slice_get ws i ≡ Some v → i < n → is_cell v.task && nat_lt given v.number ≡ false) → slice_get ws n ≡ first_after given ws
  found_none given n [] le before = refl
  found_none given zero (x ∷ ws) le before = absurd (omega (arith, le))
  found_none given (suc n) (x ∷ ws) le before =
      rw (before 0 x refl (omega arith))
      (found_none given n ws (omega (arith, le)) (λ i v e lt. before (suc i) v e (omega (arith, lt))))

  -- only the one with its number can keep a result
  pub none_keeps : (log : Log) (job : ℕ) (text : List ℕ) (high place n : ℕ) (ws : List (Waiting T)) (x : Waiting T) → Ascends 0 high ws → n ≡ place + 1 → slice_get ws place ≡ Some x → ((i : ℕ) (w : Waiting T) → slice_get ws i ≡ Some w → i < n → w.number ≤ job) → ((i : ℕ) (w : Waiting T) → slice_get ws i ≡ Some w → n ≤ i → job < w.number) → (CanKeep log job text x → ⊥) → (i : ℕ) (w : Waiting T) → slice_get ws i ≡ Some w → CanKeep log job text w → ⊥
  none_keeps log job text high place n ws x h is there before after never i w e can = by (leb i place) refl (leb place i) refl
    where
      by : (b : Bool) → leb i place ≡ b → (c : Bool) → leb place i ≡ c → ⊥
      by false f c g =
          let far = leb-false i place f in let past = after i w e (omega arith) in let number = can.number in omega arith
      by true f false g =
          let near = leb-false place i g in
          let less = rises 0 high i place ws w x h near e there in let most = before place x there (omega arith) in let number = can.number in omega arith
      by true f true g =
          let low = leb-true i place f in let up = leb-true place i g in
          let same : i ≡ place = omega arith in
          let mine : x ≡ w = some_same x w (sym there ∙ ap (slice_get ws) (sym same) ∙ e) in
          never (subst (CanKeep log job text) (sym mine) can)

  pub none_before : (log : Log) (job : ℕ) (text : List ℕ) (ws : List (Waiting T)) → ((i : ℕ) (w : Waiting T) → slice_get ws i ≡ Some w → 0 ≤ i → job < w.number) → (i : ℕ) (w : Waiting T) → slice_get ws i ≡ Some w → CanKeep log job text w → ⊥
  none_before log job text ws after i w e can = let past = after i w e (omega arith) in let number = can.number in omega arith

pub never_true : (P : Type 0) → IsTrue false → P
never_true P e = cc
