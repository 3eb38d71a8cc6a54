-- What becomes of that which is read for recorders, at each step.
use Rattle.std.proofs.Common.{◌≡◌, ◌⊎◌, ◌↔◌, inl, inr, ◌<◌, ◌+◌, ℕ, zero, suc, Bool, true, false, if◌then◌else◌, List, [], ◌∷◌, ◌++◌, map, length, take, drop, get_or, set, refl, sym, ap, ◌∙◌, subst, Option, Some, None, IsTrue, MatchBool, is_some, position, slice_get, remove, arith}
use Rattle.std.specs.Str.{bytes_eq}
use Rattle.std.proofs.Math.Seq.{map-set_same}
use Rattle.std.proofs.lemmas.Bool.{false≢true}
use Rattle.std.proofs.lemmas.List.{append-nil, drop_all, length-append, length-map, length-set, map-append, map-set, set-get_or, take_all, take_more_set}
use Rattle.std.proofs.lemmas.List.Edits.{map_over_more}
use Rattle.std.proofs.lemmas.Option.{get_or_from_slice_get, none-some, same_Some}
use Rattle.jk_board.specs.Ends.{board_of, read_by}
use Rattle.jk_board.specs.declared.follower.Follower.{Follower}
use Rattle.jk_log.specs.declared.entry.Entry.{Entry}
use Rattle.js_follow.specs.Following.{FollowsBy, place_of}
use Rattle.js_follow.specs.declared.following.Followed.{Followed}
use Rattle.js_home.specs.declared.home.Home.{Home}
use Rattle.js_shelf.specs.Shelves.{Contents}
use Rattle.js_tables.specs.Tables.{Rows, has_recorder}
use Rattle.js_kernels.specs.Boards.{IsOn, inbox_in, scribed}
use Rattle.js_kernels.specs.Hosting.{home_of, kernel_of, reading_of, state_in, state_of, states_of}
use Rattle.js_kernels.specs.Readings.{BeginsReading, ChangesReading, EndsHaveCome, HaveGone, IsDone, IsLastUnopened, IsRead, LastHasGone, ReadsOn, if_recorded, with_reading}
use Rattle.js_kernels.specs.Recording.{Reads, ReadsAndTells, Records, Tells, Waits, left, reading_by, reading_in}
use Rattle.js_kernels.specs.Told.{HomeState, KernelState, Reading, place_in, unopened}
use Rattle.js_kernels.specs.declared.kernels.hosted.Hosted.{Hosted}
use Rattle.js_kernels.specs.declared.recording.Scribe.{Scribe}
use Rattle.js_kernels.proofs.Hosting.{id_place, kept_at, position_low, position_map, there_at}

-- ---- lists

-- the last element is another one
set_last : {X : Type 0} (xs : List X) (place : ℕ) (y : X) → length xs ≡ place + 1 → set xs place y ≡ take place xs ++ y ∷ []
set_last xs place y long =
    let same : length (set xs place y) ≡ place + 1 = rw length-set long in
    let all = take_all (place + 1) (set xs place y) (omega (arith, same)) in
    sym all ∙ take_more_set xs place y (omega (arith, long))

-- what was set is there
pub set_there : {X Y : Type 0} (f : X → Y) (xs : List X) (place : ℕ) (x : X) → place < length xs → slice_get (map f (set xs place x)) place ≡ Some (f x)
set_there f [] place x low = absurd (omega (arith, low))
set_there f (y ∷ xs) zero x low = refl
set_there f (y ∷ xs) (suc place) x low = set_there f xs place x (omega (arith, low))

at_last : {X : Type 0} (xs : List X) (y : X) → slice_get (xs ++ y ∷ []) (length xs) ≡ Some y
at_last [] y = refl
at_last (x ∷ xs) y = at_last xs y

-- what was done to each element so far was done to each
pub all_over : (f : KernelState → KernelState) (xs ys : List KernelState) (n : ℕ) → length xs ≡ n → ys ≡ map f (take n xs) ++ drop n xs → ys ≡ map f xs
all_over f xs ys n long is =
    let rest = drop_all n xs (omega (arith, long)) in
    let front = take_all n xs (omega (arith, long)) in
    is ∙ ((λ i. map f (front i) ++ rest i) ∙ append-nil (map f xs))

-- ---- kernels that go

pub none_gone : (ks : List KernelState) → HaveGone ks ks
none_gone [] = refl
none_gone (k ∷ ks) = inl (ks, refl, none_gone ks)

more_kept : (k : KernelState) (old mid new : List KernelState) → ((ks : List KernelState) → HaveGone mid ks → HaveGone old ks) → HaveGone (k ∷ mid) new → HaveGone (k ∷ old) new
more_kept k old mid new step (inl (rest, is, gone)) = inl (rest, is, step rest gone)
more_kept k old mid new step (inr (none, gone)) = inr (none, step new gone)

pub more_gone : (old mid new : List KernelState) → HaveGone old mid → HaveGone mid new → HaveGone old new
more_gone [] mid new is gone = subst (λ (ks : List KernelState). HaveGone ks new) is gone
more_gone (k ∷ old) mid new (inl (rest, is, first)) gone =
    more_kept k old rest new (λ ks later. more_gone old rest ks first later) (subst (λ (ks : List KernelState). HaveGone ks new) is gone)
more_gone (k ∷ old) mid new (inr (none, first)) gone = inr (none, more_gone old mid new first gone)

-- ---- recorders

-- of what was shown a front was told, or there is no recorder
gone_of : (c d : Option Contents) (f g : ℕ) (place : Option ℕ) (date : List ℕ) (entries : List Entry) (followed : Option Followed) (r s : Rows)
    → FollowsBy c d f g place date entries followed r s → (gone : List Entry) × (entries ≡ gone ++ left followed)
gone_of c d f g None date entries followed r s h = (entries, sym (append-nil entries) ∙ ap (λ (x : Option Followed). entries ++ left x) (sym h.0))
gone_of c d f g (Some place) date entries followed r s h = (h.2.0, sym h.2.1 ∙ ap (λ (x : Option Followed). h.2.0 ++ left x) (sym h.1))

-- a kernel with a recorder
pub recorded_still : (r : Rows) (k : KernelState) → has_recorder k.id r ≡ true → k ≡ if_recorded r k
recorded_still r k is = ap (λ (b : Bool). if b then k else with_reading None k) (sym is)

module _ {L S T M : Type 0} where
  -- of a kernel without a recorder nothing is read any more
  pub unrecorded_now : (r : Rows) (was now : Hosted L S T M) → has_recorder was.id r ≡ false → now.id ≡ was.id → now.ends.home ≡ was.ends.home → now.ends.scribe ≡ None
      → kernel_of now ≡ if_recorded r (kernel_of was)
  unrecorded_now r was now is same home none =
      (λ i. record { id = same i; home = state_in (home i); reading = reading_in (none i) })
      ∙ ap (λ (b : Bool). if b then kernel_of was else with_reading None (kernel_of was)) (sym is)

  -- one read, and what was told of it
  read_to : (old mid new : Scribe L S T M) (gone : List Entry) → Reads old mid → mid.held.items ≡ gone ++ new.held.items → new.follower ≡ mid.follower → new.over ≡ mid.over
      → ReadsOn (Some (reading_by old)) (Some (reading_by new))
  read_to old mid new gone reads held follower over = record {
    was = reading_by old;
    now = reading_by new;
    there = refl;
    still = refl;
    more = reads.0;
    gone = gone;
    read = ap (λ (x : Follower L S T M). read_by x) follower ∙ reads.1;
    held = sym reads.2 ∙ held;
    over = over ∙ reads.3;
  }

  read_or_told : (c d : Option Contents) (f g : ℕ) (kernel date : List ℕ) (old mid new : Scribe L S T M) (r s : Rows) → Reads old mid
      → Waits c d f g kernel mid new r s ⊎ Tells c d f g kernel date mid new r s → ReadsOn (Some (reading_by old)) (Some (reading_by new))
  read_or_told c d f g kernel date old mid new r s reads (inl still) =
      read_to old mid new [] reads (ap (λ (x : Scribe L S T M). x.held.items) (sym still.0)) (ap (λ (x : Scribe L S T M). x.follower) still.0)
      (ap (λ (x : Scribe L S T M). x.over) still.0)
  read_or_told c d f g kernel date old mid new r s reads (inr told) =
      let front = gone_of c d f g (place_of kernel r) date mid.held.items told.0 r s told.1 in
      read_to old mid new front.0 reads (front.1 ∙ ap (λ (es : List Entry). front.0 ++ es) (sym told.2)) told.4 told.5

  reads_on : (c d : Option Contents) (f g : ℕ) (kernel date : List ℕ) (old new : Scribe L S T M) (r s : Rows) → ReadsAndTells c d f g kernel date old new r s
      → ReadsOn (Some (reading_by old)) (Some (reading_by new))
  reads_on c d f g kernel date old new r s h = read_or_told c d f g kernel date old h.0 new r s h.1 h.3

  -- ---- the first kernel of an identifier

  -- it stays in its place where what is there has the same identifier
  same_place : (ks : List (Hosted L S T M)) (place : ℕ) (was now : Hosted L S T M) (id : List ℕ) → was ≡ get_or ks place was → now.id ≡ was.id
      → position (λ k. bytes_eq k.id id) (set ks place now) ≡ position (λ k. bytes_eq k.id id) ks
  same_place ks place was now id at same =
      let name = λ (k : Hosted L S T M). k.id in
      let names : map name (set ks place now) ≡ map name ks = map-set_same name ks place now was (same ∙ ap name at) in
      sym (position_map name (λ (n : List ℕ). bytes_eq n id) (set ks place now))
      ∙ (ap (position (λ (n : List ℕ). bytes_eq n id)) names ∙ position_map name (λ (n : List ℕ). bytes_eq n id) ks)

  changed_here : (So : Option Reading → Option Reading → Type 0) (ks : List (Hosted L S T M)) (place : ℕ) (was now : Hosted L S T M) (id : List ℕ)
      → position (λ k. bytes_eq k.id id) ks ≡ Some place → was ≡ get_or ks place was → now.id ≡ was.id → home_of now.ends ≡ home_of was.ends
      → So (reading_of was.ends) (reading_of now.ends) → ChangesReading So id (states_of ks) (states_of (set ks place now))
  changed_here So ks place was now id first at same home changed = record {
    place = place;
    first = id_place id ks ∙ first;
    was = kernel_of was;
    there = there_at ks place was (position_low (λ (k : Hosted L S T M). bytes_eq k.id id) ks place first) at;
    reading = reading_of now.ends;
    changed = changed;
    now = map-set kernel_of ks place now ∙ (λ i. set (states_of ks) place (record { id = same i; home = home i; reading = reading_of now.ends }));
  }

  -- what is read of it has changed so
  pub changed_at : (So : Option Reading → Option Reading → Type 0) (old : List KernelState) (ks : List (Hosted L S T M)) (place : ℕ) (was now : Hosted L S T M) (id : List ℕ)
      → states_of ks ≡ old → position (λ k. bytes_eq k.id id) ks ≡ Some place → was ≡ get_or ks place was → now.id ≡ was.id → home_of now.ends ≡ home_of was.ends
      → So (reading_of was.ends) (reading_of now.ends) → ChangesReading So id old (states_of (set ks place now))
  changed_at So old ks place was now id view first at same home changed =
      subst (λ (states : List KernelState). ChangesReading So id states (states_of (set ks place now))) view (changed_here So ks place was now id first at same home changed)

  -- a reading of it has begun, or nothing has changed
  pub begun_at : (old : List KernelState) (ks : List (Hosted L S T M)) (place : ℕ) (was now : Hosted L S T M) (id : List ℕ) (b : Bool)
      → states_of ks ≡ old → position (λ k. bytes_eq k.id id) ks ≡ Some place → was ≡ get_or ks place was → now.id ≡ was.id → home_of now.ends ≡ home_of was.ends
      → MatchBool b (BeginsReading (reading_of was.ends) (reading_of now.ends)) (now.ends.scribe ≡ was.ends.scribe)
      → MatchBool b (ChangesReading BeginsReading id old (states_of (set ks place now))) (states_of (set ks place now) ≡ old)
  begun_at old ks place was now id true view first at same home begins = changed_at BeginsReading old ks place was now id view first at same home begins
  begun_at old ks place was now id false view first at same home scribe = kept_at ks place was now at (same, scribe) home ∙ view

  -- its recorder has followed, or nothing has changed
  pub read_on_at : (c d : Option Contents) (f g : ℕ) (old : List KernelState) (ks : List (Hosted L S T M)) (place : ℕ) (was now : Hosted L S T M) (id kernel date : List ℕ) (r s : Rows)
      → states_of ks ≡ old → position (λ k. bytes_eq k.id id) ks ≡ Some place → was ≡ get_or ks place was → now.id ≡ was.id → home_of now.ends ≡ home_of was.ends
      → (scribe : Option (Scribe L S T M)) → was.ends.scribe ≡ scribe → Records c d f g kernel date scribe now.ends.scribe r s
      → (states_of (set ks place now) ≡ old) ⊎ ChangesReading ReadsOn id old (states_of (set ks place now))
  read_on_at c d f g old ks place was now id kernel date r s view first at same home None is h = inl (kept_at ks place was now at (same, h.0 ∙ sym is) home ∙ view)
  read_on_at c d f g old ks place was now id kernel date r s view first at same home (Some scribe) is h = inr
      (changed_at ReadsOn old ks place was now id view first at same home
      (subst (λ (p : Option Reading × Option Reading). ReadsOn p.0 p.1) (λ i. (reading_in (sym is i), reading_in (sym h.1 i))) (reads_on c d f g kernel date scribe h.0 r s h.2)))

  -- it is there, or no kernel of the identifier is
  pub somewhere : (old : List KernelState) (ks : List (Hosted L S T M)) (place : ℕ) (id : List ℕ) → states_of ks ≡ old → position (λ k. bytes_eq k.id id) ks ≡ Some place
      → place_in id old ≡ Some place
  somewhere old ks place id view first = ap (place_in id) (sym view) ∙ (id_place id ks ∙ first)

  -- where it was looked for
  pub there_is : (old : List KernelState) (ks xs : List (Hosted L S T M)) (id : List ℕ) (found : Option ℕ) → states_of ks ≡ old → xs ≡ ks
      → found ≡ position (λ k. bytes_eq k.id id) xs → found ≡ place_in id old
  there_is old ks xs id found view same is =
      is ∙ (ap (position (λ (k : Hosted L S T M). bytes_eq k.id id)) same ∙ (sym (id_place id ks) ∙ ap (place_in id) view))

  pub nowhere : (old : List KernelState) (ks xs : List (Hosted L S T M)) (id : List ℕ) → states_of ks ≡ old → xs ≡ ks → None ≡ position (λ k. bytes_eq k.id id) xs
      → place_in id old ≡ None
  nowhere old ks xs id view same none = sym (there_is old ks xs id None view same none)

  -- whether all was read and told of it
  pub read_at : (old : List KernelState) (ks : List (Hosted L S T M)) (place : ℕ) (was : Hosted L S T M) (id : List ℕ) (b : Bool)
      → states_of ks ≡ old → position (λ k. bytes_eq k.id id) ks ≡ Some place → was ≡ get_or ks place was
      → IsTrue b ↔ IsDone (reading_of was.ends) → IsTrue b ↔ IsRead id old
  read_at old ks place was id b view first at done =
      let here = somewhere old ks place id view first in
      let there : slice_get old place ≡ Some (kernel_of was) =
      ap (λ (states : List KernelState). slice_get states place) (sym view)
      ∙ there_at ks place was (position_low (λ (k : Hosted L S T M). bytes_eq k.id id) ks place first) at in (
        λ yes p k is found.
            let one : place ≡ p = same_Some place p (sym here ∙ is) in
            let it : kernel_of was ≡ k = same_Some (kernel_of was) k (sym there ∙ (ap (slice_get old) one ∙ found)) in
            subst (λ (x : KernelState). IsDone x.reading) it (done.0 yes),
        λ read. done.1 (read place (kernel_of was) here there),
      )

  -- nothing is read of it any more
  pub ended_at : (ks : List (Hosted L S T M)) (place : ℕ) (was now : Hosted L S T M) (id : List ℕ) → position (λ k. bytes_eq k.id id) ks ≡ Some place
      → was ≡ get_or ks place was → now.id ≡ was.id → now.ends.scribe ≡ None → IsRead id (states_of (set ks place now))
  ended_at ks place was now id first at same none p k found there =
      let low = position_low (λ (h : Hosted L S T M). bytes_eq h.id id) ks place first in
      let here = same_place ks place was now id at same ∙ first in
      let one : place ≡ p = same_Some place p (sym here ∙ (sym (id_place id (set ks place now)) ∙ found)) in
      let it : kernel_of now ≡ k =
      same_Some (kernel_of now) k (sym (set_there kernel_of ks place now low) ∙ (ap (slice_get (states_of (set ks place now))) one ∙ there)) in
      subst (λ (x : KernelState). IsDone x.reading) it (subst (λ (x : Option Reading). IsDone x) (sym (ap reading_in none)) tt)

  -- ---- kernels that go

  -- of a kernel that went nothing was read
  gone_from : (ks : List (Hosted L S T M)) (place : ℕ) (was : Hosted L S T M) → slice_get ks place ≡ Some was → was.ends.scribe ≡ None
      → HaveGone (states_of ks) (states_of (remove ks place))
  gone_from [] place was is none = absurd (none-some was is)
  gone_from (k ∷ ks) zero was is none = inr (ap reading_in (ap (λ (x : Hosted L S T M). x.ends.scribe) (same_Some k was is) ∙ none), none_gone (states_of ks))
  gone_from (k ∷ ks) (suc place) was is none = inl (states_of (remove ks place), refl, gone_from ks place was is none)

  pub gone_at : (old : List KernelState) (ks rest : List (Hosted L S T M)) (place : ℕ) (was : Hosted L S T M) → states_of ks ≡ old → slice_get ks place ≡ Some was
      → was.ends.scribe ≡ None → rest ≡ remove ks place → HaveGone old (states_of rest)
  gone_at old ks rest place was view there none removed =
      subst (λ (p : List KernelState × List (Hosted L S T M)). HaveGone p.0 (states_of p.1)) (λ i. (view i, sym removed i)) (gone_from ks place was there none)

  -- ---- the kernel that was made last

  not_read : (home : Option (Home L S T M)) (scribe : Option (Scribe L S T M)) → IsOn scribed home scribe → home ≡ None → scribe ≡ None
  not_read home None on none = refl
  not_read home (Some scribe) on none = absurd (none-some (board_of scribe.follower) (sym (ap inbox_in none) ∙ on scribe refl))

  not_home : (home : Option (Home L S T M)) → state_in home ≡ None → home ≡ None
  not_home None is = refl
  not_home (Some h) is = absurd (none-some (state_of h) (sym is))

  -- whether it is there was asked
  pub home_there : (home : Option (Home L S T M)) (b : Bool) → b ≡ true → b ≡ is_some home → home ≡ None → ⊥
  home_there None b told is none = false≢true (sym is ∙ told)
  home_there (Some h) b told is none = none-some h (sym none)

  pub home_absent : (home : Option (Home L S T M)) (b : Bool) → b ≡ false → b ≡ is_some home → home ≡ None
  home_absent None b told is = refl
  home_absent (Some h) b told is = absurd (false≢true (sym told ∙ is))

  unopened_is : (was : Hosted L S T M) → was.ends.home ≡ None → kernel_of was ≡ unopened was.id
  unopened_is was none =
      let unread = not_read was.ends.home was.ends.scribe was.ends.own.1.1 none in
      λ i. record { id = was.id; home = state_in (none i); reading = reading_in (unread i) }

  last_is : (ks : List (Hosted L S T M)) (place : ℕ) (was : Hosted L S T M) → length ks ≡ place + 1 → was ≡ get_or ks place was → ks ≡ take place ks ++ was ∷ []
  last_is ks place was long at = sym (ap (set ks place) at ∙ set-get_or ks place was) ∙ set_last ks place was long

  -- its ends had not come
  last_unopened : (old : List KernelState) (ks : List (Hosted L S T M)) (place : ℕ) (was : Hosted L S T M) → states_of ks ≡ old → length ks ≡ place + 1
      → was ≡ get_or ks place was → was.ends.home ≡ None → IsLastUnopened (states_of (take place ks)) was.id old
  last_unopened old ks place was view long at none =
      sym view ∙ (ap states_of (last_is ks place was long at) ∙ (map-append kernel_of (take place ks) (was ∷ [])
      ∙ ap (λ (k : KernelState). states_of (take place ks) ++ k ∷ []) (unopened_is was none)))

  pub ends_come : (old : List KernelState) (ks : List (Hosted L S T M)) (place : ℕ) (was now : Hosted L S T M) (home : HomeState) → states_of ks ≡ old
      → length ks ≡ place + 1 → was ≡ get_or ks place was → was.ends.home ≡ None → now.id ≡ was.id → home_of now.ends ≡ Some home → now.ends.scribe ≡ None
      → EndsHaveCome home old (states_of (set ks place now))
  ends_come old ks place was now home view long at none same here unread = inl (
    states_of (take place ks),
    was.id,
    last_unopened old ks place was view long at none,
    ap states_of (set_last ks place now long) ∙ (map-append kernel_of (take place ks) (now ∷ [])
        ∙ (λ i. states_of (take place ks) ++ record { id = same i; home = here i; reading = reading_in (unread i) } ∷ [])),
  )

  pub last_goes : (old : List KernelState) (ks rest : List (Hosted L S T M)) (place : ℕ) (was : Hosted L S T M) → states_of ks ≡ old → length ks ≡ place + 1
      → was ≡ get_or ks place was → was.ends.home ≡ None → rest ≡ take place ks → LastHasGone old (states_of rest)
  last_goes old ks rest place was view long at none popped =
      inl (was.id, last_unopened old ks place was view long at none ∙ ap (λ (hs : List (Hosted L S T M)). states_of hs ++ unopened was.id ∷ []) (sym popped))

  -- its ends had come
  pub last_opened : (old : List KernelState) (ks : List (Hosted L S T M)) (place : ℕ) (was : Hosted L S T M) → states_of ks ≡ old → length ks ≡ place + 1
      → was ≡ get_or ks place was → (was.ends.home ≡ None → ⊥) → (others : List KernelState) (id : List ℕ) → ¬ (IsLastUnopened others id old)
  last_opened old ks place was view long at opened others id is =
      let lengths = ap (λ (xs : List KernelState). length xs) is ∙ length-append others (unopened id ∷ []) in
      let all = ap (λ (xs : List KernelState). length xs) (sym view) ∙ length-map ks kernel_of in
      let one : length others ≡ place = omega (arith, lengths, all, long) in
      let there = ap (λ (xs : List KernelState). slice_get xs place) (sym view) ∙ there_at ks place was (omega (arith, long)) at in
      let it = ap (λ (xs : List KernelState). slice_get xs place) is ∙ (ap (slice_get (others ++ unopened id ∷ [])) (sym one) ∙ at_last others (unopened id)) in
      opened (not_home was.ends.home (ap (λ (k : KernelState). k.home) (same_Some (kernel_of was) (unopened id) (sym there ∙ it))))

  -- there is none
  pub no_last : (old : List KernelState) (ks : List (Hosted L S T M)) → states_of ks ≡ old → length ks ≡ 0 → (others : List KernelState) (id : List ℕ)
      → ¬ (IsLastUnopened others id old)
  no_last old ks view none others id is =
      let lengths = ap (λ (xs : List KernelState). length xs) is ∙ length-append others (unopened id ∷ []) in
      let all = ap (λ (xs : List KernelState). length xs) (sym view) ∙ length-map ks kernel_of in
      absurd (omega (arith, lengths, all, none))

  -- ---- readings that end with their recorders

  -- what was done to the kernels so far was done to one more
  pub one_over : (f : KernelState → KernelState) (old : List KernelState) (ks : List (Hosted L S T M)) (place : ℕ) (was now : Hosted L S T M)
      → place < length ks → length ks ≡ length old → was ≡ get_or ks place was → states_of ks ≡ map f (take place old) ++ drop place old → kernel_of now ≡ f (kernel_of was)
      → states_of (set ks place now) ≡ map f (take (place + 1) old) ++ drop (place + 1) old
  one_over f old ks place was now low long at so is =
      let read : kernel_of was ≡ get_or (states_of ks) place (kernel_of was) =
      sym (get_or_from_slice_get (states_of ks) place (kernel_of was) (kernel_of was) (there_at ks place was low at)) in
      map-set kernel_of ks place now ∙ (ap (set (states_of ks) place) is
      ∙ map_over_more f old (states_of ks) place (kernel_of was) (omega (arith, low, long)) so read)
