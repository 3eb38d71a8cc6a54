-- What a step of one kernel is to those who see of each kernel what it was told.
use Rattle.std.proofs.Common.{◌≡◌, inl, inr, ◌<◌, ◌+◌, ℕ, Bool, true, false, cond, List, [], ◌∷◌, map, length, get_or, set, refl, sym, ap, ◌∙◌, subst, Option, Some, None, Result, Ok, Err, arith}
use Rattle.std.specs.Prelude.{IfOk, OnErr, is_ok, not, position, slice_get, nat_lt, option_map}
use Rattle.std.specs.List.{prefix_len, position_or_len}
use Rattle.std.specs.Str.{bytes_eq}
use Rattle.std.proofs.Math.Seq.{map-set_same}
use Rattle.std.proofs.lemmas.List.{map-append, map-set, length-map}
use Rattle.std.proofs.lemmas.List.Quantifiers.{position-Some}
use Rattle.std.proofs.lemmas.Option.{slice_get-map, slice_get_read}
use Rattle.std.proofs.lemmas.Slice.Eq.{bytes_eq-Decides}
use borrow.Author.Tests.{ltb-true}
use Rattle.jk_log.specs.Asked.{sort_as}
use Rattle.jk_log.specs.declared.arrival.Arrival.{Arrival}
use Rattle.jk_log.specs.declared.arrival.Sort.{Sort}
use Rattle.jk_log.specs.declared.arrival.What.{What}
use Rattle.jk_queues.specs.declared.inbox.Full.{Full}
use Rattle.js_follow.specs.Following.{is_due}
use Rattle.js_home.specs.Homes.{Tells, told_by, arrival_of}
use Rattle.js_home.specs.declared.home.Home.{Home}
use Rattle.jk_queues.specs.Ends.{seat_inbox, sent_by}
use Rattle.js_rest.specs.declared.untold.Untold.{Untold}
use Rattle.js_rest.specs.declared.untold.Untold.TheVariants as untold
use Rattle.js_shelf.specs.Shelves.{Contents}
use Rattle.js_tables.specs.Tables.{Rows}
use Rattle.js_tables.specs.declared.plan.Command.{Command}
use Rattle.js_kernels.specs.Told.{KernelState, IsToldOneMore, Tells as TellsOne, asked, outcome, told_more, place_in}
use Rattle.js_kernels.specs.Hosting.{HasTold, TellsHome, IsPlaceOf, IsPlaceAt, state_of, state_in, home_of, kernel_of, states_of}
use Rattle.js_kernels.specs.Boards.{inbox_in}
use Rattle.js_kernels.specs.Recording.{ReadsAndTells, Records, RecordsAt, Tells as TellsRecorder, Waits, inbox_at, reading_in}
use Rattle.js_drive.specs.declared.place.Place.{Place}
use Rattle.js_kernels.specs.declared.kernels.hosted.Hosted.{Hosted}
use Rattle.js_kernels.specs.declared.kernels.Unlent.{Unlent}
use Rattle.js_kernels.specs.declared.recording.Scribe.{Scribe}
use Rattle.js_kernels.proofs.Full.{was_full}

prefix_map : {X Y : Type 0} (f : X → Y) (p : Y → Bool) (xs : List X) → prefix_len p (map f xs) ≡ prefix_len (λ x. p (f x)) xs
prefix_map f p [] = refl
prefix_map f p (x ∷ xs) = ap (λ n. cond (p (f x)) (1 + n) 0) (prefix_map f p xs)

some_of : (b : Bool) (n i : ℕ) → cond b (Some n) None ≡ Some i → (b ≡ true) × (n ≡ i)
some_of true n i e = (refl, cc)
some_of false n i e = cc

pub position_map : {X Y : Type 0} (f : X → Y) (p : Y → Bool) (xs : List X) → position p (map f xs) ≡ position (λ x. p (f x)) xs
position_map f p xs =
    let q = prefix_map f (λ y. not (p y)) xs in
    let l = length-map xs f in
    λ i. cond (nat_lt (q i) (l i)) (Some (q i)) None

pub position_low : {X : Type 0} (p : X → Bool) (xs : List X) (i : ℕ) → position p xs ≡ Some i → i < length xs
position_low p xs i e =
    let s = some_of (nat_lt (position_or_len p xs) (length xs)) (position_or_len p xs) i e in
    let low = ltb-true (position_or_len p xs) (length xs) s.0 in
    let same = s.1 in
    omega arith

untold_stays : (old ks : List KernelState) (r : Result (Unit {0}) Untold) (id : List ℕ) (command : Command) → TellsOne old id command r ks → OnErr r (ks ≡ old)
untold_stays old ks (Ok done) id command t = tt
untold_stays old ks (Err untold.Full) id command t = t.0
untold_stays old ks (Err untold.Memory) id command t = t

module _ {L S T M : Type 0} where
  -- seat 0 has sent something; or nothing
  pub told_state : (h g : Home L S T M) (what : What) (done : Unit {0}) → Tells h what (Ok done) g → state_of g ≡ told_more (sort_as what) (state_of h)
  told_state h g what done t =
      let told = ap (map (λ (x : Arrival). sort_as x.what)) t.0 ∙ map-append (λ (x : Arrival). sort_as x.what) (told_by h) (arrival_of (told_by h) what ∷ []) in
      λ i. record { inbox = t.1 i; told = told i }

  pub untold_state : (h g : Home L S T M) (what : What) (full : Full) → Tells h what (Err full) g → state_of g ≡ state_of h
  untold_state h g what full t = λ i. record { inbox = t.1 i; told = map (λ (x : Arrival). sort_as x.what) (t.0 i) }

  -- what the desk sees of a home, where it was told something or not, and where seat 0 stays
  told_by_result : (old new : Option (Home L S T M)) (h g : Home L S T M) (what : What) (r : Result (Unit {0}) Full) → Tells h what r g → old ≡ Some h → new ≡ Some g
      → TellsHome (sort_as what) (outcome (is_ok r)) (state_in old) (state_in new)
  told_by_result old new h g what (Ok done) t was now = (state_of h, ap state_in was, ap state_in now ∙ ap Some (told_state h g what done t))
  told_by_result old new h g what (Err full) t was now =
      (ap state_in now ∙ (ap Some (untold_state h g what full t) ∙ sym (ap state_in was)), state_of h, ap state_in was, was_full h t.4)

  pub told_home : (old new : Option (Home L S T M)) (h g : Home L S T M) (what : What) (r : Result (Unit {0}) Full) (b : Bool) (u : Result (Unit {0}) Untold)
      → b ≡ is_ok r → u ≡ outcome b → Tells h what r g → old ≡ Some h → new ≡ Some g → TellsHome (sort_as what) u (state_in old) (state_in new)
  told_home old new h g what r b u e is t was now =
      subst (λ (v : Result (Unit {0}) Untold). TellsHome (sort_as what) v (state_in old) (state_in new)) (sym (is ∙ ap outcome e))
      (told_by_result old new h g what r t was now)

  pub kept_home : (old new : Option (Home L S T M)) (h g : Home L S T M) → g.zero ≡ h.zero → old ≡ Some h → new ≡ Some g → state_in new ≡ state_in old
  kept_home old new h g zero was now =
      ap state_in now
      ∙ ((λ i. Some (record { inbox = seat_inbox (zero i); told = map (λ (x : Arrival). sort_as x.what) (sent_by (zero i)) })) ∙ sym (ap state_in was))

  pub id_place : (id : List ℕ) (ks : List (Hosted L S T M)) → place_in id (states_of ks) ≡ position (λ k. bytes_eq k.id id) ks
  id_place id ks = position_map kernel_of (λ (k : KernelState). bytes_eq k.id id) ks

  pub there_at : (ks : List (Hosted L S T M)) (place : ℕ) (was : Hosted L S T M) → place < length ks → was ≡ get_or ks place was
      → slice_get (states_of ks) place ≡ Some (kernel_of was)
  there_at ks place was low at = slice_get-map kernel_of ks place ∙ ap (option_map kernel_of) (slice_get_read ks (length ks) place was refl low at)

  -- it has the same identifier, and the same is read of it
  abbrev pub AreAlike : Hosted L S T M → Hosted L S T M → Type 0
  AreAlike now was = (now.id ≡ was.id) × (now.ends.scribe ≡ was.ends.scribe)

  -- what a kernel was told stays; or it was told one thing more
  pub kept_at : (ks : List (Hosted L S T M)) (place : ℕ) (was now : Hosted L S T M) → was ≡ get_or ks place was → AreAlike now was → home_of now.ends ≡ home_of was.ends
      → states_of (set ks place now) ≡ states_of ks
  kept_at ks place was now at same home =
      map-set_same kernel_of ks place now was ((λ i. record { id = same.0 i; home = home i; reading = reading_in (same.1 i) }) ∙ ap kernel_of at)

  pub told_at : (ks : List (Hosted L S T M)) (place : ℕ) (was now : Hosted L S T M) (id : List ℕ) (s : Sort) → position (λ k. bytes_eq k.id id) ks ≡ Some place
      → was ≡ get_or ks place was → AreAlike now was → HasTold s (home_of was.ends) (home_of now.ends) → IsToldOneMore s id (states_of ks) (states_of (set ks place now))
  told_at ks place was now id s first at same told = record {
    place = place;
    first = id_place id ks ∙ first;
    was = kernel_of was;
    there = there_at ks place was (position_low (λ (k : Hosted L S T M). bytes_eq k.id id) ks place first) at;
    home = told.0;
    opened = told.1;
    told = map-set kernel_of ks place now ∙ (λ i. set (states_of ks) place (record { id = same.0 i; home = told.2 i; reading = reading_in (same.1 i) }));
  }

  pub place_at : (ks : List (Hosted L S T M)) (place : ℕ) (was : Hosted L S T M) (id : List ℕ) (p : Place L S T M) → position (λ k. bytes_eq k.id id) ks ≡ Some place
      → was ≡ get_or ks place was → IsPlaceOf (home_of was.ends) p → IsPlaceAt id (states_of ks) p
  place_at ks place was id p first at is =
      (place, kernel_of was, id_place id ks ∙ first, there_at ks place was (position_low (λ (k : Hosted L S T M). bytes_eq k.id id) ks place first) at, is)

  -- the place of the first kernel of an identifier was found
  pub found_at : (ks xs : List (Hosted L S T M)) (id : List ℕ) (place : ℕ) → xs ≡ ks → Some place ≡ position (λ k. bytes_eq k.id id) xs
      → position (λ k. bytes_eq k.id id) ks ≡ Some place
  found_at ks xs id place same found = sym (found ∙ ap (position (λ (k : Hosted L S T M). bytes_eq k.id id)) same)

  -- a command was told to a kernel, or was not
  told_or_not : (ks : List (Hosted L S T M)) (place : ℕ) (was now : Hosted L S T M) (id : List ℕ) (command : Command) (r : Result (Unit {0}) Untold)
      → position (λ k. bytes_eq k.id id) ks ≡ Some place → was ≡ get_or ks place was → AreAlike now was
      → TellsHome (asked command) r (home_of was.ends) (home_of now.ends) → TellsOne (states_of ks) id command r (states_of (set ks place now))
  told_or_not ks place was now id command (Ok done) first at same told = told_at ks place was now id (asked command) first at same told
  told_or_not ks place was now id command (Err untold.Memory) first at same kept = kept_at ks place was now at same kept
  told_or_not ks place was now id command (Err untold.Full) first at same full = (
    kept_at ks place was now at same full.0,
    record {
      place = place;
      first = id_place id ks ∙ first;
      kernel = kernel_of was;
      there = there_at ks place was (position_low (λ (k : Hosted L S T M). bytes_eq k.id id) ks place first) at;
      home = full.1;
      opened = full.2;
      full = full.3;
    },
  )

  pub tells_at : (old : List KernelState) (ks : List (Hosted L S T M)) (place : ℕ) (was now : Hosted L S T M) (id : List ℕ) (command : Command) (s : Sort)
      (r : Result (Unit {0}) Untold) → states_of ks ≡ old → position (λ k. bytes_eq k.id id) ks ≡ Some place → was ≡ get_or ks place was → AreAlike now was
      → s ≡ asked command → TellsHome s r (home_of was.ends) (home_of now.ends) → TellsOne old id command r (states_of (set ks place now))
  tells_at old ks place was now id command s r view first at same sort told =
      let meant = subst (λ (t : Sort). TellsHome t r (home_of was.ends) (home_of now.ends)) sort told in
      subst (λ (x : List KernelState). TellsOne x id command r (states_of (set ks place now))) view (told_or_not ks place was now id command r first at same meant)

  pub untold_at : (old : List KernelState) (ks : List (Hosted L S T M)) (place : ℕ) (was now : Hosted L S T M) (id : List ℕ) (command : Command) (s : Sort)
      (r : Result (Unit {0}) Untold) → states_of ks ≡ old → position (λ k. bytes_eq k.id id) ks ≡ Some place → was ≡ get_or ks place was → AreAlike now was
      → s ≡ asked command → TellsHome s r (home_of was.ends) (home_of now.ends) → OnErr r (states_of (set ks place now) ≡ old)
  untold_at old ks place was now id command s r view first at same sort told =
      untold_stays old (states_of (set ks place now)) r id command (tells_at old ks place was now id command s r view first at same sort told)

  -- what holds of a place that was lent
  pub lent_so : (r : Result (Place L S T M) Unlent) (P Q : Place L S T M → Type 0) → ((p : Place L S T M) → P p → Q p) → IfOk r P → IfOk r Q
  lent_so (Ok p) P Q f h = f p h
  lent_so (Err e) P Q f h = tt

  -- ---- recorders

  inbox_seen : (home : Option (Home L S T M)) → inbox_at (state_in home) ≡ inbox_in home
  inbox_seen None = refl
  inbox_seen (Some h) = refl

  -- the follower that was there has read, and then nothing was told, or what is held
  pub records_of : (c d : Option Contents) (f g : ℕ) (kernel date : List ℕ) (old : Option (Scribe L S T M)) (x new : Scribe L S T M) (r s : Rows)
      → Some x ≡ old → ReadsAndTells c d f g kernel date x new r s → Records c d f g kernel date old (Some new) r s
  records_of c d f g kernel date old x new r s is h =
      subst (λ (o : Option (Scribe L S T M)). Records c d f g kernel date o (Some new) r s) is (new, refl, h)

  -- what is told for an identifier is told for one that is the same
  pub told_for : (c d : Option Contents) (f g : ℕ) (kernel other date : List ℕ) (mid new : Scribe L S T M) (r s : Rows)
      → other ≡ kernel → TellsRecorder c d f g other date mid new r s → TellsRecorder c d f g kernel date mid new r s
  told_for c d f g kernel other date mid new r s same t = subst (λ (k : List ℕ). TellsRecorder c d f g k date mid new r s) same t

  -- nothing is told, and it is known whether a save is due
  pub waits_for : (c : Option Contents) (f : ℕ) (kernel other : List ℕ) (old new : Scribe L S T M) (r : Rows) (due : Bool) → new ≡ record old { tried = not due }
      → due ≡ is_due other r → other ≡ kernel → Waits c c f f kernel old new r r
  waits_for c f kernel other old new r due is asked same =
      let known = asked ∙ ap (λ (k : List ℕ). is_due k r) same in
      (is ∙ ap (λ (b : Bool). record old { tried = not b }) known, refl, (refl, refl))

  found_id : (ks : List (Hosted L S T M)) (place : ℕ) (was : Hosted L S T M) (id : List ℕ) → position (λ k. bytes_eq k.id id) ks ≡ Some place
      → was ≡ get_or ks place was → was.id ≡ id
  found_id ks place was id first at =
      let found = position-Some (λ (k : Hosted L S T M). bytes_eq k.id id) ks place was first in
      (bytes_eq-Decides was.id id).0 (ap (λ (k : Hosted L S T M). bytes_eq k.id id) at ∙ found.1)

  recorded_by : (c d : Option Contents) (f g : ℕ) (ks : List (Hosted L S T M)) (place : ℕ) (was now : Hosted L S T M) (id date : List ℕ) (r s : Rows)
      → position (λ k. bytes_eq k.id id) ks ≡ Some place → was ≡ get_or ks place was → now.id ≡ was.id → home_of now.ends ≡ home_of was.ends
      → (scribe : Option (Scribe L S T M)) → was.ends.scribe ≡ scribe → Records c d f g was.id date scribe now.ends.scribe r s
      → RecordsAt L S T M c d f g id date (states_of ks) (states_of (set ks place now)) r s
  recorded_by c d f g ks place was now id date r s first at same home None is h = inl (kept_at ks place was now at (same, h.0 ∙ sym is) home, h.1, h.2)
  recorded_by c d f g ks place was now id date r s first at same home (Some old) is h = inr (
    place,
    kernel_of was,
    id_place id ks ∙ first,
    there_at ks place was (position_low (λ (k : Hosted L S T M). bytes_eq k.id id) ks place first) at,
    old,
    h.0,
    ap reading_in is,
    map-set kernel_of ks place now ∙ (λ i. set (states_of ks) place (record { id = same i; home = home i; reading = reading_in (h.1 i) })),
    inbox_seen was.ends.home ∙ was.ends.own.1.1 old is,
    subst (λ (kernel : List ℕ). ReadsAndTells c d f g kernel date old h.0 r s) (found_id ks place was id first at) h.2,
  )

  -- the first kernel of an identifier let its recorder follow
  pub recorded_at : (c d : Option Contents) (f g : ℕ) (old : List KernelState) (ks : List (Hosted L S T M)) (place : ℕ) (was now : Hosted L S T M) (id date : List ℕ) (r s : Rows)
      → states_of ks ≡ old → position (λ k. bytes_eq k.id id) ks ≡ Some place → was ≡ get_or ks place was → now.id ≡ was.id → home_of now.ends ≡ home_of was.ends
      → Records c d f g was.id date was.ends.scribe now.ends.scribe r s → RecordsAt L S T M c d f g id date old (states_of (set ks place now)) r s
  recorded_at c d f g old ks place was now id date r s view first at same home h =
      subst (λ (states : List KernelState). RecordsAt L S T M c d f g id date states (states_of (set ks place now)) r s) view
      (recorded_by c d f g ks place was now id date r s first at same home was.ends.scribe refl h)
