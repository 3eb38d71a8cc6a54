-- What a kernel's deeds say of it, and that each event is deeds of the kernels that it changes.
use Rattle.std.proofs.Common.{◌≡◌, ◌⊎◌, inl, inr, ℕ, zero, suc, Bool, true, false, if◌then◌else◌, List, [], ◌∷◌, ◌++◌, map, set, refl, sym, ap, ◌∙◌, subst, Option, Some, None, Ok, Err, All, append_assoc, append-nil, slice_get, slice_set}
use Rattle.std.proofs.lemmas.List.{map-append, map-set}
use Rattle.std.proofs.lemmas.List.Elements.{All-cons, All-head, All-map, All-nil, All-push, All-same, All-set, All-tail, All-weaker}
use Rattle.std.proofs.lemmas.Option.{none-some, same_Some}
use Rattle.jk_log.specs.declared.arrival.Sort.{Sort}
use Rattle.jk_log.specs.declared.entry.Entry.{Entry}
use Rattle.js_rest.specs.declared.untold.Untold.TheVariants as untold
use Rattle.js_tables.specs.Tables.{Rows, has_recorder}
use Rattle.js_tables.specs.declared.plan.Command.{Command}
use Rattle.js_kernels.specs.Told.{HomeState, KernelState, Reading, IsToldOneMore, asked, place_in, told_more, unopened}
use Rattle.js_kernels.specs.Readings.{BeginsReading, ChangesReading, EndsHaveCome, EndsReading, HaveGone, IsDone, LastHasGone, if_recorded, with_reading}
use Rattle.js_kernels.specs.Events.{Event, Happens, Run}
use Rattle.js_kernels.specs.Lives.{AreLived, Deed, Does, DoesAt, HasDone, HaveLeft, IsLived, Lead, Life, Lives, Moves, born, commands_in, kernels_of, passed_in, read_on, recorded_in, stopped, told_of}
use Rattle.js_kernels.proofs.Recorded.{IsRecordedBy, recorded}

-- ---- what the deeds of a kernel say of it

-- what its seat 0 has told
told_by : (id : List ℕ) (deeds : List Deed) (k : KernelState) → Lives (unopened id) deeds k → told_of k.home ≡ map asked (commands_in deeds)
told_by id [] k is = ap (λ (x : KernelState). told_of x.home) is
told_by id (Deed.Opens home ∷ deeds) k (mid, lives, (none, unread, nothing, is)) =
    ap (λ (x : KernelState). told_of x.home) is ∙ (nothing ∙ sym (sym (told_by id deeds mid lives) ∙ ap told_of none))
told_by id (Deed.Tells command ∷ deeds) k (mid, lives, (home, opened, is)) =
    ap (λ (x : KernelState). told_of x.home) is
    ∙ (ap (λ (xs : List Sort). xs ++ asked command ∷ []) (sym (ap told_of opened) ∙ told_by id deeds mid lives)
    ∙ sym (map-append asked (commands_in deeds) (command ∷ [])))
told_by id (Deed.Begins passed ∷ deeds) k (mid, lives, (none, is)) = ap (λ (x : KernelState). told_of x.home) is ∙ told_by id deeds mid lives
told_by id (Deed.Reads more told tried r ∷ deeds) k (mid, lives, (was, held, one, there, front, is)) = ap (λ (x : KernelState). told_of x.home) is ∙ told_by id deeds mid lives
told_by id (Deed.Skips passed r ∷ deeds) k (mid, lives, (was, more, gone, there, all, is)) = ap (λ (x : KernelState). told_of x.home) is ∙ told_by id deeds mid lives
told_by id (Deed.Ends ∷ deeds) k (mid, lives, (done, is)) = ap (λ (x : KernelState). told_of x.home) is ∙ told_by id deeds mid lives
told_by id (Deed.Stops r ∷ deeds) k (mid, lives, (gone, is)) = ap (λ (x : KernelState). told_of x.home) is ∙ told_by id deeds mid lives

-- what was read for its recorder
abbrev IsKept : List Deed → Reading → Type 0
IsKept deeds reading = reading.read ≡ passed_in deeds ++ (recorded_in deeds ++ reading.held)

-- it is what this deed left
left_by : (deeds : List Deed) (old new : KernelState) (left reading : Reading) → new ≡ with_reading (Some left) old → new.reading ≡ Some reading → IsKept deeds left → IsKept deeds reading
left_by deeds old new left reading is there kept =
    subst (IsKept deeds) (same_Some left reading (sym (ap (λ (x : KernelState). x.reading) is) ∙ there)) kept

-- there is none
none_left : {X : Type 0} (old new : KernelState) (reading : Reading) → new.reading ≡ None → new.reading ≡ Some reading → X
none_left old new reading none there = absurd (none-some reading (sym none ∙ there))

-- what was told, and then this, and then what is held
longer : (passed recorded held more told rest : List Entry) → held ++ more ≡ told ++ rest
    → (passed ++ (recorded ++ held)) ++ more ≡ passed ++ ((recorded ++ told) ++ rest)
longer passed recorded held more told rest same =
    append_assoc passed (recorded ++ held) more
    ∙ ap (λ (xs : List Entry). passed ++ xs)
    (append_assoc recorded held more ∙ (ap (λ (xs : List Entry). recorded ++ xs) same ∙ sym (append_assoc recorded told rest)))

kept_by : (id : List ℕ) (deeds : List Deed) (k : KernelState) → Lives (unopened id) deeds k → (reading : Reading) → k.reading ≡ Some reading → IsKept deeds reading
kept_by id [] k is reading there = none_left k k reading (ap (λ (x : KernelState). x.reading) is) there
kept_by id (Deed.Opens home ∷ deeds) k (mid, lives, (none, unread, nothing, is)) reading there = none_left mid k reading (ap (λ (x : KernelState). x.reading) is) there
kept_by id (Deed.Tells command ∷ deeds) k (mid, lives, (home, opened, is)) reading there =
    kept_by id deeds mid lives reading (sym (ap (λ (x : KernelState). x.reading) is) ∙ there)
kept_by id (Deed.Begins passed ∷ deeds) k (mid, lives, (none, is)) reading there =
    left_by (Deed.Begins passed ∷ deeds) mid k (record { read = passed; held = []; over = false; tried = false }) reading is there (sym (append-nil passed))
kept_by id (Deed.Reads more told tried r ∷ deeds) k (mid, lives, (was, held, one, before, front, is)) reading there =
    left_by (Deed.Reads more told tried r ∷ deeds) mid k (read_on was more held tried) reading is there
    (ap (λ (xs : List Entry). xs ++ more) (kept_by id deeds mid lives was before) ∙ longer (passed_in deeds) (recorded_in deeds) was.held more told held front)
kept_by id (Deed.Skips passed r ∷ deeds) k (mid, lives, (was, more, gone, before, all, is)) reading there =
    left_by (Deed.Skips passed r ∷ deeds) mid k (read_on was more [] true) reading is there (sym all ∙ sym (append-nil passed))
kept_by id (Deed.Ends ∷ deeds) k (mid, lives, (done, is)) reading there = none_left mid k reading (ap (λ (x : KernelState). x.reading) is) there
kept_by id (Deed.Stops r ∷ deeds) k (mid, lives, (gone, is)) reading there = none_left mid k reading (ap (λ (x : KernelState). x.reading) is) there

-- ---- deeds keep a life together

abbrev HasLived : Life → Type 0
HasLived l = Lives (unopened l.kernel.id) l.deeds l.kernel

is_lived : (l : Life) → HasLived l → IsLived l
is_lived l lives = record {
  lives = lives;
  told = told_by l.kernel.id l.deeds l.kernel lives;
  read = kept_by l.kernel.id l.deeds l.kernel lives;
}

-- no deed changes the identifier
same_id : (deed : Deed) (old new : KernelState) → Does deed old new → new.id ≡ old.id
same_id (Deed.Opens home) old new (none, unread, nothing, is) = ap (λ (x : KernelState). x.id) is
same_id (Deed.Tells command) old new (home, opened, is) = ap (λ (x : KernelState). x.id) is
same_id (Deed.Begins passed) old new (none, is) = ap (λ (x : KernelState). x.id) is
same_id (Deed.Reads more told tried r) old new (was, held, one, there, front, is) = ap (λ (x : KernelState). x.id) is
same_id (Deed.Skips passed r) old new (was, more, gone, there, all, is) = ap (λ (x : KernelState). x.id) is
same_id Deed.Ends old new (done, is) = ap (λ (x : KernelState). x.id) is
same_id (Deed.Stops r) old new (gone, is) = ap (λ (x : KernelState). x.id) is

lives_on : (deed : Deed) (was now : Life) → HasDone deed was now → HasLived was → HasLived now
lives_on deed was now (does, deeds) lived =
    subst (λ (p : List ℕ × List Deed). Lives (unopened p.0) p.1 now.kernel) (λ i. (sym (same_id deed was.kernel now.kernel does) i, sym deeds i))
    (was.kernel, lived, does)

-- of the element at a place all that holds of each
there_of : {X : Type 0} (P : X → Type 0) (xs : List X) (place : ℕ) (x : X) → slice_get xs place ≡ Some x → All P xs → P x
there_of P [] place x is all = absurd (none-some x is)
there_of P (y ∷ xs) zero x is all = subst P (same_Some y x is) (All-head P y xs all)
there_of P (y ∷ xs) (suc place) x is all = there_of P xs place x is (All-tail P y xs all)

first_of : {X : Type 0} (P : X → Type 0) (xs ys : List X) → All P (xs ++ ys) → All P xs
first_of P [] ys all = All-nil P
first_of P (x ∷ xs) ys all = All-cons P x xs (All-head P x (xs ++ ys) all) (first_of P xs ys (All-tail P x (xs ++ ys) all))

last_of : {X : Type 0} (P : X → Type 0) (xs : List X) (y : X) → All P (xs ++ y ∷ []) → P y
last_of P [] y all = All-head P y [] all
last_of P (x ∷ xs) y all = last_of P xs y (All-tail P x (xs ++ y ∷ []) all)

does_keeps : (id : List ℕ) (deed : Deed) (old new : List Life) → DoesAt id deed old new → All HasLived old → All HasLived new
does_keeps id deed old new d all =
    All-same HasLived new (set old d.place d.now) d.others
    (All-set HasLived old d.place d.now (lives_on deed d.was d.now d.done (there_of HasLived old d.place d.was d.there all)) all)

stopped_by : (r : Rows) (l : Life) (b : Bool) → has_recorder l.kernel.id r ≡ b → HasLived l → HasLived (stopped r l)
stopped_by r l true is lived =
    subst HasLived (ap (λ (b : Bool). if b then l else record { kernel = with_reading None l.kernel; deeds = Deed.Stops r ∷ l.deeds }) (sym is)) lived
stopped_by r l false is lived =
    subst HasLived (ap (λ (b : Bool). if b then l else record { kernel = with_reading None l.kernel; deeds = Deed.Stops r ∷ l.deeds }) (sym is))
    (l.kernel, lived, (is, refl))

left_keeps : (old new : List Life) → HaveLeft old new → All HasLived old → All HasLived new
left_keeps [] new is all = All-same HasLived new [] is (All-nil HasLived)
left_keeps (l ∷ old) new (inl (rest, is, more)) all =
    All-same HasLived new (l ∷ rest) is (All-cons HasLived l rest (All-head HasLived l old all) (left_keeps old rest more (All-tail HasLived l old all)))
left_keeps (l ∷ old) new (inr (none, more)) all = left_keeps old new more (All-tail HasLived l old all)

moves_keep : (old : List Life) (e : Event) (new : List Life) → Moves old e new → All HasLived old → All HasLived new
moves_keep old (Event.Begin id) new is all = All-same HasLived new (old ++ born id ∷ []) is (All-push HasLived old (born id) all refl)
moves_keep old (Event.Open home) new (inl (others, was, now, before, done, after)) all =
    let both = All-same HasLived (others ++ was ∷ []) old (sym before) all in
    All-same HasLived new (others ++ now ∷ []) after
    (All-push HasLived others now (first_of HasLived others (was ∷ []) both) (lives_on (Deed.Opens home) was now done (last_of HasLived others was both)))
moves_keep old (Event.Open home) new (inr is) all = All-same HasLived new old is all
moves_keep old Event.Fail new (inl (last, is, unopened)) all = first_of HasLived new (last ∷ []) (All-same HasLived (new ++ last ∷ []) old (sym is) all)
moves_keep old Event.Fail new (inr is) all = All-same HasLived new old is all
moves_keep old (Event.Tell id command (Ok done)) new d all = does_keeps id (Deed.Tells command) old new d all
moves_keep old (Event.Tell id command (Err why)) new is all = All-same HasLived new old is all
moves_keep old (Event.BeginReading id) new (passed, d) all = does_keeps id (Deed.Begins passed) old new d all
moves_keep old (Event.Record id date c d f g r s) new (inl is) all = All-same HasLived new old is all
moves_keep old (Event.Record id date c d f g r s) new (inr (inl (more, told, tried, does))) all = does_keeps id (Deed.Reads more told tried r) old new does all
moves_keep old (Event.Record id date c d f g r s) new (inr (inr (passed, does))) all = does_keeps id (Deed.Skips passed r) old new does all
moves_keep old (Event.EndReading id) new d all = does_keeps id Deed.Ends old new d all
moves_keep old (Event.Unrecord r) new is all =
    All-same HasLived new (map (stopped r) old) is
    (All-map HasLived (stopped r) old (All-weaker HasLived (λ (l : Life). HasLived (stopped r l)) (λ l. stopped_by r l (has_recorder l.kernel.id r) refl) old all))
moves_keep old Event.Go new left all = left_keeps old new left all

-- ---- each event is deeds

-- what becomes of the lives is what becomes of the kernels
abbrev Follows : List Life → Event → List KernelState → Type 0
Follows lives e new = (next : List Life) × Moves lives e next × (kernels_of next ≡ new)

life_at : (lives : List Life) (place : ℕ) (k : KernelState) → slice_get (kernels_of lives) place ≡ Some k → (l : Life) × (slice_get lives place ≡ Some l) × (l.kernel ≡ k)
life_at [] place k is = absurd (none-some k is)
life_at (l ∷ lives) zero k is = (l, refl, same_Some l.kernel k is)
life_at (l ∷ lives) (suc place) k is = life_at lives place k is

-- the first kernel of an identifier does a deed
pub done_at : (lives : List Life) (id : List ℕ) (deed : Deed) (place : ℕ) (was now : KernelState) → place_in id (kernels_of lives) ≡ Some place
    → slice_get (kernels_of lives) place ≡ Some was → Does deed was now → (next : List Life) × DoesAt id deed lives next × (kernels_of next ≡ slice_set (kernels_of lives) place now)
done_at lives id deed place was now first there does =
    let at = life_at lives place was there in
    let l : Life = record { kernel = now; deeds = deed ∷ at.0.deeds } in (
      set lives place l,
      record {
        place = place;
        first = first;
        was = at.0;
        there = at.1;
        now = l;
        done = (subst (λ (k : KernelState). Does deed k now) (sym at.2) does, refl);
        others = refl;
      },
      map-set (λ (x : Life). x.kernel) lives place l,
    )

same_head : {X : Type 0} (x y : X) (xs ys : List X) → x ∷ xs ≡ y ∷ ys → x ≡ y
same_head x y xs ys is = cc

same_tail : {X : Type 0} (x y : X) (xs ys : List X) → x ∷ xs ≡ y ∷ ys → xs ≡ ys
same_tail x y xs ys is = cc

-- the last of the lives is that of the last kernel
life_last : (lives : List Life) (others : List KernelState) (k : KernelState) → kernels_of lives ≡ others ++ k ∷ []
    → (xs : List Life) × (l : Life) × (lives ≡ xs ++ l ∷ []) × (kernels_of xs ≡ others) × (l.kernel ≡ k)
life_last [] [] k is = absurd (cc is)
life_last [] (x ∷ others) k is = absurd (cc is)
life_last (l ∷ []) [] k is = ([], l, refl, refl, same_head l.kernel k [] [] is)
life_last (l ∷ m ∷ lives) [] k is = absurd (cc is)
life_last (l ∷ lives) (x ∷ others) k is =
    let rest = life_last lives others k (same_tail l.kernel x (kernels_of lives) (others ++ k ∷ []) is) in
    let head = same_head l.kernel x (kernels_of lives) (others ++ k ∷ []) is in
    (l ∷ rest.0, rest.1, ap (λ (ls : List Life). l ∷ ls) rest.2, (λ i. head i ∷ rest.3 i), rest.4)

begins : (lives : List Life) (id : List ℕ) (new : List KernelState) → new ≡ kernels_of lives ++ unopened id ∷ [] → Follows lives (Event.Begin id) new
begins lives id new is = (lives ++ born id ∷ [], refl, map-append (λ (l : Life). l.kernel) lives (born id ∷ []) ∙ sym is)

opens : (lives : List Life) (home : HomeState) (new : List KernelState) → home.told ≡ [] → EndsHaveCome home (kernels_of lives) new → Follows lives (Event.Open home) new
opens lives home new nothing (inl (others, id, before, after)) =
    let last = life_last lives others (unopened id) before in
    let k : KernelState = record { id = last.1.kernel.id; home = Some home; reading = None } in
    let now : Life = record { kernel = k; deeds = Deed.Opens home ∷ last.1.deeds } in (
      last.0 ++ now ∷ [],
      inl (
        last.0,
        last.1,
        now,
        last.2,
        ((ap (λ (x : KernelState). x.home) last.4, ap (λ (x : KernelState). x.reading) last.4, nothing, refl), refl),
        refl,
      ),
      map-append (λ (l : Life). l.kernel) last.0 (now ∷ [])
          ∙ ((λ i. last.3 i ++ record { id = (last.4 i).id; home = Some home; reading = None } ∷ []) ∙ sym after),
    )
opens lives home new nothing (inr (is, none)) = (lives, inr refl, sym is)

fails : (lives : List Life) (new : List KernelState) → LastHasGone (kernels_of lives) new → Follows lives Event.Fail new
fails lives new (inl (id, before)) =
    let last = life_last lives new (unopened id) before in
    (last.0, inl (last.1, last.2, last.4 ∙ ap unopened (sym (ap (λ (x : KernelState). x.id) last.4))), last.3)
fails lives new (inr (is, none)) = (lives, inr refl, sym is)

-- the same, with the state that the kernels come to
moved_to : (lives : List Life) (id : List ℕ) (deed : Deed) (place : ℕ) (was now : KernelState) (new : List KernelState) → place_in id (kernels_of lives) ≡ Some place
    → slice_get (kernels_of lives) place ≡ Some was → Does deed was now → new ≡ slice_set (kernels_of lives) place now
    → (next : List Life) × DoesAt id deed lives next × (kernels_of next ≡ new)
moved_to lives id deed place was now new first there does is =
    let moved = done_at lives id deed place was now first there does in
    (moved.0, moved.1, moved.2 ∙ sym is)

tells : (lives : List Life) (id : List ℕ) (command : Command) (new : List KernelState) → IsToldOneMore (asked command) id (kernels_of lives) new
    → (next : List Life) × DoesAt id (Deed.Tells command) lives next × (kernels_of next ≡ new)
tells lives id command new told =
    moved_to lives id (Deed.Tells command) told.place told.was (record { id = told.was.id; home = Some (told_more (asked command) told.home); reading = told.was.reading })
    new told.first told.there (told.home, told.opened, refl) told.told

begun_as : (reading : Option Reading) (now : Reading) → reading ≡ Some now → now.held ≡ [] → now.over ≡ false → now.tried ≡ false
    → reading ≡ Some (record { read = now.read; held = []; over = false; tried = false })
begun_as reading now is held over tried = is ∙ (λ i. Some (record { read = now.read; held = held i; over = over i; tried = tried i }))

begins_reading : (lives : List Life) (id : List ℕ) (new : List KernelState) → ChangesReading BeginsReading id (kernels_of lives) new → Follows lives (Event.BeginReading id) new
begins_reading lives id new ch =
    let now = ch.changed.1 in
    let same = begun_as ch.reading now ch.changed.2 ch.changed.3 ch.changed.4 ch.changed.5 in
    let moved =
    moved_to lives id (Deed.Begins now.read) ch.place ch.was (with_reading ch.reading ch.was) new ch.first ch.there
    (ch.changed.0, ap (λ (x : Option Reading). with_reading x ch.was) same) ch.now in
    (moved.0, (now.read, moved.1), moved.2)

ends_reading : (lives : List Life) (id : List ℕ) (new : List KernelState)
    → ((place : ℕ) (k : KernelState) → place_in id (kernels_of lives) ≡ Some place → slice_get (kernels_of lives) place ≡ Some k → IsDone k.reading)
    → ChangesReading EndsReading id (kernels_of lives) new → Follows lives (Event.EndReading id) new
ends_reading lives id new done ch =
    moved_to lives id Deed.Ends ch.place ch.was (with_reading ch.reading ch.was) new ch.first ch.there
    (done ch.place ch.was ch.first ch.there, ap (λ (x : Option Reading). with_reading x ch.was) ch.changed) ch.now

records : (lives : List Life) (id : List ℕ) (r : Rows) (new : List KernelState) → IsRecordedBy id r (kernels_of lives) new
    → (next : List Life) × ((next ≡ lives) ⊎ (((more : List Entry) × (told : List Entry) × (tried : Bool) × DoesAt id (Deed.Reads more told tried r) lives next)
    ⊎ ((passed : List Entry) × DoesAt id (Deed.Skips passed r) lives next))) × (kernels_of next ≡ new)
records lives id r new (inl is) = (lives, inl refl, sym is)
records lives id r new (inr (inl (more, told, tried, (place, was, now, first, there, does, is)))) =
    let moved = moved_to lives id (Deed.Reads more told tried r) place was now new first there does is in
    (moved.0, inr (inl (more, told, tried, moved.1)), moved.2)
records lives id r new (inr (inr (passed, (place, was, now, first, there, does, is)))) =
    let moved = moved_to lives id (Deed.Skips passed r) place was now new first there does is in
    (moved.0, inr (inr (passed, moved.1)), moved.2)

kernel_stopped : (r : Rows) (l : Life) (b : Bool) → has_recorder l.kernel.id r ≡ b → (stopped r l).kernel ≡ if_recorded r l.kernel
kernel_stopped r l true is =
    ap (λ (b : Bool). (if b then l else record { kernel = with_reading None l.kernel; deeds = Deed.Stops r ∷ l.deeds }).kernel) is
    ∙ ap (λ (b : Bool). if b then l.kernel else with_reading None l.kernel) (sym is)
kernel_stopped r l false is =
    ap (λ (b : Bool). (if b then l else record { kernel = with_reading None l.kernel; deeds = Deed.Stops r ∷ l.deeds }).kernel) is
    ∙ ap (λ (b : Bool). if b then l.kernel else with_reading None l.kernel) (sym is)

kernels_stopped : (r : Rows) (lives : List Life) → kernels_of (map (stopped r) lives) ≡ map (if_recorded r) (kernels_of lives)
kernels_stopped r [] = refl
kernels_stopped r (l ∷ lives) = λ i. kernel_stopped r l (has_recorder l.kernel.id r) refl i ∷ kernels_stopped r lives i

goes : (lives : List Life) (new : List KernelState) → HaveGone (kernels_of lives) new → (next : List Life) × HaveLeft lives next × (kernels_of next ≡ new)
goes [] new is = ([], refl, sym is)
goes (l ∷ lives) new (inl (rest, is, gone)) =
    let more = goes lives rest gone in
    (l ∷ more.0, inl (more.0, refl, more.1), ap (λ (ks : List KernelState). l.kernel ∷ ks) more.2 ∙ sym is)
goes (l ∷ lives) new (inr (none, gone)) =
    let more = goes lives new gone in
    (more.0, inr (none, more.1), more.2)

module _ (L S T M : Type 0) where
  follows : (lives : List Life) (e : Event) (new : List KernelState) → Happens L S T M (kernels_of lives) e new → Follows lives e new
  follows lives (Event.Begin id) new h = begins lives id new h
  follows lives (Event.Open home) new (nothing, h) = opens lives home new nothing h
  follows lives Event.Fail new h = fails lives new h
  follows lives (Event.Tell id command (Ok done)) new h = tells lives id command new h
  follows lives (Event.Tell id command (Err untold.Full)) new (is, full) = (lives, refl, sym is)
  follows lives (Event.Tell id command (Err untold.Memory)) new is = (lives, refl, sym is)
  follows lives (Event.BeginReading id) new h = begins_reading lives id new h
  follows lives (Event.Record id date c d f g r s) new h = records lives id r new (recorded L S T M c d f g id date (kernels_of lives) new r s h)
  follows lives (Event.EndReading id) new (read, h) = ends_reading lives id new read h
  follows lives (Event.Unrecord r) new is = (map (stopped r) lives, refl, kernels_stopped r lives ∙ sym is)
  follows lives Event.Go new h = goes lives new h

  leads : (lives : List Life) (old : List KernelState) (es : List Event) (new : List KernelState) → kernels_of lives ≡ old → Run L S T M old es new → All HasLived lives
      → (next : List Life) × (kernels_of next ≡ new) × Lead L S T M lives es next × All HasLived next
  leads lives old [] new view is all = (lives, view ∙ sym is, refl, all)
  leads lives old (e ∷ es) new view (mid, happens, run) all =
      let here = subst (λ (ks : List KernelState). Happens L S T M ks e mid) (sym view) happens in
      let moved = follows lives e mid here in
      let rest = leads moved.0 mid es new moved.2 run (moves_keep lives e moved.0 moved.1 all) in
      (rest.0, rest.1, (moved.0, subst (Happens L S T M (kernels_of lives) e) (sym moved.2) here, moved.1, rest.2), rest.3)

  pub server : (es : List Event) (kernels : List KernelState) → Run L S T M [] es kernels → AreLived L S T M es kernels
  server es kernels run =
      let all = leads [] [] es kernels refl run (All-nil HasLived) in
      (all.0, all.1, all.2, All-weaker HasLived IsLived is_lived all.0 all.3)

  -- one event more
  pub one_more : (old : List KernelState) (es : List Event) (mid : List KernelState) (e : Event) (new : List KernelState) → Run L S T M old es mid → Happens L S T M mid e new
      → Run L S T M old (es ++ e ∷ []) new
  one_more old [] mid e new is happens = (new, subst (λ (ks : List KernelState). Happens L S T M ks e new) is happens, refl)
  one_more old (d ∷ es) mid e new (next, first, run) happens = (next, first, one_more next es mid e new run happens)
