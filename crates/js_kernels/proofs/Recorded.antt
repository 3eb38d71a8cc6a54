-- What one read for a recorder is to its kernel: its recorder was told a front of what was held and read; or there is no recorder, and nothing is held.
use Rattle.std.proofs.lemmas.Bool.{le-ltb, ltb-false}
use Rattle.std.proofs.Common.{◌≡◌, ◌⊎◌, inl, inr, ◌+◌, ℕ, suc, Bool, true, false, cond, List, [], ◌∷◌, ◌++◌, length, refl, sym, ap, ◌∙◌, subst, Option, Some, None, slice_get, slice_set, arith}
use Rattle.std.specs.Prelude.{◌||◌, not, nat_lt}
use Rattle.std.specs.List.{list_any, position_or_len}
use Rattle.std.specs.Str.{bytes_eq}
use Rattle.std.proofs.lemmas.List.Folds.{list_any_at}
use Rattle.std.proofs.lemmas.List.Quantifiers.{position-Some}
use Rattle.std.proofs.lemmas.Option.{get_or_from_slice_get, none-some}
use Rattle.std.proofs.lemmas.Slice.Eq.{bytes_eq-Decides}
use Rattle.jk_log.specs.declared.entry.Entry.{Entry}
use Rattle.jk_board.specs.Ends.{read_by}
use Rattle.js_follow.specs.Following.{FollowsBy, place_of}
use Rattle.js_follow.specs.declared.following.Followed.{Followed}
use Rattle.js_shelf.specs.Shelves.{Contents}
use Rattle.js_tables.specs.Tables.{Rows, has_recorder}
use Rattle.js_tables.specs.declared.tables.Recording.{Recording}
use Rattle.js_ws.specs.Shutdowns.{is_last}
use Rattle.js_kernels.specs.Told.{KernelState, Reading, place_in}
use Rattle.js_kernels.specs.Readings.{with_reading}
use Rattle.js_kernels.specs.Recording.{Reads, RecordsAt, Tells, Waits, left, reading_by, tried_in}
use Rattle.js_kernels.specs.Lives.{Deed, Does, read_on}
use Rattle.js_kernels.specs.declared.recording.Scribe.{Scribe}

-- the first kernel of this identifier has done this
abbrev pub DoesSo : List ℕ → Deed → List KernelState → List KernelState → Type 0
DoesSo id deed old new =
    (place : ℕ) × (was : KernelState) × (now : KernelState) × (place_in id old ≡ Some place) × (slice_get old place ≡ Some was) × Does deed was now
    × (new ≡ slice_set old place now)

abbrev pub IsRecordedBy : List ℕ → Rows → List KernelState → List KernelState → Type 0
IsRecordedBy id r old new =
    (new ≡ old) ⊎ (((more : List Entry) × (told : List Entry) × (tried : Bool) × DoesSo id (Deed.Reads more told tried r) old new)
    ⊎ ((passed : List Entry) × DoesSo id (Deed.Skips passed r) old new))

-- ---- none of a list passes a test, where it has no place for one

not_below : (b : Bool) (n : ℕ) → cond b (Some n) None ≡ None → b ≡ false
not_below true n is = absurd (none-some n (sym is))
not_below false n is = refl

not_first : (b : Bool) (n m : ℕ) → nat_lt (cond (not b) (1 + n) 0) (suc m) ≡ false → (b ≡ false) × (nat_lt n m ≡ false)
not_first true n m is = let high = ltb-false 0 (suc m) is in absurd (omega (arith, high))
not_first false n m is = (refl, le-ltb n m (let low = ltb-false (1 + n) (suc m) is in omega (arith, low)))

none_pass : {X : Type 0} (p : X → Bool) (xs : List X) → nat_lt (position_or_len p xs) (length xs) ≡ false → list_any p xs ≡ false
none_pass p [] is = refl
none_pass p (x ∷ xs) is =
    let both = not_first (p x) (position_or_len p xs) (length xs) is in
    λ i. both.0 i || none_pass p xs both.1 i

recorder_at : (id : List ℕ) (r : Rows) (place : ℕ) (x : Recording) → place_of id r ≡ Some place → has_recorder id r ≡ true
recorder_at id r place x is =
    let p = λ (y : Recording). bytes_eq y.kernel id in
    let found = position-Some p r.recordings place x is in
    list_any_at p r.recordings place x found.0 found.1

unrecorded : (id : List ℕ) (r : Rows) → place_of id r ≡ None → has_recorder id r ≡ false
unrecorded id r none =
    let p = λ (x : Recording). bytes_eq x.kernel id in
    none_pass p r.recordings (not_below (nat_lt (position_or_len p r.recordings) (length r.recordings)) (position_or_len p r.recordings) none)

-- the kernel that was found has the identifier that was looked for
id_at : (id : List ℕ) (ks : List KernelState) (place : ℕ) (k : KernelState) → place_in id ks ≡ Some place → slice_get ks place ≡ Some k → k.id ≡ id
id_at id ks place k first there =
    let found = position-Some (λ (x : KernelState). bytes_eq x.id id) ks place k first in
    let same = get_or_from_slice_get ks place k k there in
    (bytes_eq-Decides k.id id).0 (ap (λ (x : KernelState). bytes_eq x.id id) (sym same) ∙ found.1)

-- ---- what was read and told

read_is : (was now : Reading) (more held : List Entry) (tried : Bool) → now.read ≡ was.read ++ more → now.held ≡ held → now.over ≡ (was.over || list_any is_last more)
    → now.tried ≡ tried → now ≡ read_on was more held tried
read_is was now more held tried read is over at = λ i. record { read = read i; held = is i; over = over i; tried = at i }

tells_so : (id : List ℕ) (r : Rows) (old new : List KernelState) (place : ℕ) (k : KernelState) (was now : Reading) (more told : List Entry) → place_in id old ≡ Some place
    → slice_get old place ≡ Some k → k.reading ≡ Some was → new ≡ slice_set old place (with_reading (Some now) k) → now.read ≡ was.read ++ more
    → was.held ++ more ≡ told ++ now.held → now.over ≡ (was.over || list_any is_last more) → (told ≡ []) ⊎ (has_recorder id r ≡ true)
    → DoesSo id (Deed.Reads more told now.tried r) old new
tells_so id r old new place k was now more told first there reading is read front over one =
    let its = subst (λ (x : List ℕ). (told ≡ []) ⊎ (has_recorder x r ≡ true)) (sym (id_at id old place k first there)) one in
    (place, k, with_reading (Some now) k, first, there, (was, now.held, its, reading, front, ap (λ (x : Reading). with_reading (Some x) k) (read_is was now more now.held now.tried read refl over refl)), is)

skips_so : (id : List ℕ) (r : Rows) (old new : List KernelState) (place : ℕ) (k : KernelState) (was now : Reading) (more : List Entry) → place_in id old ≡ Some place
    → slice_get old place ≡ Some k → k.reading ≡ Some was → new ≡ slice_set old place (with_reading (Some now) k) → now.read ≡ was.read ++ more → now.held ≡ []
    → now.over ≡ (was.over || list_any is_last more) → now.tried ≡ true → place_of id r ≡ None → DoesSo id (Deed.Skips (was.read ++ more) r) old new
skips_so id r old new place k was now more first there reading is read none over tried gone =
    let unknown = ap (λ (x : List ℕ). has_recorder x r) (id_at id old place k first there) ∙ unrecorded id r gone in (
      place,
      k,
      with_reading (Some now) k,
      first,
      there,
      (was, more, unknown, reading, refl, ap (λ (x : Reading). with_reading (Some x) k) (read_is was now more [] true read none over tried)),
      is,
    )

module _ (L S T M : Type 0) where
  -- one read, of which the recorder was told, where there is one
  told_or_gone : (c d : Option Contents) (f g : ℕ) (id date : List ℕ) (old new : List KernelState) (r s : Rows) (place : ℕ) (k : KernelState) (was mid now : Scribe L S T M)
      (followed : Option Followed) (at : Option ℕ) → place_in id old ≡ Some place → slice_get old place ≡ Some k → k.reading ≡ Some (reading_by was)
      → new ≡ slice_set old place (with_reading (Some (reading_by now)) k) → Reads was mid → place_of id r ≡ at → FollowsBy c d f g at date mid.held.items followed r s
      → now.held.items ≡ left followed → now.tried ≡ tried_in followed → now.follower ≡ mid.follower → now.over ≡ mid.over → IsRecordedBy id r old new
  told_or_gone c d f g id date old new r s place k was mid now followed None first there reading is reads at (none, same, stays) held tried follower over = inr (inr (
    read_by was.follower ++ reads.0,
    skips_so id r old new place k (reading_by was) (reading_by now) reads.0 first there reading is (ap read_by follower ∙ reads.1) (held ∙ ap left none) (over ∙ reads.3) (tried ∙ ap tried_in none) at,
  ))
  told_or_gone c d f g id date old new r s place k was mid now followed (Some p) first there reading is reads at (kept, some, (told, front, (x, y, got, has, saved))) held tried follower over = inr (inl (
    reads.0,
    told,
    now.tried,
    tells_so id r old new place k (reading_by was) (reading_by now) reads.0 told first there reading is (ap read_by follower ∙ reads.1)
        (sym reads.2 ∙ (sym front ∙ ap (λ (es : List Entry). told ++ es) (sym (held ∙ ap left some)))) (over ∙ reads.3) (inr (recorder_at id r p x at)),
  ))

  read_or_told : (c d : Option Contents) (f g : ℕ) (id date : List ℕ) (old new : List KernelState) (r s : Rows) (place : ℕ) (k : KernelState) (was mid now : Scribe L S T M)
      → place_in id old ≡ Some place → slice_get old place ≡ Some k → k.reading ≡ Some (reading_by was)
      → new ≡ slice_set old place (with_reading (Some (reading_by now)) k) → Reads was mid
      → Waits c d f g id mid now r s ⊎ Tells c d f g id date mid now r s → IsRecordedBy id r old new
  read_or_told c d f g id date old new r s place k was mid now first there reading is reads (inl still) =
      let same = still.0 in
      inr (inl (
        reads.0,
        [],
        now.tried,
        tells_so id r old new place k (reading_by was) (reading_by now) reads.0 [] first there reading is (ap (λ (x : Scribe L S T M). read_by x.follower) same ∙ reads.1)
            (sym reads.2 ∙ ap (λ (x : Scribe L S T M). x.held.items) (sym same)) (ap (λ (x : Scribe L S T M). x.over) same ∙ reads.3) (inl refl),
      ))
  read_or_told c d f g id date old new r s place k was mid now first there reading is reads (inr (followed, follows, held, tried, follower, over)) =
      told_or_gone c d f g id date old new r s place k was mid now followed (place_of id r) first there reading is reads refl follows held tried follower over

  pub recorded : (c d : Option Contents) (f g : ℕ) (id date : List ℕ) (old new : List KernelState) (r s : Rows) → RecordsAt L S T M c d f g id date old new r s
      → IsRecordedBy id r old new
  recorded c d f g id date old new r s (inl same) = inl same.0
  recorded c d f g id date old new r s (inr (place, k, first, there, was, now, reading, is, board, (mid, reads, kept, so))) =
      read_or_told c d f g id date old new r s place k was mid now first there reading is reads so
