-- To be believed.
-- What is read for a recorder, and what it is told: nothing is left out, nothing comes twice, and whether its save was tried.
use Rattle.std.specs.Prelude.{◌≡◌, ◌⊎◌, ◌++◌, ◌||◌, ℕ, Bool, true, false, not, List, [], Option, Some, None, slice_get, slice_set}
use Rattle.std.specs.List.{list_any}
use Rattle.jk_log.specs.declared.entry.Entry.{Entry}
use Rattle.atomic_table.specs.Seated.{TableId}
use Rattle.jk_board.specs.Ends.{board_of, read_by}
use Rattle.js_shelf.specs.Shelves.{Contents}
use Rattle.js_tables.specs.Tables.{Rows}
use Rattle.js_follow.specs.Following.{Follows, Stays, is_due}
use Rattle.js_follow.specs.declared.following.Followed.{Followed}
use Rattle.js_ws.specs.Shutdowns.{is_last}
use Rattle.js_kernels.specs.Told.{HomeState, KernelState, Reading, place_in}
use Rattle.js_kernels.specs.Readings.{with_reading}
use Rattle.js_kernels.specs.declared.recording.Scribe.{Scribe}

-- what was not told
abbrev pub left : Option Followed → List Entry
left None = []
left (Some followed) = followed.rest

-- whether a save was tried, or none is due: where there is no recorder, none is
abbrev pub tried_in : Option Followed → Bool
tried_in None = true
tried_in (Some followed) = followed.tried

-- the inbox of a kernel, once its ends have come
abbrev pub inbox_at : Option HomeState → Option TableId
inbox_at None = None
inbox_at (Some h) = Some h.inbox

module _ {L S T M : Type 0} where
  -- what a clause sees of what is read for a recorder
  abbrev pub reading_by : Scribe L S T M → Reading
  reading_by s = record { read = read_by s.follower; held = s.held.items; over = s.over; tried = s.tried }

  abbrev pub reading_in : Option (Scribe L S T M) → Option Reading
  reading_in None = None
  reading_in (Some s) = Some (reading_by s)

  -- These entries were read after those before, and are held after those that were held. Since then no save was tried
  abbrev pub Reads : Scribe L S T M → Scribe L S T M → Type 0
  Reads old new =
      (es : List Entry) × (read_by new.follower ≡ read_by old.follower ++ es) × (new.held.items ≡ old.held.items ++ es)
      × (new.over ≡ (old.over || list_any is_last es)) × (new.tried ≡ false)

  -- the recorder of a kernel follows what was held; what it was not told is held still, and it is known whether its save was tried
  abbrev pub Tells : Option Contents → Option Contents → ℕ → ℕ → List ℕ → List ℕ → Scribe L S T M → Scribe L S T M → Rows → Rows → Type 0
  Tells c d f g kernel date old new r s =
      (followed : Option Followed) × Follows c d f g kernel date old.held.items followed r s × (new.held.items ≡ left followed)
      × (new.tried ≡ tried_in followed) × (new.follower ≡ old.follower) × (new.over ≡ old.over)

  -- nothing is told; whether a save of the recorder is due is known
  abbrev pub Waits : Option Contents → Option Contents → ℕ → ℕ → List ℕ → Scribe L S T M → Scribe L S T M → Rows → Rows → Type 0
  Waits c d f g kernel old new r s = (new ≡ record old { tried = not (is_due kernel r) }) × (s ≡ r) × Stays c d f g

  -- one read, and then nothing is told, or the recorder of this kernel is told what is held
  abbrev pub ReadsAndTells : Option Contents → Option Contents → ℕ → ℕ → List ℕ → List ℕ → Scribe L S T M → Scribe L S T M → Rows → Rows → Type 0
  ReadsAndTells c d f g kernel date old new r s =
      (mid : Scribe L S T M) × Reads old mid × (board_of mid.follower ≡ board_of old.follower)
      × (Waits c d f g kernel mid new r s ⊎ Tells c d f g kernel date mid new r s)

  -- what is read for the recorder of this kernel is read by the follower that is there for it; where none is, nothing is told
  abbrev pub Records : Option Contents → Option Contents → ℕ → ℕ → List ℕ → List ℕ → Option (Scribe L S T M) → Option (Scribe L S T M) → Rows → Rows → Type 0
  Records c d f g kernel date None new r s = (new ≡ None) × (s ≡ r) × Stays c d f g
  Records c d f g kernel date (Some old) new r s = (last : Scribe L S T M) × (new ≡ Some last) × ReadsAndTells c d f g kernel date old last r s

-- Nothing is told, and no kernel has changed. Or it was read from the board of the first kernel of this identifier, after what had been read for its recorder and was
-- held; that recorder is told, and what it was not told is held. `after` are the kernels then. L is the language, and S, T, M are its sessions, trees and machines.
abbrev pub RecordsAt : (L S T M : Type 0) → Option Contents → Option Contents → ℕ → ℕ → List ℕ → List ℕ → List KernelState → List KernelState → Rows → Rows → Type 0
RecordsAt L S T M c d f g id date kernels after r s =
    ((after ≡ kernels) × (s ≡ r) × Stays c d f g)
    ⊎ ((place : ℕ) × (k : KernelState) × (place_in id kernels ≡ Some place) × (slice_get kernels place ≡ Some k)
    × (old : Scribe L S T M) × (new : Scribe L S T M) × (k.reading ≡ Some (reading_by old))
    × (after ≡ slice_set kernels place (with_reading (Some (reading_by new)) k))
    × (inbox_at k.home ≡ Some (board_of old.follower)) × ReadsAndTells c d f g id date old new r s)
