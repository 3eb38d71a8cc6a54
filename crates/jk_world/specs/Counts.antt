-- To be believed.
-- The counts of cells.
use Rattle.std.specs.Prelude.{◌≡◌, Bool, false, ℕ, ◌+◌, if◌then◌else◌, not, ◌&&◌, List, [], ◌∷◌}
use Rattle.jp_msg.specs.declared.message.Execute.{Execute}
use Rattle.jk_log.specs.declared.mark.Item.TheVariants.{Took, Marked}
use Rattle.jk_log.specs.declared.mark.Kind.{Kind}
use Rattle.jk_log.specs.declared.mark.Kind.TheVariants.{Begin, End, Stop, Refuse}
use Rattle.jk_log.specs.Log.{Log, execute_at, option_or}
use Rattle.jk_world.specs.Sessions.{begun_places}

-- whether the request at a place is to be stored
abbrev pub is_stored_at : ℕ → Log → Bool
is_stored_at at log = option_or (λ (e : Execute). e.store_history && not e.silent) false (execute_at at log)

-- how many of the requests at these places are to be stored
abbrev pub stored_among : Log → List ℕ → ℕ
stored_among log [] = 0
stored_among log (at ∷ places) = stored_among log places + (if is_stored_at at log then 1 else 0)

-- how many of the cells that were begun since the last shutdown are to be stored
abbrev pub stored : Log → ℕ
stored log = stored_among log (begun_places log)

-- a mark that tells a count tells this one
abbrev pub Tells : Kind → ℕ → Type 0
Tells (Begin count) n = count ≡ n
Tells (End ending count) n = count ≡ n
Tells (Stop turns cause count) n = count ≡ n
Tells (Refuse count) n = count ≡ n
Tells other n = Unit {0}

-- each mark that tells a count tells how many of the cells begun since the last shutdown are to be stored, its own among
-- them
abbrev pub TellCounts : Log → Type 0
TellCounts [] = Unit {0}
TellCounts (Took a ∷ past) = TellCounts past
TellCounts (Marked m ∷ past) = Tells m.kind (stored (Marked m ∷ past)) × TellCounts past
