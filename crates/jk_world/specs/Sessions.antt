-- To be believed.
-- The session in which each cell is begun.
use Rattle.std.specs.Prelude.{◌≡◌, ℕ, List, [], ◌∷◌, None, Some}
use Rattle.jk_language.specs.Spoken.{Spoken}
use Rattle.jp_msg.specs.declared.message.Execute.{Execute}
use Rattle.jk_log.specs.declared.mark.Item.TheVariants.{Took, Marked}
use Rattle.jk_log.specs.declared.mark.Kind.{Kind}
use Rattle.jk_log.specs.declared.mark.Kind.TheVariants.{Begin, Restart}
use Rattle.jk_log.specs.Log.{Log, running, session, execute_at}
use Rattle.jk_world.specs.Cells.{begun_in, flushed_meaning}

abbrev pub begun_with : Kind → ℕ → List ℕ → List ℕ
begun_with (Begin count) at places = at ∷ places
begun_with (Restart restart) at places = []
begun_with other at places = places

-- the places of the requests whose cells were begun since the kernel was shut down last, the last first
abbrev pub begun_places : Log → List ℕ
begun_places [] = []
begun_places (Took a ∷ past) = begun_places past
begun_places (Marked m ∷ past) = begun_with m.kind m.at (begun_places past)

-- the cell of the request at a place leaves this session: that of its meaning at its last flush
pub record Leaves {S T : Type 0} (spoken : Spoken S T) (log : Log) (at : ℕ) (left : S) : Type 0 where
  pub begun : S
  pub request : Execute
  pub begins : begun_in spoken at log ≡ Some begun
  pub there : execute_at at log ≡ Some request
  pub session : left ≡ (flushed_meaning spoken log at begun request).session

-- the last of these cells leaves this session; before the first cell, and after a shutdown, it is the opening one
abbrev pub LastLeaves : {S T : Type 0} → Spoken S T → Log → List ℕ → S → Type 0
LastLeaves spoken log [] left = left ≡ spoken.opening
LastLeaves spoken log (at ∷ places) left = Leaves spoken log at left

-- each cell was begun in the session that the cell before it left
abbrev pub AreHandedOn : {S T : Type 0} → Spoken S T → Log → List ℕ → Type 0
AreHandedOn spoken log [] = Unit {0}
AreHandedOn {S = S} spoken log (at ∷ places) =
    ((s : S) × (begun_in spoken at log ≡ Some s) × LastLeaves spoken log places s) × AreHandedOn spoken log places

-- The session goes from each cell to the next, until a shutdown; and where no cell runs it is what the last one left.
pub record IsHandedOn {S T : Type 0} (spoken : Spoken S T) (log : Log) : Type 0 where
  pub each : AreHandedOn spoken log (begun_places log)
  pub now : running log ≡ None → LastLeaves spoken log (begun_places log) (session spoken log)

-- a cell is begun in the session that the last one before it left
abbrev pub BeginsIn : {S T : Type 0} → Spoken S T → Kind → Log → Type 0
BeginsIn spoken (Begin count) past = LastLeaves spoken past (begun_places past) (session spoken past)
BeginsIn spoken other past = Unit {0}

-- so each cell, those before a shutdown too
abbrev pub AllBeginIn : {S T : Type 0} → Spoken S T → Log → Type 0
AllBeginIn spoken [] = Unit {0}
AllBeginIn spoken (Took a ∷ past) = AllBeginIn spoken past
AllBeginIn spoken (Marked m ∷ past) = BeginsIn spoken m.kind past × AllBeginIn spoken past
