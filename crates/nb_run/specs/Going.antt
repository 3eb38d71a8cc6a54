-- What a kernel and the recorder beside it go through on the way.
use Rattle.std.specs.Prelude.{◌≡◌, ℕ, Bool, true, List, [], ◌++◌, Option, None}
use Rattle.std.specs.List.{list_any}
use Rattle.jk_log.specs.declared.arrival.Arrival.{Arrival}
use Rattle.jk_log.specs.declared.entry.Entry.{Entry}
use Rattle.jk_log.specs.Log.{takes, running}
use Rattle.jk_log.specs.Pending.{joined}
use Rattle.jk_log.specs.Render.{render}
use Rattle.jk_core.specs.State.{KernelState}
use Rattle.nb_record.specs.State.{AreTold}
use Rattle.nb_run.specs.declared.player.Player.{Player}
use Rattle.nb_run.specs.Runs.{AreInputs, is_done}

abbrev pub PlayerState : Type 0 → Type 0
PlayerState T = Player (KernelState T)

-- what was handed on, followed by what is pending, is what the log shows
abbrev pub IsShownBy : {T : Type 0} → List Entry → KernelState T → Type 0
IsShownBy shown k = shown ++ joined k.pending ≡ render k.log

-- these arrivals were taken, and the recorder was told these entries, which were shown
pub record Goes {T : Type 0} (old new : PlayerState T) (sent : List Arrival) (told : List Entry) : Type 0 where
  pub taken : takes new.kernel.log ≡ takes old.kernel.log ++ sent
  pub shown : (before : List Entry) → IsShownBy before old.kernel → IsShownBy (before ++ told) new.kernel
  pub pages : AreTold told old.recorder.pages new.recorder.pages
  pub path : new.recorder.path ≡ old.recorder.path

-- all that was pending was told, and nothing else happened
pub record Tells {T : Type 0} (old new : PlayerState T) (told : List Entry) : Type 0 where
  pub goes : Goes old new [] told
  pub log : new.kernel.log ≡ old.kernel.log
  pub none : new.kernel.pending ≡ []

-- no cell runs, and nothing is pending
pub record IsQuiet {T : Type 0} (k : KernelState T) : Type 0 where
  pub rests : running k.log ≡ None
  pub none : k.pending ≡ []

-- a slice, with what it shows and the input that it is given
abbrev pub HasRound : {T : Type 0} → Bool → Bool → PlayerState T → PlayerState T → Type 0
HasRound done over old new =
    (sent : List Arrival) × (told : List Entry) × Goes old new sent told × AreInputs sent
    × (done ≡ list_any is_done told)
    × (over ≡ true → IsQuiet new.kernel)
