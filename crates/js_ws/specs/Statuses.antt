-- To be believed.
-- What entries say of the kernel's state ("Messaging in Jupyter", version 5.4): whether it is busy with a request of the shell.
use Rattle.std.specs.Prelude.{Bool, true, false, if◌then◌else◌, List, [], ◌∷◌, Option, None, Some}
use Rattle.jp_msg.specs.declared.message.Channel.{Channel}
use Rattle.jp_msg.specs.declared.message.Channel.TheVariants.{Shell, Control, Stdin, Iopub}
use Rattle.jp_msg.specs.declared.message.Message.{Message}
use Rattle.jp_msg.specs.declared.message.Output.{Output}
use Rattle.jp_msg.specs.declared.message.Output.TheVariants.{Status}
use Rattle.jp_msg.specs.declared.message.State.{State}
use Rattle.jp_msg.specs.declared.message.State.TheVariants.{Busy, Idle}
use Rattle.jk_log.specs.declared.entry.Entry.{Entry}
use Rattle.jk_log.specs.declared.entry.Told.{Told}
use Rattle.jk_log.specs.declared.entry.Told.TheVariants as told

abbrev pub is_busy : State → Bool
is_busy Busy = true
is_busy Idle = false

abbrev pub is_shell : Channel → Bool
is_shell Shell = true
is_shell Control = false
is_shell Stdin = false
is_shell Iopub = false

-- the message came on the shell
abbrev pub from_shell : Option Message → Bool
from_shell None = false
from_shell (Some m) = is_shell m.channel

-- the state that an output tells, or the one before it
abbrev pub state_told : Bool → Output → Bool
state_told before (Status state) = is_busy state
state_told before _ = before

abbrev pub state_by : Bool → Told → Bool
state_by before (told.Output o) = state_told before o
state_by before _ = before

-- whether the kernel is busy after one more entry
abbrev pub busy_with : Bool → Entry → Bool
busy_with before e = if from_shell e.parent then state_by before e.content else before

-- whether it is busy after these entries, by the last status for a request of the shell; without one, as before them
abbrev pub busy_after : Bool → List Entry → Bool
busy_after before [] = before
busy_after before (e ∷ es) = busy_after (busy_with before e) es
