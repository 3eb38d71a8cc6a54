-- To be believed.
-- What the server itself finds in what it reads of a kernel ("Messaging in Jupyter", version 5.4): its state, and whether it was
-- shut down, not to start again.
use Rattle.std.specs.Prelude.{◌≡◌, Bool, false, not, ◌||◌, List, [], ◌∷◌, ◌++◌}
use Rattle.std.specs.List.{list_any}
use Rattle.jp_msg.specs.declared.message.Output.{Output}
use Rattle.jp_msg.specs.declared.message.Output.TheVariants.{Status, ShutdownReply}
use Rattle.jp_msg.specs.declared.message.State.{State as Said}
use Rattle.jp_msg.specs.declared.message.State.TheVariants as said
use Rattle.jk_log.specs.declared.entry.Entry.{Entry}
use Rattle.jk_log.specs.declared.entry.Told.{Told}
use Rattle.jk_log.specs.declared.entry.Told.TheVariants as told
use Rattle.jk_board.specs.Ends.{read_by}
use Rattle.js_tables.specs.declared.tables.State.{State}
use Rattle.js_tables.specs.declared.tables.State.TheVariants as state
use Rattle.js_kernels.specs.declared.watch.Watch.{Watch}

abbrev pub state_of : Said → State
state_of said.Busy = state.Busy
state_of said.Idle = state.Idle

-- the state that an output tells, or the one before it
abbrev pub state_told : State → Output → State
state_told before (Status now) = state_of now
state_told before _ = before

abbrev pub state_by : State → Told → State
state_by before (told.Output o) = state_told before o
state_by before _ = before

-- the state after these entries, in order: by the last status among them; without one, as before them
abbrev pub state_after : State → List Entry → State
state_after before [] = before
state_after before (e ∷ es) = state_after (state_by before e.content) es

-- the output is the reply to a shutdown without restart
abbrev pub is_end : Output → Bool
is_end (ShutdownReply restart) = not restart
is_end _ = false

abbrev pub tells_end : Told → Bool
tells_end (told.Output o) = is_end o
tells_end _ = false

-- whether such a reply is among these entries
abbrev pub has_end : List Entry → Bool
has_end es = list_any (λ e. tells_end e.content) es

module _ {L S T M : Type 0} where
  -- these entries were read after those before; the state is the one after them, and the kernel has ended where they say so or it
  -- had before
  abbrev pub ReadsOn : Watch L S T M → Watch L S T M → Type 0
  ReadsOn old new =
      (es : List Entry) × (read_by new.follower ≡ read_by old.follower ++ es) × (new.state ≡ state_after old.state es)
      × (new.ended ≡ (old.ended || has_end es))
