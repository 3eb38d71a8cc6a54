-- To be believed.
-- The last entry of a kernel: the idle of a shutdown without restart ("Messaging in Jupyter", version 5.4).
use Rattle.std.specs.Prelude.{Bool, true, false, ◌&&◌, ◌||◌, not, List, [], ◌∷◌, Option, None, Some}
use Rattle.jp_msg.specs.declared.message.Content.{Content}
use Rattle.jp_msg.specs.declared.message.Content.TheVariants as content
use Rattle.jp_msg.specs.declared.message.Message.{Message}
use Rattle.jp_msg.specs.declared.message.Output.{Output}
use Rattle.jp_msg.specs.declared.message.Output.TheVariants.{Status}
use Rattle.jp_msg.specs.declared.message.Request.{Request}
use Rattle.jp_msg.specs.declared.message.Request.TheVariants.{Shutdown}
use Rattle.jp_msg.specs.declared.message.State.{State}
use Rattle.jp_msg.specs.declared.message.State.TheVariants.{Busy, Idle}
use Rattle.jk_log.specs.declared.entry.Entry.{Entry}
use Rattle.jk_log.specs.declared.entry.Told.{Told}
use Rattle.jk_log.specs.declared.entry.Told.TheVariants as told

abbrev pub is_idle : State → Bool
is_idle Busy = false
is_idle Idle = true

abbrev pub outputs_idle : Output → Bool
outputs_idle (Status state) = is_idle state
outputs_idle _ = false

abbrev pub tells_idle : Told → Bool
tells_idle (told.Output o) = outputs_idle o
tells_idle _ = false

-- the request asks the kernel to end and not to start again
abbrev pub ends_kernel : Request → Bool
ends_kernel (Shutdown restart) = not restart
ends_kernel _ = false

abbrev pub content_ends : Content → Bool
content_ends (content.Request r) = ends_kernel r
content_ends (content.Output o) = false

abbrev pub parent_ends : Option Message → Bool
parent_ends None = false
parent_ends (Some m) = content_ends m.content

-- the entry is the idle of a shutdown without restart
abbrev pub is_last : Entry → Bool
is_last e = tells_idle e.content && parent_ends e.parent

-- whether such an entry stands among these
abbrev pub has_last : List Entry → Bool
has_last [] = false
has_last (e ∷ es) = is_last e || has_last es
