-- To be believed.
-- What is shown of what is answered as it is taken: an interrupt, a question about the kernel and a shutdown on the control
-- channel ("Messaging in Jupyter", version 5.4), and a connection that begins or ends.
use Rattle.std.specs.Prelude.{◌≡◌, ℕ, List, [], ◌∷◌, ◌++◌, Option, None, Some}
use Rattle.jp_msg.specs.declared.message.Channel.TheVariants.{Control}
use Rattle.jp_msg.specs.declared.message.Message.{Message}
use Rattle.jp_msg.specs.declared.message.Output.{Output}
use Rattle.jp_msg.specs.declared.message.Output.TheVariants.{Status, InterruptReply, KernelInfoReply, ShutdownReply}
use Rattle.jp_msg.specs.declared.message.State.TheVariants.{Busy, Idle}
use Rattle.jk_log.specs.declared.arrival.Arrival.{Arrival}
use Rattle.jk_log.specs.declared.arrival.Sort.{Sort}
use Rattle.jk_log.specs.declared.arrival.Sort.TheVariants as sort
use Rattle.jk_log.specs.declared.arrival.What.{What}
use Rattle.jk_log.specs.declared.arrival.What.TheVariants as what
use Rattle.jk_log.specs.declared.entry.Entry.{Entry}
use Rattle.jk_log.specs.declared.entry.Told.TheVariants.{Joined, Left}
use Rattle.jk_log.specs.Asked.{sort_as}
use Rattle.jk_log.specs.Log.{Log, arrival_at}
use Rattle.jk_log.specs.Render.{noticed, render}
use Rattle.jk_world.specs.Requests.{shown_at}
use Rattle.jk_world.specs.Shown.{to_all, to_asker}

-- busy, this reply to the seat that asked, and idle
abbrev pub exchanged : Arrival → Output → What → List Entry
exchanged a reply (what.Control sent) =
    to_all sent (Status Busy) ∷ to_asker a.seat Control sent reply ∷ to_all sent (Status Idle) ∷ []
exchanged a reply other = []

-- what is shown of an arrival of such a sort
abbrev pub answered_at_once : Sort → Arrival → Option (List Entry)
answered_at_once sort.Interrupt a = Some (exchanged a InterruptReply a.what)
answered_at_once sort.KernelInfo a = Some (exchanged a KernelInfoReply a.what)
answered_at_once (sort.Shutdown restart) a = Some (exchanged a (ShutdownReply restart) a.what)
answered_at_once sort.Join a = Some (noticed (Joined a.seat a.number) ∷ [])
answered_at_once sort.Leave a = Some (noticed (Left a.seat a.number) ∷ [])
answered_at_once _ a = None

-- These are all the entries of it, and nothing stands between them.
pub record IsShownTogether (log : Log) (at : ℕ) (entries : List Entry) : Type 0 where
  pub all : shown_at at log ≡ entries
  pub before : List Entry
  pub after : List Entry
  pub together : before ++ (entries ++ after) ≡ render log

abbrev pub ControlsAreShown : Log → Type 0
ControlsAreShown log =
    (at : ℕ) (a : Arrival) (entries : List Entry) → arrival_at at log ≡ Some a → answered_at_once (sort_as a.what) a ≡ Some entries → IsShownTogether log at entries
