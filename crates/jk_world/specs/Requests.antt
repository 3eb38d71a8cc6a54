-- To be believed.
-- What is shown of the arrival at a place.
use Rattle.std.specs.Prelude.{◌≡◌, ℕ, ◌+◌, ◌==◌, if◌then◌else◌, List, [], ◌∷◌, ◌++◌, Option, None, Some}
use Rattle.jp_msg.specs.declared.message.Message.{Message}
use Rattle.jp_msg.specs.declared.message.Execute.{Execute}
use Rattle.jp_msg.specs.declared.message.Output.{Output}
use Rattle.jp_msg.specs.declared.message.Output.TheVariants.{Status, ExecuteInput, Stream, Error, ExecuteReply}
use Rattle.jk_log.specs.declared.arrival.Arrival.{Arrival}
use Rattle.jk_log.specs.declared.arrival.What.{What}
use Rattle.jk_log.specs.declared.arrival.What.TheVariants as what
use Rattle.jk_log.specs.declared.entry.Entry.{Entry}
use Rattle.jk_log.specs.declared.entry.Told.{Told}
use Rattle.jk_log.specs.declared.entry.Told.TheVariants as told
use Rattle.jk_log.specs.declared.entry.To.{To}
use Rattle.jk_log.specs.declared.entry.To.TheVariants.{All, Seat, Nobody}
use Rattle.jk_log.specs.declared.mark.Item.TheVariants.{Took, Marked}
use Rattle.jk_log.specs.Log.{Log, execute_at, arrival_at}
use Rattle.jk_log.specs.Render.{entries_at}
use Rattle.jk_world.specs.Cells.{streams, times_closed, runs_at}

-- the entries of the marks for the arrival at a place, in their order
abbrev pub shown_at : ℕ → Log → List Entry
shown_at at [] = []
shown_at at (Took a ∷ past) = shown_at at past
shown_at at (Marked m ∷ past) = shown_at at past ++ (if m.at == at then entries_at past m else [])

-- who is sent an output: what a cell does goes to all, a reply or a question for a line to the seat that asked
abbrev pub output_audience : ℕ → Output → To
output_audience seat (Status state) = All
output_audience seat (ExecuteInput code count) = All
output_audience seat (Stream text) = All
output_audience seat (Error failure) = All
output_audience seat other = Seat seat

abbrev pub audience : ℕ → Told → To
audience seat (told.Output output) = output_audience seat output
audience seat other = Nobody

abbrev pub message_in : What → Option Message
message_in (what.Shell m) = Some m
message_in (what.Control m) = Some m
message_in (what.Stdin m) = Some m
message_in other = None

abbrev pub parent_of : What → Told → Option Message
parent_of sent (told.Output output) = message_in sent
parent_of sent other = None

-- An entry is for what a seat sent: an output has the message as its parent; that a connection begins or ends goes to
-- nobody and has none.
pub record IsFor (seat : ℕ) (sent : What) (e : Entry) : Type 0 where
  pub to : e.to ≡ audience seat e.content
  pub parent : e.parent ≡ parent_of sent e.content

abbrev pub AllFor : ℕ → What → List Entry → Type 0
AllFor seat sent [] = Unit {0}
AllFor seat sent (e ∷ es) = IsFor seat sent e × AllFor seat sent es

-- the entries are for this arrival; for none there are none
abbrev pub AreFor : Option Arrival → List Entry → Type 0
AreFor None es = es ≡ []
AreFor (Some a) es = AllFor a.seat a.what es

abbrev pub output_text : Output → List ℕ
output_text (Stream text) = text
output_text other = []

abbrev pub text_told : Told → List ℕ
text_told (told.Output output) = output_text output
text_told other = []

-- the streams among entries, joined
abbrev pub text_in : List Entry → List ℕ
text_in [] = []
text_in (e ∷ es) = text_told e.content ++ text_in es

abbrev pub output_replies : Output → ℕ
output_replies (ExecuteReply outcome) = 1
output_replies other = 0

abbrev pub replies_told : Told → ℕ
replies_told (told.Output output) = output_replies output
replies_told other = 0

-- how many execute replies are among entries
abbrev pub replies_in : List Entry → ℕ
replies_in [] = 0
replies_in (e ∷ es) = replies_told e.content + replies_in es

-- Each entry goes to whom it must, with the message that was sent as its parent. A request that was begun, refused or
-- aborted has one execute reply, once its cell no longer runs. The streams shown of a request are those of its cell, and
-- none where it is silent.
pub record IsShownRight (log : Log) (at : ℕ) : Type 0 where
  pub addressed : AreFor (arrival_at at log) (shown_at at log)
  pub replies : replies_in (shown_at at log) + runs_at at log ≡ times_closed at log
  pub streams : (e : Execute) → execute_at at log ≡ Some e → text_in (shown_at at log) ≡ (if e.silent then [] else streams at log)
