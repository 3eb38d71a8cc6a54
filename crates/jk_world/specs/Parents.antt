-- To be believed.
-- Whose a stream or an error is, by its place among the entries.
use Rattle.std.specs.Prelude.{◌≡◌, List, [], ◌∷◌, Option, Some}
use Rattle.jp_msg.specs.declared.message.Message.{Message}
use Rattle.jp_msg.specs.declared.message.Output.{Output}
use Rattle.jp_msg.specs.declared.message.Output.TheVariants as output
use Rattle.jk_log.specs.declared.entry.Entry.{Entry}
use Rattle.jk_log.specs.declared.entry.Told.{Told}
use Rattle.jk_log.specs.declared.entry.Told.TheVariants as told

-- what an entry does to the outputs of cells
pub data Role : Type 0 where
  -- it begins a cell
  Begins : Role
  -- it is an output of one
  Adds : Role
  Other : Role

abbrev pub output_role : Output → Role
output_role (output.ExecuteInput code count) = Begins
output_role (output.Stream text) = Adds
output_role (output.Error failure) = Adds
output_role (output.Status state) = Other
output_role output.InputRequest = Other
output_role (output.ExecuteReply outcome) = Other
output_role output.KernelInfoReply = Other
output_role (output.IsCompleteReply completeness) = Other
output_role (output.CompleteReply cursor) = Other
output_role output.InspectReply = Other
output_role output.HistoryReply = Other
output_role output.CommInfoReply = Other
output_role output.InterruptReply = Other
output_role (output.ShutdownReply restart) = Other

abbrev pub role : Told → Role
role (told.Joined seat number) = Other
role (told.Left seat number) = Other
role (told.Output o) = output_role o

-- the request of the last cell that an entry begins
abbrev pub input_by : Role → Option Message → Option Message → Option Message
input_by Begins parent last = parent
input_by Adds parent last = last
input_by Other parent last = last

-- an output is for that request
abbrev pub FitsBy : Role → Option Message → Option Message → Type 0
FitsBy Begins parent last = Unit {0}
FitsBy Adds parent last = (request : Message) × (parent ≡ Some request) × (last ≡ Some request)
FitsBy Other parent last = Unit {0}

-- the request of the last ExecuteInput, where that before these entries is known
abbrev pub last_input : Option Message → List Entry → Option Message
last_input last [] = last
last_input last (e ∷ es) = last_input (input_by (role e.content) e.parent last) es

-- each stream and each error has the parent of the last ExecuteInput before it
abbrev pub ParentsFit : Option Message → List Entry → Type 0
ParentsFit last [] = Unit {0}
ParentsFit last (e ∷ es) = FitsBy (role e.content) e.parent last × ParentsFit (input_by (role e.content) e.parent last) es
