-- To be believed.
-- The lines that show entries.
use Rattle.std.specs.Prelude.{ℕ, List, [], ◌∷◌, ◌++◌, Option, Some, None, codes}
use Rattle.serde_json.specs.Data.{Data, string, number, unsigned}
use Rattle.serde_json.specs.Written.{compact_text}
use Rattle.jp_msg.specs.declared.message.Message.{Message}
use Rattle.jp_msg.specs.declared.message.Output.{Output}
use Rattle.jp_msg.specs.Building.{output_type}
use Rattle.jp_msg.specs.Writing.{fields, channel_name, output_form}
use Rattle.jk_log.specs.declared.entry.Entry.{Entry}
use Rattle.jk_log.specs.declared.entry.To.{To}
use Rattle.jk_log.specs.declared.entry.To.TheVariants.{All, Seat, Nobody}
use Rattle.jk_log.specs.declared.entry.Told.{Told}
use Rattle.jk_log.specs.declared.entry.Told.TheVariants.{Joined, Left}
use Rattle.jk_log.specs.declared.entry.Told.TheVariants as told

-- the identifier of the parent
abbrev pub parent_id : Option Message → List ℕ
parent_id None = []
parent_id (Some m) = m.header.msg_id

unfoldable pub entry_form : Entry → Output → Data → Data
entry_form e o to = fields (
    (codes "channel", string (channel_name e.channel))
    ∷ (codes "content", output_form o)
    ∷ (codes "msg_type", string (output_type o))
    ∷ (codes "parent", string (parent_id e.parent))
    ∷ (codes "to", to)
    ∷ [])

-- a line, with its end
abbrev pub line_of : Data → List ℕ
line_of d = compact_text d ++ 10 ∷ []

unfoldable pub output_line : Entry → To → Output → List ℕ
output_line e Nobody o = []
output_line e All o = line_of (entry_form e o (string (codes "all")))
output_line e (Seat seat) o = line_of (entry_form e o (number (unsigned seat)))

abbrev pub content_line : Entry → Told → List ℕ
content_line e (told.Output o) = output_line e e.to o
content_line e (Joined seat place) = []
content_line e (Left seat place) = []

-- what goes to nobody is not written
unfoldable pub entry_line : Entry → List ℕ
entry_line e = content_line e e.content

abbrev pub entry_lines : List Entry → List ℕ
entry_lines [] = []
entry_lines (e ∷ es) = entry_line e ++ entry_lines es
