-- To be believed.
-- Messages in the protocol v1.kernel.websocket.jupyter.org (Jupyter Server, "WebSocket protocols"): each is one binary message of a
-- WebSocket. It begins with how many offsets there are and the offsets, counted from its beginning; then come its parts: the name
-- of its channel, and the texts of its header, its parent header, its metadata and its content. Buffers would be further parts.
use Rattle.std.specs.Prelude.{ℕ, ◌+◌, ◌*◌, ◌==◌, nat_lt, nat_le, Bool, ◌&&◌, if◌then◌else◌, List, [], ◌∷◌, ◌++◌, length, slice_range, codes, Result, Ok, Err}
use Rattle.std.specs.Int.{w64, to_le_bytes, from_le_bytes}
use Rattle.std.specs.Str.{is_utf8}
use Rattle.serde_json.specs.Data.{Data, string}
use Rattle.serde_json.specs.Written.{compact_text}
use Rattle.json_form.specs.declared.fault.Fault.{Fault}
use Rattle.json_form.specs.declared.fault.Fault.TheVariants.{NotJson, TooLong}
use Rattle.json_form.specs.Forms.{◌>>=◌, whole_json}
use Rattle.jp_msg.specs.declared.message.Message.{Message}
use Rattle.jp_msg.specs.Reading.{message_of}
use Rattle.jp_msg.specs.Writing.{fields, empty_list, channel_name, header_form, content_form}

-- ---- writing

-- a number in 64 bits, the lowest byte first
unfoldable pub number_bytes : ℕ → List ℕ
number_bytes n = to_le_bytes w64 n

-- where each of the parts begins if the first begins here, and where the last ends
abbrev pub offsets_from : ℕ → List (List ℕ) → List ℕ
offsets_from here [] = number_bytes here
offsets_from here (p ∷ ps) = number_bytes here ++ offsets_from (here + length p) ps

abbrev pub joined : List (List ℕ) → List ℕ
joined [] = []
joined (p ∷ ps) = p ++ joined ps

-- the binary message of parts
abbrev pub serialized : List (List ℕ) → List ℕ
serialized ps = number_bytes (length ps + 1) ++ (offsets_from (8 * (length ps + 2)) ps ++ joined ps)

unfoldable pub parts_of : Message → List (List ℕ)
parts_of m =
    channel_name m.channel ∷ compact_text (header_form m.header) ∷ compact_text m.parent_header ∷ compact_text m.metadata
    ∷ compact_text (content_form m.content) ∷ []

-- ---- reading

-- the number in 64 bits after i others
unfoldable pub number_at : ℕ → List ℕ → ℕ
number_at i bs = from_le_bytes w64 (slice_range bs (8 * i) (8 * i + 8))

abbrev pub offset_at : ℕ → List ℕ → ℕ
offset_at i bs = number_at (i + 1) bs

-- there are six offsets, so five parts: the first begins behind the offsets, and the last ends with the message
abbrev pub has_five : List ℕ → Bool
has_five bs = nat_le 56 (length bs) && number_at 0 bs == 6 && offset_at 0 bs == 56 && offset_at 5 bs == length bs

-- a part, from its offset to the next, where these are in order and within the message
unfoldable pub part_at : ℕ → List ℕ → Result (List ℕ) Fault
part_at i bs =
    if nat_le (offset_at i bs) (offset_at (i + 1) bs) && nat_le (offset_at (i + 1) bs) (length bs)
    then Ok (slice_range bs (offset_at i bs) (offset_at (i + 1) bs)) else Err NotJson

-- a part that is a text
abbrev pub text_of : List ℕ → Result (List ℕ) Fault
text_of bs = if is_utf8 bs then Ok bs else Err NotJson

-- a part that is JSON by itself, its numbers whole
abbrev pub json_of : List ℕ → Result Data Fault
json_of bs = if is_utf8 bs then whole_json bs else Err NotJson

unfoldable pub json_at : ℕ → List ℕ → Result Data Fault
json_at i bs = part_at i bs >>= json_of

-- the object that a message with these fields is in the default protocol
abbrev pub object_with : List ℕ → Data → Data → Data → Data → Data
object_with channel header parent_header metadata content =
    fields ((codes "buffers", empty_list) ∷ (codes "channel", string channel) ∷ (codes "content", content) ∷
    (codes "header", header) ∷ (codes "metadata", metadata) ∷ (codes "parent_header", parent_header) ∷ [])

-- the object whose fields are the parts
unfoldable pub object_of : List ℕ → Result Data Fault
object_of bs = do
  channel ← part_at 0 bs >>= text_of
  header ← json_at 1 bs
  parent_header ← json_at 2 bs
  metadata ← json_at 3 bs
  content ← json_at 4 bs
  Ok (object_with channel header parent_header metadata content)

-- the same of a message that is short enough and has five parts
unfoldable pub value_in : List ℕ → Result Data Fault
value_in bs =
    if nat_lt 1048576 (length bs) then Err TooLong else
    if has_five bs then object_of bs else Err NotJson

-- the message that a binary message is, or its first fault
unfoldable pub message_in : List ℕ → Result Message Fault
message_in bs = value_in bs >>= message_of
