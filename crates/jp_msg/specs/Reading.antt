-- To be believed.
-- Which message a text is, field by field, or the fault that comes first ("Messaging in Jupyter", version 5.4,
-- in the default JSON form of WebSocket connections; what it leaves open is this project's profile).
use Rattle.std.specs.Prelude.{ℕ, List, [], true, false, pos, length, codes, nat_lt, if◌then◌else◌, Result, Ok, Err}
use Rattle.std.specs.Str.{bytes_eq}
use Rattle.serde_json.specs.Data.{Data}
use Rattle.json_form.specs.declared.fault.Fault.{Fault}
use Rattle.json_form.specs.declared.fault.Fault.TheVariants.{NotJson, Missing, WrongKind, NotWhole, TooLong}
use Rattle.json_form.specs.Forms.{◌>>=◌, whole_json, text_at, text_or, boolean_or, whole_or, object_at, object_or_empty, no_items_at}
use Rattle.jp_msg.specs.declared.message.Message.{Message}
use Rattle.jp_msg.specs.declared.message.Header.{Header}
use Rattle.jp_msg.specs.declared.message.Execute.{Execute}
use Rattle.jp_msg.specs.declared.message.Channel.{Channel}
use Rattle.jp_msg.specs.declared.message.Channel.TheVariants.{Shell, Control, Stdin, Iopub}
use Rattle.jp_msg.specs.declared.message.Content.{Content}
use Rattle.jp_msg.specs.declared.message.Content.TheVariants as content
use Rattle.jp_msg.specs.declared.message.Request.{Request}
use Rattle.jp_msg.specs.declared.message.Request.TheVariants as request
use Rattle.jp_msg.specs.declared.message.RequestKind.{RequestKind}
use Rattle.jp_msg.specs.declared.message.RequestKind.TheVariants as kind

unfoldable pub header_of : Data → Result Header Fault
header_of d = do
  msg_id ← text_at (codes "msg_id") d
  session ← text_at (codes "session") d
  msg_type ← text_at (codes "msg_type") d
  username ← text_or [] (codes "username") d
  date ← text_or [] (codes "date") d
  version ← text_or [] (codes "version") d
  Ok (record { msg_id = msg_id; session = session; msg_type = msg_type; username = username; date = date; version = version; json = d })

unfoldable pub channel_named : List ℕ → Result Channel Fault
channel_named name =
    if bytes_eq name (codes "shell") then Ok Shell else
    if bytes_eq name (codes "control") then Ok Control else
    if bytes_eq name (codes "stdin") then Ok Stdin else Err WrongKind

unfoldable pub channel_at : Data → Result Channel Fault
channel_at d = text_or (codes "shell") (codes "channel") d >>= channel_named

-- ---- which request it is, by its type and its channel

unfoldable pub shell_kind : List ℕ → RequestKind
shell_kind name =
    if bytes_eq name (codes "execute_request") then kind.Execute else
    if bytes_eq name (codes "kernel_info_request") then kind.KernelInfo else
    if bytes_eq name (codes "is_complete_request") then kind.IsComplete else
    if bytes_eq name (codes "complete_request") then kind.Complete else
    if bytes_eq name (codes "inspect_request") then kind.Inspect else
    if bytes_eq name (codes "history_request") then kind.History else
    if bytes_eq name (codes "comm_info_request") then kind.CommInfo else kind.Other

unfoldable pub control_kind : List ℕ → RequestKind
control_kind name =
    if bytes_eq name (codes "kernel_info_request") then kind.KernelInfo else
    if bytes_eq name (codes "interrupt_request") then kind.Interrupt else
    if bytes_eq name (codes "shutdown_request") then kind.Shutdown else kind.Other

unfoldable pub stdin_kind : List ℕ → RequestKind
stdin_kind name = if bytes_eq name (codes "input_reply") then kind.InputReply else kind.Other

unfoldable pub kind_of : Channel → List ℕ → RequestKind
kind_of Shell name = shell_kind name
kind_of Control name = control_kind name
kind_of Stdin name = stdin_kind name
kind_of Iopub name = kind.Other

-- ---- its fields

unfoldable pub execute_of : Data → Result Execute Fault
execute_of d = do
  code ← text_at (codes "code") d
  silent ← boolean_or false (codes "silent") d
  store_history ← boolean_or true (codes "store_history") d
  user_expressions ← object_or_empty (codes "user_expressions") d
  allow_stdin ← boolean_or true (codes "allow_stdin") d
  stop_on_error ← boolean_or true (codes "stop_on_error") d
  Ok (record {
    code = code;
    silent = silent;
    store_history = store_history;
    user_expressions = user_expressions;
    allow_stdin = allow_stdin;
    stop_on_error = stop_on_error;
  })

unfoldable pub request_of : RequestKind → Data → Result Request Fault
request_of kind.Execute d = execute_of d >>= λ e. Ok (request.Execute e)
request_of kind.KernelInfo d = Ok request.KernelInfo
request_of kind.IsComplete d = text_at (codes "code") d >>= λ code. Ok (request.IsComplete code)
request_of kind.Complete d = whole_or (pos 0) (codes "cursor_pos") d >>= λ cursor. Ok (request.Complete cursor)
request_of kind.Inspect d = Ok request.Inspect
request_of kind.History d = Ok request.History
request_of kind.CommInfo d = Ok request.CommInfo
request_of kind.Interrupt d = Ok request.Interrupt
request_of kind.Shutdown d = boolean_or false (codes "restart") d >>= λ restart. Ok (request.Shutdown restart)
request_of kind.InputReply d = text_at (codes "value") d >>= λ line. Ok (request.InputReply line)
request_of kind.Other d = Ok request.Other

unfoldable pub content_of : Channel → List ℕ → Data → Result Content Fault
content_of channel msg_type d = request_of (kind_of channel msg_type) d >>= λ r. Ok (content.Request r)

unfoldable pub message_of : Data → Result Message Fault
message_of d = do
  header_object ← object_at (codes "header") d
  header ← header_of header_object
  parent_header ← object_or_empty (codes "parent_header") d
  metadata ← object_or_empty (codes "metadata") d
  content_object ← object_at (codes "content") d
  channel ← channel_at d
  buffers ← no_items_at (codes "buffers") d
  content ← content_of channel header.msg_type content_object
  Ok (record { header = header; parent_header = parent_header; metadata = metadata; content = content; channel = channel; buffers = buffers })

-- A text that is too long is that, whatever else is wrong; then it is JSON, and then its numbers are whole.
unfoldable pub value_at : List ℕ → Result Data Fault
value_at text = if nat_lt 1048576 (length text) then Err TooLong else whole_json text

-- Then come the fields.
unfoldable pub message_at : List ℕ → Result Message Fault
message_at text = value_at text >>= message_of

unfoldable pub fault_number : Fault → ℕ
fault_number NotJson = 1
fault_number Missing = 2
fault_number WrongKind = 3
fault_number NotWhole = 4
fault_number TooLong = 5
