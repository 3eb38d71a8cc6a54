-- To be believed.
-- Which texts are messages, in facts about their fields, with no word on faults ("Messaging in Jupyter", version
-- 5.4).
use Rattle.std.specs.Prelude.{◌≡◌, ◌≤◌, ℕ, List, [], true, false, pos, length, codes, Option, Some, option_and_then}
use Rattle.std.specs.Result.{result_ok}
use Rattle.serde_json.specs.Data.{Data}
use Rattle.serde_json.specs.Find.{as_str, as_bool}
use Rattle.serde_json.specs.Read.{read}
use Rattle.json_form.specs.Forms.{Has, HasOr, object_of, whole_of, no_items_of, empty_object, text_has_float}
use Rattle.jp_msg.specs.declared.message.Message.{Message}
use Rattle.jp_msg.specs.declared.message.Header.{Header}
use Rattle.jp_msg.specs.declared.message.Execute.{Execute}
use Rattle.jp_msg.specs.declared.message.Channel.{Channel}
use Rattle.jp_msg.specs.declared.message.Channel.TheVariants.{Shell}
use Rattle.jp_msg.specs.declared.message.Content.{Content}
use Rattle.jp_msg.specs.declared.message.Content.TheVariants as content
use Rattle.jp_msg.specs.declared.message.Request.{Request}
use Rattle.jp_msg.specs.declared.message.Request.TheVariants as request
use Rattle.jp_msg.specs.declared.message.RequestKind.{RequestKind}
use Rattle.jp_msg.specs.declared.message.RequestKind.TheVariants as kind
use Rattle.jp_msg.specs.Reading.{channel_named, kind_of}

-- the whole object is kept beside the fields that have names
pub record IsHeader (h : Header) : Type 0 where
  pub msg_id : Has as_str (codes "msg_id") h.json h.msg_id
  pub session : Has as_str (codes "session") h.json h.session
  pub msg_type : Has as_str (codes "msg_type") h.json h.msg_type
  pub username : HasOr [] as_str (codes "username") h.json h.username
  pub date : HasOr [] as_str (codes "date") h.json h.date
  pub version : HasOr [] as_str (codes "version") h.json h.version

pub record IsExecute (d : Data) (e : Execute) : Type 0 where
  pub code : Has as_str (codes "code") d e.code
  pub silent : HasOr false as_bool (codes "silent") d e.silent
  pub store_history : HasOr true as_bool (codes "store_history") d e.store_history
  pub user_expressions : HasOr empty_object object_of (codes "user_expressions") d e.user_expressions
  pub allow_stdin : HasOr true as_bool (codes "allow_stdin") d e.allow_stdin
  pub stop_on_error : HasOr true as_bool (codes "stop_on_error") d e.stop_on_error

-- which request it is
abbrev pub asked : Request → RequestKind
asked (request.Execute e) = kind.Execute
asked request.KernelInfo = kind.KernelInfo
asked (request.IsComplete code) = kind.IsComplete
asked (request.Complete cursor) = kind.Complete
asked request.Inspect = kind.Inspect
asked request.History = kind.History
asked request.CommInfo = kind.CommInfo
asked request.Interrupt = kind.Interrupt
asked (request.Shutdown restart) = kind.Shutdown
asked (request.InputReply line) = kind.InputReply
asked request.Other = kind.Other

-- the fields of its content
abbrev pub HasFields : Data → Request → Type 0
HasFields d (request.Execute e) = IsExecute d e
HasFields d request.KernelInfo = Unit {0}
HasFields d (request.IsComplete code) = Has as_str (codes "code") d code
HasFields d (request.Complete cursor) = HasOr (pos 0) whole_of (codes "cursor_pos") d cursor
HasFields d request.Inspect = Unit {0}
HasFields d request.History = Unit {0}
HasFields d request.CommInfo = Unit {0}
HasFields d request.Interrupt = Unit {0}
HasFields d (request.Shutdown restart) = HasOr false as_bool (codes "restart") d restart
HasFields d (request.InputReply line) = Has as_str (codes "value") d line
HasFields d request.Other = Unit {0}

-- a request of the table on its channel, with its fields; or another
pub record IsContent (channel : Channel) (msg_type : List ℕ) (d : Data) (c : Content) : Type 0 where
  pub request : Request
  pub is_request : c ≡ content.Request request
  pub is_asked : kind_of channel msg_type ≡ asked request
  pub fields : HasFields d request

abbrev pub channel_kind : Data → Option Channel
channel_kind d = option_and_then (λ s. result_ok (channel_named s)) (as_str d)

pub record IsMessage (d : Data) (m : Message) : Type 0 where
  pub header_object : Has object_of (codes "header") d m.header.json
  pub header : IsHeader m.header
  pub parent_header : HasOr empty_object object_of (codes "parent_header") d m.parent_header
  pub metadata : HasOr empty_object object_of (codes "metadata") d m.metadata
  pub content_object : Data
  pub has_content : Has object_of (codes "content") d content_object
  pub content : IsContent m.channel m.header.msg_type content_object m.content
  pub channel : HasOr Shell channel_kind (codes "channel") d m.channel
  pub buffers : HasOr tt no_items_of (codes "buffers") d m.buffers

-- a text of at most 1,048,576 bytes that is JSON, with whole numbers alone wherever they stand, and a message
pub record IsMessageText (text : List ℕ) (m : Message) : Type 0 where
  pub short : length text ≤ 1048576
  pub value : Data
  pub reads : read text ≡ Some value
  pub whole : text_has_float text ≡ false
  pub message : IsMessage value m
