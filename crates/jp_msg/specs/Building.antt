-- To be believed.
-- The messages that a kernel makes.
use Rattle.std.specs.Prelude.{ℕ, List, codes}
use Rattle.json_form.specs.Forms.{empty_object}
use Rattle.jp_msg.specs.declared.message.Message.{Message}
use Rattle.jp_msg.specs.declared.message.Header.{Header}
use Rattle.jp_msg.specs.declared.message.Channel.{Channel}
use Rattle.jp_msg.specs.declared.message.Content.TheVariants as content
use Rattle.jp_msg.specs.declared.message.Output.{Output}
use Rattle.jp_msg.specs.declared.message.Output.TheVariants as output
use Rattle.jp_msg.specs.Writing.{header_form}

unfoldable pub output_type : Output → List ℕ
output_type (output.Status state) = codes "status"
output_type (output.ExecuteInput code count) = codes "execute_input"
output_type (output.Stream text) = codes "stream"
output_type (output.Error f) = codes "error"
output_type output.InputRequest = codes "input_request"
output_type (output.ExecuteReply o) = codes "execute_reply"
output_type output.KernelInfoReply = codes "kernel_info_reply"
output_type (output.IsCompleteReply answer) = codes "is_complete_reply"
output_type (output.CompleteReply cursor) = codes "complete_reply"
output_type output.InspectReply = codes "inspect_reply"
output_type output.HistoryReply = codes "history_reply"
output_type output.CommInfoReply = codes "comm_info_reply"
output_type output.InterruptReply = codes "interrupt_reply"
output_type (output.ShutdownReply restart) = codes "shutdown_reply"

-- The whole object is the one that is written.
unfoldable pub kernel_header : List ℕ → List ℕ → List ℕ → List ℕ → Header
kernel_header msg_id session date msg_type =
    let bare : Header = record {
      msg_id = msg_id;
      session = session;
      msg_type = msg_type;
      username = codes "kernel";
      date = date;
      version = codes "5.4";
      json = empty_object;
    } in
    record bare { json = header_form bare }

-- a message that answers another
unfoldable pub kernel_message : List ℕ → List ℕ → List ℕ → Message → Channel → Output → Message
kernel_message msg_id session date parent channel o = record {
  header = kernel_header msg_id session date (output_type o);
  parent_header = parent.header.json;
  metadata = empty_object;
  content = content.Output o;
  channel = channel;
  buffers = tt;
}
