-- A message may go to another thread, and be looked at there.
use denote.Param.Send.{IsSend, IsSync, sendable}
use Rattle.json_form.proofs.Crossing.{json_send, json_sync}
use Rattle.json_form.proofs.number.Whole.TheSendSync as whole
use Rattle.json_form.proofs.shared.Shared.TheSendSync as shared
use Rattle.json_form.proofs.text.Text.TheSendSync as text
use Rattle.json_form.specs.contracts.shared.Shared as Shared
use Rattle.json_form.specs.contracts.text.Text as Text
use Rattle.jp_msg.proofs.message.Channel.TheSendSync as channel
use Rattle.jp_msg.specs.contracts.message.Content as content
use Rattle.jp_msg.specs.contracts.message.Execute as execute
use Rattle.jp_msg.specs.contracts.message.Header as header
use Rattle.jp_msg.specs.contracts.message.Message as message
use Rattle.jp_msg.specs.contracts.message.Output as output
use Rattle.jp_msg.specs.contracts.message.Request as request

header_send : IsSend header.the_field.row
header_send = search (json_send, text.the_send, sendable) depth 20

header_sync : IsSync header.the_field.row
header_sync = search (json_sync, text.the_sync, sendable) depth 20

pub shared_text_send : IsSend (Shared.the_row Text.the_row)
shared_text_send = shared.the_send Text.the_row text.the_send text.the_sync

pub shared_text_sync : IsSync (Shared.the_row Text.the_row)
shared_text_sync = shared.the_sync Text.the_row text.the_send text.the_sync

execute_send : IsSend execute.the_field.row
execute_send = search (json_send, shared_text_send, sendable) depth 20

execute_sync : IsSync execute.the_field.row
execute_sync = search (json_sync, shared_text_sync, sendable) depth 20

request_send : IsSend request.the_field.row
request_send = search (execute_send, text.the_send, whole.the_send, sendable) depth 20

request_sync : IsSync request.the_field.row
request_sync = search (execute_sync, text.the_sync, whole.the_sync, sendable) depth 20

pub output_send : IsSend output.the_field.row
output_send = search (shared_text_send, text.the_send, whole.the_send, sendable) depth 20

pub output_sync : IsSync output.the_field.row
output_sync = search (shared_text_sync, text.the_sync, whole.the_sync, sendable) depth 20

content_send : IsSend content.the_field.row
content_send = search (request_send, output_send, sendable) depth 20

content_sync : IsSync content.the_field.row
content_sync = search (request_sync, output_sync, sendable) depth 20

pub message_send : IsSend message.the_row
message_send = search (content_send, header_send, json_send, channel.the_field_send, sendable) depth 20

pub message_sync : IsSync message.the_row
message_sync = search (content_sync, header_sync, json_sync, channel.the_field_sync, sendable) depth 20
