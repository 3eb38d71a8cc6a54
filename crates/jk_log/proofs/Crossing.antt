-- Which values of a kernel may go to another thread, and be looked at there.
use denote.Param.Send.{IsSend, IsSync, sendable}
use Rattle.json_form.proofs.shared.Shared.TheSendSync as shared
use Rattle.json_form.specs.contracts.shared.Shared as Shared
use Rattle.jp_msg.proofs.Crossing.{message_send, message_sync, output_send, output_sync}
use Rattle.jp_msg.proofs.message.Channel.TheSendSync as channel
use Rattle.jp_msg.specs.contracts.message.Message as Message
use Rattle.jk_log.proofs.entry.To.TheSendSync as to
use Rattle.jk_log.specs.contracts.arrival.Arrival as Arrival
use Rattle.jk_log.specs.contracts.arrival.What as What
use Rattle.jk_log.specs.contracts.entry.Entry as Entry
use Rattle.jk_log.specs.contracts.entry.Told as Told

shared_send : IsSend (Shared.the_row Message.the_row)
shared_send = shared.the_send Message.the_row message_send message_sync

shared_sync : IsSync (Shared.the_row Message.the_row)
shared_sync = shared.the_sync Message.the_row message_send message_sync

what_send : IsSend What.the_field.row
what_send = search (shared_send, sendable) depth 20

what_sync : IsSync What.the_field.row
what_sync = search (shared_sync, sendable) depth 20

pub arrival_send : IsSend Arrival.the_row
arrival_send = search (what_send, sendable) depth 20

pub arrival_sync : IsSync Arrival.the_row
arrival_sync = search (what_sync, sendable) depth 20

told_send : IsSend Told.the_field.row
told_send = search (output_send, sendable) depth 20

told_sync : IsSync Told.the_field.row
told_sync = search (output_sync, sendable) depth 20

pub entry_send : IsSend Entry.the_row
entry_send = search (shared_send, to.the_field_send, told_send, channel.the_field_send, sendable) depth 20

pub entry_sync : IsSync Entry.the_row
entry_sync = search (shared_sync, to.the_field_sync, told_sync, channel.the_field_sync, sendable) depth 20
