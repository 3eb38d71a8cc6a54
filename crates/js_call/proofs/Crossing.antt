-- What a thread tells the desk, and what it is replied, may go to another thread.
use denote.Param.Send.{IsSend, sendable}
use denote.Param.SendFields.{declared_send, variants_send}
use denote.RattleType.{RattleType}
use denote.Struct.Field.{unit-field}
use Rattle.std.proofs.Crossing.{crosses, frees, send, sync}
use Rattle.std.proofs.option.Option.TheSendSync as option
use Rattle.std.specs.contracts.net.tcp.TcpStream as TcpStream
use Rattle.jk_language.specs.declared.language.Language as language
use Rattle.js_http.proofs.response.Response.TheSendSync as response
use Rattle.js_http.specs.contracts.request.Request as Request
use Rattle.js_lend.proofs.loan.Lease.TheSendSync as lease
use Rattle.js_rest.proofs.Crossing.{read_request_send}
use Rattle.js_shelf.proofs.opened.Opening.TheSendSync as shown
use Rattle.js_tables.proofs.forms.About.TheSendSync as about
use Rattle.js_ws.proofs.names.Names.TheSendSync as names
use Rattle.js_paced.proofs.Crossing.{selector_send}
use Rattle.past.proofs.Past.TheSendSync as past
use Rattle.js_call.specs.contracts.call.Call as Call
use Rattle.js_call.specs.contracts.call.Reply as Reply
use Rattle.js_call.specs.contracts.call.Upgrade as Upgrade
use Rattle.js_call.specs.contracts.client.Client as Client
use Rattle.js_call.specs.contracts.crowd.Guest as Guest
use Rattle.js_call.specs.contracts.crowd.Ticket as Ticket
use Rattle.js_call.specs.contracts.exchange.Exchange as Exchange
use Rattle.js_call.specs.contracts.question.Question as Question
use Rattle.js_call.specs.contracts.turns.Turns as Turns
use Rattle.js_drive.proofs.Crossing.{sender_send, count_send, place_send}

tcp_send : IsSend TcpStream.the_row
tcp_send = search (crosses, sendable) depth 60 fits 20000

turns_send : IsSend Turns.the_row
turns_send = declared_send Turns.the_type (search (crosses, sendable) depth 60 fits 20000, tt)

ticket_send : IsSend Ticket.the_row
ticket_send = declared_send Ticket.the_type (count_send, (turns_send, tt))

pub guest_send : IsSend Guest.the_row
guest_send = declared_send Guest.the_type (tcp_send, (ticket_send, tt))

upgrade_send : (L S T M : RattleType) (g : language.Ghosts L.Denot S.Denot T.Denot M.Denot) → IsSend (Upgrade.the_row L S T M g)
upgrade_send L S T M g = declared_send (Upgrade.the_type L S T M g) (place_send L S T M g, (names.the_send, (search (selector_send, crosses, sendable) depth 60 fits 20000, tt)))

reply_send : (L S T M : RattleType) (g : language.Ghosts L.Denot S.Denot T.Denot M.Denot) → IsSend (Reply.the_row L S T M g)
reply_send L S T M g = variants_send (Reply.enum L S T M g) ((response.the_send, tt), ((about.the_send, (shown.the_send, tt)), ((response.the_send, tt), ((response.the_send, (upgrade_send L S T M g, tt)), (tt, tt)))))

exchange_send : (L S T M : RattleType) (g : language.Ghosts L.Denot S.Denot T.Denot M.Denot) → IsSend (Exchange.the_row L S T M g)
exchange_send L S T M g =
    let reply = reply_send L S T M g in
    declared_send (Exchange.the_type L S T M g) (past.the_send Request.the_row, (option.the_send _ reply, tt))

client_send : (L S T M : RattleType) (g : language.Ghosts L.Denot S.Denot T.Denot M.Denot) → IsSend (Client.the_row L S T M g)
client_send L S T M g =
    declared_send (Client.the_type L S T M g)
    (lease.the_send _ _ (exchange_send L S T M g), (sender_send unit-field.row (search (crosses, sendable) depth 60 fits 20000), tt))

question_send : (L S T M : RattleType) (g : language.Ghosts L.Denot S.Denot T.Denot M.Denot) → IsSend (Question.the_row L S T M g)
question_send L S T M g = declared_send (Question.the_type L S T M g) (read_request_send, (client_send L S T M g, tt))

pub call_send : (L S T M : RattleType) (g : language.Ghosts L.Denot S.Denot T.Denot M.Denot) → IsSend (Call.the_row L S T M g)
call_send L S T M g = variants_send (Call.enum L S T M g) ((guest_send, tt), ((question_send L S T M g, tt), (tt, (tt, (tt, tt)))))
