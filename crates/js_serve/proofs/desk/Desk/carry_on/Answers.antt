use Rattle.std.proofs.Common.{inl, inr, refl}
use Rattle.js_call.specs.declared.call.Reply.TheVariants as reply
use Rattle.std.specs.Prelude.{codes}
use Rattle.js_http.specs.declared.response.Response.TheVariants.{Success}
use Rattle.js_call.proofs.Answering.{answers, responds, wants_end}
use Rattle.js_serve.proofs.desk.Desk.carry_on.Goals as goal

pub respond-requires : goal.respond-requires
respond-requires g c =
    responds c.in-Reply.response c.args.request.now c.args.self.now.clients.turn c.requires.asked (inl (rw c.in-Reply.is at c.requires.came))

pub channel_for-channel-requires : goal.channel_for-channel-requires
channel_for-channel-requires g c = rw c.in-Channels.is at c.requires.came

pub send-requires : goal.send-requires
send-requires g c =
    rw c.channel_for-channel.ensures.same (answers c.channel_for-channel.result c.args.request.now c.args.self.now.clients.turn c.requires.asked c.channel_for-channel.ensures.reply)

pub end_later-requires : goal.end_later-requires
end_later-requires g c =
    wants_end c.args.request.now c.args.self.now.clients.turn c.requires.asked (inr (c.in-Ends.id, rw c.in-Ends.is at c.requires.came))

pub send-requires-in-Page : goal.send-requires-in-Page
send-requires-in-Page g c =
    answers reply.Page c.args.request.now c.args.self.now.clients.turn c.requires.asked (rw c.in-Page.is at c.requires.came)

pub stop-requires : goal.stop-requires
stop-requires g c =
    answers (reply.Last (Success (codes "{}"))) c.args.request.now c.args.self.now.clients.turn c.requires.asked (rw c.in-Stops.is at c.requires.came, refl)
