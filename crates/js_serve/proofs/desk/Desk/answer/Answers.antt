use Rattle.js_rest.specs.declared.parts.Outcome.TheVariants.{Shown}
use Rattle.js_call.specs.declared.call.Reply.TheVariants as reply
use Rattle.js_call.proofs.Answering.{answers}
use Rattle.js_serve.proofs.desk.Desk.answer.Goals as goal

pub send-requires : goal.send-requires
send-requires g c =
    rw (c.step-request.ensures.same, c.catch_up_on.ensures)
    (answers (reply.Shown c.in-Shown.about c.in-Shown.opening) c.args.request c.args.self.now.clients.turn c.requires (rw c.in-Shown.is at c.step-request.ensures.came))

pub carry_on-requires : goal.carry_on-requires
carry_on-requires g c = record {
  asked = rw (c.step-request.ensures.same, c.catch_up_on.ensures, c.step-request.ensures.request) c.requires;
  came = rw c.step-request.ensures.request (rw c.in-Answered.is at c.step-request.ensures.came);
}
