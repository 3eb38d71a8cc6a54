use Rattle.js_serve.proofs.desk.Desk.take.Goals as goal

pub reply_or_refuse-requires : goal.reply_or_refuse-requires
reply_or_refuse-requires g c = rw c.in-Asked.is at c.admit.ensures.asked
