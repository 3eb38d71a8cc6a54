use Rattle.js_call.proofs.Answering.{for_cause}
use Rattle.js_call.proofs.asking.ClientAsker.dismiss.Goals as goal

pub reply-requires : goal.reply-requires
reply-requires g c = rw c.reply_for.ensures (for_cause c.args.cause c.args.self c.requires)
