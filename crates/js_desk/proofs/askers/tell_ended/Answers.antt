use Rattle.js_desk.proofs.Asking.{after_push}
use Rattle.js_desk.proofs.askers.tell_ended.Goals as goal

pub loop-ender-preserved : goal.loop-ender-preserved
loop-ender-preserved g c = rw (c.dismiss_one.ensures, c.into_asker.ensures.asker, after_push, c.loop-ender.invariant)
