use Rattle.js_desk.proofs.Asking.{after_push}
use Rattle.js_desk.proofs.askers.tell_stopped.Goals as goal

pub loop-kept-preserved : goal.loop-kept-preserved
loop-kept-preserved g c = rw (c.dismiss_one.ensures, c.kept.view_is, after_push, c.loop-kept.invariant)
