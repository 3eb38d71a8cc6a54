use Rattle.js_serve.proofs.desk.Desk.do_next.Goals as goal

pub await_ends-requires : goal.await_ends-requires
await_ends-requires g c = rw c.in-Some-take_made.is at c.take_made.ensures.comes

pub reply_to-requires : goal.reply_to-requires
reply_to-requires g c = rw c.in-Some-next_held.is at c.next_held.ensures.asks
