-- The end by which others wake a stream may go to another thread, and the selector of a stream that is still to come.
use denote.Param.Send.{IsSend, sendable}
use denote.Param.SendFields.{declared_send}
use Rattle.std.proofs.Crossing.{crosses}
use Rattle.std.specs.contracts.alloc.Global as Heap
use Rattle.std.specs.contracts.impls.GlobalAllocator.TheImpl as heap
use Rattle.std.specs.contracts.sync.Arc as Arc
use Rattle.std.specs.contracts.sync.atomic.AtomicU64 as AtomicU64
use Rattle.mio.specs.contracts.poll.Poll as Poll
use Rattle.mio.specs.contracts.waker.Waker as Waker
use Rattle.js_paced.specs.contracts.rest.Selector as Selector
use Rattle.js_paced.specs.contracts.rest.Waking as Waking

state_send : IsSend (Arc.the_row AtomicU64.the_row Heap.the_row heap.ghosts)
state_send = search (crosses, sendable) depth 60 fits 20000

waker_send : IsSend Waker.the_row
waker_send = search (crosses, sendable) depth 60 fits 20000

pub waking_send : IsSend Waking.the_row
waking_send = declared_send Waking.the_type (state_send, (waker_send, tt))

poll_send : IsSend Poll.the_row
poll_send = search (crosses, sendable) depth 60 fits 20000

pub selector_send : IsSend Selector.the_row
selector_send = declared_send Selector.the_type (poll_send, tt)
