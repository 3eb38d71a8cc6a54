-- What the threads of a kernel are given may go to them; the end of a parser, wherever a tree of the language may.
use denote.Hole.{as_row}
use denote.Param.Send.{IsSend, IsSync, sendable}
use denote.Param.SendFields.{declared_send}
use denote.RattleType.{RattleType}
use Rattle.std.proofs.Crossing.{Arc-send, Vec-send, crosses, frees, send, sync}
use Rattle.std.specs.contracts.alloc.Global as Heap
use Rattle.std.specs.contracts.impls.GlobalAllocator.TheImpl as heap
use Rattle.std.specs.contracts.option.Option as Option
use Rattle.std.specs.contracts.sync.Arc as Arc
use Rattle.std.specs.contracts.sync.Mutex as Mutex
use Rattle.std.specs.contracts.sync.atomic.AtomicBool as AtomicBool
use Rattle.std.specs.contracts.sync.atomic.AtomicU64 as AtomicU64
use Rattle.crossbeam_channel.specs.contracts.channel.Receiver as Receiver
use Rattle.crossbeam_channel.specs.contracts.channel.Sender as Sender
use Rattle.crossbeam_channel.proofs.channel.Receiver.TheSendSync as receiver
use Rattle.crossbeam_channel.proofs.channel.Sender.TheSendSync as sender
use Rattle.jk_language.specs.declared.language.Language as language
use Rattle.jk_board.proofs.Crossing.{follower_send}
use Rattle.jk_board.specs.contracts.follower.Follower as Follower
use Rattle.js_home.proofs.Crossing.{home_send, place_send as lent_send}
use Rattle.js_paced.proofs.Crossing.{waking_send}
use Rattle.jk_log.proofs.job.ParsedCell.TheSendSync as parsed
use Rattle.jk_log.specs.contracts.job.ParsedCell as ParsedCell
use Rattle.jk_queues.proofs.pool.WorkerEnd.TheSendSync as end
use Rattle.jk_queues.specs.contracts.pool.WorkerEnd as WorkerEnd
use Rattle.std.specs.contracts.timed.Parker as Parker
use Rattle.std.specs.contracts.vec.Vec as Vec
use Rattle.js_drive.specs.contracts.bell.Bell as Bell
use Rattle.js_drive.specs.contracts.place.Place as Place
use Rattle.js_drive.specs.contracts.driving.Opened as Opened
use Rattle.js_drive.specs.contracts.driving.Opening as Opening
use Rattle.js_drive.specs.contracts.driving.Returned as Returned
use Rattle.js_drive.specs.contracts.parser.Parser as Parser
use Rattle.js_drive.specs.contracts.neighbours.Neighbour as Neighbour
use Rattle.js_drive.specs.contracts.neighbours.Neighbours as Neighbours
use Rattle.js_drive.specs.contracts.wakes.Wakes as Wakes

pub sender_send : (R : RattleType) → IsSend R → IsSend (Sender.the_row R Heap.the_row heap.ghosts)
sender_send R sent = sender.the_send R Heap.the_row heap.ghosts sent send sync frees

receiver_send : (R : RattleType) → IsSend R → IsSend (Receiver.the_row R Heap.the_row heap.ghosts)
receiver_send R sent = receiver.the_send R Heap.the_row heap.ghosts sent send sync frees

flag_send : IsSend (Arc.the_row AtomicBool.the_row Heap.the_row heap.ghosts)
flag_send = search (crosses, sendable) depth 60 fits 20000

parker_send : IsSend (Arc.the_row Parker.the_row Heap.the_row heap.ghosts)
parker_send = search (crosses, sendable) depth 60 fits 20000

bell_send : IsSend Bell.the_row
bell_send = declared_send Bell.the_type (parker_send, tt)

pub count_send : IsSend (Arc.the_row AtomicU64.the_row Heap.the_row heap.ghosts)
count_send = search (crosses, sendable) depth 60 fits 20000

neighbour_send : IsSend Neighbour.the_row
neighbour_send = declared_send Neighbour.the_type (search (crosses, sendable) depth 60 fits 20000, (waking_send, tt))

rows_send : IsSend (Vec.the_row Neighbour.the_row Heap.the_row heap.ghosts)
rows_send = Vec-send Neighbour.the_row neighbour_send

locked_send : IsSend (Mutex.the_row (Vec.the_row Neighbour.the_row Heap.the_row heap.ghosts))
locked_send = search (rows_send, crosses, sendable) depth 60 fits 20000

locked_sync : IsSync (Mutex.the_row (Vec.the_row Neighbour.the_row Heap.the_row heap.ghosts))
locked_sync = search (rows_send, crosses, sendable) depth 60 fits 20000

shared_send : IsSend (Arc.the_row (Mutex.the_row (Vec.the_row Neighbour.the_row Heap.the_row heap.ghosts)) Heap.the_row heap.ghosts)
shared_send = Arc-send _ locked_send locked_sync

neighbours_send : IsSend Neighbours.the_row
neighbours_send = declared_send Neighbours.the_type (shared_send, (count_send, (flag_send, tt)))

pub wakes_send : IsSend Wakes.the_row
wakes_send = declared_send Wakes.the_type (bell_send, (neighbours_send, tt))

pub place_send : (L S T M : RattleType) (g : language.Ghosts L.Denot S.Denot T.Denot M.Denot) → IsSend (Place.the_row L S T M g)
place_send L S T M g = declared_send (Place.the_type L S T M g) (lent_send L S T M g, (wakes_send, tt))

pub opened_send : (L S T M : RattleType) (g : language.Ghosts L.Denot S.Denot T.Denot M.Denot) → IsSend (Opened.the_row L S T M g)
opened_send L S T M g =
    let f = follower_send L S T M g in
    declared_send (Opened.the_type L S T M g) (home_send L S T M g, (wakes_send, (f, (f, tt))))

option_send : (R : RattleType) → IsSend R → IsSend (as_row (Option.the_field R))
option_send R sent = search sendable depth 12

returned_send : (L S T M : RattleType) (g : language.Ghosts L.Denot S.Denot T.Denot M.Denot) → IsSend (Returned.the_row L S T M g)
returned_send L S T M g =
    let f = follower_send L S T M g in
    let follower = option_send (Follower.the_row L S T M g) f in
    declared_send (Returned.the_type L S T M g) (home_send L S T M g, (follower, (follower, tt)))

pub opening_send : (L S T M : RattleType) (g : language.Ghosts L.Denot S.Denot T.Denot M.Denot) → IsSend (Opening.the_row L S T M g)
opening_send L S T M g =
    declared_send (Opening.the_type L S T M g) (sender_send (Opened.the_row L S T M g) (opened_send L S T M g), (receiver_send (Returned.the_row L S T M g) (returned_send L S T M g), tt))

worker_send : (L S T M : RattleType) (g : language.Ghosts L.Denot S.Denot T.Denot M.Denot) → IsSend T → IsSend (WorkerEnd.the_row (ParsedCell.the_row L S T M g))
worker_send L S T M g tree = end.the_send _ (parsed.the_send L S T M g tree)

pub parser_send : (L S T M : RattleType) (g : language.Ghosts L.Denot S.Denot T.Denot M.Denot) → IsSend T → IsSend (Parser.the_row L S T M g)
parser_send L S T M g tree = declared_send (Parser.the_type L S T M g) (worker_send L S T M g tree, (bell_send, (bell_send, tt)))
