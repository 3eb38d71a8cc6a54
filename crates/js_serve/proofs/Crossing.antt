-- What a thread of the server is given may go to it.
use denote.Param.Send.{IsSend, sendable}
use denote.Param.SendFields.{variants_send}
use denote.RattleType.{RattleType}
use denote.Struct.Field.{u64-field}
use Rattle.std.proofs.Crossing.{crosses, frees, send, sync}
use Rattle.std.specs.contracts.alloc.Global as Heap
use Rattle.std.specs.contracts.impls.GlobalAllocator.TheImpl as heap
use Rattle.std.specs.contracts.net.tcp.TcpListener as TcpListener
use Rattle.crossbeam_channel.specs.contracts.channel.Receiver as Receiver
use Rattle.crossbeam_channel.proofs.channel.Receiver.TheSendSync as receiver
use Rattle.jk_language.specs.declared.language.Language as language
use Rattle.js_call.specs.contracts.call.Call as Call
use Rattle.js_serve.specs.contracts.job.Job as Job
use Rattle.js_call.proofs.Crossing.{call_send, guest_send}
use Rattle.js_drive.proofs.Crossing.{sender_send, opening_send}

pauses_send : IsSend (Receiver.the_row u64-field.row Heap.the_row heap.ghosts)
pauses_send = receiver.the_send u64-field.row Heap.the_row heap.ghosts (search (crosses, sendable) depth 60 fits 20000) send sync frees

listener_send : IsSend TcpListener.the_row
listener_send = search (crosses, sendable) depth 60 fits 20000

pub job_send : (L S T M : RattleType) (g : language.Ghosts L.Denot S.Denot T.Denot M.Denot) → IsSend (Job.the_row L S T M g)
job_send L S T M g =
    let calls = sender_send (Call.the_row L S T M g) (call_send L S T M g) in
    variants_send (Job.enum L S T M g) (
      (listener_send, (calls, tt)),
      (
        (guest_send, (calls, tt)),
        ((opening_send L S T M g, tt), ((calls, (pauses_send, tt)), tt)),
      ),
    )
