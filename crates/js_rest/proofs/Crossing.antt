-- A request with what was made of it may go to another thread.
use denote.Param.Send.{IsSend, sendable, view_send}
use denote.Param.SendFields.{declared_send, variants_send}
use Rattle.std.proofs.Crossing.{crosses}
use Rattle.js_http.proofs.request.Request.TheSendSync as request
use Rattle.js_tables.proofs.Crossing.{read_notebook_send}
use Rattle.js_contents.specs.contracts.put.PutBody as PutBody
use Rattle.js_contents.specs.contracts.put.Putting as Putting
use Rattle.js_contents.specs.contracts.put.Ready as Ready
use Rattle.js_contents.proofs.place.Place.TheSendSync as place
use Rattle.js_rest.specs.contracts.parts.Prepared as Prepared
use Rattle.js_rest.specs.contracts.parts.ReadRequest as ReadRequest
use Rattle.js_rest.specs.contracts.parts.ReadRequest.TheInside as Inside

putting_send : IsSend Putting.the_row
putting_send = variants_send Putting.enum (tt, ((search (crosses, sendable) depth 60 fits 20000, tt), ((read_notebook_send, tt), tt)))

body_send : IsSend PutBody.the_row
body_send = declared_send PutBody.the_type (putting_send, (search (crosses, sendable) depth 60 fits 20000, tt))

ready_send : IsSend Ready.the_row
ready_send = declared_send Ready.the_type (place.the_send, (body_send, tt))

prepared_send : IsSend Prepared.the_row
prepared_send = variants_send Prepared.enum ((search (ready_send, crosses, sendable) depth 60 fits 20000, tt), (tt, tt))

inside_send : IsSend Inside.the_row
inside_send = declared_send Inside.the_type (request.the_send, (prepared_send, tt))

pub read_request_send : IsSend ReadRequest.the_row
read_request_send = view_send Inside.the_row _ _ _ _ inside_send
