-- To be believed.
-- What an arrival asks of the kernel. A request on the shell channel waits until it is answered in its turn: an execute
-- request until its cell is begun. One on the control channel is answered at once: it interrupts, asks about the kernel,
-- or shuts the kernel down. An input reply on the stdin channel is the line of the cell that asks its seat. Another message,
-- or one on another channel, is dropped ("Messaging in Jupyter", version 5.4).
use Rattle.std.specs.Prelude.{ℕ, List, Option, None, Some}
use Rattle.jp_msg.specs.declared.message.Message.{Message}
use Rattle.jp_msg.specs.declared.message.Execute.{Execute}
use Rattle.jp_msg.specs.declared.message.Content.{Content}
use Rattle.jp_msg.specs.declared.message.Content.TheVariants as content
use Rattle.jp_msg.specs.declared.message.Request.{Request}
use Rattle.jp_msg.specs.declared.message.Request.TheVariants as request
use Rattle.jk_log.specs.declared.arrival.What.{What}
use Rattle.jk_log.specs.declared.arrival.What.TheVariants as what
use Rattle.jk_log.specs.declared.arrival.Sort.{Sort}
use Rattle.jk_log.specs.declared.arrival.Sort.TheVariants as sort

abbrev pub request_execute : Request → Option Execute
request_execute (request.Execute e) = Some e
request_execute request.KernelInfo = None
request_execute (request.IsComplete code) = None
request_execute (request.Complete cursor) = None
request_execute request.Inspect = None
request_execute request.History = None
request_execute request.CommInfo = None
request_execute request.Interrupt = None
request_execute (request.Shutdown restart) = None
request_execute (request.InputReply line) = None
request_execute request.Other = None

abbrev pub content_execute : Content → Option Execute
content_execute (content.Request r) = request_execute r
content_execute (content.Output o) = None

-- the execute request in a message
abbrev pub message_execute : Message → Option Execute
message_execute m = content_execute m.content

abbrev pub request_query : Request → Option Request
request_query request.KernelInfo = Some request.KernelInfo
request_query (request.IsComplete code) = Some (request.IsComplete code)
request_query (request.Complete cursor) = Some (request.Complete cursor)
request_query request.Inspect = Some request.Inspect
request_query request.History = Some request.History
request_query request.CommInfo = Some request.CommInfo
request_query (request.Execute e) = None
request_query request.Interrupt = None
request_query (request.Shutdown restart) = None
request_query (request.InputReply line) = None
request_query request.Other = None

abbrev pub content_query : Content → Option Request
content_query (content.Request r) = request_query r
content_query (content.Output o) = None

-- the request in a message that waits on the shell channel and is no cell
abbrev pub message_query : Message → Option Request
message_query m = content_query m.content

-- the execute request that an arrival is
abbrev pub execute_in : What → Option Execute
execute_in (what.Shell m) = message_execute m
execute_in what.Join = None
execute_in what.Leave = None
execute_in (what.Control m) = None
execute_in (what.Stdin m) = None

-- the request that an arrival is which waits and is no cell
abbrev pub query_in : What → Option Request
query_in (what.Shell m) = message_query m
query_in what.Join = None
query_in what.Leave = None
query_in (what.Control m) = None
query_in (what.Stdin m) = None

abbrev pub request_input : Request → Option (List ℕ)
request_input (request.InputReply line) = Some line
request_input (request.Execute e) = None
request_input request.KernelInfo = None
request_input (request.IsComplete code) = None
request_input (request.Complete cursor) = None
request_input request.Inspect = None
request_input request.History = None
request_input request.CommInfo = None
request_input request.Interrupt = None
request_input (request.Shutdown restart) = None
request_input request.Other = None

abbrev pub content_input : Content → Option (List ℕ)
content_input (content.Request r) = request_input r
content_input (content.Output o) = None

-- the line in a message
abbrev pub message_input : Message → Option (List ℕ)
message_input m = content_input m.content

-- the line that an arrival is
abbrev pub input_in : What → Option (List ℕ)
input_in (what.Stdin m) = message_input m
input_in what.Join = None
input_in what.Leave = None
input_in (what.Shell m) = None
input_in (what.Control m) = None

abbrev pub shell_sort : Request → Sort
shell_sort (request.Execute e) = sort.Execute
shell_sort request.KernelInfo = sort.Query
shell_sort (request.IsComplete code) = sort.Query
shell_sort (request.Complete cursor) = sort.Query
shell_sort request.Inspect = sort.Query
shell_sort request.History = sort.Query
shell_sort request.CommInfo = sort.Query
shell_sort request.Interrupt = sort.Other
shell_sort (request.Shutdown restart) = sort.Other
shell_sort (request.InputReply line) = sort.Other
shell_sort request.Other = sort.Other

abbrev pub control_sort : Request → Sort
control_sort request.Interrupt = sort.Interrupt
control_sort request.KernelInfo = sort.KernelInfo
control_sort (request.Shutdown restart) = sort.Shutdown restart
control_sort (request.Execute e) = sort.Other
control_sort (request.IsComplete code) = sort.Other
control_sort (request.Complete cursor) = sort.Other
control_sort request.Inspect = sort.Other
control_sort request.History = sort.Other
control_sort request.CommInfo = sort.Other
control_sort (request.InputReply line) = sort.Other
control_sort request.Other = sort.Other

abbrev pub stdin_sort : Request → Sort
stdin_sort (request.InputReply line) = sort.Input
stdin_sort (request.Execute e) = sort.Other
stdin_sort request.KernelInfo = sort.Other
stdin_sort (request.IsComplete code) = sort.Other
stdin_sort (request.Complete cursor) = sort.Other
stdin_sort request.Inspect = sort.Other
stdin_sort request.History = sort.Other
stdin_sort request.CommInfo = sort.Other
stdin_sort request.Interrupt = sort.Other
stdin_sort (request.Shutdown restart) = sort.Other
stdin_sort request.Other = sort.Other

-- what a message asks, by what a request on its channel does
abbrev pub content_sort : (Request → Sort) → Content → Sort
content_sort f (content.Request r) = f r
content_sort f (content.Output o) = sort.Other

-- what has to be done for an arrival
abbrev pub sort_as : What → Sort
sort_as what.Join = sort.Join
sort_as what.Leave = sort.Leave
sort_as (what.Shell m) = content_sort shell_sort m.content
sort_as (what.Control m) = content_sort control_sort m.content
sort_as (what.Stdin m) = content_sort stdin_sort m.content
