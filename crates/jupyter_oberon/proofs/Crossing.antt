-- What a thread of a server of Oberon is given may go to it.
use denote.Param.Send.{IsSend}
use Rattle.ob_cell.specs.contracts.tree.Tree as Tree
use Rattle.ob_cell.proofs.Crossing.{tree_send}
use Rattle.ob_load.specs.contracts.machine.Machine as Machine
use Rattle.ob_load.specs.contracts.session.Session as Session
use Rattle.ob_language.specs.contracts.oberon.Oberon as Oberon
use Rattle.ob_language.specs.contracts.oberon.OberonLanguage.TheImpl as oberon
use Rattle.js_serve.specs.contracts.job.Job as Job
use Rattle.js_drive.specs.contracts.parser.Parser as Parser
use Rattle.js_serve.proofs.Crossing.{job_send}
use Rattle.js_drive.proofs.Crossing.{parser_send}

pub oberon_job_send : IsSend (Job.the_row Oberon.the_row Session.the_row Tree.the_row Machine.the_row oberon.ghosts)
oberon_job_send = job_send Oberon.the_row Session.the_row Tree.the_row Machine.the_row oberon.ghosts

pub oberon_parser_send : IsSend (Parser.the_row Oberon.the_row Session.the_row Tree.the_row Machine.the_row oberon.ghosts)
oberon_parser_send = parser_send Oberon.the_row Session.the_row Tree.the_row Machine.the_row oberon.ghosts tree_send
