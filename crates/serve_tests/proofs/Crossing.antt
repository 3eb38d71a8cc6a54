-- What a thread of a server of the small language is given may go to it.
use denote.Param.Send.{IsSend}
use denote.Struct.Field.{u8-field}
use Rattle.test_meaning.specs.contracts.text.Text as Tree
use Rattle.test_meaning.proofs.text.Text.TheSendSync as tree
use Rattle.test_language.specs.contracts.language.TestLanguage as Texts
use Rattle.test_language.specs.contracts.machine.Machine as Machine
use Rattle.test_language.specs.contracts.language.TestLanguageLanguage.TheImpl as texts
use Rattle.js_serve.specs.contracts.job.Job as Job
use Rattle.js_drive.specs.contracts.parser.Parser as Parser
use Rattle.js_serve.proofs.Crossing.{job_send}
use Rattle.js_drive.proofs.Crossing.{parser_send}

pub texts_job_send : IsSend (Job.the_row Texts.the_row u8-field.row Tree.the_row Machine.the_row texts.ghosts)
texts_job_send = job_send Texts.the_row u8-field.row Tree.the_row Machine.the_row texts.ghosts

pub texts_parser_send : IsSend (Parser.the_row Texts.the_row u8-field.row Tree.the_row Machine.the_row texts.ghosts)
texts_parser_send = parser_send Texts.the_row u8-field.row Tree.the_row Machine.the_row texts.ghosts tree.the_send
