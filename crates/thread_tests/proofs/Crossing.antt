-- The ends of a board and of a pool over the small language may go to another thread.
use denote.Param.Send.{IsSend, sendable}
use denote.Struct.Field.{u8-field}
use Rattle.test_meaning.specs.contracts.text.Text as Tree
use Rattle.test_meaning.proofs.text.Text.TheSendSync as tree
use Rattle.test_language.specs.contracts.language.TestLanguage as Texts
use Rattle.test_language.specs.contracts.machine.Machine as Machine
use Rattle.test_language.specs.contracts.language.TestLanguageLanguage.TheImpl as texts
use Rattle.jk_log.specs.contracts.job.ParsedCell as ParsedCell
use Rattle.jk_log.proofs.job.ParsedCell.TheSendSync as parsed
use Rattle.jk_queues.specs.contracts.pool.WorkerEnd as WorkerEnd
use Rattle.jk_queues.proofs.pool.WorkerEnd.TheSendSync as end
use Rattle.jk_board.specs.contracts.follower.Follower as Follower
use Rattle.jk_board.proofs.Crossing.{follower_send}

pub texts_follower_send : IsSend (Follower.the_row Texts.the_row u8-field.row Tree.the_row Machine.the_row texts.ghosts)
texts_follower_send = follower_send Texts.the_row u8-field.row Tree.the_row Machine.the_row texts.ghosts

pub texts_worker_send : IsSend (WorkerEnd.the_row (ParsedCell.the_row Texts.the_row u8-field.row Tree.the_row Machine.the_row texts.ghosts))
texts_worker_send = end.the_send _ (parsed.the_send Texts.the_row u8-field.row Tree.the_row Machine.the_row texts.ghosts tree.the_send)
