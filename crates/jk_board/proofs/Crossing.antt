-- A follower may go to another thread, and so may news, whatever the language.
use denote.Param.Send.{IsSend, IsSync, sendable}
use denote.RattleType.{RattleType}
use Rattle.std.proofs.Crossing.{crosses}
use Rattle.left_right.proofs.reader.Reader.TheSendSync as reader
use Rattle.jk_language.specs.declared.language.Language as language
use Rattle.jk_log.proofs.Crossing.{entry_send, entry_sync}
use Rattle.jk_board.proofs.posted.Row.TheSendSync as row
use Rattle.jk_board.specs.contracts.posted.Publication as Publication
use Rattle.jk_board.specs.contracts.posted.Posted as Posted
use Rattle.jk_board.specs.contracts.marks.Marks as Marks
use Rattle.jk_board.specs.contracts.marks.Mark as Mark
use Rattle.jk_board.specs.contracts.follower.Follower as Follower
use Rattle.jk_board.specs.contracts.news.News as News

publication_send : IsSend Publication.the_row
publication_send = search (entry_send, entry_sync, crosses, sendable) depth 60 fits 20000

publication_sync : IsSync Publication.the_row
publication_sync = search (entry_send, entry_sync, crosses, sendable) depth 60 fits 20000

posted_sync : IsSync Posted.the_row
posted_sync = search (publication_send, publication_sync, row.the_send, row.the_sync, crosses, sendable) depth 60 fits 20000

marks_send : IsSend Marks.the_row
marks_send = search (crosses, sendable) depth 60 fits 20000

marks_sync : IsSync Marks.the_row
marks_sync = search (crosses, sendable) depth 60 fits 20000

mark_send : IsSend Mark.the_row
mark_send = search (marks_send, marks_sync, crosses, sendable) depth 60 fits 20000

pub follower_send : (L S T M : RattleType) (g : language.Ghosts L.Denot S.Denot T.Denot M.Denot) → IsSend (Follower.the_row L S T M g)
follower_send L S T M g = search (posted_sync, mark_send, reader.the_field_send, crosses, sendable) depth 60 fits 20000

pub news_send : (L S T M : RattleType) (g : language.Ghosts L.Denot S.Denot T.Denot M.Denot) → IsSend (News.the_row L S T M g)
news_send L S T M g = search (posted_sync, reader.the_field_send, crosses, sendable) depth 60 fits 20000
