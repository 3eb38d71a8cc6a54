use Rattle.std.proofs.Common.{List, ◌++◌, sym, ap, subst}
use Rattle.std.specs.List.{AllByRecursion}
use Rattle.jk_log.specs.declared.entry.Entry.{Entry}
use Rattle.jk_board.specs.Boards.{StartsWith}
use Rattle.jk_board.specs.Ends.{news_of}
use Rattle.thread_tests.proofs.board_tests.end_all.Goals as goal

pub learn-ninth-requires : goal.learn-ninth-requires
learn-ninth-requires g c =
    let all : List Entry = news_of c.in_ok-news.field-0 in
    ((all, ap (λ l. l ++ all) (sym c.requires.0)), subst (AllByRecursion (StartsWith all)) (sym c.requires.1) tt)
