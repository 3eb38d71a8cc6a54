use Rattle.std.proofs.Common.{◌≡◌, ◌+◌, List, length, sym, ap, ◌∙◌, subst}
use Rattle.jk_log.specs.declared.entry.Entry.{Entry}
use Rattle.left_right.specs.Sides.{view}
use Rattle.jk_board.specs.declared.posted.Posted.{Posted}
use Rattle.jk_board.specs.declared.rule.Seen.{Seen}
use Rattle.jk_board.specs.Posted.{held_of, Shows}
use Rattle.jk_board.specs.Boards.{StartsWith}
use Rattle.jk_board.proofs.Copying.{passed_on}
use Rattle.jk_board.proofs.Dropping.{all_passed}
use Rattle.jk_board.proofs.Growing.{looks}
use Rattle.jk_board.proofs.follower.Follower.pass.Goals as goal

pub enter_as-requires : goal.enter_as-requires
enter_as-requires g c x = looks g.L.Language.spoken _ _ x

pub returns-in-Ok-clause-more : goal.returns-in-Ok-clause-more
returns-in-Ok-clause-more g c =
    let old : List Entry = (view c.args.self.reader.place).seen in
    let found : List Entry = (view c.leave-reader.result.place).seen in
    let then = c.in-Ok.ensures.1 in
    let is : found ≡ (view c.in-Ok.reading.place).seen = ap (λ (s : Seen). s.seen) c.leave-reader.ensures.1 in
    let starts : StartsWith found old = subst (λ (all : List Entry). StartsWith all old) (sym is) then.2.0 in
    let shows : Shows found c.in-Ok.reading.part.value = subst (λ (all : List Entry). Shows all c.in-Ok.reading.part.value) (sym is) then.1 in
    passed_on old found _ c.args.self.place starts
    (all_passed found c.in-Ok.reading.part.value c.end-end.result shows (c.end-end.ensures ∙ ap (λ (b : Posted). b.dropped + length (held_of b)) c.get.ensures))
