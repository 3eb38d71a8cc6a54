use Rattle.std.proofs.Common.{◌≡◌, ◌-◌, ◌≤◌, List, take, drop, sym, ap, ◌∙◌, subst, arith}
use Rattle.jk_log.specs.declared.entry.Entry.{Entry}
use Rattle.left_right.specs.Sides.{view}
use Rattle.jk_board.specs.declared.posted.Posted.{Posted}
use Rattle.jk_board.specs.declared.rule.Seen.{Seen}
use Rattle.jk_board.specs.Posted.{held_of, Shows}
use Rattle.jk_board.specs.Boards.{StartsWith}
use Rattle.jk_board.proofs.Copying.{read_on}
use Rattle.jk_board.proofs.Dropping.{found_next}
use Rattle.jk_board.proofs.Growing.{looks}
use Rattle.jk_board.proofs.follower.Follower.read.Goals as goal

pub enter_as-requires : goal.enter_as-requires
enter_as-requires g c x = looks g.L.Language.spoken _ _ x

pub returns-in-Some-clause-read : goal.returns-in-Some-clause-read
returns-in-Some-clause-read g c =
    let place = c.args.self.place in
    let max = c.args.max in
    let b : Posted = c.in-Ok.reading.part.value in
    let old : List Entry = (view c.args.self.reader.place).seen in
    let found : List Entry = (view c.leave-reader.result.place).seen in
    let then = c.in-Ok.ensures.1 in
    let is : found ≡ (view c.in-Ok.reading.place).seen = ap (λ (s : Seen). s.seen) c.leave-reader.ensures.1 in
    let starts : StartsWith found old = subst (λ (all : List Entry). StartsWith all old) (sym is) then.2.0 in
    let shows : Shows found b = subst (λ (all : List Entry). Shows all b) (sym is) then.1 in
    let few : b.dropped ≤ place = subst (λ (p : Posted). p.dropped ≤ place) c.get.ensures c.in-Ok-found.ensures.there in
    let got : c.in-Ok-found.entries.items ≡ take max (drop place found) =
    found_next found c.in-Ok-found.entries.items b place max shows few (c.in-Ok-found.ensures.next ∙ ap (λ (p : Posted). take max (drop (place - p.dropped) (held_of p))) c.get.ensures) in
    read_on old found c.in-Ok-found.entries.items place c.in-Some.place max c.len.result c.args.self.within starts got (omega arith) c.in-Some.ensures.1
