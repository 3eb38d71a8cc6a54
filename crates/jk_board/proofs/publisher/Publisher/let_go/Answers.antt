use Rattle.std.proofs.Common.{◌≡◌, ◌∷◌, [], ◌++◌, List, drop, sym, ap, ◌∙◌, subst, append-nil}
use Rattle.left_right.specs.Sides.{view}
use Rattle.jk_log.specs.declared.entry.Entry.{Entry}
use Rattle.jk_board.specs.declared.posted.Posted.{Posted}
use Rattle.jk_board.specs.declared.publisher.Replace.{Replace}
use Rattle.jk_board.specs.Posted.{Follows, Shows}
use Rattle.jk_board.specs.Boards.{StartsWith, IsBoard}
use Rattle.jk_board.proofs.Growing.{one_pending, published_next}
use Rattle.jk_board.proofs.publisher.Publisher.let_go.Goals as goal

pub show_next-copies-requires-clause-pending : goal.show_next-copies-requires-clause-pending
show_next-copies-requires-clause-pending g c =
    let spoken = g.L.Language.spoken in
    let place = c.least_place-read.result in
    let copies = c.args.self.copies in
    let seen : List Entry = (view copies.desk.place).seen in
    let next : Replace = record { posted = c.in-Ok.posted } in
    let follows : Follows place [] copies.desk.shown.value c.in-Ok.posted = subst (λ (b : Posted). Follows place [] b c.in-Ok.posted) c.published.ensures c.in-Ok.ensures.follows in
    one_pending spoken place seen (view c.append.new.self.desk.place).seen [] copies.desk.shown.value next (drop copies.behind copies.log.items) (drop c.append.new.self.behind c.append.new.self.log.items)
    (λ i. (view (c.in-Ok-append.ensures.desk i).place).seen) c.args.self.nothing_pending c.in-Ok-append.ensures.pending c.args.self.saw_all follows (λ legal. subst (IsBoard spoken) (sym (append-nil seen)) legal)

pub returns-in-Ok-append-clause-published : goal.returns-in-Ok-append-clause-published
returns-in-Ok-append-clause-published g c =
    let place = c.least_place-read.result in
    let copies = c.args.self.copies in
    let seen : List Entry = (view copies.desk.place).seen in
    let next : Replace = record { posted = c.in-Ok.posted } in
    let now : List Entry = (view c.show_next-copies.result.desk.place).seen in
    let same : (view c.append.new.self.desk.place).seen ≡ seen = λ i. (view (c.in-Ok-append.ensures.desk i).place).seen in
    let follows : Follows place [] copies.desk.shown.value c.in-Ok.posted = subst (λ (b : Posted). Follows place [] b c.in-Ok.posted) c.published.ensures c.in-Ok.ensures.follows in
    let starts : StartsWith now seen = subst (λ (l : List Entry). StartsWith now l) same c.show_next-copies.ensures.later in
    let there : Shows now c.in-Ok.posted = c.show_next-copies.ensures.shown next (c.in-Ok-append.ensures.pending ∙ ap (λ (l : List Replace). l ++ next ∷ []) c.args.self.nothing_pending) in
    published_next place seen [] now copies.desk.shown.value c.in-Ok.posted c.args.self.saw_all follows starts there ∙ append-nil seen
