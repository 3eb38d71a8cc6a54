use Rattle.std.proofs.Common.{◌≡◌, ℕ, [], ◌++◌, List, length, sym, ap, ◌∙◌, append-nil, arith, vec_len}
use Rattle.std.proofs.lemmas.Bool.{eqb-true}
use Rattle.std.proofs.lemmas.List.{nil_from_length}
use Rattle.jk_log.specs.declared.entry.Entry.{Entry}
use Rattle.jk_board.specs.Ends.{published}
use Rattle.jk_run.proofs.board.publish.Goals as goal

pub returns-then-is_empty-clause-published : goal.returns-then-is_empty-clause-published
returns-then-is_empty-clause-published g c =
    let all : List Entry = published c.args.publisher in
    let count : vec_len c.args.entries ≡ 0 = eqb-true (vec_len c.args.entries) 0 (sym c.is_empty.ensures ∙ c.if-is_empty.true) in
    let none : c.args.entries.items ≡ [] = nil_from_length c.args.entries.items (omega (arith, count, c.args.entries.ok.0)) in
    c.let_go.ensures.published ∙ sym (append-nil all) ∙ ap (λ (l : List Entry). all ++ l) (sym none)
