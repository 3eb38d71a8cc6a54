use Rattle.std.proofs.Common.{◌≡◌, ◌||◌, ◌++◌, ◌∷◌, [], ◌<◌, ◌^◌, length, ap, ◌∙◌, subst}
use Rattle.std.specs.Str.{bytes_eq}
use Rattle.nb_doc.specs.Ids.{is_among}
use Rattle.nb_record.specs.Book.{new_id}
use Rattle.nb_record.specs.Steps.{fresh_cell}
use Rattle.nb_record.proofs.Follow.{appends}
use Rattle.nb_record.proofs.Readable.{appends_readable}
use Rattle.nb_record.proofs.pages.append.Goals as goal

pub returns-clause-ok : goal.returns-clause-ok
returns-clause-ok c =
    let xs = c.args.pages.now.notebook.cells in
    let few : length xs < 2 ^ 64 = subst (λ l. length l < 2 ^ 64) c.as_slice.ensures c.in_ok-id.ensures.few in
    let named : c.in_ok-id.id ≡ new_id xs c.args.wish = c.in_ok-id.ensures.id ∙ ap (λ l. new_id l c.args.wish) c.as_slice.ensures in
    let more = c.in_ok-push.ensures.ok ∙ ap (λ x. xs ++ x ∷ []) (c.fresh-cell.ensures ∙ ap (λ t. fresh_cell t c.args.source c.args.count) c.in_ok-copy.ensures) in
    appends c.args.pages.now c.push.new.self c.add.new.self c.args.wish c.in_ok-id.id c.args.source c.args.count c.requires.gone few named more
    (λ q. c.in_default.ensures.members q ∙ ap (λ s. bytes_eq q s || is_among c.args.pages.now.executed q) c.as_str.ensures)

pub returns-clause-readable : goal.returns-clause-readable
returns-clause-readable c =
    let xs = c.args.pages.now.notebook.cells in
    let few : length xs < 2 ^ 64 = subst (λ l. length l < 2 ^ 64) c.as_slice.ensures c.in_ok-id.ensures.few in
    let named : c.in_ok-id.id ≡ new_id xs c.args.wish = c.in_ok-id.ensures.id ∙ ap (λ l. new_id l c.args.wish) c.as_slice.ensures in
    let more = c.in_ok-push.ensures.ok ∙ ap (λ x. xs ++ x ∷ []) (c.fresh-cell.ensures ∙ ap (λ t. fresh_cell t c.args.source c.args.count) c.in_ok-copy.ensures) in
    appends_readable c.args.pages.now.notebook c.push.new.self c.args.wish c.in_ok-id.id c.args.source c.args.count few named more c.requires.readable
