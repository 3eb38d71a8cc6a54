use Rattle.std.proofs.Common.{◌≡◌, ap, ◌∙◌}
use Rattle.std.specs.Prelude.{slice_set}
use Rattle.nb_doc.specs.declared.notebook.Cell.{Cell}
use Rattle.nb_record.specs.Steps.{begun_cell}
use Rattle.nb_record.proofs.Lists.{set_back, one_there}
use Rattle.nb_record.proofs.cells.begin_at.Goals as goal

pub returns : goal.returns
returns c =
    λ x at.
    let was = c.replace-id.result in
    let cell : Cell = record { id = was.id; metadata = was.metadata; source = c.args.source; content = c.started.result } in
    let begun : cell ≡ begun_cell c.args.source c.args.count was = ap (λ t. record { id = was.id; metadata = was.metadata; source = c.args.source; content = t }) c.started.ensures in
    set_back c.args.cells.now c.replace-id.new.self c.replace-blank.new.self c.args.place c.blank.result cell c.replace-id.ensures.new c.replace-blank.ensures.new
    ∙ ap (slice_set c.args.cells.now c.args.place) (begun ∙ ap (begun_cell c.args.source c.args.count) (one_there c.args.cells.now c.args.place was x c.replace-id.ensures.old at))
