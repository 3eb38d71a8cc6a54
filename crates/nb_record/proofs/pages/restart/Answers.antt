use Rattle.std.proofs.Common.{◌||◌, ap, ◌∙◌}
use Rattle.std.specs.Str.{bytes_eq}
use Rattle.nb_doc.specs.Ids.{is_among}
use Rattle.nb_record.proofs.Follow.{restarts}
use Rattle.nb_record.proofs.Readable.{restarts_readable}
use Rattle.nb_record.proofs.pages.restart.Goals as goal

pub returns-clause-ok : goal.returns-clause-ok
returns-clause-ok c =
    restarts c.args.pages.now c.begin_at.new.cells c.add.new.self c.args.id c.args.source c.args.count c.args.place c.requires.there c.requires.readable.distinct c.begin_at.ensures
    (λ q. c.in_ok-add.ensures.members q ∙ ap (λ s. bytes_eq q s || is_among c.args.pages.now.executed q) c.as_str.ensures)

pub returns-clause-readable : goal.returns-clause-readable
returns-clause-readable c = restarts_readable c.args.pages.now.notebook c.begin_at.new.cells c.args.id c.args.source c.args.count c.args.place c.requires.there c.requires.readable c.begin_at.ensures
