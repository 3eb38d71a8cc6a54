use Rattle.nb_record.proofs.Lists.{wrote_back, left_back}
use Rattle.nb_record.proofs.cells.write_at.Goals as goal

pub returns-clause-ok : goal.returns-clause-ok
returns-clause-ok c =
    wrote_back c.args.cells.now c.replace-cell.new.self c.replace-blank.new.self c.args.place c.args.output c.blank.result c.replace-cell.result c.written-cell.result.0 c.written-cell.result.1 c.replace-cell.ensures.new c.replace-cell.ensures.old
    c.replace-blank.ensures.new c.written-cell.ensures.ok

pub returns-clause-err : goal.returns-clause-err
returns-clause-err c =
    left_back c.args.cells.now c.replace-cell.new.self c.replace-blank.new.self c.args.place c.blank.result c.replace-cell.result c.written-cell.result.0 c.written-cell.result.1 c.replace-cell.ensures.new c.replace-cell.ensures.old
    c.replace-blank.ensures.new c.written-cell.ensures.err
