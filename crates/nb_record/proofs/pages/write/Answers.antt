use Rattle.std.proofs.Common.{◌≡◌, sym, ap₂, ◌∙◌}
use Rattle.nb_record.specs.Book.{has_code}
use Rattle.nb_record.proofs.Follow.{found_as, wrote_there, wrote_gone}
use Rattle.nb_record.proofs.Readable.{wrote_readable}
use Rattle.nb_record.proofs.pages.write.Goals as goal

pub returns-in-None-clause-ok : goal.returns-in-None-clause-ok
returns-in-None-clause-ok c = wrote_gone c.args.pages.now c.in-Some.id c.args.output c.in-Some.is (sym (ap₂ has_code c.as_slice.ensures c.as_str.ensures) ∙ c.in-None.ensures)

pub returns-in-Some-code_place-clause-ok : goal.returns-in-Some-code_place-clause-ok
returns-in-Some-code_place-clause-ok c =
    wrote_there c.args.pages.now c.write_at.new.cells c.in-Some.id c.args.output c.in-Some-code_place.place c.write_at.result c.in-Some.is
    (found_as c.as_slice.result.now c.args.pages.now.notebook.cells c.as_str.result.now c.in-Some.id c.in-Some-code_place.place c.as_slice.ensures c.as_str.ensures c.in-Some-code_place.ensures) c.requires.readable.distinct c.write_at.ensures.ok

pub returns-in-Some-code_place-clause-readable : goal.returns-in-Some-code_place-clause-readable
returns-in-Some-code_place-clause-readable c =
    wrote_readable c.args.pages.now.notebook c.write_at.new.cells c.in-Some.id c.args.output c.in-Some-code_place.place c.write_at.result
    (found_as c.as_slice.result.now c.args.pages.now.notebook.cells c.as_str.result.now c.in-Some.id c.in-Some-code_place.place c.as_slice.ensures c.as_str.ensures c.in-Some-code_place.ensures) c.requires.readable c.requires.output c.write_at.ensures.ok c.write_at.ensures.err
