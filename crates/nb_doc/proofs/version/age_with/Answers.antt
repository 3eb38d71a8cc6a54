use Rattle.std.proofs.Common.{Some, sym, ap, ◌∙◌}
use Rattle.nb_doc.specs.Reading.{age_by}
use Rattle.nb_doc.proofs.version.age_with.Goals as goal

pub returns-in-Some : goal.returns-in-Some
returns-in-Some c = c.age.ensures ∙ ap (λ o. age_by (Some c.args.major) o) (sym c.in-Some.is ∙ c.number.ensures)
