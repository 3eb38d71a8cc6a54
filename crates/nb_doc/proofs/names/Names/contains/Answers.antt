use Rattle.std.proofs.Common.{sym, ap, ◌∙◌}
use Rattle.nb_doc.specs.Ids.{is_among}
use Rattle.nb_doc.proofs.Among.{among_set}
use Rattle.nb_doc.proofs.names.Names.contains.Goals as goal

pub returns : goal.returns
returns c = c.contains.ensures ∙ sym (among_set c.args.name.now c.self.inside.names) ∙ ap (λ s. is_among s c.args.name.now) c.self.view_is
