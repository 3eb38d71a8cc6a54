use Rattle.std.proofs.Common.{◌&&◌, not, sym, ap, ◌∙◌}
use Rattle.std.specs.Str.{bytes_eq}
use Rattle.nb_doc.specs.Ids.{is_among}
use Rattle.nb_doc.proofs.Among.{among_set, removed_members}
use Rattle.nb_doc.proofs.names.Names.remove.Goals as goal

pub returns-clause-found : goal.returns-clause-found
returns-clause-found c = c.remove.ensures.test ∙ sym (among_set c.args.name.now c.self.inside.names) ∙ ap (λ s. is_among s c.args.name.now) c.self.view_is

pub returns-clause-members : goal.returns-clause-members
returns-clause-members c =
    λ id. removed_members c.args.name.now c.self.inside.names c.remove.new.self c.remove.ensures.updates id ∙ ap (λ s. not (bytes_eq id c.args.name.now) && is_among s id) c.self.view_is
