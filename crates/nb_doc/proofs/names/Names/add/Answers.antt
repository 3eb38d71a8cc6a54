use Rattle.std.proofs.Common.{◌||◌, not, string_bytes, sym, ap, ap₂, ◌∙◌}
use Rattle.std.specs.Str.{bytes_eq}
use Rattle.nb_doc.specs.Ids.{is_among}
use Rattle.nb_doc.proofs.Among.{among_set, added_members}
use Rattle.nb_doc.proofs.names.Names.add.Goals as goal

pub returns-clause-new : goal.returns-clause-new
returns-clause-new c =
    c.in_ok-new.ensures.added
    ∙ ap not (sym (among_set (string_bytes c.in_ok-from_str.field-0) c.self.inside.names) ∙ ap₂ is_among c.self.view_is c.in_ok-from_str.ensures.ok)

pub returns-clause-members : goal.returns-clause-members
returns-clause-members c =
    λ id. added_members (string_bytes c.in_ok-from_str.field-0) c.self.inside.names c.insert.new.self c.in_ok-new.ensures.updates id
    ∙ ap₂ (λ b s. bytes_eq id b || is_among s id) c.in_ok-from_str.ensures.ok c.self.view_is
