use Rattle.std.proofs.Common.{Some, ap, sym, ◌∙◌}
use Rattle.nb_read.proofs.outputs.stream.Goals as goal

pub returns : goal.returns
returns c = record { kind = c.requires; name_is = c.in_ok-given.ensures ∙ ap Some (sym c.in_ok-name.ensures); text_is = c.in_ok-text.ensures }
