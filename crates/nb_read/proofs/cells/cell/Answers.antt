use Rattle.std.proofs.Common.{Some, ap, sym, ◌∙◌}
use Rattle.nb_read.proofs.cells.cell.Goals as goal

pub returns : goal.returns
returns c = (
  record { metadata = c.in_ok-metadata.ensures; source = c.in_ok-source.ensures; content = c.in_ok-content.ensures },
  c.in_ok-given.ensures ∙ ap Some (sym c.in_ok-id.ensures),
)
