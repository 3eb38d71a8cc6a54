use Rattle.std.proofs.Common.{ap, ◌∙◌, map}
use Rattle.ob_gen.specs.Generated.{heading_entry}
use Rattle.ob_table.specs.Tables.{cells_in}
use Rattle.ob_gen.proofs.emitting.Generated.{cells_zeros, list_done}
use Rattle.ob_gen.proofs.compile.entries_of.Goals as goal

pub returns : goal.returns
returns c = record {
  cells = c.cells.ensures ∙ ap cells_in c.in_ok-variables.ensures ∙ cells_zeros c.args.face.now.variables;
  exported = list_done heading_entry c.as_slice-headings.result.now c.loop-heading.heading-index c.loop-heading.exported.items c.loop-heading-test.false c.loop-heading.invariant ∙ ap (map heading_entry) c.as_slice-headings.ensures;
}
