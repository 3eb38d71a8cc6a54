use Rattle.std.proofs.Common.{◌≡◌, ◌≤◌, drop}
use Rattle.ob_session.specs.Cells as cells
use Rattle.ob_link.proofs.looking.command_place.Given as goal

abbrev pub invariant-loop-exported : goal.invariant-loop-exported
invariant-loop-exported l = record {
  few : l.place ≤ l.exported-index;
  rest : cells.command_place l.exports l.name 0 ≡ cells.command_place (drop l.exported-index l.exports) l.name l.place;
}
