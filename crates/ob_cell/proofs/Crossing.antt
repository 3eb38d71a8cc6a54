-- The tree of a text may go to another thread.
use denote.Param.Send.{IsSend, sendable}
use Rattle.ob_tree.proofs.Crossing.{cell_field_send}
use Rattle.ob_cell.specs.contracts.tree.Tree as Tree

pub tree_send : IsSend Tree.the_row
tree_send = search (cell_field_send, sendable)
