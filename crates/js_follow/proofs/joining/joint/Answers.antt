use Rattle.std.proofs.Common.{◌∙◌}
use Rattle.nb_record.proofs.Follow.{notebook_of}
use Rattle.js_follow.proofs.Joints.{joint_value, joint_document}
use Rattle.js_follow.proofs.joining.joint.Goals as goal

pub returns-clause-value : goal.returns-clause-value
returns-clause-value c =
    joint_value c.args.known.now c.args.own.now c.args.theirs c.in_ok-known_ids.known_ids c.in_ok-their_ids.their_ids c.as_slice.result.now c.as_slice-3.result.now c.as_slice-own.result.now c.as_slice-2.result.now
    c.in_ok-cells.cells.items c.new.result c.as_slice.ensures c.as_slice-3.ensures c.as_slice-own.ensures c.as_slice-2.ensures c.in_ok-known_ids.ensures c.in_ok-their_ids.ensures c.in_ok-cells.ensures
    (c.new.ensures ∙ c.in_ok-cells-2.ensures)

pub returns-clause-document : goal.returns-clause-document
returns-clause-document c =
    let value = joint_value c.args.known.now c.args.own.now c.args.theirs c.in_ok-known_ids.known_ids c.in_ok-their_ids.their_ids c.as_slice.result.now c.as_slice-3.result.now c.as_slice-own.result.now c.as_slice-2.result.now
    c.in_ok-cells.cells.items c.new.result c.as_slice.ensures c.as_slice-3.ensures c.as_slice-own.ensures c.as_slice-2.ensures c.in_ok-known_ids.ensures c.in_ok-their_ids.ensures c.in_ok-cells.ensures
    (c.new.ensures ∙ c.in_ok-cells-2.ensures) in
    (joint_document c.args.known.now c.args.own.now c.args.theirs (notebook_of c.new.result c.args.theirs.metadata) value c.requires.own_document c.requires.own_shallow c.requires.document c.requires.shallow).0

pub returns-clause-shallow : goal.returns-clause-shallow
returns-clause-shallow c =
    let value = joint_value c.args.known.now c.args.own.now c.args.theirs c.in_ok-known_ids.known_ids c.in_ok-their_ids.their_ids c.as_slice.result.now c.as_slice-3.result.now c.as_slice-own.result.now c.as_slice-2.result.now
    c.in_ok-cells.cells.items c.new.result c.as_slice.ensures c.as_slice-3.ensures c.as_slice-own.ensures c.as_slice-2.ensures c.in_ok-known_ids.ensures c.in_ok-their_ids.ensures c.in_ok-cells.ensures
    (c.new.ensures ∙ c.in_ok-cells-2.ensures) in
    (joint_document c.args.known.now c.args.own.now c.args.theirs (notebook_of c.new.result c.args.theirs.metadata) value c.requires.own_document c.requires.own_shallow c.requires.document c.requires.shallow).1
