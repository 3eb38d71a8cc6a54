use Rattle.std.proofs.Common.{◌≡◌, true, false, rules}
use Rattle.js_shelf.proofs.RefusalLemmas.{is_good}
use Rattle.js_files.proofs.DeviceLemmas.{AreMoved, move_missing, move_exists, move_done}
use Rattle.js_files.proofs.file.move_to.Goals as goal

pub returns-then-not-branch : goal.returns-then-not-branch
returns-then-not-branch g c =
    let good_from : true ≡ is_good c.args.from.now = search rules in
    let good_to : true ≡ is_good c.args.to.now = search rules in
    let goes : c.in_ok-is_movable.field-0 ≡ false = search rules in
    let places : AreMoved c.args.from.now c.args.to.now c.in_ok-source.source c.in_ok-target.target c.in_ok-folder.folder =
    record { is_from = c.in_ok-source.ensures; is_to = c.in_ok-target.ensures; is_parent = c.in_ok-folder.ensures; good_from = good_from; good_to = good_to } in
    move_missing _ _ _ c.args.from.now c.args.to.now c.in_ok-source.source c.in_ok-target.target c.in_ok-folder.folder places
    (rw c.if-branch.false at c.in_ok-is_into_itself.ensures) (rw goes at c.in_ok-is_movable.ensures)

pub returns-then-branch-2 : goal.returns-then-branch-2
returns-then-branch-2 g c =
    let good_from : true ≡ is_good c.args.from.now = search rules in
    let good_to : true ≡ is_good c.args.to.now = search rules in
    let goes : c.in_ok-is_movable.field-0 ≡ true = search rules in
    let places : AreMoved c.args.from.now c.args.to.now c.in_ok-source.source c.in_ok-target.target c.in_ok-folder.folder =
    record { is_from = c.in_ok-source.ensures; is_to = c.in_ok-target.ensures; is_parent = c.in_ok-folder.ensures; good_from = good_from; good_to = good_to } in
    move_exists _ _ _ _ c.args.from.now c.args.to.now c.in_ok-source.source c.in_ok-target.target c.in_ok-folder.folder places
    (rw c.if-branch.false at c.in_ok-is_into_itself.ensures) (rw goes at c.in_ok-is_movable.ensures) (rw c.if-branch-2.true at c.in_ok-is_taken.ensures)

pub returns : goal.returns
returns g c =
    let good_from : true ≡ is_good c.args.from.now = search rules in
    let good_to : true ≡ is_good c.args.to.now = search rules in
    let goes : c.in_ok-is_movable.field-0 ≡ true = search rules in
    let places : AreMoved c.args.from.now c.args.to.now c.in_ok-source.source c.in_ok-target.target c.in_ok-folder.folder =
    record { is_from = c.in_ok-source.ensures; is_to = c.in_ok-target.ensures; is_parent = c.in_ok-folder.ensures; good_from = good_from; good_to = good_to } in
    move_done _ _ _ _ _ c.args.from.now c.args.to.now c.in_ok-source.source c.in_ok-target.target c.in_ok-folder.folder places
    (rw c.if-branch.false at c.in_ok-is_into_itself.ensures) (rw goes at c.in_ok-is_movable.ensures) (rw c.if-branch-2.false at c.in_ok-is_taken.ensures) c.in_ok-move_item.ensures
