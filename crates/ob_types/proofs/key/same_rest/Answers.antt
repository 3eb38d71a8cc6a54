use Rattle.std.proofs.Common.{rules, ◌≡◌, ◌<◌, sym, take, length, true, false}
use Rattle.ob_types.specs.InterfaceText.{exports_text}
use Rattle.ob_types.specs.Numbered.{are_apart}
use Rattle.ob_types.proofs.Texts.{lines_differ, lines_missing}
use Rattle.ob_types.proofs.key.same_rest.Goals as goal

pub returns-then-branch : goal.returns-then-branch
returns-then-branch c =
    let apart : are_apart (exports_text (take 1 c.args.left.now)) (exports_text (take 1 c.args.right.now)) ≡ true = search rules in
    ((λ h. absurd (let k : false ≡ true = h in cc)), (λ e. absurd (lines_differ c.args.left.now c.args.right.now apart e)))

pub returns-in-empty-len1-up : goal.returns-in-empty-len1-up
returns-in-empty-len1-up c =
    let none : length c.args.left.now ≡ 0 = search rules in
    let some : 0 < length c.args.right.now = search rules in
    ((λ h. absurd (let k : false ≡ true = h in cc)), (λ e. absurd (lines_missing c.args.left.now c.args.right.now none some e)))

pub returns-in-len1-up-empty : goal.returns-in-len1-up-empty
returns-in-len1-up-empty c =
    let none : length c.args.right.now ≡ 0 = search rules in
    let some : 0 < length c.args.left.now = search rules in
    ((λ h. absurd (let k : false ≡ true = h in cc)), (λ e. absurd (lines_missing c.args.right.now c.args.left.now none some (sym e))))
