use Rattle.std.proofs.Common.{rules, ◌≡◌, true}
use Rattle.ob_types.specs.Numbered.{passed_alike}
use Rattle.ob_types.proofs.Signatures.{signature_same}
use Rattle.ob_types.proofs.alike.same_signature.Goals as goal

pub returns-then-passed_alike : goal.returns-then-passed_alike
returns-then-passed_alike c = λ r e.
    let alike : passed_alike c.args.left.now.formals c.args.right.now.formals ≡ true = search rules in
    signature_same c.args.left.now c.args.right.now alike (c.same_result.ensures r) e
