use Rattle.std.proofs.Common.{◌∷◌, [], ◌++◌, sym, ap, ◌∙◌, take, arith}
use Rattle.ob_image.specs.CommandsCode.{calls_body}
use Rattle.ob_load.proofs.Called.{calls_next}
use Rattle.ob_load.proofs.commands.commands_tree.Goals as goal

pub loop-call-preserved : goal.loop-call-preserved
loop-call-preserved c =
    let calls = c.args.calls.now in
    let n = c.loop-call.call-index in
    c.in_ok-push.ensures.ok ∙ ap (λ b. b ++ c.call_of.result ∷ []) c.loop-call.invariant
    ∙ ap (λ s. calls_body (take n calls) ++ s ∷ []) c.call_of.ensures
    ∙ sym (calls_next calls n (0, 0) (omega (arith, c.loop-call-test.true)))
