use Rattle.std.proofs.Common.{rules}
use Rattle.nb_text.specs.Joined.{MayFollow}
use Rattle.nb_text.proofs.Apart.{stay_step, stay_end}
use Rattle.nb_text.proofs.joined.are_joined.Goals as goal

pub loop-output-preserved : goal.loop-output-preserved
loop-output-preserved c =
    let apart : MayFollow c.loop-output.last c.output-item.result = search rules in
    λ rest. stay_step c.loop-output.last c.args.outputs.now c.loop-output.output-index c.output-item.result c.loop-output-test.true c.output-item.is apart c.loop-output.invariant rest

pub returns : goal.returns
returns c = λ _. stay_end c.loop-output.last c.args.outputs.now c.loop-output.output-index c.loop-output-test.false c.loop-output.invariant
