use Rattle.std.proofs.Common.{arith}
use Rattle.std.proofs.lemmas.Grind.{common_steps}
use Rattle.ob_inout.specs.Writing.{char_text}
use Rattle.ob_step.proofs.TextRows.{written_on}
use Rattle.ob_step.proofs.texts.write_text.Goals as goal

pub loop-i-preserved : goal.loop-i-preserved
unfolding char_text
loop-i-preserved c =
    let g = written_on c.args.row.now c.loop-i.i c.character_at-c.result c.character_at-c.ensures c.if-c-eq0.false in
    grind (arith, common_steps, g)
