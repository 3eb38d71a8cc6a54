use Rattle.std.proofs.Common.{◌∙◌, sym, ⊎_elim}
use Rattle.ob_step.proofs.TextRows.{both_on, differ_on}
use Rattle.ob_step.proofs.texts.compare.Goals as goal

pub loop-i-preserved : goal.loop-i-preserved
loop-i-preserved c =
    let b = both_on c.args.first.now c.args.second.now c.loop-i.i c.character_at-a.result c.character_at-b.result c.character_at-a.ensures c.character_at-b.ensures c.if-a-b.false c.if-a-eq0.false in
    record { equal = c.loop-i.invariant.equal ∙ b.0; less = c.loop-i.invariant.less ∙ b.1 }

pub returns-then-a-b-clause-equal : goal.returns-then-a-b-clause-equal
returns-then-a-b-clause-equal c =
    let d = differ_on c.args.first.now c.args.second.now c.loop-i.i c.character_at-a.result c.character_at-b.result c.character_at-a.ensures c.character_at-b.ensures
    (λ same more. ⊎_elim (λ n. n same) (λ z. more z.1) c.then-a-b.either) in
    sym (c.loop-i.invariant.equal ∙ d.0)

pub returns-then-a-b-clause-less : goal.returns-then-a-b-clause-less
returns-then-a-b-clause-less c =
    let d = differ_on c.args.first.now c.args.second.now c.loop-i.i c.character_at-a.result c.character_at-b.result c.character_at-a.ensures c.character_at-b.ensures
    (λ same more. ⊎_elim (λ n. n same) (λ z. more z.1) c.then-a-b.either) in
    sym (c.loop-i.invariant.less ∙ d.1)
