use Rattle.std.proofs.Common.{◌≡◌, ◌∙◌, [], ◌∷◌, ◌++◌, ap, subst, rules, to_z, of_z, to_z-of_z, SFits, w32}
use Rattle.std.specs.Prelude.{OnOk}
use Rattle.ob_mean.specs.declared.operator.Operator.TheVariants.{Plus}
use Rattle.ob_code.specs.declared.instr.Instr.TheVariants as instr
use Rattle.ob_gen.specs.Code.{line, root_of}
use Rattle.ob_gen.specs.Known.{names_in}
use Rattle.ob_gen.proofs.emitting.Sequences.{four_more}
use Rattle.ob_gen.proofs.statement.emit_for_step.Goals as goal

pub returns-clause-code : goal.returns-clause-code
returns-clause-code c =
    let base = c.args.code.now.items in
    let step = c.args.head.now.step in
    let fits : SFits w32 step = search rules in
    let read : to_z w32 (of_z w32 step) ≡ step = to_z-of_z fits in
    let p = line 1 0 (instr.Push step) in
    let q = line 1 0 (instr.Push (to_z w32 (of_z w32 step))) in
    let o = line 2 0 (instr.Operate Plus 0) in
    subst (λ l. OnOk c.put-4.result (c.put-4.new.code.items ≡ l))
    (four_more base _ _ _ _ q o _ c.in_ok-put.ensures.code c.in_ok-put-2.ensures.code c.in_ok-put-3.ensures.code
    ∙ ap (λ z. base ++ (line 0 0 (instr.Load c.root_of.result) ∷ (line 1 0 (instr.Push z) ∷ (o ∷ (line 1 0 (instr.Store c.root_of-2.result) ∷ []))))) read
    ∙ ap (λ r. base ++ (line 0 0 (instr.Load r) ∷ (p ∷ (o ∷ (line 1 0 (instr.Store c.root_of-2.result) ∷ []))))) c.root_of.ensures
    ∙ ap (λ r. base ++ (line 0 0 (instr.Load (root_of (names_in c.args.known.now) c.args.head.now.variable)) ∷ (p ∷ (o ∷ (line 1 0 (instr.Store r) ∷ []))))) c.root_of-2.ensures)
    c.put-4.ensures.code
