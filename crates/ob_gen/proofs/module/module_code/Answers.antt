use Rattle.std.proofs.Common.{List, ap, ◌∙◌, subst}
use Rattle.ob_mean.specs.declared.module.Parameter.{Parameter}
use Rattle.ob_mean.specs.declared.module.TypedProcedure.{TypedProcedure}
use Rattle.ob_mean.specs.declared.shape.Shape.{Shape}
use Rattle.ob_mean.specs.declared.statement.TypedStatement.{TypedStatement}
use Rattle.ob_mean.specs.Shapes.{opening_row}
use Rattle.ob_gen.specs.Correct.{IsCodeOf, AreCompiled}
use Rattle.ob_table.specs.Tables.{cells_in, row_sizes}
use Rattle.ob_gen.proofs.emitting.Generated.{cells_opening, compiled_next, compiled_whole, rooms_more}
use Rattle.ob_gen.proofs.module.module_code.Goals as goal

pub loop-procedure-preserved : goal.loop-procedure-preserved
loop-procedure-preserved c =
    let faces = c.args.faces.now in
    let m = c.args.tree.now in
    let f = c.procedure-item.result in
    let g = c.in_ok-part_code.field-0 in
    let code = subst (λ (ps : List Parameter). IsCodeOf (record { faces = faces; variables = m.variables; procedures = m.procedures; parameters = ps; own = f.variables }) f.body f.result g) c.as_slice-in-loop-procedure.ensures
    (subst (λ (os : List Shape). IsCodeOf (record { faces = faces; variables = m.variables; procedures = m.procedures; parameters = c.as_slice-in-loop-procedure.result.now; own = os }) f.body f.result g) c.as_slice-in-loop-procedure-2.ensures
    (subst (λ (b : List TypedStatement). IsCodeOf (record { faces = faces; variables = m.variables; procedures = m.procedures; parameters = c.as_slice-in-loop-procedure.result.now; own = c.as_slice-in-loop-procedure-2.result.now }) b f.result g) c.as_slice-in-loop-procedure-3.ensures
    c.in_ok-part_code.ensures.code)) in
    record {
      compiled = compiled_next faces m c.as_slice-trees.result.now c.loop-procedure.procedure-index f c.loop-procedure.procedures.items c.push.new.self.items g c.loop-procedure-test.true c.procedure-item.is c.in_ok-push.ensures.items code c.loop-procedure.invariant.compiled;
      rooms = rooms_more c.loop-procedure.procedures.items c.push.new.self.items g c.in_ok-push.ensures.items c.loop-procedure.invariant.rooms c.in_ok-part_code.ensures.room;
    }

pub returns : goal.returns
returns c =
    let faces = c.args.faces.now in
    let m = c.args.tree.now in
    record {
      cells = c.cells.ensures ∙ ap cells_in (c.in_ok-variables_at.ensures ∙ ap (λ vs. row_sizes (opening_row vs)) c.as_slice.ensures) ∙ cells_opening m.variables;
      procedures = subst (λ (fs : List TypedProcedure). AreCompiled faces m fs c.push-2.new.self.items) c.as_slice-trees.ensures
          (compiled_whole faces m c.as_slice-trees.result.now c.loop-procedure.procedure-index c.loop-procedure.procedures.items c.push-2.new.self.items c.in_ok-body.body c.loop-procedure-test.false c.in_ok-push-2.ensures.items c.in_ok-body.ensures.code c.loop-procedure.invariant.compiled);
      rooms = rooms_more c.loop-procedure.procedures.items c.push-2.new.self.items c.in_ok-body.body c.in_ok-push-2.ensures.items c.loop-procedure.invariant.rooms c.in_ok-body.ensures.room;
      exported = c.in_ok-exported.ensures.items ∙ c.as_slice-2.ensures;
      imports = c.in_ok-imports.ensures;
    }
