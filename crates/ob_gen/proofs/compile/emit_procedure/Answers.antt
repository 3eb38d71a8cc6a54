use Rattle.std.proofs.Common.{◌≡◌, ◌+◌, ◌++◌, ap, ◌∙◌}
use Rattle.ob_mean.specs.WellFormed.{is_there}
use Rattle.ob_code.specs.declared.instr.Entry.{Entry}
use Rattle.ob_gen.specs.Code.{list_code, result_code}
use Rattle.ob_gen.specs.Known.{names_in}
use Rattle.ob_table.specs.Tables.{cells_in}
use Rattle.ob_gen.proofs.emitting.Generated.{cells_own, counts, there_is}
use Rattle.ob_gen.proofs.compile.emit_procedure.Goals as goal

pub returns-clause-code : goal.returns-clause-code
returns-clause-code c =
    let N = names_in c.args.known.now in
    record {
      lines = c.in_ok-emit_result.ensures ∙ ap (λ l. l ++ result_code N c.args.value.now) (c.in_ok-emit_statements.ensures.code ∙ ap (λ l. l ++ list_code N c.args.body.now) c.new-lines.ensures.items);
      cells = c.cells.ensures ∙ ap cells_in c.requires.own ∙ cells_own c.args.known.now.parameters.now c.args.known.now.own.now;
      names_taken = ap (λ (e : Entry). e.names) c.in_ok-entry_of.ensures;
      stand_for = ap (λ (e : Entry). e.kinds) c.in_ok-entry_of.ensures;
      all_taken = ap (λ (e : Entry). e.operands + e.names) c.in_ok-entry_of.ensures ∙ counts c.args.known.now.parameters.now;
      gives = ap (λ (e : Entry). e.is_function) c.in_ok-entry_of.ensures ∙ (let g : c.is_some.result ≡ is_there c.args.value.now = c.is_some.ensures ∙ there_is c.args.value.now in g);
    }
