use Rattle.std.proofs.Common.{◌≡◌, ◌+◌, ◌∙◌, pos, [], ◌∷◌, ◌++◌, ap, sym, subst, refl, append_assoc}
use Rattle.std.specs.Prelude.{OnOk, Some}
use Rattle.ob_mean.specs.declared.kind.RecordKind.{RecordKind}
use Rattle.ob_mean.specs.WellFormed.{Of, object_of, shape_object, elements_in, field_in}
use Rattle.ob_code.specs.declared.instr.Instr.TheVariants as instr
use Rattle.ob_gen.specs.Code.{line, expr_code, read_code, offset_code, passed_code, list_values, list_names, root_in}
use Rattle.ob_gen.specs.Emitted.{operations_list, every_list, either_list, holed, sides, side}
use Rattle.ob_gen.specs.Known.{names_in}
use Rattle.ob_gen.proofs.emitting.Trees.{unary_code, chain_code, every_tree_code, either_tree_code, function_code, element_emitted, field_emitted, guarded_emitted, element_root, field_root, guarded_root, element_object, field_object, guarded_object, element_read, field_read, guarded_read}
use Rattle.ob_gen.proofs.emitting.Lists.{one_more, code_done, ends_done, fills, fillable, closes, closable, either_leads}
use Rattle.ob_gen.proofs.emit.+expressions.Goals as goal

pub emit_expr-returns-in_ok-emit_expr-in-Unary-clause-code : goal.emit_expr-returns-in_ok-emit_expr-in-Unary-clause-code
emit_expr-returns-in_ok-emit_expr-in-Unary-clause-code t c =
    let N = names_in c.args.known.now in
    let h = c.args.operands in
    let k = c.args.names in
    let base = c.args.code.now.items in
    let i = line (h + 1) k (instr.Unary c.in-Unary.operator c.in-Unary.line) in
    subst (λ l. OnOk c.put-in-Unary.result (c.put-in-Unary.new.code.items ≡ l))
    (one_more base _ _ i c.in_ok-emit_expr-in-Unary.ensures.code
    ∙ ap (λ a. base ++ (expr_code N h k a ++ i ∷ [])) c.get.ensures
    ∙ ap (λ l. base ++ l) (sym (unary_code N h k c.in-Unary.operator c.in-Unary.line c.in-Unary.operand))
    ∙ ap (λ e. base ++ expr_code N h k e) (sym c.in-Unary.is))
    c.put-in-Unary.ensures.code

pub emit_expr-returns-in_ok-emit_expr-in-Chain-clause-code : goal.emit_expr-returns-in_ok-emit_expr-in-Chain-clause-code
emit_expr-returns-in_ok-emit_expr-in-Chain-clause-code t c =
    let N = names_in c.args.known.now in
    let h = c.args.operands in
    let k = c.args.names in
    let base = c.args.code.now.items in
    subst (λ l. OnOk c.emit_operations.result (c.emit_operations.new.code.items ≡ l))
    (ap (λ m. m ++ operations_list N h k c.as_slice.result.now) c.in_ok-emit_expr-in-Chain.ensures.code
    ∙ append_assoc base _ _
    ∙ ap (λ a. base ++ (expr_code N h k a ++ operations_list N h k c.as_slice.result.now)) c.get-in-Chain.ensures
    ∙ ap (λ os. base ++ (expr_code N h k c.in-Chain.first ++ operations_list N h k os)) c.as_slice.ensures
    ∙ ap (λ l. base ++ l) (sym (chain_code N h k c.in-Chain.first c.in-Chain.others))
    ∙ ap (λ e. base ++ expr_code N h k e) (sym c.in-Chain.is))
    c.emit_operations.ensures.code

pub emit_expr-returns-in-Every-clause-code : goal.emit_expr-returns-in-Every-clause-code
emit_expr-returns-in-Every-clause-code t c =
    let N = names_in c.args.known.now in
    let h = c.args.operands in
    let k = c.args.names in
    let base = c.args.code.now.items in
    subst (λ l. OnOk c.emit_every.result (c.emit_every.new.code.items ≡ l))
    (ap (λ es. base ++ every_list N h k es) c.as_slice-in-Every.ensures
    ∙ ap (λ l. base ++ l) (sym (every_tree_code N h k c.in-Every.all))
    ∙ ap (λ e. base ++ expr_code N h k e) (sym c.in-Every.is))
    c.emit_every.ensures.code

pub emit_expr-returns-in-Either-clause-code : goal.emit_expr-returns-in-Either-clause-code
emit_expr-returns-in-Either-clause-code t c =
    let N = names_in c.args.known.now in
    let h = c.args.operands in
    let k = c.args.names in
    let base = c.args.code.now.items in
    subst (λ l. OnOk c.emit_either.result (c.emit_either.new.code.items ≡ l))
    (ap (λ es. base ++ either_list N h k es) c.as_slice-in-Either.ensures
    ∙ ap (λ l. base ++ l) (sym (either_tree_code N h k c.in-Either.all))
    ∙ ap (λ e. base ++ expr_code N h k e) (sym c.in-Either.is))
    c.emit_either.ensures.code

pub emit_expr-returns-in_ok-passed-in-Function-clause-code : goal.emit_expr-returns-in_ok-passed-in-Function-clause-code
emit_expr-returns-in_ok-passed-in-Function-clause-code t c =
    let N = names_in c.args.known.now in
    let h = c.args.operands in
    let k = c.args.names in
    let base = c.args.code.now.items in
    let i = instr.Invoke c.in-Function.callee c.in-Function.line in
    let passed = c.in_ok-passed-in-Function.passed in
    let given = c.as_slice-in-Function.result.now in
    subst (λ l. OnOk c.put-in-Function.result (c.put-in-Function.new.code.items ≡ l))
    (one_more base _ _ (line passed.operands passed.names i) c.in_ok-passed-in-Function.ensures.code
    ∙ ap (λ x. base ++ (passed_code N h k given ++ line x passed.names i ∷ [])) c.in_ok-passed-in-Function.ensures.operands
    ∙ ap (λ x. base ++ (passed_code N h k given ++ line (h + list_values given) x i ∷ [])) c.in_ok-passed-in-Function.ensures.names
    ∙ ap (λ xs. base ++ (passed_code N h k xs ++ line (h + list_values xs) (k + list_names xs) i ∷ [])) c.as_slice-in-Function.ensures
    ∙ ap (λ l. base ++ l) (sym (function_code N h k c.in-Function.callee c.in-Function.line c.in-Function.arguments))
    ∙ ap (λ e. base ++ expr_code N h k e) (sym c.in-Function.is))
    c.put-in-Function.ensures.code

pub emit_offset-returns-in_ok-put-in-Element-clause-code : goal.emit_offset-returns-in_ok-put-in-Element-clause-code
emit_offset-returns-in_ok-put-in-Element-clause-code t c =
    element_emitted (names_in c.args.known.now) c.args.operands c.args.names c.args.code.now.items _ _ _ c.in-Element.array _ c.in-Element.index _ c.in-Element.line _ _ _ _
    c.in_ok-found-in-Element.ensures.code c.in_ok-emit_expr-in-Element.ensures.code c.in_ok-put-in-Element.ensures.code
    c.in_ok-found-in-Element.ensures.root c.in_ok-found-in-Element.ensures.object c.length_of-length.ensures c.element_cells-cells.ensures c.get.ensures c.get-in-Element.ensures
    ∙ ap (λ d. c.args.code.now.items ++ offset_code (names_in c.args.known.now) c.args.operands c.args.names d) (sym c.in-Element.is)

pub emit_offset-returns-in_ok-put-in-Element-clause-root : goal.emit_offset-returns-in_ok-put-in-Element-clause-root
emit_offset-returns-in_ok-put-in-Element-clause-root t c =
    let N = names_in c.args.known.now in
    c.in_ok-found-in-Element.ensures.root ∙ ap (root_in N) c.get.ensures ∙ sym (element_root N c.in-Element.array c.in-Element.line c.in-Element.index) ∙ ap (root_in N) (sym c.in-Element.is)

pub emit_offset-returns-in_ok-put-in-Element-clause-object : goal.emit_offset-returns-in_ok-put-in-Element-clause-object
emit_offset-returns-in_ok-put-in-Element-clause-object t c =
    let N = names_in c.args.known.now in
    c.element_of.ensures
    ∙ ap (λ o. shape_object (elements_in o)) (c.in_ok-found-in-Element.ensures.object ∙ ap (object_of N) c.get.ensures)
    ∙ sym (element_object N c.in-Element.array c.in-Element.line c.in-Element.index) ∙ ap (object_of N) (sym c.in-Element.is)

pub emit_offset-returns-in_ok-put_field-in-Field-clause-code : goal.emit_offset-returns-in_ok-put_field-in-Field-clause-code
emit_offset-returns-in_ok-put_field-in-Field-clause-code t c =
    field_emitted (names_in c.args.known.now) c.args.operands c.args.names c.args.code.now.items _ _ c.in-Field.record _ c.in-Field.number _ _
    c.in_ok-found-in-Field.ensures.code c.in_ok-put_field-in-Field.ensures.code c.in_ok-found-in-Field.ensures.object c.in_ok-before-in-Field.ensures c.get-record.ensures
    ∙ ap (λ d. c.args.code.now.items ++ offset_code (names_in c.args.known.now) c.args.operands c.args.names d) (sym c.in-Field.is)

pub emit_offset-returns-in_ok-put_field-in-Field-clause-root : goal.emit_offset-returns-in_ok-put_field-in-Field-clause-root
emit_offset-returns-in_ok-put_field-in-Field-clause-root t c =
    let N = names_in c.args.known.now in
    c.in_ok-found-in-Field.ensures.root ∙ ap (root_in N) c.get-record.ensures ∙ sym (field_root N c.in-Field.record c.in-Field.number) ∙ ap (root_in N) (sym c.in-Field.is)

pub emit_offset-returns-in_ok-put_field-in-Field-clause-object : goal.emit_offset-returns-in_ok-put_field-in-Field-clause-object
emit_offset-returns-in_ok-put_field-in-Field-clause-object t c =
    let N = names_in c.args.known.now in
    c.field_of.ensures
    ∙ ap (λ o. field_in o c.in-Field.number) (c.in_ok-found-in-Field.ensures.object ∙ ap (object_of N) c.get-record.ensures)
    ∙ sym (field_object N c.in-Field.record c.in-Field.number) ∙ ap (object_of N) (sym c.in-Field.is)

pub emit_offset-returns-in_ok-put-in-Guarded-clause-code : goal.emit_offset-returns-in_ok-put-in-Guarded-clause-code
emit_offset-returns-in_ok-put-in-Guarded-clause-code t c =
    guarded_emitted (names_in c.args.known.now) c.args.operands c.args.names c.args.code.now.items _ _ c.in-Guarded.record _ c.in-Guarded.line c.in-Guarded.kind _ _ _ _
    c.in_ok-found-in-Guarded.ensures.code c.in_ok-put-in-Guarded.ensures.code c.in_ok-found-in-Guarded.ensures.root c.name_number-name.ensures (c.in_ok-types-in-Guarded.ensures ∙ ap (λ (kind : RecordKind). kind.names) c.get-kind.ensures) c.get-in-Guarded.ensures
    ∙ ap (λ d. c.args.code.now.items ++ offset_code (names_in c.args.known.now) c.args.operands c.args.names d) (sym c.in-Guarded.is)

pub emit_offset-returns-in_ok-put-in-Guarded-clause-root : goal.emit_offset-returns-in_ok-put-in-Guarded-clause-root
emit_offset-returns-in_ok-put-in-Guarded-clause-root t c =
    let N = names_in c.args.known.now in
    c.in_ok-found-in-Guarded.ensures.root ∙ ap (root_in N) c.get-in-Guarded.ensures ∙ sym (guarded_root N c.in-Guarded.record c.in-Guarded.line c.in-Guarded.kind c.in-Guarded.field-3) ∙ ap (root_in N) (sym c.in-Guarded.is)

pub emit_offset-returns-in_ok-put-in-Guarded-clause-object : goal.emit_offset-returns-in_ok-put-in-Guarded-clause-object
emit_offset-returns-in_ok-put-in-Guarded-clause-object t c =
    let N = names_in c.args.known.now in
    ap (λ (kind : RecordKind). Some (Of kind.shape)) c.get-kind.ensures ∙ sym (guarded_object N c.in-Guarded.record c.in-Guarded.line c.in-Guarded.kind c.in-Guarded.field-3) ∙ ap (object_of N) (sym c.in-Guarded.is)

pub emit_read-returns-in_ok-found-in-Element-clause-code : goal.emit_read-returns-in_ok-found-in-Element-clause-code
emit_read-returns-in_ok-found-in-Element-clause-code t c =
    let N = names_in c.args.known.now in
    let h = c.args.operands in
    let k = c.args.names in
    let base = c.args.code.now.items in
    let off = offset_code N h k c.args.d.now in
    subst (λ l. OnOk c.put-in-Element.result (c.put-in-Element.new.code.items ≡ l))
    (one_more base off _ (line (h + 1) k (instr.LoadAt c.in_ok-found-in-Element.found.root)) c.in_ok-found-in-Element.ensures.code
    ∙ ap (λ r. base ++ (off ++ line (h + 1) k (instr.LoadAt r) ∷ [])) (c.in_ok-found-in-Element.ensures.root ∙ ap (root_in N) c.in-Element.is)
    ∙ ap (λ l. base ++ l) (sym (element_read N h k c.in-Element.field-0 c.in-Element.field-1 c.in-Element.field-2 off))
    ∙ ap (λ d. base ++ read_code N h k d off) (sym c.in-Element.is))
    c.put-in-Element.ensures.code

pub emit_read-returns-in_ok-found-in-Field-clause-code : goal.emit_read-returns-in_ok-found-in-Field-clause-code
emit_read-returns-in_ok-found-in-Field-clause-code t c =
    let N = names_in c.args.known.now in
    let h = c.args.operands in
    let k = c.args.names in
    let base = c.args.code.now.items in
    let off = offset_code N h k c.args.d.now in
    subst (λ l. OnOk c.put-in-Field.result (c.put-in-Field.new.code.items ≡ l))
    (one_more base off _ (line (h + 1) k (instr.LoadAt c.in_ok-found-in-Field.found.root)) c.in_ok-found-in-Field.ensures.code
    ∙ ap (λ r. base ++ (off ++ line (h + 1) k (instr.LoadAt r) ∷ [])) (c.in_ok-found-in-Field.ensures.root ∙ ap (root_in N) c.in-Field.is)
    ∙ ap (λ l. base ++ l) (sym (field_read N h k c.in-Field.field-0 c.in-Field.field-1 off))
    ∙ ap (λ d. base ++ read_code N h k d off) (sym c.in-Field.is))
    c.put-in-Field.ensures.code

pub emit_read-returns-in_ok-found-in-Guarded-clause-code : goal.emit_read-returns-in_ok-found-in-Guarded-clause-code
emit_read-returns-in_ok-found-in-Guarded-clause-code t c =
    let N = names_in c.args.known.now in
    let h = c.args.operands in
    let k = c.args.names in
    let base = c.args.code.now.items in
    let off = offset_code N h k c.args.d.now in
    subst (λ l. OnOk c.put-in-Guarded.result (c.put-in-Guarded.new.code.items ≡ l))
    (one_more base off _ (line (h + 1) k (instr.LoadAt c.in_ok-found-in-Guarded.found.root)) c.in_ok-found-in-Guarded.ensures.code
    ∙ ap (λ r. base ++ (off ++ line (h + 1) k (instr.LoadAt r) ∷ [])) (c.in_ok-found-in-Guarded.ensures.root ∙ ap (root_in N) c.in-Guarded.is)
    ∙ ap (λ l. base ++ l) (sym (guarded_read N h k c.in-Guarded.field-0 c.in-Guarded.field-1 c.in-Guarded.field-2 c.in-Guarded.field-3 off))
    ∙ ap (λ d. base ++ read_code N h k d off) (sym c.in-Guarded.is))
    c.put-in-Guarded.ensures.code

pub emit_either-lead_to_end-requires : goal.emit_either-lead_to_end-requires
emit_either-lead_to_end-requires t c =
    let N = names_in c.args.known.now in
    let h = c.args.operands in
    let k = c.args.names in
    let base = c.args.code.now.items in
    fillable (h + 1) k (side N h k) c.args.all.now base (line h k (instr.Push (pos 0)) ∷ []) c.put-2.new.code.items c.deref.result.now
    (code_done (holed (h + 1) k (side N h k)) c.args.all.now c.loop-e.e-index base c.loop-e.code.items _ _ refl c.loop-e-test.false c.loop-e.invariant.code c.in_ok-put-2.ensures.code)
    (ends_done _ _ (side N h k) c.args.all.now c.loop-e.e-index base c.loop-e.ends.items _ c.loop-e-test.false c.loop-e.invariant.ends c.args.code.now.ok.0 c.deref.ensures.value)

pub emit_either-returns-clause-code : goal.emit_either-returns-clause-code
emit_either-returns-clause-code t c =
    let N = names_in c.args.known.now in
    let h = c.args.operands in
    let k = c.args.names in
    let base = c.args.code.now.items in
    c.lead_to_end.ensures.code
    ∙ fills (h + 1) k (side N h k) c.args.all.now base (line h k (instr.Push (pos 0)) ∷ []) c.put-2.new.code.items c.deref.result.now
    (code_done (holed (h + 1) k (side N h k)) c.args.all.now c.loop-e.e-index base c.loop-e.code.items _ _ refl c.loop-e-test.false c.loop-e.invariant.code c.in_ok-put-2.ensures.code)
    (ends_done _ _ (side N h k) c.args.all.now c.loop-e.e-index base c.loop-e.ends.items _ c.loop-e-test.false c.loop-e.invariant.ends c.args.code.now.ok.0 c.deref.ensures.value)
    ∙ ap (λ l. base ++ l) (either_leads N h k c.args.all.now)

pub emit_every-close-requires-clause-all : goal.emit_every-close-requires-clause-all
emit_every-close-requires-clause-all t c =
    let N = names_in c.args.known.now in
    let h = c.args.operands in
    let k = c.args.names in
    let base = c.args.code.now.items in
    closable h k (expr_code N h k) c.args.all.now base (line h k (instr.Push (pos 1)) ∷ []) c.put-2.new.code.items c.deref.result.now
    (code_done (sides h k (expr_code N h k)) c.args.all.now c.loop-e.e-index base c.loop-e.code.items _ _ refl c.loop-e-test.false c.loop-e.invariant.code c.in_ok-put-2.ensures.code)
    (ends_done _ _ (expr_code N h k) c.args.all.now c.loop-e.e-index base c.loop-e.ends.items _ c.loop-e-test.false c.loop-e.invariant.ends c.args.code.now.ok.0 c.deref.ensures.value)

pub emit_every-returns-clause-code : goal.emit_every-returns-clause-code
emit_every-returns-clause-code t c =
    let N = names_in c.args.known.now in
    let h = c.args.operands in
    let k = c.args.names in
    let base = c.args.code.now.items in
    subst (λ l. OnOk c.close.result (c.close.new.code.items ≡ l))
    (closes N h k c.args.all.now base c.put-2.new.code.items c.deref.result.now
    (code_done (sides h k (expr_code N h k)) c.args.all.now c.loop-e.e-index base c.loop-e.code.items _ _ refl c.loop-e-test.false c.loop-e.invariant.code c.in_ok-put-2.ensures.code)
    (ends_done _ _ (expr_code N h k) c.args.all.now c.loop-e.e-index base c.loop-e.ends.items _ c.loop-e-test.false c.loop-e.invariant.ends c.args.code.now.ok.0 c.deref.ensures.value))
    c.close.ensures.code
