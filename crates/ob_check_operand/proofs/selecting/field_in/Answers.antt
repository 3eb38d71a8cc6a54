use Rattle.std.proofs.Common.{◌≡◌, ℕ, List, Option, Some, None, length, get_or, option_map, sym, ap, ◌∙◌, arith}
use Rattle.ob_types.specs.declared.structure.Field.{Field}
use Rattle.ob_types.specs.declared.structure.RecordType.{out-RecordType}
use Rattle.ob_check_operand.proofs.FieldPlaces.{found_at, none_found}
use Rattle.ob_check_operand.proofs.selecting.field_in.Goals as goal

pub offset_bounds-fields-number : goal.offset_bounds-fields-number
offset_bounds-fields-number c =
    let h = found_at (out-RecordType c.args.record.now).fields 0 c.in-Some.number c.args.name.now (sym c.in-Some.ensures) in
    omega (arith, h.1, h.2, ap length c.fields.ensures, c.fields.type_inv.1)

pub bounds-fields-number : goal.bounds-fields-number
bounds-fields-number c =
    let h = found_at (out-RecordType c.args.record.now).fields 0 c.in-Some.number c.args.name.now (sym c.in-Some.ensures) in
    omega (arith, h.1, h.2, ap length c.fields.ensures)

pub returns-in-Some : goal.returns-in-Some
returns-in-Some c =
    let fs : List Field = (out-RecordType c.args.record.now).fields in
    let h = found_at fs 0 c.in-Some.number c.args.name.now (sym c.in-Some.ensures) in
    let same : c.in-Some.number ≡ h.0 = omega (arith, h.1) in
    let here : c.index-fields-number.result ≡ get_or fs h.0 c.index-fields-number.result =
    c.index-fields-number.is ∙ ap (λ l. get_or l c.in-Some.number c.index-fields-number.result) c.fields.ensures ∙ ap (λ n. get_or fs n c.index-fields-number.result) same in
    (λ i. Some ((c.name.ensures i).module_name, c.in-Some.number, here i))
    ∙ ap (option_map (λ (p : ℕ × Field). ((out-RecordType c.args.record.now).name.module_name, p.0, p.1))) (sym (h.3 c.index-fields-number.result))

pub returns-in-None : goal.returns-in-None
returns-in-None c =
    ap (option_map (λ (p : ℕ × Field). ((out-RecordType c.args.record.now).name.module_name, p.0, p.1)))
    (sym (none_found (out-RecordType c.args.record.now).fields 0 c.args.name.now (sym c.in-None.ensures)))
