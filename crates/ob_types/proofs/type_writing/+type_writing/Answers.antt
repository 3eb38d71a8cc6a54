use Rattle.std.proofs.Common.{arith, rules, ◌≡◌, ℕ, List, ◌++◌, ap, ◌∙◌, sym, subst, append_assoc, string_bytes, OnOk}
use Rattle.std.proofs.lemmas.Result.{IfOk-equal}
use Rattle.ob_types.specs.Forms.{type_of}
use Rattle.ob_types.specs.InterfaceText.{type_text}
use Rattle.ob_types.proofs.Measures.{fields_fall}
use Rattle.ob_types.proofs.TextEquations.{array_text, open_text, text_of_record}
use Rattle.ob_types.proofs.type_writing.+type_writing.Goals as goal

pub put_record-returns : goal.put_record-returns
put_record-returns t c =
    let P : List ℕ → Type 0 = λ l. OnOk c.push-3.result (string_bytes c.push-3.new.self ≡ string_bytes c.args.output.now ++ l) in
    subst P (sym (text_of_record c.args.of.now)) (search (rules, IfOk-equal, append_assoc))

pub put_type-returns-in_ok-push-in-Array-2 : goal.put_type-returns-in_ok-push-in-Array-2
put_type-returns-in_ok-push-in-Array-2 t c =
    let P : List ℕ → Type 0 = λ l. OnOk c.put_type.result (string_bytes c.put_type.new.output ≡ string_bytes c.args.output.now ++ l) in
    subst P (sym (ap type_text (sym c.form.ensures.whole ∙ ap type_of c.in-Array.is) ∙ array_text c.in-Array.length c.in-Array.element)) (search (rules, IfOk-equal, append_assoc))

pub put_type-returns-in_ok-push-in-Open : goal.put_type-returns-in_ok-push-in-Open
put_type-returns-in_ok-push-in-Open t c =
    let P : List ℕ → Type 0 = λ l. OnOk c.put_type-in-Open.result (string_bytes c.put_type-in-Open.new.output ≡ string_bytes c.args.output.now ++ l) in
    subst P (sym (ap type_text (sym c.form.ensures.whole ∙ ap type_of c.in-Open.is) ∙ open_text c.in-Open.element)) (search (rules, IfOk-equal, append_assoc))

pub put_record-put_fields-requires : goal.put_record-put_fields-requires
put_record-put_fields-requires t c = omega (arith, fields_fall c.args.of.now c.fields.result.now c.fields.ensures, c.decreases)
