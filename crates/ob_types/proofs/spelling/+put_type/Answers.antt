use Rattle.std.proofs.Common.{rules, ◌≡◌, ℕ, List, ◌++◌, ap, ◌∙◌, sym, subst, append_assoc}
use Rattle.std.specs.Prelude.{OnOk}
use Rattle.std.proofs.lemmas.Result.{IfOk-equal}
use Rattle.ob_types.specs.Forms.{type_of}
use Rattle.ob_types.specs.Spelling.{type_spelled}
use Rattle.ob_types.proofs.SpellingForms.{array_spelled, open_spelled}
use Rattle.ob_types.proofs.spelling.+put_type.Goals as goal

pub returns-in_ok-put_number-in-Array : goal.returns-in_ok-put_number-in-Array
returns-in_ok-put_number-in-Array t c =
    let P : List ℕ → Type 0 = λ l. OnOk c.put_type.result (c.put_type.new.output.items ≡ c.args.output.now.items ++ l) in
    subst P (sym (ap type_spelled (sym c.form.ensures.whole ∙ ap type_of c.in-Array.is) ∙ array_spelled c.in-Array.length c.in-Array.element)) (search (rules, IfOk-equal, append_assoc))

pub returns-in_ok-push-in-Open : goal.returns-in_ok-push-in-Open
returns-in_ok-push-in-Open t c =
    let P : List ℕ → Type 0 = λ l. OnOk c.put_type-in-Open.result (c.put_type-in-Open.new.output.items ≡ c.args.output.now.items ++ l) in
    subst P (sym (ap type_spelled (sym c.form.ensures.whole ∙ ap type_of c.in-Open.is) ∙ open_spelled c.in-Open.element)) (search (rules, IfOk-equal, append_assoc))
