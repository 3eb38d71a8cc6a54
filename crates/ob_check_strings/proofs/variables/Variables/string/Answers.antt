use Rattle.std.proofs.Common.{rules, ◌≡◌, ◌∙◌, sym, ap, subst, None, Some, IfOk}
use Rattle.std.specs.Option.{option_copied}
use Rattle.ob_check_strings.specs.declared.variables.Written.{Written}
use Rattle.ob_check_strings.specs.Strings as spec
use Rattle.ob_check_strings.proofs.Numbers.{new_number, new_variables, old_number, old_variables}
use Rattle.ob_check_strings.proofs.variables.Variables.string.Goals as goal

pub with_new-requires-clause-new : goal.with_new-requires-clause-new
with_new-requires-clause-new c =
    let key : Written = record { characters = c.in_ok-copy.field-0; elements = c.args.elements } in
    let none : option_copied c.get.result ≡ None = search rules in
    let text : c.in_ok-copy.field-0 ≡ c.args.text = search rules in
    sym (ap (λ vs. spec.string_at vs c.args.text c.args.elements) c.self.view_is)
    ∙ ap (λ l. spec.string_at c.self.inside.all l c.args.elements) (sym text)
    ∙ sym (c.self.invariant key) ∙ sym c.get.ensures.value ∙ none

pub returns-in-Some-clause-number : goal.returns-in-Some-clause-number
returns-in-Some-clause-number c =
    let key : Written = record { characters = c.in_ok-copy.field-0; elements = c.args.elements } in
    let some : option_copied c.get.result ≡ Some c.in-Some.number.now = search rules in
    let text : c.in_ok-copy.field-0 ≡ c.args.text = search rules in
    old_number c.args.self c.args.text c.args.elements c.in-Some.number.now
    (sym (ap (λ vs. spec.string_at vs c.args.text c.args.elements) c.self.view_is)
    ∙ ap (λ l. spec.string_at c.self.inside.all l c.args.elements) (sym text)
    ∙ sym (c.self.invariant key) ∙ sym c.get.ensures.value ∙ some)

pub returns-in-Some-clause-variables : goal.returns-in-Some-clause-variables
returns-in-Some-clause-variables c =
    let key : Written = record { characters = c.in_ok-copy.field-0; elements = c.args.elements } in
    let some : option_copied c.get.result ≡ Some c.in-Some.number.now = search rules in
    let text : c.in_ok-copy.field-0 ≡ c.args.text = search rules in
    old_variables c.args.self c.args.text c.args.elements c.in-Some.number.now
    (sym (ap (λ vs. spec.string_at vs c.args.text c.args.elements) c.self.view_is)
    ∙ ap (λ l. spec.string_at c.self.inside.all l c.args.elements) (sym text)
    ∙ sym (c.self.invariant key) ∙ sym c.get.ensures.value ∙ some)

pub returns-in-None-clause-number : goal.returns-in-None-clause-number
returns-in-None-clause-number c =
    let key : Written = record { characters = c.in_ok-copy.field-0; elements = c.args.elements } in
    let none : option_copied c.get.result ≡ None = search rules in
    let text : c.in_ok-copy.field-0 ≡ c.args.text = search rules in
    let absent : spec.string_at c.args.self c.args.text c.args.elements ≡ None =
    sym (ap (λ vs. spec.string_at vs c.args.text c.args.elements) c.self.view_is)
    ∙ ap (λ l. spec.string_at c.self.inside.all l c.args.elements) (sym text)
    ∙ sym (c.self.invariant key) ∙ sym c.get.ensures.value ∙ none in
    subst (λ n. IfOk c.with_new.result (λ p. p.0 ≡ n)) (new_number c.args.self c.args.text c.args.elements absent) c.with_new.ensures.number

pub returns-in-None-clause-variables : goal.returns-in-None-clause-variables
returns-in-None-clause-variables c =
    let key : Written = record { characters = c.in_ok-copy.field-0; elements = c.args.elements } in
    let none : option_copied c.get.result ≡ None = search rules in
    let text : c.in_ok-copy.field-0 ≡ c.args.text = search rules in
    let absent : spec.string_at c.args.self c.args.text c.args.elements ≡ None =
    sym (ap (λ vs. spec.string_at vs c.args.text c.args.elements) c.self.view_is)
    ∙ ap (λ l. spec.string_at c.self.inside.all l c.args.elements) (sym text)
    ∙ sym (c.self.invariant key) ∙ sym c.get.ensures.value ∙ none in
    subst (λ vs. IfOk c.with_new.result (λ p. p.1 ≡ vs)) (new_variables c.args.self c.args.text c.args.elements absent) c.with_new.ensures.variables
