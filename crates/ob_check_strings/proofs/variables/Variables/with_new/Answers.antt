use Rattle.std.proofs.Common.{rules, ◌≡◌, ◌∙◌, sym, ap, [], ◌∷◌, ◌++◌, length, cond, Some, None, ◌&&◌, ◌==◌}
use Rattle.std.specs.Str.{bytes_eq}
use Rattle.ob_mean.specs.declared.module.ModuleVariable.TheVariants as variable
use Rattle.ob_check_strings.specs.Strings as spec
use Rattle.ob_check_strings.proofs.Numbers.{string_more}
use Rattle.ob_check_strings.proofs.variables.Variables.with_new.Goals as goal

pub invariant_of-variables : goal.invariant_of-variables
invariant_of-variables c = λ q.
    let old = c.variables.inside.all in
    let characters = c.args.written.characters in
    let elements = c.args.written.elements in
    let at_end : c.len-number.result ≡ length old = search rules in
    let pushed : c.push.new.self ≡ old ++ variable.Text characters elements ∷ [] = search rules in
    let none : spec.string_at old characters elements ≡ None = search rules in
    c.in_ok-insert.ensures.updates.0 q
    ∙ ap (cond (bytes_eq characters q.characters && (elements == q.elements)) (Some c.len-number.result)) (c.variables.invariant q)
    ∙ ap (λ n. cond (bytes_eq characters q.characters && (elements == q.elements)) (Some n) (spec.string_at old q.characters q.elements)) at_end
    ∙ sym (string_more old characters q.characters elements q.elements none)
    ∙ ap (λ vs. spec.string_at vs q.characters q.elements) (sym pushed)
