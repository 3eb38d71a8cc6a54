use Rattle.std.proofs.Common.{rules, ◌≡◌, ◌∙◌, sym, ap, [], ◌∷◌, ◌++◌}
use Rattle.ob_mean.specs.declared.module.ModuleVariable.TheVariants as variable
use Rattle.ob_check_strings.specs.Strings as spec
use Rattle.ob_check_strings.proofs.Numbers.{declared_more}
use Rattle.ob_check_strings.proofs.variables.Variables.declare.Goals as goal

pub invariant_of-self-2 : goal.invariant_of-self-2
invariant_of-self-2 c = λ q.
    let pushed : c.push.new.self ≡ c.self.inside.all ++ variable.Declared c.args.shape ∷ [] = search rules in
    c.self.invariant q
    ∙ sym (declared_more c.self.inside.all c.args.shape q.characters q.elements)
    ∙ ap (λ vs. spec.string_at vs q.characters q.elements) (sym pushed)
