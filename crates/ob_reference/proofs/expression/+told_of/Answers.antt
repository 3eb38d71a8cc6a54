use Rattle.std.proofs.Common.{◌≡◌, [], MatchOption, sym, ap, ◌∙◌, subst}
use Rattle.ob_mean.specs.Expressions.{told_of}
use Rattle.ob_reference_store.specs.Kept.{value_in}
use Rattle.ob_reference_store.specs.States.{scope_in}
use Rattle.ob_reference.proofs.Trees.{told_guarded}
use Rattle.ob_reference.proofs.expression.+told_of.Goals as goal

pub returns-in-Guarded : goal.returns-in-Guarded
returns-in-Guarded t c =
    let scope = scope_in c.args.site.program.now c.args.site.at in
    let s = value_in c.args.store.now in
    let same : told_of scope c.args.d.now s ≡ told_of scope c.get.result.now s =
    ap (λ d. told_of scope d s) c.in-Guarded.is
    ∙ told_guarded scope c.in-Guarded.record c.in-Guarded.field-1 c.in-Guarded.field-2 c.in-Guarded.field-3 s
    ∙ ap (λ d. told_of scope d s) (sym c.get.ensures) in
    subst (λ x. MatchOption c.told_of.result (x ≡ []) (λ type. x ≡ type.now)) (sym same) c.told_of.ensures
