use Rattle.std.proofs.Common.{ap, ◌∙◌, sym}
use Rattle.ob_mean.specs.WellFormed.{value_object}
use Rattle.ob_gen.proofs.emitting.Known.{own_first}
use Rattle.ob_gen.proofs.known.own_object.Goals as goal

pub returns-in-Value : goal.returns-in-Value
returns-in-Value c =
    sym (own_first c.args.parameters.now c.args.own.now c.args.number c.index-parameters-number.result c.if-number-parameters.false
    ∙ ap value_object (sym c.index-parameters-number.is ∙ c.in-Value.is))

pub returns-in-Place : goal.returns-in-Place
returns-in-Place c =
    sym (own_first c.args.parameters.now c.args.own.now c.args.number c.index-parameters-number.result c.if-number-parameters.false
    ∙ ap value_object (sym c.index-parameters-number.is ∙ c.in-Place.is))

pub returns-in-Open : goal.returns-in-Open
returns-in-Open c =
    sym (own_first c.args.parameters.now c.args.own.now c.args.number c.index-parameters-number.result c.if-number-parameters.false
    ∙ ap value_object (sym c.index-parameters-number.is ∙ c.in-Open.is))

pub returns-in-Extended : goal.returns-in-Extended
returns-in-Extended c =
    sym (own_first c.args.parameters.now c.args.own.now c.args.number c.index-parameters-number.result c.if-number-parameters.false
    ∙ ap value_object (sym c.index-parameters-number.is ∙ c.in-Extended.is))
