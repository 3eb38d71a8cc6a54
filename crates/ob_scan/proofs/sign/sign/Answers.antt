use Rattle.std.proofs.Common.{sym, ◌∙◌}
use Rattle.ob_base.specs.declared.fault.Code.TheVariants as codes
use Rattle.ob_scan.proofs.SignTokens.{sign_of_two, sign_of_one, sign_refused}
use Rattle.ob_scan.proofs.sign.sign.Goals as goal

pub returns-in-Some : goal.returns-in-Some
returns-in-Some c = sign_of_two c.args.text.now c.in-Some.symbol c.behind-rest.result c.requires c.in-Some.ensures.within (sym c.in-Some.ensures.value) c.behind-rest.ensures

pub returns-in-Some-front_symbol : goal.returns-in-Some-front_symbol
returns-in-Some-front_symbol c = sign_of_one c.args.text.now c.in-Some-front_symbol.symbol c.behind-rest-in-Some-front_symbol.result c.requires (sym c.front_symbol.ensures.value ∙ c.in_default.is) c.in-Some-front_symbol.ensures.within (sym c.in-Some-front_symbol.ensures.value) c.behind-rest-in-Some-front_symbol.ensures

pub returns : goal.returns
returns c = sign_refused c.args.text.now codes.Character c.refused.result c.requires (sym c.front_symbol.ensures.value ∙ c.in_default.is) (sym c.front_symbol-2.ensures.value ∙ c.in_default-front_symbol.is) c.refused.ensures tt
