use Rattle.std.proofs.Common.{◌<◌, ◌-◌, length, refl, ap, sym, ◌∙◌, arith}
use Rattle.ob_types.specs.Spelling.{end_in}
use Rattle.ob_types.proofs.FieldEnds.{end_found}
use Rattle.ob_types.proofs.firsts.back_for.Goals as goal

pub returns-then-same_end : goal.returns-then-same_end
returns-then-same_end c =
    let fields = c.args.fields.now in
    let number = c.args.number in
    let one = c.index-fields-number.result in
    let other = c.index-fields-number-in-loop-back.result in
    let within : number - c.loop-back.back < length fields = omega (arith, c.requires.there) in
    end_found fields (number - c.loop-back.back) one within c.index-fields-number.is
    ∙ ap end_in (sym c.of.ensures)
    ∙ c.if-same_end.ensures refl
    ∙ ap end_in c.of-in-loop-back.ensures
    ∙ sym (end_found fields number other c.requires.there c.index-fields-number-in-loop-back.is)
