use Rattle.std.proofs.Common.{sym, ◌∙◌}
use Rattle.ob_inout.proofs.Strings.{string_found}
use Rattle.ob_inout.proofs.front.string.Goals as goal

pub returns-clause-value : goal.returns-clause-value
returns-clause-value c =
    string_found c.args.size c.run_length-count.result c.args.chars.now c.behind-inside.result.now c.behind-closing.result.now
    (sym c.begins.ensures.value ∙ c.if-not-begins.false) c.behind-inside.ensures c.run_length-count.ensures.count c.run_length-count.ensures.within c.behind-closing.ensures
    (sym c.begins-2.ensures.value ∙ c.if-not-begins-2.false) c.if-count-size.false
