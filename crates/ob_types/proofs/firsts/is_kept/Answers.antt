use Rattle.std.proofs.Common.{◌<◌, ap, inl, inr, subst, sym, ◌∙◌}
use Rattle.ob_types.specs.Spelling.{end_in}
use Rattle.ob_types.proofs.FieldEnds.{end_found, none_mapped}
use Rattle.ob_types.proofs.firsts.is_kept.Goals as goal

pub returns-then-first_of-number : goal.returns-then-first_of-number
returns-then-first_of-number c h = inr (subst (λ n. n < c.args.number) c.first_of.ensures c.if-first_of-number.true)

pub returns : goal.returns
returns c h =
    inl (end_found c.args.fields.now c.args.number c.index-fields-number.result c.requires.there c.index-fields-number.is
    ∙ ap end_in (sym c.of.ensures)
    ∙ sym c.end_of.ensures
    ∙ none_mapped (λ r. r.now) c.end_of.result (sym c.is_some.ensures ∙ h))
