use Rattle.std.proofs.Common.{sym, ◌∙◌}
use Rattle.test_language.proofs.Steps.{fresh}
use Rattle.test_language.proofs.language.TestLanguageLanguage.begin.Goals as goal

pub returns-in-Ok-from_slice-clause-begun : goal.returns-in-Ok-from_slice-clause-begun
returns-in-Ok-from_slice-clause-begun c = λ text k.
    fresh c.args.session text c.args.tree.now c.as_slice.result.now c.in-Ok-from_slice.text _ k c.as_slice.ensures (c.in-Ok-from_slice.ensures ∙ c.as_slice-2.ensures) (sym c.is_missing.ensures ∙ c.if-is_missing.false) c.new.ensures
