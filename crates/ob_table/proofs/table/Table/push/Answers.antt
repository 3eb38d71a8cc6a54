use Rattle.std.proofs.Common.{ap, ◌∙◌, ◌++◌, [], ◌∷◌}
use Rattle.ob_table.specs.Tables.{sizes_of}
use Rattle.ob_table.proofs.Tables.{one_behind, sizes-append}
use Rattle.ob_table.proofs.table.Table.push.Goals as goal

pub invariant_of-self-2 : goal.invariant_of-self-2
invariant_of-self-2 c = one_behind _ _ _ _ _ c.self.invariant c.in_ok-push.ensures.items c.in_ok-all.ensures

pub returns : goal.returns
returns c = ap sizes_of c.in_ok-push.ensures.items ∙ sizes-append _ _ ∙ ap (λ l. l ++ c.args.cells ∷ []) c.self.view_is
