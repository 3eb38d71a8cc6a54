use Rattle.std.proofs.Common.{List, Bool, sym, ◌∙◌, ap}
use Rattle.std.specs.List.{list_any}
use Rattle.ob_link.proofs.ReachRows.{reach_none}
use Rattle.ob_link.proofs.modules.Modules.reaching.Goals as goal

pub returns : goal.returns
returns c =
    reach_none c.args.self.now c.in_ok-row.row.items c.args.name.now c.in_ok-row.ensures
    (sym (c.has_flag.ensures ∙ ap (λ (r : List Bool). list_any (λ b. b) r) c.as_slice.ensures.value) ∙ c.if-has_flag.false)
