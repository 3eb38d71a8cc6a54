use Rattle.std.proofs.Common.{rules, ◌≡◌, false, ◌≤◌, length, map, ◌∙◌, ap}
use Rattle.std.proofs.lemmas.List.{take_all}
use Rattle.ob_session.specs.Session.{Module}
use Rattle.ob_link.proofs.Appended.{none_reaches}
use Rattle.ob_link.proofs.modules.Modules.none_reaches.Goals as goal

pub returns : goal.returns
returns c =
    let items : c.as_slice-module-items.result.now ≡ c.args.self.now = search rules in
    let ended : length c.as_slice-module-items.result.now ≤ c.loop-module._module-index = search rules in
    c.loop-module.invariant
    ∙ ap (map (λ (m : Module). false)) (take_all c.loop-module._module-index c.as_slice-module-items.result.now ended ∙ items)
    ∙ none_reaches c.args.self.now c.args.name.now c.requires
