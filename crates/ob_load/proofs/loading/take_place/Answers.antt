use Rattle.std.proofs.Common.{Bool, List, length, ap, ◌∙◌}
use Rattle.std.proofs.lemmas.List.{length-map}
use Rattle.ob_types.specs.InterfaceTree.{InterfaceTree}
use Rattle.ob_code.specs.Linked.{runs_of}
use Rattle.ob_session.specs.Session.{name_of, place_of}
use Rattle.ob_image.proofs.Imports.{flags_run}
use Rattle.ob_load.proofs.Loaded.{within_known}
use Rattle.ob_load.proofs.loading.take_place.Goals as goal

pub put_at-requires-clause-there : goal.put_at-requires-clause-there
put_at-requires-clause-there c =
    let at = c.place_of-number.ensures ∙ ap (place_of c.args.modules.now) (c.name.ensures ∙ ap (λ (i : InterfaceTree). i.name) c.interface.ensures) in
    within_known c.args.modules.now (name_of c.args.added) c.args.known.now.items c.reserve.new.self.items c.place_of-number.result c.requires.sides c.in_ok-reserve.ensures.items at

pub returns-clause-flags : goal.returns-clause-flags
returns-clause-flags c = record {
  flags = λ n. ap (λ (fs : List Bool). runs_of fs n) c.in_ok-runs.ensures.runs ∙ flags_run c.install.new.self n;
  count = ap (λ (fs : List Bool). length fs) c.in_ok-runs.ensures.runs ∙ length-map c.install.new.self _;
}
