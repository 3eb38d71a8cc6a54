use Rattle.std.proofs.Common.{rules, ◌≡◌, List, [], ◌∷◌, ◌++◌, None, sym, ◌∙◌, ap}
use Rattle.ob_check_scope.specs.LoadedTree.{LoadedTree}
use Rattle.ob_check_scope.specs.Names.{place_in}
use Rattle.ob_check_scope.specs.Exports.{module_names}
use Rattle.ob_check_scope.specs.Imports.{module_place, added}
use Rattle.ob_check_scope.proofs.Places.{added_new}
use Rattle.ob_check_scope.proofs.imports.Imports.append.Goals as goal

pub returns-clause-ok : goal.returns-clause-ok
unfolding module_place
returns-clause-ok c =
    let old : List LoadedTree = c.self.inside.modules.items in
    let pushed : c.push.new.self.items ≡ old ++ c.args.loaded ∷ [] = search rules in
    let absent : place_in (module_names old) c.args.loaded.interface.name ≡ None =
    ap (λ (ms : List LoadedTree). place_in (module_names ms) c.args.loaded.interface.name) c.self.view_is ∙ c.requires in
    pushed ∙ sym (added_new old c.args.loaded absent) ∙ ap (λ (ms : List LoadedTree). added ms c.args.loaded) c.self.view_is
