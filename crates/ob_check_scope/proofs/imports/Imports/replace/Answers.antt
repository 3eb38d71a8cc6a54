use Rattle.std.proofs.Common.{rules, ◌≡◌, ◌<◌, List, length, Some, sym, ◌∙◌, ap}
use Rattle.ob_check_scope.specs.LoadedTree.{LoadedTree}
use Rattle.ob_check_scope.specs.Names.{place_in}
use Rattle.ob_check_scope.specs.Exports.{module_names}
use Rattle.ob_check_scope.specs.Imports.{module_place, added}
use Rattle.ob_check_scope.proofs.Places.{module_inside, added_again}
use Rattle.ob_check_scope.proofs.imports.Imports.replace.Goals as goal

pub index_mut-requires : goal.index_mut-requires
unfolding module_place
index_mut-requires c =
    let placed : place_in (module_names c.self.inside.modules.items) c.args.loaded.interface.name ≡ Some c.args.place =
    ap (λ (ms : List LoadedTree). place_in (module_names ms) c.args.loaded.interface.name) c.self.view_is ∙ c.requires in
    let inside : c.args.place < length c.self.inside.modules.items = module_inside c.self.inside.modules.items c.args.loaded.interface.name c.args.place placed in
    search rules

pub returns : goal.returns
unfolding module_place
returns c =
    let placed : place_in (module_names c.self.inside.modules.items) c.args.loaded.interface.name ≡ Some c.args.place =
    ap (λ (ms : List LoadedTree). place_in (module_names ms) c.args.loaded.interface.name) c.self.view_is ∙ c.requires in
    sym (added_again c.self.inside.modules.items c.args.loaded c.args.place placed)
    ∙ ap (λ (ms : List LoadedTree). added ms c.args.loaded) c.self.view_is
