use Rattle.std.proofs.Common.{rules, ◌≡◌, ◌<◌, Some, None, sym, ◌∙◌, ap, length}
use Rattle.ob_check_scope.specs.Block.{find, place_of}
use Rattle.ob_check_scope.proofs.Index.{found_at, in_range, none_found}
use Rattle.ob_check_scope.proofs.block.Block.find_placed.Goals as goal

pub index-requires : goal.index-requires
index-requires c =
    let placed : place_of c.self.inside.declared.items c.args.name.now ≡ Some c.in-Some.place.now = sym (c.self.invariant c.args.name.now) ∙ sym c.in-Some.ensures.value in
    let inside : c.in-Some.place.now < length c.self.inside.declared.items = in_range c.self.inside.declared.items c.args.name.now c.in-Some.place.now placed in
    search rules

pub returns-in-Some : goal.returns-in-Some
returns-in-Some c =
    let placed : place_of c.self.inside.declared.items c.args.name.now ≡ Some c.in-Some.place.now = sym (c.self.invariant c.args.name.now) ∙ sym c.in-Some.ensures.value in
    ap (λ d. Some d.entry) c.index.ensures
    ∙ sym (found_at c.self.inside.declared.items c.args.name.now c.in-Some.place.now c.index.result.now placed).1
    ∙ ap (λ ds. find ds c.args.name.now) c.self.view_is

pub returns-in-None : goal.returns-in-None
returns-in-None c =
    let placed : place_of c.self.inside.declared.items c.args.name.now ≡ None = sym (c.self.invariant c.args.name.now) ∙ sym c.in-None.ensures.value in
    sym (none_found c.self.inside.declared.items c.args.name.now placed)
    ∙ ap (λ ds. find ds c.args.name.now) c.self.view_is
