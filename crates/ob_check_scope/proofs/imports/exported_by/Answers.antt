use Rattle.std.proofs.Common.{◌≡◌, ℕ, List, Some, None, sym, ◌∙◌, ap}
use Rattle.ob_check_scope.specs.Names.{place_in}
use Rattle.ob_check_scope.specs.Exports.{names_of}
use Rattle.ob_check_scope.proofs.Places.{exported_here, none_exported}
use Rattle.ob_check_scope.proofs.imports.exported_by.Goals as goal

pub returns-in-Some : goal.returns-in-Some
returns-in-Some c =
    let placed : place_in (names_of c.args.exports.now) c.args.name.now ≡ Some c.in-Some.place =
    sym (ap (λ (ns : List (List ℕ)). place_in ns c.args.name.now) c.requires.names) ∙ sym c.in-Some.ensures in
    c.object_in.ensures ∙ exported_here c.args.exports.now c.args.name.now c.in-Some.place placed

pub returns-in-None : goal.returns-in-None
returns-in-None c =
    let placed : place_in (names_of c.args.exports.now) c.args.name.now ≡ None =
    sym (ap (λ (ns : List (List ℕ)). place_in ns c.args.name.now) c.requires.names) ∙ sym c.in-None.ensures in
    sym (none_exported c.args.exports.now c.args.name.now placed)
