use Rattle.std.proofs.Common.{is_some, ◌∙◌, ap}
use Rattle.ob_check_scope.specs.Names.{is_among}
use Rattle.ob_check_scope.proofs.Places.{among_placed}
use Rattle.ob_check_scope.proofs.names.Names.contains.Goals as goal

pub returns : goal.returns
returns c =
    c.contains_key.ensures
    ∙ ap is_some (c.self.invariant c.as_slice.result.now)
    ∙ among_placed c.self.inside.names.items c.as_slice.result.now
    ∙ ap (is_among c.self.inside.names.items) c.as_slice.ensures
    ∙ ap (λ ns. is_among ns c.args.name.now) c.self.view_is
