use Rattle.std.proofs.Common.{rules, ◌≡◌, true, sym, ◌∙◌, ap, ◌∷◌, [], ◌++◌, List, ℕ}
use Rattle.ob_check_scope.specs.Names.{place_in, is_among}
use Rattle.ob_check_scope.proofs.Places.{place_again}
use Rattle.ob_check_scope.proofs.names.Names.push_again.Goals as goal

pub invariant_of-self-2 : goal.invariant_of-self-2
invariant_of-self-2 c = λ q.
    let old : List (List ℕ) = c.self.inside.names.items in
    let known : is_among old c.args.name.now ≡ true = ap (λ ns. is_among ns c.args.name.now) c.self.view_is ∙ c.requires in
    let pushed : c.push.new.self.items ≡ old ++ c.args.name.now ∷ [] = search rules in
    c.self.invariant q ∙ sym (place_again old c.args.name.now q known) ∙ ap (λ ns. place_in ns q) (sym pushed)
