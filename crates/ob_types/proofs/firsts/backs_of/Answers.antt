use Rattle.std.proofs.Common.{◌≡◌, ◌+◌, ◌-◌, ◌++◌, ◌∷◌, [], length, ap, subst, sym, ◌∙◌}
use Rattle.ob_types.specs.Spelling.{AreFirst, end_at}
use Rattle.ob_types.proofs.FieldEnds.{backs_more, one_longer}
use Rattle.ob_types.proofs.firsts.backs_of.Goals as goal

pub loop-number-preserved : goal.loop-number-preserved
loop-number-preserved c =
    let fields = c.args.fields.now in
    let before = c.loop-number.backs.items in
    let back = c.back_for-back.result in
    let is : c.push.new.self.items ≡ before ++ back ∷ [] = c.in_ok-push.ensures.items in
    let stands = subst (λ n. end_at fields (n - back) ≡ end_at fields n) (sym c.loop-number.invariant.long) c.back_for-back.ensures in
    record {
      long = ap length is ∙ one_longer before back ∙ ap (λ n. n + 1) c.loop-number.invariant.long;
      firsts = subst (λ bs. AreFirst bs fields) (sym is) (backs_more before back fields c.loop-number.invariant.firsts stands);
    }
