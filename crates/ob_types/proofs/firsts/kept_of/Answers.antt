use Rattle.std.proofs.Common.{◌≡◌, ◌+◌, ◌++◌, ◌∷◌, [], ap, subst, sym, ◌∙◌}
use Rattle.ob_types.specs.Spelling.{AreKept, AreWithin}
use Rattle.ob_types.proofs.FieldEnds.{kept_more, passed_more, within_more}
use Rattle.ob_types.proofs.firsts.kept_of.Goals.{then-is_kept+in_ok-push, else-is_kept}
use Rattle.ob_types.proofs.firsts.kept_of.Goals as goal

pub loop-number-preserved : goal.loop-number-preserved
loop-number-preserved c =
    let fields = c.args.fields.now in
    let firsts = c.args.backs.now in
    let number = c.loop-number.number in
    let before = c.loop-number.kept.items in
    elim c.if-is_kept.branch [
      | then-is_kept+in_ok-push w ↦
          let is : c.if-is_kept.kept.items ≡ before ++ number ∷ [] = ap (λ v. v.items) w.kept-is ∙ w.in_ok-push.ensures.items in
          record {
            kept = subst (λ ns. AreKept (number + 1) ns firsts fields) (sym is) (kept_more before firsts number fields c.loop-number.invariant.kept);
            within = subst (λ ns. AreWithin ns fields) (sym is) (within_more before number fields c.loop-number.invariant.within c.loop-number-test.true);
          }
      | else-is_kept w ↦
          let is : c.if-is_kept.kept.items ≡ before = ap (λ v. v.items) w.kept-is in
          record {
            kept = subst (λ ns. AreKept (number + 1) ns firsts fields) (sym is) (passed_more before firsts number fields c.loop-number.invariant.kept (c.is_kept.ensures w.if-is_kept.false));
            within = subst (λ ns. AreWithin ns fields) (sym is) c.loop-number.invariant.within;
          }
    ]
