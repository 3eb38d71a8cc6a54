use Rattle.std.proofs.Common.{None, [], refl, sym, subst, arith}
use Rattle.jk_core.specs.Kept.{HoldsAt, IsKept, Stands, WantsAt}
use Rattle.jk_core.proofs.Needed.{none_some}
use Rattle.jk_core.proofs.kernel.Kernel.new.Goals as goal

pub invariant_of-result : goal.invariant_of-result
invariant_of-result g c =
    let spoken = g.L.Language.spoken in
    let state = g.L.Language.state in
    record {
      kept = subst (λ k. IsKept spoken k) (sym c.new.ensures) (record {
        going = record { each = tt; owes = refl; places = refl; wait = tt; stands = λ r e. none_some r _ e; few = omega arith };
        goes = λ r e. none_some r _ e;
      });
      stands = subst (λ k. Stands spoken state k c.new_desk.result) (sym c.new.ensures) (record {
        count = c.new_desk.ensures.count;
        place = subst (λ p. HoldsAt spoken state spoken.opening None 0 p) (sym c.new_desk.ensures.place) (refl, refl);
        wants = subst (λ p. WantsAt state [] None p) (sym c.new_desk.ensures.place) tt;
      });
    }
