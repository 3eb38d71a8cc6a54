use Rattle.std.proofs.Common.{Some, ◌≡◌, [], length, subst, sym, ap, arith, ◌∙◌}
use Rattle.std.specs.Prelude.{slice_get}
use Rattle.jk_log.specs.Log.{Log, arrivals, ended, running}
use Rattle.jk_core.specs.State.{Ascends, PassedBy}
use Rattle.jk_log.specs.Leaving.{last_leave}
use Rattle.jk_log.proofs.Logs.{zeros_get}
use Rattle.jk_core.proofs.Needed.{none_some, there_none}
use Rattle.jk_core.proofs.Orders.{passed_none}
use Rattle.jk_core.proofs.script.Script.new.Goals as goal

pub invariant_of-result : goal.invariant_of-result
invariant_of-result g c =
    let empty = c.new.ensures in
    record {
      places = sym (ap length empty);
      small = omega arith;
      room = omega arith;
      there = there_none c.new.result.items c.new-3.result.items c.new-4.result.items c.new-3.ensures.items c.new-4.ensures.items;
      cell = λ r is. none_some r _ (sym (ap running empty) ∙ is);
      taken = sym (ap arrivals empty);
      order = subst (Ascends 0 0) (sym c.new-3.ensures.items) (omega arith);
      passed = subst (PassedBy 0 0) (sym c.new-3.ensures.items) (passed_none 0 []);
      ended = sym (ap ended empty);
      left = λ seat h. subst (λ (log : Log). slice_get c.none.result seat ≡ Some (last_leave seat log)) (sym empty)
          (zeros_get seat c.none.result (let seats = c.none.ensures.seats in omega (arith, h)) c.none.ensures.none);
    }
