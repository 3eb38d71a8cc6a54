use Rattle.jk_queues.specs.Ends.{seat_inbox}
use Rattle.js_home.proofs.Homes.{keeps_places, keeps_own, none_lent, seven_places, seven_own}
use Rattle.js_home.proofs.home.Home.new.Goals as goal

pub invariant_of-result : goal.invariant_of-result
invariant_of-result g c =
    let fs = c.in_ok-free.free.items in
    let all = none_lent fs c.new.result.items c.new.ensures.items in
    let r = c.requires.seats in
    record {
      first = r.0.1;
      places = keeps_places fs _ all (seven_places fs _ _ _ _ _ _ _ c.in_ok-free.ensures.items r.7.1 r.6.1 r.5.1 r.4.1 r.3.1 r.2.1 r.1.1);
      own = keeps_own (seat_inbox c.args.seats.zero) fs _ all (seven_own (seat_inbox c.args.seats.zero) fs _ _ _ _ _ _ _ c.in_ok-free.ensures.items r.7.0 r.6.0 r.5.0 r.4.0 r.3.0 r.2.0 r.1.0);
    }
