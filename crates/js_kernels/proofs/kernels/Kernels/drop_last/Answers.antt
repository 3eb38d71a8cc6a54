use Rattle.std.proofs.Common.{◌≡◌, ◌+◌, ◌-◌, ℕ, inr, ap, length, take, refl, sym, ◌∙◌, arith}
use Rattle.js_kernels.proofs.Readings.{home_absent, home_there, last_goes, last_opened, no_last}
use Rattle.js_kernels.specs.Hosting.{states_of}
use Rattle.js_kernels.specs.Events.{Event}
use Rattle.js_kernels.proofs.Reached.{after}
use Rattle.js_kernels.proofs.kernels.Kernels.drop_last.Goals as goal

pub returns-then-count-eq0 : goal.returns-then-count-eq0
returns-then-count-eq0 g c =
    let ks = c.self.inside.hosted.items in
    let none : length ks ≡ 0 = grind arith in
    inr (refl, no_last c.args.self.now ks c.self.view_is none)

pub returns-then-is_some : goal.returns-then-is_some
returns-then-is_some g c =
    let was = c.index.result.now in
    let ks = c.self.inside.hosted.items in
    let place = c.len-count.result - 1 in
    let long : length ks ≡ place + 1 = grind arith in
    inr (refl, last_opened c.args.self.now ks place was c.self.view_is long c.index.ensures (home_there was.ends.home c.is_some.result c.if-is_some.true c.is_some.ensures))

pub returns : goal.returns
returns g c =
    let was = c.index.result.now in
    let ks = c.self.inside.hosted.items in
    let place = c.len-count.result - 1 in
    let long : length ks ≡ place + 1 = grind arith in
    last_goes c.args.self.now ks c.pop.new.self.items place was c.self.view_is long c.index.ensures
    (home_absent was.ends.home c.is_some.result c.if-is_some.false c.is_some.ensures)
    (c.pop.ensures.rest ∙ ap (λ (n : ℕ). take (n - 1) ks) (sym c.len-count.ensures))

pub invariant_of-self : goal.invariant_of-self
invariant_of-self g c =
    let was = c.index.result.now in
    let ks = c.self.inside.hosted.items in
    let place = c.len-count.result - 1 in
    let long : length ks ≡ place + 1 = grind arith in
    after g.row.L.Denot g.row.L-Session.Denot g.row.L-Tree.Denot g.row.L-Machine.Denot (states_of ks) Event.Fail _ c.self.invariant
    (last_goes (states_of ks) ks c.pop.new.self.items place was refl long c.index.ensures
    (home_absent was.ends.home c.is_some.result c.if-is_some.false c.is_some.ensures)
    (c.pop.ensures.rest ∙ ap (λ (n : ℕ). take (n - 1) ks) (sym c.len-count.ensures)))
