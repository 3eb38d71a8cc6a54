use Rattle.std.proofs.Common.{◌≡◌, ◌<◌, ◌+◌, ◌-◌, inr, ap, length, refl, sym, ◌∙◌, arith}
use Rattle.std.proofs.lemmas.List.{get_or_default}
use Rattle.js_kernels.specs.Hosting.{state_in, state_of, states_of}
use Rattle.js_kernels.proofs.Readings.{ends_come, home_absent, home_there, last_opened, no_last}
use Rattle.js_kernels.specs.Events.{Event}
use Rattle.js_kernels.proofs.Reached.{after, none_told}
use Rattle.js_kernels.proofs.kernels.Kernels.take_ends.Goals as goal

pub returns-then-count-eq0 : goal.returns-then-count-eq0
returns-then-count-eq0 g c =
    let ks = c.self.inside.hosted.items in
    let none : length ks ≡ 0 = grind arith in
    inr (refl, no_last c.args.self.now ks c.self.view_is none)

pub returns-then-is_some : goal.returns-then-is_some
returns-then-is_some g c =
    let was = c.index.result.now in
    let ks = c.self.inside.hosted.items in
    let place = c.len-count.result - 1 in
    let long : length ks ≡ place + 1 = grind arith in
    inr (refl, last_opened c.args.self.now ks place was c.self.view_is long c.index.ensures (home_there was.ends.home c.is_some.result c.if-is_some.true c.is_some.ensures))

pub returns : goal.returns
returns g c =
    let was = c.index_mut.result.now in
    let seen = c.index.result.now in
    let ks = c.self.inside.hosted.items in
    let place = c.len-count.result - 1 in
    let long : length ks ≡ place + 1 = grind arith in
    let low : place < length ks = grind arith in
    let same : was ≡ seen = c.index_mut.ensures.value ∙ (get_or_default ks place was seen low ∙ sym c.index.ensures) in
    let none = ap (λ k. k.ends.home) same ∙ home_absent seen.ends.home c.is_some.result c.if-is_some.false c.is_some.ensures in
    ends_come c.args.self.now ks place was (record { id = was.id; ends = c.take.new.self }) (state_of c.args.opened.home) c.self.view_is long c.index_mut.ensures.value none refl
    (ap state_in c.take.ensures.0) c.take.ensures.1

pub invariant_of-self : goal.invariant_of-self
invariant_of-self g c =
    let was = c.index_mut.result.now in
    let seen = c.index.result.now in
    let ks = c.self.inside.hosted.items in
    let place = c.len-count.result - 1 in
    let long : length ks ≡ place + 1 = grind arith in
    let low : place < length ks = grind arith in
    let same : was ≡ seen = c.index_mut.ensures.value ∙ (get_or_default ks place was seen low ∙ sym c.index.ensures) in
    let none = ap (λ k. k.ends.home) same ∙ home_absent seen.ends.home c.is_some.result c.if-is_some.false c.is_some.ensures in
    let home = c.args.opened.home in
    after g.row.L.Denot g.row.L-Session.Denot g.row.L-Tree.Denot g.row.L-Machine.Denot (states_of ks) (Event.Open (state_of home)) _ c.self.invariant (
      none_told _ _ _ _ home c.args.opened.untold,
      ends_come (states_of ks) ks place was (record { id = was.id; ends = c.take.new.self }) (state_of home) refl long c.index_mut.ensures.value none refl
          (ap state_in c.take.ensures.0) c.take.ensures.1,
    )
