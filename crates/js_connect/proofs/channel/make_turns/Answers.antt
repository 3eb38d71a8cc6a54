use Rattle.std.proofs.Common.{◌∙◌, ap}
use Rattle.js_connect.proofs.Channels.{comes_back, own_still}
use Rattle.js_connect.proofs.channel.make_turns.Goals as goal

pub invariant_of-result : goal.invariant_of-result
invariant_of-result g c =
    let ends = c.into_ends-seat.ensures in
    let left = c.take_leave-channel.ensures in
    record {
      own = own_still _ c.args.names c.args.place c.into_ends-seat.result.0 c.into_ends-seat.result.1 c.new-channel.result c.run-channel.result
          c.new-channel.ensures.fresh c.run-channel.ensures.goes (ap (λ p. p.0) ends ∙ ap (λ o. o.seat) left.0) (ap (λ p. p.1) ends ∙ ap (λ f. f.follower) left.1);
    }

pub returns : goal.returns
returns g c =
    let ends = c.into_ends-seat.ensures in
    let left = c.take_leave-channel.ensures in
    let run = c.run-channel.ensures in
    comes_back _ c.args.names c.args.place _ c.new-channel.result c.run-channel.result
    c.new-channel.ensures.fresh run.goes run.over (ap (λ p. p.0) ends ∙ ap (λ o. o.seat) left.0) (ap (λ p. p.1) ends ∙ ap (λ f. f.follower) left.1)
