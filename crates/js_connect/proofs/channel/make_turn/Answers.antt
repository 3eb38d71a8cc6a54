use Rattle.std.proofs.Common.{sym, ap, ◌∙◌, true≢false}
use Rattle.std.specs.Prelude.{not}
use Rattle.js_connect.proofs.Channels.{stays, turned, turned_over}
use Rattle.js_connect.proofs.channel.make_turn.Goals as goal
use Rattle.js_connect.proofs.channel.make_turn.Goals.{in-Closed, in_default-matches}

pub returns-in_default-clause-goes : goal.returns-in_default-clause-goes
returns-in_default-clause-goes g c = stays c.args.channel

pub returns-clause-goes : goal.returns-clause-goes
returns-clause-goes g c =
    let next = c.channel_turn-next.result in
    turned _ _ _ c.args.channel next.0 next.1 _ c.channel_turn-next.ensures.over c.channel_turn-next.ensures.turn

pub returns-clause-closed : goal.returns-clause-closed
returns-clause-closed g c shut =
    let next = c.channel_turn-next.result in
    elim c.match-matches.branch [
      | in-Closed w ↦ turned_over _ _ _ c.args.channel next.0 next.1 _ _ c.channel_turn-next.ensures.over c.channel_turn-next.ensures.turn w.in-Closed.is
      | in_default-matches w ↦ absurd (true≢false (sym (ap not w.matches-is) ∙ shut))
    ]
