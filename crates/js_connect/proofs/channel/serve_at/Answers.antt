use Rattle.std.proofs.Common.{inl, inr}
use Rattle.js_home.proofs.Serving.{passed_alone, served_on}
use Rattle.js_connect.proofs.Channels.{left_on}
use Rattle.js_connect.proofs.channel.serve_at.Goals as goal

pub returns-then-not-there-clause-served : goal.returns-then-not-there-clause-served
returns-then-not-there-clause-served g c = passed_alone c.args.place c.pass-passed.result.0 c.pass-passed.ensures.passed

pub returns-then-not-there-clause-left : goal.returns-then-not-there-clause-left
returns-then-not-there-clause-left g c = inl c.pass-passed.ensures.passed.sent

pub returns-clause-served : goal.returns-clause-served
returns-clause-served g c = served_on c.args.place c.pass-passed.result.0 c.make_turns.result c.pass-passed.ensures.passed c.make_turns.ensures.served

pub returns-clause-left : goal.returns-clause-left
returns-clause-left g c = inr (left_on c.args.place c.pass-passed.result.0 c.make_turns.result c.pass-passed.ensures.passed c.make_turns.ensures)
