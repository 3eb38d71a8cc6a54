use Rattle.std.proofs.Common.{◌++◌, map, arith}
use Rattle.std.proofs.lemmas.Iterator.{YieldsList-from_chars}
use Rattle.std.proofs.lemmas.Iterator.Consumers.{YieldsList-turn, YieldsList-end}
use Rattle.std.proofs.lemmas.List.{length_push}
use Rattle.std.specs.Str.{chars}
use Rattle.ob_inout.specs.Reading.{char_of}
use Rattle.ob_inout.proofs.Lines.{chars_more, chars_end}
use Rattle.ob_inout.proofs.line.append_chars.Goals as goal

pub loop-c-preserved : goal.loop-c-preserved
loop-c-preserved c =
    let t = YieldsList-turn (YieldsList-from_chars c.args.text.now c.utf8.text cc) c.loop-c.yielded _ c.loop-c.yielded_by _ _ c.in-Some.c c.in-Some.is c.next.ensures.steps in
    record {
      appended = chars_more c.loop-c.line.items (c.args.line.now.items ++ map char_of (chars c.args.text.now)) (chars c.args.text.now) c.loop-c.yielded c.push.new.self.items c.in-Some.c c.char_of.result c.loop-c.invariant.appended t c.char_of.ensures c.in_ok-push.ensures.items;
      counted = omega (arith, c.in_ok-push.ensures.len, length_push c.loop-c.yielded c.in-Some.c);
      room = omega (arith, c.in_ok-push.ensures.capacity);
    }

pub returns-clause-items : goal.returns-clause-items
returns-clause-items c =
    let t = YieldsList-end (YieldsList-from_chars c.args.text.now c.utf8.text cc) c.loop-c.yielded _ c.loop-c.yielded_by _ _ c.in-None.is c.next.ensures.steps in
    chars_end c.loop-c.line.items (c.args.line.now.items ++ map char_of (chars c.args.text.now)) (chars c.args.text.now) _ c.loop-c.invariant.appended (omega (arith, t.1))
