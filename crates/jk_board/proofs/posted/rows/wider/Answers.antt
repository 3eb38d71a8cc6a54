use Rattle.std.proofs.Common.{◌≡◌, ◌-◌, ◌<◌, ◌++◌, take, drop, length, sym, ap, ◌∙◌, arith}
use Rattle.std.proofs.lemmas.List.{take_all, length-drop}
use Rattle.jk_board.specs.declared.posted.Part.{Part}
use Rattle.jk_board.specs.Rows.{flat}
use Rattle.jk_board.proofs.Rows.{flat_more, flat_next, numbered_more, numbered_rest}
use Rattle.jk_board.proofs.posted.rows.wider.Goals as goal

pub overflow_sub-before : goal.overflow_sub-before
overflow_sub-before g c =
    let ps = c.args.parts.now.items in
    let slice = c.as_slice.result.now in
    let rest = take (length slice - c.args.from) (drop c.args.from slice) in
    let all : rest ≡ drop c.args.from ps = take_all (length slice - c.args.from) (drop c.args.from slice) (omega (arith, length-drop c.args.from slice)) ∙ ap (drop c.args.from) c.as_slice.ensures.value in
    let within : c.loop-part.part-index < length rest = omega (arith, c.loop-part-test.true) in
    let numbered = numbered_rest g.T.Holds.entries g.T.Holds.is_whole ps rest c.args.from c.args.gone c.loop-part.part-index c.part-item.result c.requires.numbered c.requires.from c.requires.gone all within c.part-item.is in
    omega (arith, numbered.0)

pub loop-part-preserved : goal.loop-part-preserved
loop-part-preserved g c =
    let entries = g.T.Holds.entries in
    let ps = c.args.parts.now.items in
    let slice = c.as_slice.result.now in
    let rest = take (length slice - c.args.from) (drop c.args.from slice) in
    let i = c.loop-part.part-index in
    let part = c.part-item.result in
    let now : Part _ = record { before = part.before - c.args.gone; held = c.in_ok-held.held } in
    let all : rest ≡ drop c.args.from ps = take_all (length slice - c.args.from) (drop c.args.from slice) (omega (arith, length-drop c.args.from slice)) ∙ ap (drop c.args.from) c.as_slice.ensures.value in
    let within : i < length rest = omega (arith, c.loop-part-test.true) in
    let numbered = numbered_rest entries g.T.Holds.is_whole ps rest c.args.from c.args.gone i part c.requires.numbered c.requires.from c.requires.gone all within c.part-item.is in
    let before : part.before - c.args.gone ≡ length (flat entries c.loop-part.shared.items) = omega (arith, numbered.0, ap length c.loop-part.invariant.same) in
    record {
      same = ap (flat entries) c.push_reserved.ensures.items
          ∙ flat_more entries c.loop-part.shared.items now
          ∙ ap (λ l. l ++ entries c.in_ok-held.held) c.loop-part.invariant.same
          ∙ ap (λ l. flat entries (take i rest) ++ l) c.in_ok-held.ensures.same
          ∙ sym (flat_next entries rest i part within c.part-item.is);
      numbered = numbered_more entries g.T.Holds.is_whole c.loop-part.shared.items c.push_reserved.new.self.items now c.loop-part.invariant.numbered before (c.in_ok-held.ensures.whole numbered.1) c.push_reserved.ensures.items;
      count = omega (arith, c.push_reserved.ensures.len, c.loop-part.invariant.count);
      room = omega (arith, c.push_reserved.ensures.capacity, c.loop-part.invariant.room);
    }
