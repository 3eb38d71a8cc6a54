use Rattle.std.proofs.Common.{◌-◌, ◌<◌, ◌++◌, length, take, drop, sym, ap, ◌∙◌, subst, arith}
use Rattle.std.specs.declared.vec.Vec.{Vec}
use Rattle.std.specs.declared.alloc.Global.{Global}
use Rattle.jk_board.specs.declared.posted.Part.{Part}
use Rattle.jk_board.specs.Rows.{flat, AreNumbered}
use Rattle.jk_board.proofs.Lists.{window_after, enough_after}
use Rattle.jk_board.proofs.Rows.{flat_next, flat_both}
use Rattle.jk_board.proofs.posted.rows.RowHolds.copy_from.Goals as goal

pub returns-then-len-max : goal.returns-then-len-max
returns-then-len-max g c =
    let entries = g.T.Holds.entries in
    let parts = c.deref-parts.result.now.items in
    let first = c.args.found.now.items in
    enough_after c.args.max c.args.place (flat entries (take c.loop-i.i parts)) (flat entries (drop c.loop-i.i parts)) first c.loop-i.found.items c.loop-i.invariant (omega (arith, c.if-len-max.true, c.len.ensures))
    ∙ ap (λ l. first ++ take (c.args.max - length first) (drop c.args.place l)) (flat_both entries parts c.loop-i.i)
    ∙ ap (λ (ps : Vec (Part _) Global). first ++ take (c.args.max - length first) (drop c.args.place (flat entries ps.items))) c.deref-parts.ensures

pub loop-i-preserved : goal.loop-i-preserved
loop-i-preserved g c =
    let entries = g.T.Holds.entries in
    let parts = c.deref-parts.result.now.items in
    let first = c.args.found.now.items in
    let part = c.index-part.result.now in
    let within : c.loop-i.i < length parts = omega (arith, c.loop-i-test.true, c.len-i-end.ensures) in
    let numbered : AreNumbered entries g.T.Holds.is_whole parts = subst (λ (ps : Vec (Part _) Global). AreNumbered entries g.T.Holds.is_whole ps.items) (sym c.deref-parts.ensures) c.requires.0 in
    let before = (numbered c.loop-i.i part within c.index-part.ensures).0 in
    window_after c.args.max c.args.place c.saturating_sub.result (flat entries (take c.loop-i.i parts)) (entries part.held) first c.loop-i.found.items c.copy_from.new.found.items
    c.loop-i.invariant (c.saturating_sub.ensures ∙ ap (λ n. c.args.place - n) before) c.in_ok-copy_from.ensures
    ∙ ap (λ l. first ++ take (c.args.max - length first) (drop c.args.place l)) (sym (flat_next entries parts c.loop-i.i part within c.index-part.ensures))
