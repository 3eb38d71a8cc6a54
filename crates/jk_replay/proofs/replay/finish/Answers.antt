use Rattle.std.proofs.Common.{rules, ◌≢◌, ◌++◌, arith}
use Rattle.std.proofs.KnownBytes.{Appends-trans}
use Rattle.jk_core.specs.declared.kernel.Work.TheVariants.{Ran}
use Rattle.jk_replay.proofs.Done.{slices_more, slices_end, slices_fail}
use Rattle.jk_replay.proofs.replay.finish.Goals as goal

pub returns-in_err-play_slice : goal.returns-in_err-play_slice
returns-in_err-play_slice g c =
    let before = c.slices.invariant in
    let played = c.in_err-play_slice.ensures in (
      before.0 ++ played.0,
      Appends-trans _ _ _ before.0 played.0 before.1 played.1,
      slices_fail g.L.Language.spoken c.slices.slices c.args.replay.now c.slices.replay c.play_slice.new.replay before.0 played.0
          c.in_err-play_slice.field-0.0 c.from_residual.result c.slices-test.true before.3 played.2 c.from_residual.ensures.1,
    )

pub returns-then-ne : goal.returns-then-ne
returns-then-ne g c =
    let before = c.slices.invariant in
    let played = c.in_ok-play_slice.ensures in
    let other : c.in_ok-play_slice.field-0 ≢ Ran = search rules in (
      before.0 ++ played.0,
      Appends-trans _ _ _ before.0 played.0 before.1 played.1,
      slices_end g.L.Language.spoken c.slices.slices c.args.replay.now c.slices.replay c.play_slice.new.replay before.0 played.0
          c.in_ok-play_slice.field-0 c.end_of.result c.slices-test.true before.3 played.2 other c.end_of.ensures,
    )

pub slices-preserved : goal.slices-preserved
slices-preserved g c =
    let before = c.slices.invariant in
    let played = c.in_ok-play_slice.ensures in
    let test = c.slices-test.true in (
      before.0 ++ played.0,
      Appends-trans _ _ _ before.0 played.0 before.1 played.1,
      omega (arith, test),
      slices_more g.L.Language.spoken c.slices.slices c.args.replay.now c.slices.replay c.play_slice.new.replay before.0 played.0
          c.in_ok-play_slice.field-0 before.3 played.2,
    )
