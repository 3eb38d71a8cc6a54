use Rattle.std.proofs.Common.{◌≡◌, ℕ, suc, ◌+◌, refl, subst, arith}
use Rattle.jk_run.specs.Driver.{Rounds}
use Rattle.jk_run.proofs.Rounds.{driven_on, ends_on, round_on}
use Rattle.jk_run.proofs.round.drive_some.Goals as goal

one_more : (n : ℕ) → suc n ≡ n + 1
one_more n = omega arith

pub loop-init : goal.loop-init
loop-init g c =
    let first = c.round-driver.ensures in
    record {
      acts = first.acts;
      same = first.same;
      rounds = (c.args.driver, c.round-driver.result.1, refl, first.acts, first.same, first.done);
      done = first.done;
    }

pub loop-preserved : goal.loop-preserved
loop-preserved g c = record {
  acts = driven_on g.L.Language.spoken c.args.driver c.loop.driver c.round-next.result.0 c.loop.invariant.acts c.round-next.ensures.acts;
  same = ends_on c.args.driver c.loop.driver c.round-next.result.0 c.loop.invariant.same c.round-next.ensures.same;
  rounds =
      subst (λ (n : ℕ). Rounds g.L.Language.spoken n c.args.driver c.round-next.result.1 c.round-next.result.0) (one_more c.loop.counter)
      (c.loop.driver, c.loop.work, c.loop.invariant.rounds, c.round-next.ensures.acts, c.round-next.ensures.same, c.round-next.ensures.done);
  done = round_on g.L.Language.spoken c.args.driver c.loop.driver c.round-next.result.0 1000 c.round-next.result.1 c.loop.invariant.acts c.round-next.ensures.done;
}

pub returns-clause-rounds : goal.returns-clause-rounds
returns-clause-rounds g c =
    let some = c.requires in
    let most = c.loop.auto.counter-end in
    let over = c.loop-test.false in
    let all : c.loop.counter ≡ c.args.rounds = omega (arith, some, most, over) in
    subst (λ (n : ℕ). Rounds g.L.Language.spoken n c.args.driver c.loop.work c.loop.driver) all c.loop.invariant.rounds
