use Rattle.std.proofs.Common.{ℕ, ◌+◌, List, Some, take, sym, ap, ◌∙◌, subst, arith}
use Rattle.ob_mean.specs.Programs.{Command}
use Rattle.ob_image.specs.Compiled.{runs_in}
use Rattle.ob_image.specs.CommandsCode.{AllCallable, IsCallable}
use Rattle.ob_load.proofs.Called.{callable_next, callable_with, run_with}
use Rattle.ob_load.proofs.Said.{Callable, runnable_at}
use Rattle.ob_load.proofs.commands.all_calls.Goals as goal

pub place_of-place-requires : goal.place_of-place-requires
place_of-place-requires c =
    subst (λ (x : Command). Callable c.args.modules.now x) (sym c.command-item.is)
    (runnable_at c.args.modules.now c.args.commands.now c.loop-command.command-index c.command-item.result c.requires (omega (arith, c.loop-command-test.true)))

pub loop-command-preserved : goal.loop-command-preserved
loop-command-preserved c =
    let ms = c.args.modules.now in
    let cs = c.args.commands.now in
    let n = c.loop-command.command-index in
    let homes = c.loop-command.homes.items in
    let calls = c.loop-command.calls.items in
    let after = c.import_of.new.homes.items in
    let cmd = c.command-item.result in
    let place = c.place_of-place.result in
    let with = c.in_ok-import.ensures.others in
    let k : IsCallable ms cmd place = c.place_of-place.ensures in
    record {
      each = subst (λ (ps : List (ℕ × ℕ)). AllCallable ms after (take (n + 1) cs) ps) (sym c.in_ok-push.ensures.items)
          (callable_next ms after cs calls n cmd (c.in_ok-import.import, place) (omega (arith, c.loop-command-test.true))
          (callable_with ms homes c.home.result after (take n cs) calls with c.loop-command.invariant.each)
          (subst (λ (x : Command). IsCallable ms x place) c.command-item.is k)
          (c.in_ok-import.ensures.there ∙ ap Some (c.home.ensures ∙ ap (λ (x : Command). x.home) c.command-item.is)));
      run = run_with (runs_in ms) homes c.home.result after with c.loop-command.invariant.run (ap (runs_in ms) c.home.ensures ∙ k.may_run);
    }
