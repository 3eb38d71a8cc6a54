use Rattle.std.proofs.Common.{List, ◌∷◌, [], ◌++◌, sym, ◌∙◌, ap}
use Rattle.jk_log.specs.declared.arrival.Arrival.{Arrival}
use Rattle.jk_queues.specs.declared.part.Part.{Part}
use Rattle.jk_run.proofs.Acting.{moves_on}
use Rattle.jk_run.proofs.arrivals.take_all.Goals as goal

pub returns-in-Err-clause-acts : goal.returns-in-Err-clause-acts
returns-in-Err-clause-acts g c = moves_on g.L.Language.spoken c.args.kernel.now c.loop.kernel c.take_one.new.kernel c.loop.invariant.acts c.in-Err.ensures.acts

pub loop-preserved : goal.loop-preserved
loop-preserved g c =
    let popped = rw c.in-Some-first.is at c.pop-same.ensures.taken in
    let took = rw c.in_default-take_one.is at c.take_one.ensures.took in
    record {
      took = took ∙ ap (λ (l : List Arrival). l ++ c.in-Some-first.arrival ∷ []) c.loop.invariant.took ∙ sym (ap (λ (v : Part). v.taken) popped.0);
      inbox = c.pop-same.ensures.same ∙ c.loop.invariant.inbox;
      acts = moves_on g.L.Language.spoken c.args.kernel.now c.loop.kernel c.take_one.new.kernel c.loop.invariant.acts c.take_one.ensures.acts;
    }
