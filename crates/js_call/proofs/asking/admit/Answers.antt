use Rattle.js_call.proofs.asking.admit.Goals as goal

pub returns-in-Asked-clause-admits : goal.returns-in-Asked-clause-admits
returns-in-Asked-clause-admits g c = rw c.in-Asked.is c.ask.ensures
