use Rattle.std.proofs.Common.{◌≡◌, List, ◌∙◌, subst}
use Rattle.std.specs.Prelude.{IfOk}
use Rattle.ob_session.specs.Session.{Module}
use Rattle.ob_link.specs.Runs.{may_run}
use Rattle.ob_link.proofs.modules.Modules.may_run.Goals as goal

pub runs_by-requires : goal.runs_by-requires
runs_by-requires c = c.as_slice.ensures.value ∙ c.self.invariant.0

pub returns : goal.returns
returns c = subst (λ (ms : List Module). IfOk c.runs_by.result (λ row. row.items ≡ may_run ms)) c.self.view_is c.runs_by.ensures
