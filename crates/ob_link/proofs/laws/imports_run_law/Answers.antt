use Rattle.ob_link.proofs.Runs.{each_import_runs, each_runs_linked}
use Rattle.ob_link.proofs.laws.imports_run_law.Goals as goal

pub returns-clause-imports : goal.returns-clause-imports
returns-clause-imports c = each_import_runs

pub returns-clause-linked : goal.returns-clause-linked
returns-clause-linked c = each_runs_linked
