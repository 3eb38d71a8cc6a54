use Rattle.ob_parse.proofs.Cells.{is_found, is_only, is_fault}
use Rattle.ob_parse.proofs.cell.parse.Goals as goal

pub returns-clause-found : goal.returns-clause-found
returns-clause-found c = is_found c.args.tokens.now c.whole.new.parser.rest.now c.whole.result c.whole.ensures.read

pub returns-clause-only : goal.returns-clause-only
returns-clause-only c = is_only c.args.tokens.now c.whole.new.parser.rest.now c.whole.result c.whole.ensures.read

pub returns-clause-faults : goal.returns-clause-faults
returns-clause-faults c = is_fault c.args.tokens.now c.whole.new.parser.rest.now c.whole.result c.whole.ensures.read
