use Rattle.std.proofs.Common.{sym}
use Rattle.ob_check_decl.proofs.Chains.{names_alone, names_with_base}
use Rattle.ob_check_decl.proofs.written_type.+inherited.Goals as goal

pub returns-in-Some : goal.returns-in-Some
returns-in-Some t c =
    names_with_base c.inherited.result c.args.of.now c.in-Some.base.now c.args.first c.in_ok-so_far.so_far (sym c.in-Some.ensures) c.in_ok-so_far.ensures c.inherited.ensures

pub returns-in-None : goal.returns-in-None
returns-in-None t c =
    names_alone c.args.of.now c.args.first c.in_ok-so_far.so_far (sym c.in-None.ensures) c.in_ok-so_far.ensures
