use Rattle.std.proofs.Common.{arith}
use Rattle.ob_code.specs.Linked.{Imports, runs_of}
use Rattle.ob_code.proofs.Each.{each_more, stands_within}
use Rattle.ob_verify.proofs.linked.imports_fit.Goals as goal

pub loop-import-preserved : goal.loop-import-preserved
loop-import-preserved c =
    each_more (λ k known. Imports c.args.modules.now (runs_of c.args.may_run.now) c.args.client.now k known) c.args.client.now.code.imports.items c.loop-import.import c.index.result.now (omega (arith, c.loop-import-test.true, c.len-import-end.ensures)) c.index.ensures c.loop-import.invariant
    (c.import_fits.ensures.fits c.if-not-import_fits.false)

pub returns-clause-fit : goal.returns-clause-fit
returns-clause-fit c = λ yes i known e. let lt = stands_within c.args.client.now.code.imports.items i known e in c.loop-import.invariant i known (omega (arith, lt, c.loop-import-test.false, c.len-import-end.ensures)) e
