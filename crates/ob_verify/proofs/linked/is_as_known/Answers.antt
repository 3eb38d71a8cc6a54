use Rattle.std.proofs.Common.{length, refl, sym, ◌∙◌}
use Rattle.std.proofs.lemmas.Option.{slice_get_read}
use Rattle.ob_verify.proofs.linked.is_as_known.Goals as goal

pub returns-then-known-imported-clause-known : goal.returns-then-known-imported-clause-known
returns-then-known-imported-clause-known c = λ yes.
    let there = c.in-Some.ensures.lookup in
    record {
      may_run = sym c.runs.ensures ∙ c.if-not-runs.false;
      l = c.in-Some.imported.now;
      loaded = slice_get_read c.args.modules.now (length c.args.modules.now) c.args.number c.in-Some.imported.now refl there.3.0 there.1;
      cells = c.if-known-imported.true;
      exports = c.exports.ensures.exports yes;
    }
