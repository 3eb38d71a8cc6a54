use Rattle.std.proofs.Common.{◌≡◌, Some, length, refl, subst}
use Rattle.std.specs.Prelude.{slice_get}
use Rattle.std.proofs.lemmas.Option.{slice_get_read}
use Rattle.ob_verify.proofs.linked.exports_at.Goals as goal

pub returns-in-Some-get-clause-exports : goal.returns-in-Some-get-clause-exports
returns-in-Some-get-clause-exports c = λ yes.
    let there = c.in-Some.ensures.lookup in
    let number = slice_get_read c.deref.result.now (length c.deref.result.now) c.args.place c.in-Some.number.now refl there.3.0 there.1 in
    let behind = c.in-Some-get.ensures.lookup in
    let procedure = slice_get_read c.deref-in-Some.result.now (length c.deref-in-Some.result.now) c.in-Some.number.now c.in-Some-get.procedure.now refl behind.3.0 behind.1 in
    record {
      number = c.in-Some.number.now;
      f = c.in-Some-get.procedure.now;
      exported = subst (λ l. slice_get l c.args.place ≡ Some c.in-Some.number.now) c.deref.ensures.value number;
      found = subst (λ l. slice_get l c.in-Some.number.now ≡ Some c.in-Some-get.procedure.now) c.deref-in-Some.ensures.value procedure;
      same = c.takes_the_same.ensures.same yes;
    }
