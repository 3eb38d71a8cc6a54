use Rattle.std.proofs.Common.{◌≡◌, Some, length, refl, sym, subst}
use Rattle.std.specs.Prelude.{slice_get}
use Rattle.std.proofs.lemmas.Option.{slice_get_read}
use Rattle.ob_code.specs.Valid.{RootFits}
use Rattle.ob_verify.proofs.validate.root_fits.Goals as goal

pub returns-in-Some : goal.returns-in-Some
returns-in-Some c = λ yes.
    let there = c.in-Some.ensures.lookup in
    let read = slice_get_read c.deref.result.now (length c.deref.result.now) c.in-OfImport.import c.in-Some.known.now refl there.3.0 there.1 in
    let found = subst (λ l. slice_get l c.in-OfImport.import ≡ Some c.in-Some.known.now) c.deref.ensures.value read in
    subst (RootFits c.args.code.now c.args.procedure.now) (sym c.in-OfImport.is) (c.in-Some.known.now, found, c.extent_fits-in-Some.ensures yes)
