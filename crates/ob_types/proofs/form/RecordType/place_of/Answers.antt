use Rattle.std.proofs.Common.{sym, ◌∙◌, ap, subst}
use Rattle.std.specs.Prelude.{IfSome}
use Rattle.ob_types.specs.declared.structure.RecordType.{out-RecordType, out-roll-RecordType}
use Rattle.ob_types.specs.Forms.{place_from, IsIndexFrom}
use Rattle.ob_types.proofs.form.RecordType.place_of.Goals as goal

pub returns-in-Some-get : goal.returns-in-Some-get
returns-in-Some-get c =
    let index : IsIndexFrom 0 c.in-Some.places c.self.inside.fields = subst (λ o. IfSome o (λ p. IsIndexFrom 0 p c.self.inside.fields)) c.in-Some.is c.self.invariant.5 in
    c.in-Some-get.ensures.value
    ∙ index c.as_slice.result.now
    ∙ ap (place_from 0 c.self.inside.fields) c.as_slice.ensures
    ∙ ap (λ r. place_from 0 r.fields c.args.name.now) (sym (out-roll-RecordType (record { name = c.self.inside.name; fields = c.self.inside.fields })))
    ∙ ap (λ r. place_from 0 (out-RecordType r).fields c.args.name.now) c.self.view_is

pub returns-in-None-get : goal.returns-in-None-get
returns-in-None-get c =
    let index : IsIndexFrom 0 c.in-Some.places c.self.inside.fields = subst (λ o. IfSome o (λ p. IsIndexFrom 0 p c.self.inside.fields)) c.in-Some.is c.self.invariant.5 in
    c.in-None-get.ensures.value
    ∙ index c.as_slice.result.now
    ∙ ap (place_from 0 c.self.inside.fields) c.as_slice.ensures
    ∙ ap (λ r. place_from 0 r.fields c.args.name.now) (sym (out-roll-RecordType (record { name = c.self.inside.name; fields = c.self.inside.fields })))
    ∙ ap (λ r. place_from 0 (out-RecordType r).fields c.args.name.now) c.self.view_is
