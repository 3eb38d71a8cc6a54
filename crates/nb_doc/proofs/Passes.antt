-- A fault of one pass is the fault of all.
use Rattle.std.proofs.Common.{◌≡◌, List, ℕ, Bool, true, false, cond, Result, Err, refl, sym, ap, ◌∙◌}
use Rattle.std.proofs.lemmas.Bool.{true≢false}
use Rattle.std.proofs.lemmas.Str.{IsUtf8-from_is_utf8, is_utf8-from_IsUtf8}
use Rattle.std.specs.Str.{IsUtf8, is_utf8}
use Rattle.serde_json.specs.Data.{Data}
use Rattle.json_form.specs.declared.fault.Fault.{Fault}
use Rattle.json_form.specs.declared.fault.Fault.TheVariants.{NotJson}
use Rattle.json_form.specs.declared.fault.Bad.{Bad}
use Rattle.json_form.specs.declared.fault.Bad.TheVariants as form_bad
use Rattle.json_form.specs.Forms.{Fails, Gives, whole_json}
use Rattle.nb_doc.specs.declared.fault.NbFault.{NbFault}
use Rattle.nb_doc.specs.declared.fault.NbBad.{NbBad}
use Rattle.nb_doc.specs.declared.fault.NbBad.TheVariants as bad
use Rattle.nb_doc.specs.Steps.{◌>>=◌, pass, bad_of, Refuses}
use Rattle.nb_doc.specs.Reading.{json_at}

pub passes_fault : {X Y : Type 0} (e : Bad) (form : Result X Fault) (f : X → Result Y NbFault) → Fails e form → Refuses (bad_of e) (pass form >>= f)
passes_fault (form_bad.Fault g) form f h = ap (λ r. pass r >>= f) h
passes_fault form_bad.Memory form f h = tt

pub refuses_later : {X Y : Type 0} (e : NbBad) (form : Result X NbFault) (f : X → Result Y NbFault) → Refuses e form → Refuses e (form >>= f)
refuses_later (bad.Fault g) form f h = ap (λ r. r >>= f) h
refuses_later bad.Memory form f h = tt

pub reads_utf8 : (bytes : List ℕ) (r : Result Data Bad) → (IsUtf8 bytes → Gives r (whole_json bytes)) → (¬ (IsUtf8 bytes) → Gives r (Err NotJson)) → Gives r (json_at bytes)
unfolding json_at
reads_utf8 bytes r text other = go (is_utf8 bytes) refl
  where
    go : (b : Bool) → is_utf8 bytes ≡ b → Gives r (cond b (whole_json bytes) (Err NotJson))
    go true h = text (IsUtf8-from_is_utf8 bytes h)
    go false h = other (λ u. true≢false (sym (is_utf8-from_IsUtf8 bytes u) ∙ h))
