-- What a form reads, seen as an answer of the server.
use Rattle.std.proofs.Common.{◌≡◌, ℕ, List, true, false, Bool, Result, Ok, Err, ap, refl}
use Rattle.std.specs.Str.{IsUtf8, is_utf8}
use Rattle.std.proofs.lemmas.Str.{IsUtf8-from_is_utf8, is_utf8-from_IsUtf8}
use Rattle.json_form.specs.declared.fault.Fault.{Fault}
use Rattle.json_form.specs.declared.fault.Bad.{Bad}
use Rattle.json_form.specs.declared.fault.Bad.TheVariants as bad
use Rattle.json_form.specs.Forms as form
use Rattle.js_tables.specs.Plans.{Gives, Fails, or_bad, of_bad}

pub gives_ok : {X : Type 0} (x : X) (f : Result X Fault) → form.Gives (Ok x) f → Gives (Ok x) (or_bad f)
gives_ok x f h = ap or_bad h

pub gives_err : {X : Type 0} (b : Bad) (f : Result X Fault) → form.Fails b f → Fails (of_bad b) (or_bad f)
gives_err (bad.Fault g) f h = ap or_bad h
gives_err bad.Memory f h = tt

pub is_text : (bs : List ℕ) → IsUtf8 bs → is_utf8 bs ≡ true
is_text bs h = is_utf8-from_IsUtf8 bs h

no_text : (bs : List ℕ) (b : Bool) → is_utf8 bs ≡ b → ¬ (IsUtf8 bs) → b ≡ false
no_text bs true e h = absurd (h (IsUtf8-from_is_utf8 bs e))
no_text bs false e h = refl

pub is_no_text : (bs : List ℕ) → ¬ (IsUtf8 bs) → is_utf8 bs ≡ false
is_no_text bs h = no_text bs (is_utf8 bs) refl h
