-- To be believed.
-- One pass after another over a notebook, up to the first fault.
use Rattle.std.specs.Prelude.{◌≡◌, Result, Ok, Err}
use Rattle.json_form.specs.declared.fault.Fault.{Fault}
use Rattle.json_form.specs.declared.fault.Fault.TheVariants as form
use Rattle.json_form.specs.declared.fault.Bad.{Bad}
use Rattle.json_form.specs.declared.fault.Bad.TheVariants as form_bad
use Rattle.nb_doc.specs.declared.fault.NbFault.{NbFault}
use Rattle.nb_doc.specs.declared.fault.NbFault.TheVariants.{NotJson, BadField, NotWhole}
use Rattle.nb_doc.specs.declared.fault.NbBad.{NbBad}
use Rattle.nb_doc.specs.declared.fault.NbBad.TheVariants as bad

infixl 10 ◌>>=◌
abbrev pub ◌>>=◌ : {A B : Type 0} → Result A NbFault → (A → Result B NbFault) → Result B NbFault
(Ok x) >>= f = f x
(Err e) >>= f = Err e

-- a fault of a field, seen from the notebook
abbrev pub fault_of : Fault → NbFault
fault_of form.NotJson = NotJson
fault_of form.NotWhole = NotWhole
fault_of form.Missing = BadField
fault_of form.WrongKind = BadField
fault_of form.TooLong = BadField

abbrev pub bad_of : Bad → NbBad
bad_of (form_bad.Fault f) = bad.Fault (fault_of f)
bad_of form_bad.Memory = bad.Memory

abbrev pub pass : {A : Type 0} → Result A Fault → Result A NbFault
pass (Ok x) = Ok x
pass (Err f) = Err (fault_of f)

-- What a function answered is what the definition gives, unless memory ran out.
abbrev pub Refuses : {X : Type 0} → NbBad → Result X NbFault → Type 0
Refuses (bad.Fault f) form = form ≡ Err f
Refuses bad.Memory form = Unit {0}

abbrev pub Answers : {X : Type 0} → Result X NbBad → Result X NbFault → Type 0
Answers (Ok x) form = form ≡ Ok x
Answers (Err e) form = Refuses e form
