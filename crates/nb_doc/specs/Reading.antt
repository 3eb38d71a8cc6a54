-- To be believed.
-- Which notebook a text is, or the fault that comes first ("The Jupyter notebook format", nbformat 4.5; what is read
-- of 4.0 to 4.4 is raised to it). Each pass goes over all cells before the next.
use Rattle.std.specs.Prelude.{◌≡◌, ℕ, ◌==◌, ℤ, pos, negsuc, List, Bool, false, nat_lt, codes, Option, Some, None, option_and_then, if◌then◌else◌, Result, Ok, Err}
use Rattle.std.specs.List.{list_all}
use Rattle.std.specs.Ordering.{int_eq}
use Rattle.std.specs.Str.{is_utf8}
use Rattle.serde_json.specs.Data.{Data}
use Rattle.serde_json.specs.Find.{get}
use Rattle.json_form.specs.Forms.{whole_json, whole_of}
use Rattle.json_form.specs.declared.fault.Fault.{Fault}
use Rattle.json_form.specs.declared.fault.Fault.TheVariants as form
use Rattle.nb_doc.specs.declared.fault.NbFault.{NbFault}
use Rattle.nb_doc.specs.declared.fault.NbFault.TheVariants.{NotJson, NotWhole, OtherVersion, BadField, BadId, RepeatedId}
use Rattle.nb_doc.specs.declared.fault.NbBad.{NbBad}
use Rattle.nb_doc.specs.declared.fault.NbBad.TheVariants as bad
use Rattle.nb_doc.specs.declared.draft.Age.{Age}
use Rattle.nb_doc.specs.declared.draft.Age.TheVariants.{Current, Older}
use Rattle.nb_doc.specs.declared.draft.Draft.{Draft}
use Rattle.nb_doc.specs.declared.notebook.Notebook.{Notebook}
use Rattle.nb_doc.specs.Steps.{◌>>=◌, pass}
use Rattle.nb_doc.specs.Fields.{drafts_of}
use Rattle.nb_doc.specs.Ids.{is_allowed, are_distinct, standing, raise}

-- ---- the version

unfoldable pub number_at : List ℕ → Data → Option ℤ
number_at key d = option_and_then whole_of (get key d)

abbrev pub age_by_minor : ℤ → Result Age NbFault
age_by_minor (pos k) = if nat_lt k 5 then Ok Older else if k == 5 then Ok Current else Err OtherVersion
age_by_minor (negsuc k) = Err OtherVersion

abbrev pub age_by : Option ℤ → Option ℤ → Result Age NbFault
age_by None minor = Err OtherVersion
age_by (Some major) None = Err OtherVersion
age_by (Some major) (Some minor) = if int_eq major (pos 4) then age_by_minor minor else Err OtherVersion

abbrev pub minor_key : List ℕ
minor_key = codes "nbformat_minor"

unfoldable pub age_of : Data → Result Age NbFault
age_of d = age_by (number_at (codes "nbformat") d) (number_at minor_key d)

-- ---- the ids

-- why ids are not distinct, or lack of memory
abbrev pub IsRepeated : NbBad → Bool → Type 0
IsRepeated (bad.Fault f) distinct = (f ≡ RepeatedId) × (distinct ≡ false)
IsRepeated bad.Memory distinct = Unit {0}

unfoldable pub ids_of : List Draft → Result (Unit {0}) NbFault
ids_of ds =
    if list_all is_allowed (standing ds) then (if are_distinct (standing ds) then Ok tt else Err RepeatedId) else Err BadId

-- ---- the notebook

unfoldable pub notebook_of : Data → Result Notebook NbFault
notebook_of d = do
  age ← age_of d
  drafts ← pass (drafts_of age d)
  ids ← ids_of drafts.cells
  Ok (record { cells = raise drafts.cells; metadata = drafts.metadata })

-- JSON is UTF-8
unfoldable pub json_at : List ℕ → Result Data Fault
json_at text = if is_utf8 text then whole_json text else Err form.NotJson

unfoldable pub notebook_at : List ℕ → Result Notebook NbFault
notebook_at text = pass (json_at text) >>= notebook_of

unfoldable pub fault_number : NbFault → ℕ
fault_number NotJson = 1
fault_number BadField = 2
fault_number BadId = 3
fault_number RepeatedId = 4
fault_number OtherVersion = 5
fault_number NotWhole = 6
