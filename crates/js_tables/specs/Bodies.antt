-- To be believed.
-- The bodies of requests: empty or an object of JSON. A field that is `null` counts as missing.
use Rattle.std.specs.Prelude.{ℕ, List, [], ◌∷◌, Option, Some, None, Result, Ok, Err, if◌then◌else◌, codes}
use Rattle.std.specs.Str.{bytes_eq, is_utf8}
use Rattle.serde_json.specs.Data.{Data}
use Rattle.serde_json.specs.Find.{as_str}
use Rattle.json_form.specs.Forms.{empty_object, object_of, whole_json, needed, optional, given}
use Rattle.js_http.specs.declared.response.ErrorStatus.{ErrorStatus}
use Rattle.js_http.specs.declared.response.ErrorStatus.TheVariants.{BadRequest}
use Rattle.js_tables.specs.Plans.{◌>>=◌, or_bad}

-- the JSON of a text
abbrev pub text_json : List ℕ → Result Data ErrorStatus
text_json text = or_bad (whole_json text)

-- an object, and no other value
abbrev pub only_object : Data → Result Data ErrorStatus
only_object d = or_bad (needed object_of (Some d))

abbrev pub text_body : List ℕ → Result Data ErrorStatus
text_body text = text_json text >>= only_object

-- the JSON of a body
abbrev pub body_of : List ℕ → Result Data ErrorStatus
body_of [] = Ok empty_object
body_of (b ∷ bs) = if is_utf8 (b ∷ bs) then text_body (b ∷ bs) else Err BadRequest

-- a text that has to be there
abbrev pub text_in : List ℕ → Data → Result (List ℕ) ErrorStatus
text_in key d = or_bad (needed as_str (given key d))

-- a text, or the default where it is missing
abbrev pub optional_text_in : List ℕ → List ℕ → Data → Result (List ℕ) ErrorStatus
optional_text_in key default d = or_bad (optional default as_str (given key d))

-- a text, if one is given
abbrev pub if_text : Option Data → Result (Option (List ℕ)) ErrorStatus
if_text None = Ok None
if_text (Some d) = or_bad (needed as_str (Some d)) >>= λ text. Ok (Some text)

abbrev pub given_text_in : List ℕ → Data → Result (Option (List ℕ)) ErrorStatus
given_text_in key d = if_text (given key d)

abbrev pub is_oberon : List ℕ → Result (Unit {0}) ErrorStatus
is_oberon name = if bytes_eq name (codes "oberon") then Ok tt else Err BadRequest

-- the kernel that a body names is oberon, as it is where it names none
abbrev pub name_checked : Data → Result (Unit {0}) ErrorStatus
name_checked d = optional_text_in (codes "name") (codes "oberon") d >>= is_oberon
