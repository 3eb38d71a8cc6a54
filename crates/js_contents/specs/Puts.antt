-- To be believed.
-- What a PUT says that it puts.
use Rattle.std.specs.Prelude.{ℕ, ◌==◌, Bool, not, ◌&&◌, List, filter, Option, Some, None, Result, Ok, Err, if◌then◌else◌, codes}
use Rattle.std.specs.Str.{bytes_eq}
use Rattle.base64.specs.Engines.{standard}
use Rattle.base64.specs.GeneralPurpose.{decode_of}
use Rattle.serde_json.specs.Data.{Data}
use Rattle.json_form.specs.Forms.{given}
use Rattle.nb_doc.specs.declared.notebook.Notebook.{Notebook}
use Rattle.js_http.specs.declared.response.ErrorStatus.{ErrorStatus}
use Rattle.js_http.specs.declared.response.ErrorStatus.TheVariants.{BadRequest}
use Rattle.js_tables.specs.Bodies.{body_of, text_in, given_text_in}
use Rattle.js_tables.specs.Plans.{◌>>=◌}
use Rattle.js_contents.specs.declared.put.Putting.{Putting}
use Rattle.js_contents.specs.declared.place.Place.{Place}
use Rattle.js_contents.specs.declared.put.PutBody.{PutBody}
use Rattle.js_contents.specs.declared.put.Ready.{Ready}
use Rattle.js_contents.specs.declared.put.Putting.TheVariants.{Folder, File, Notebook as Book}
use Rattle.js_contents.specs.Kinds.{is_notebook_name}
use Rattle.js_contents.specs.Notebooks.{notebook_in, notebook_of}
use Rattle.js_contents.specs.Places.{place_of}

-- line ends are skipped
abbrev pub is_plain : ℕ → Bool
is_plain byte = not (byte == 10) && not (byte == 13)

abbrev pub file_or_bad : {E : Type 0} → Result (List ℕ) E → Result Putting ErrorStatus
file_or_bad (Ok bytes) = Ok (File bytes)
file_or_bad (Err e) = Err BadRequest

abbrev pub decoded : List ℕ → Result Putting ErrorStatus
decoded text = file_or_bad (decode_of standard (filter is_plain text))

abbrev pub file_of : List ℕ → List ℕ → Result Putting ErrorStatus
file_of format content =
    if bytes_eq format (codes "text") then Ok (File content)
    else (if bytes_eq format (codes "base64") then decoded content else Err BadRequest)

abbrev pub file_in : Data → Result Putting ErrorStatus
file_in d = text_in (codes "format") d >>= λ format. (text_in (codes "content") d >>= λ content. file_of format content)

-- the content of a notebook, which has to be there
abbrev pub or_missing : Option Data → Result Data ErrorStatus
or_missing None = Err BadRequest
or_missing (Some d) = Ok d

abbrev pub content_in : Data → Result Data ErrorStatus
content_in d = or_missing (given (codes "content") d)

abbrev pub as_notebook : Notebook → Result Putting ErrorStatus
as_notebook n = Ok (Book n)

-- a notebook: the content itself
abbrev pub notebook_putting : Data → Result Putting ErrorStatus
notebook_putting d = content_in d >>= λ c. (notebook_of c >>= as_notebook)

-- the type says what is put
abbrev pub putting_of : List ℕ → Data → Result Putting ErrorStatus
putting_of kind d =
    if bytes_eq kind (codes "directory") then Ok Folder
    else (if bytes_eq kind (codes "file") then file_in d
    else (if bytes_eq kind (codes "notebook") then notebook_putting d else Err BadRequest))

abbrev pub putting_in : Data → Result Putting ErrorStatus
putting_in d = text_in (codes "type") d >>= λ kind. putting_of kind d

-- with `last_modified`, which may be missing
abbrev pub put_body_in : Data → Result PutBody ErrorStatus
put_body_in d =
    given_text_in (codes "last_modified") d >>= λ date. (putting_in d >>= λ p. Ok (record { putting = p; last_modified = date }))

abbrev pub put_body : List ℕ → Result PutBody ErrorStatus
put_body body = body_of body >>= put_body_in

-- under a name: a file under a notebook's name is read as a notebook, and a notebook goes nowhere else
abbrev pub fitted_by : Bool → Putting → Result Putting ErrorStatus
fitted_by is_notebook Folder = Ok Folder
fitted_by is_notebook (File bytes) = if is_notebook then (notebook_in bytes >>= as_notebook) else Ok (File bytes)
fitted_by is_notebook (Book n) = if is_notebook then Ok (Book n) else Err BadRequest

abbrev pub fitted : List ℕ → Putting → Result Putting ErrorStatus
fitted name p = fitted_by (is_notebook_name name) p

-- what is put, and where: the body's fields, the path, and what may be put there, in this order
abbrev pub ready_put : List ℕ → List (List ℕ) → Result Ready ErrorStatus
ready_put text segments =
    put_body text >>= λ body.
    (place_of segments >>= λ place.
    (fitted place.name body.putting >>= λ p. Ok (record { place = place; body = record { putting = p; last_modified = body.last_modified } })))
