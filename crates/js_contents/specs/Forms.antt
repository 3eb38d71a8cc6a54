-- To be believed.
-- What is shown of a thing at a path.
use Rattle.std.specs.Prelude.{ℕ, List, if◌then◌else◌, codes}
use Rattle.std.specs.Str.{is_utf8}
use Rattle.base64.specs.Engines.{standard}
use Rattle.base64.specs.GeneralPurpose.{encode_of}
use Rattle.serde_json.specs.Data.{Data, null, string}
use Rattle.js_tables.specs.declared.forms.About.{About}
use Rattle.js_tables.specs.Forms.{model_form}

-- without its content
abbrev pub bare_form : About → Data
bare_form about = model_form about null null null

abbrev pub text_form : About → List ℕ → List ℕ → List ℕ → Data
text_form about content format mimetype = model_form about (string content) (string format) (string mimetype)

-- a file, as text where it is text
abbrev pub file_form : About → List ℕ → Data
file_form about bytes =
    if is_utf8 bytes then text_form about bytes (codes "text") (codes "text/plain")
    else text_form about (encode_of standard bytes) (codes "base64") (codes "application/octet-stream")

-- a notebook or a folder
abbrev pub json_form : About → Data → Data
json_form about content = model_form about content (string (codes "json")) null
