-- What the body of a request says that puts a notebook: an object with the notebook as `content`, the type `notebook`, and perhaps
-- the date of the file's last put.
use Rattle.std.specs.Prelude.{◌≡◌, ◌<◌, List, ℕ, length, codes, false, Option, Some, None, option_map}
use Rattle.std.specs.Str.{IsUtf8}
use Rattle.serde_json.specs.Data.{Data}
use Rattle.serde_json.specs.Find.{get, as_str}
use Rattle.serde_json.specs.Read.{read}
use Rattle.json_form.specs.Forms.{Has, given, text_has_float}
use Rattle.nb_doc.specs.declared.notebook.Notebook.{Notebook}
use Rattle.nb_doc.specs.TextForms.{IsNotebook}

-- a date that may be missing
abbrev pub dated : Option Data → Option (Option (List ℕ))
dated None = Some None
dated (Some d) = option_map (λ s. Some s) (as_str d)

pub record IsBookValue (d : Data) (n : Notebook) (date : Option (List ℕ)) : Type 0 where
  pub kind : Has as_str (codes "type") d (codes "notebook")
  pub content : Data
  pub has_content : get (codes "content") d ≡ Some content
  pub notebook : IsNotebook content n
  pub date_is : dated (given (codes "last_modified") d) ≡ Some date

pub record IsBookPut (text : List ℕ) (n : Notebook) (date : Option (List ℕ)) : Type 0 where
  pub filled : 0 < length text
  pub utf8 : IsUtf8 text
  pub value : Data
  pub reads : read text ≡ Some value
  pub whole : text_has_float text ≡ false
  pub put : IsBookValue value n date
