-- The last members by which something is shown.
use Rattle.std.specs.Prelude.{List, [], ◌++◌, codes, true}
use Rattle.json.specs.Token.{Token}
use Rattle.serde_json.specs.Data.{boolean, string}
use Rattle.js_tables.specs.declared.forms.About.{About}
use Rattle.js_tables.specs.Forms.{kind_name}
use Rattle.nb_text.specs.Tokens.{member_tokens}

abbrev pub place_tokens : About → List Token
place_tokens about =
    member_tokens (codes "name") (string about.name) ++ (member_tokens (codes "path") (string about.path) ++
    (member_tokens (codes "type") (string (kind_name about.kind)) ++ member_tokens (codes "writable") (boolean true)))
