-- The text that shows a notebook.
use Rattle.std.proofs.Common.{◌≡◌, List, [], ◌∷◌, ◌++◌, codes, true, refl, ap, ◌∙◌}
use Rattle.json.specs.Token.{Token, begin_object, end_object}
use Rattle.json.specs.Print.{print}
use Rattle.serde_json.specs.Data.{Data, null, boolean, string}
use Rattle.serde_json.proofs.Texts.{print-outline}
use Rattle.nb_text.specs.Tokens.{data_tokens, member_tokens}
use Rattle.nb_text.proofs.Steps.{later}
use Rattle.js_tables.specs.declared.forms.About.{About}
use Rattle.js_tables.specs.Forms.{body_text, kind_name, model_form}
use Rattle.js_contents.specs.Forms.{json_form}
use Rattle.js_contents.specs.Shown.{place_tokens}

-- the last members, one after another
pub place_steps : (about : About) (a b c d e : List Token)
    → b ≡ a ++ member_tokens (codes "name") (string about.name) → c ≡ b ++ member_tokens (codes "path") (string about.path)
    → d ≡ c ++ member_tokens (codes "type") (string (kind_name about.kind)) → e ≡ d ++ member_tokens (codes "writable") (boolean true)
    → e ≡ a ++ place_tokens about
place_steps about a b c d e name path kind writable = later a b e _ _ name (later b c e _ _ path (later c d e _ _ kind writable))

-- all that stands in the text
abbrev shown_tokens : About → Data → List Token
shown_tokens about d =
    (begin_object ∷ []) ++ (member_tokens (codes "content") d ++ (member_tokens (codes "created") (string about.date) ++
    (member_tokens (codes "format") (string (codes "json")) ++ (member_tokens (codes "last_modified") (string about.date) ++
    (member_tokens (codes "mimetype") null ++ (place_tokens about ++ end_object ∷ []))))))

shown_is : (about : About) (d : Data) → shown_tokens about d ≡ data_tokens (json_form about d)
unfolding model_form
shown_is about d = refl

text_is : (d : Data) (ts : List Token) → ts ≡ data_tokens d → print ts ≡ body_text d
unfolding body_text
text_is d ts same = ap print same ∙ print-outline d

-- the whole text, member by member
pub shown_text : (about : About) (d : Data) (t0 t1 t2 t3 t4 t5 t6 t7 t8 : List Token) → t0 ≡ [] → t1 ≡ t0 ++ begin_object ∷ []
    → t2 ≡ t1 ++ member_tokens (codes "content") d → t3 ≡ t2 ++ member_tokens (codes "created") (string about.date)
    → t4 ≡ t3 ++ member_tokens (codes "format") (string (codes "json")) → t5 ≡ t4 ++ member_tokens (codes "last_modified") (string about.date)
    → t6 ≡ t5 ++ member_tokens (codes "mimetype") null → t7 ≡ t6 ++ place_tokens about → t8 ≡ t7 ++ end_object ∷ []
    → print t8 ≡ body_text (json_form about d)
shown_text about d t0 t1 t2 t3 t4 t5 t6 t7 t8 none begun content created format modified mimetype place ended =
    let all : t8 ≡ t0 ++ shown_tokens about d =
    later t0 t1 t8 _ _ begun (later t1 t2 t8 _ _ content (later t2 t3 t8 _ _ created (later t3 t4 t8 _ _ format (later t4 t5 t8 _ _ modified (later t5 t6 t8 _ _ mimetype (later t6 t7 t8 _ _ place ended)))))) in
    text_is (json_form about d) t8 (all ∙ ap (λ l. l ++ shown_tokens about d) none ∙ shown_is about d)
