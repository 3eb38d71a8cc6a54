use Rattle.std.proofs.Common.{◌≡◌, [], ◌∷◌, ◌++◌, codes, rules}
use Rattle.json.specs.Print.{print}
use Rattle.json.specs.Token.{begin_object, end_object}
use Rattle.serde_json.specs.Data.{null, string}
use Rattle.nb_doc.specs.Writing.{notebook_form}
use Rattle.nb_text.specs.Tokens.{member_tokens}
use Rattle.js_tables.specs.Forms.{body_text}
use Rattle.js_contents.specs.Forms.{json_form}
use Rattle.js_contents.specs.Shown.{place_tokens}
use Rattle.js_contents.proofs.Showing.{shown_text}
use Rattle.js_contents.proofs.shown.notebook_body.Goals as goal

pub returns : goal.returns
returns c =
    let none : c.new-out.result ≡ [] = search rules in
    let begun : c.begin.new.self ≡ c.new-out.result ++ begin_object ∷ [] = search rules in
    let content : c.notebook.new.self ≡ c.begin.new.self ++ member_tokens (codes "content") (notebook_form c.args.notebook.now) = search rules in
    let created : c.text.new.self ≡ c.notebook.new.self ++ member_tokens (codes "created") (string c.args.about.now.date) = search rules in
    let format : c.text-2.new.self ≡ c.text.new.self ++ member_tokens (codes "format") (string (codes "json")) = search rules in
    let modified : c.text-3.new.self ≡ c.text-2.new.self ++ member_tokens (codes "last_modified") (string c.args.about.now.date) = cc c.in_ok-text-3.ensures in
    let mimetype : c.null.new.self ≡ c.text-3.new.self ++ member_tokens (codes "mimetype") null = search rules in
    let place : c.write_place.new.out ≡ c.null.new.self ++ place_tokens c.args.about.now = search rules in
    let ended : c.end.new.self ≡ c.write_place.new.out ++ end_object ∷ [] = search rules in
    let text : print c.end.new.self ≡ body_text (json_form c.args.about.now (notebook_form c.args.notebook.now)) =
    shown_text c.args.about.now (notebook_form c.args.notebook.now) c.new-out.result c.begin.new.self c.notebook.new.self c.text.new.self c.text-2.new.self c.text-3.new.self
    c.null.new.self c.write_place.new.out c.end.new.self none begun content created format modified mimetype place ended in
    cc
