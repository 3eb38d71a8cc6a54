use Rattle.std.proofs.Common.{◌≡◌, ◌++◌, codes, true, rules}
use Rattle.std.proofs.lemmas.Result.{on_ok_weaker}
use Rattle.serde_json.specs.Data.{boolean, string}
use Rattle.nb_text.specs.Tokens.{member_tokens}
use Rattle.js_tables.specs.Forms.{kind_name}
use Rattle.js_contents.proofs.Showing.{place_steps}
use Rattle.js_contents.proofs.shown.write_place.Goals as goal

pub returns : goal.returns
returns c =
    let name : c.text.new.self ≡ c.args.out.now ++ member_tokens (codes "name") (string c.args.about.now.name) = search rules in
    let path : c.text-2.new.self ≡ c.text.new.self ++ member_tokens (codes "path") (string c.args.about.now.path) = search rules in
    let kind : c.text-3.new.self ≡ c.text-2.new.self ++ member_tokens (codes "type") (string (kind_name c.args.about.now.kind)) = search rules in
    on_ok_weaker c.boolean.result (λ (e : c.boolean.new.self ≡ c.text-3.new.self ++ member_tokens (codes "writable") (boolean true)).
    place_steps c.args.about.now c.args.out.now c.text.new.self c.text-2.new.self c.text-3.new.self c.boolean.new.self name path kind e) c.boolean.ensures
