use Rattle.std.proofs.Common.{◌≡◌, ◌∷◌, [], ◌++◌, codes, sym, subst, rules}
use Rattle.std.proofs.lemmas.Result.{on_ok_weaker}
use Rattle.json.specs.Token.{begin_object, end_object}
use Rattle.serde_json.specs.Data.{string}
use Rattle.nb_doc.specs.Writing.{lines_form, stream_form}
use Rattle.nb_text.specs.Tokens.{member_tokens}
use Rattle.nb_text.proofs.Steps.{later}
use Rattle.nb_text.proofs.outputs.write_stream.Goals as goal

pub returns : goal.returns
unfolding stream_form
returns g c =
    let s1 : (g.W.Tokens.written c.token.new.self) ≡ (g.W.Tokens.written c.args.out.now) ++ begin_object ∷ [] = search rules in
    let s2 : (g.W.Tokens.written c.write_text.new.out) ≡ (g.W.Tokens.written c.token.new.self) ++ member_tokens (codes "name") (string c.args.name.now) = search rules in
    let s3 : (g.W.Tokens.written c.write_text-2.new.out) ≡ (g.W.Tokens.written c.write_text.new.out) ++ member_tokens (codes "output_type") (string (codes "stream")) = c.in_ok-write_text-2.ensures in
    let s4 : (g.W.Tokens.written c.write_lines.new.out) ≡ (g.W.Tokens.written c.write_text-2.new.out) ++ member_tokens (codes "text") (lines_form c.args.text.now) = search rules in
    on_ok_weaker c.token-2.result (λ (e : (g.W.Tokens.written c.token-2.new.self) ≡ (g.W.Tokens.written c.write_lines.new.out) ++ end_object ∷ []). later (g.W.Tokens.written c.args.out.now) (g.W.Tokens.written c.token.new.self) (g.W.Tokens.written c.token-2.new.self) (begin_object ∷ []) ((member_tokens (codes "name") (string c.args.name.now)) ++ ((member_tokens (codes "output_type") (string (codes "stream"))) ++ ((member_tokens (codes "text") (lines_form c.args.text.now)) ++ (end_object ∷ [])))) s1 (later (g.W.Tokens.written c.token.new.self) (g.W.Tokens.written c.write_text.new.out) (g.W.Tokens.written c.token-2.new.self) (member_tokens (codes "name") (string c.args.name.now)) ((member_tokens (codes "output_type") (string (codes "stream"))) ++ ((member_tokens (codes "text") (lines_form c.args.text.now)) ++ (end_object ∷ []))) s2 (later (g.W.Tokens.written c.write_text.new.out) (g.W.Tokens.written c.write_text-2.new.out) (g.W.Tokens.written c.token-2.new.self) (member_tokens (codes "output_type") (string (codes "stream"))) ((member_tokens (codes "text") (lines_form c.args.text.now)) ++ (end_object ∷ [])) s3 (later (g.W.Tokens.written c.write_text-2.new.out) (g.W.Tokens.written c.write_lines.new.out) (g.W.Tokens.written c.token-2.new.self) (member_tokens (codes "text") (lines_form c.args.text.now)) (end_object ∷ []) s4 (e))))) c.token-2.ensures
