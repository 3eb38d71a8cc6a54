use Rattle.std.proofs.Common.{◌≡◌, ◌∷◌, [], ◌++◌, codes, sym, subst, rules}
use Rattle.std.proofs.lemmas.Result.{on_ok_weaker}
use Rattle.json.specs.Token.{begin_object, end_object}
use Rattle.serde_json.specs.Data.{string}
use Rattle.nb_doc.specs.Writing.{texts_form, error_form}
use Rattle.nb_text.specs.Tokens.{member_tokens}
use Rattle.nb_text.proofs.Steps.{later}
use Rattle.nb_text.proofs.outputs.write_error.Goals as goal

pub returns : goal.returns
unfolding error_form
returns g c =
    let s1 : (g.W.Tokens.written c.token.new.self) ≡ (g.W.Tokens.written c.args.out.now) ++ begin_object ∷ [] = search rules in
    let s2 : (g.W.Tokens.written c.write_text.new.out) ≡ (g.W.Tokens.written c.token.new.self) ++ member_tokens (codes "ename") (string c.args.ename.now) = search rules in
    let s3 : (g.W.Tokens.written c.write_text-2.new.out) ≡ (g.W.Tokens.written c.write_text.new.out) ++ member_tokens (codes "evalue") (string c.args.evalue.now) = search rules in
    let s4 : (g.W.Tokens.written c.write_text-3.new.out) ≡ (g.W.Tokens.written c.write_text-2.new.out) ++ member_tokens (codes "output_type") (string (codes "error")) = c.in_ok-write_text-3.ensures in
    let s5 : (g.W.Tokens.written c.write_texts.new.out) ≡ (g.W.Tokens.written c.write_text-3.new.out) ++ member_tokens (codes "traceback") (texts_form c.args.traceback.now) = c.in_ok-write_texts.ensures in
    on_ok_weaker c.token-2.result (λ (e : (g.W.Tokens.written c.token-2.new.self) ≡ (g.W.Tokens.written c.write_texts.new.out) ++ end_object ∷ []). later (g.W.Tokens.written c.args.out.now) (g.W.Tokens.written c.token.new.self) (g.W.Tokens.written c.token-2.new.self) (begin_object ∷ []) ((member_tokens (codes "ename") (string c.args.ename.now)) ++ ((member_tokens (codes "evalue") (string c.args.evalue.now)) ++ ((member_tokens (codes "output_type") (string (codes "error"))) ++ ((member_tokens (codes "traceback") (texts_form c.args.traceback.now)) ++ (end_object ∷ []))))) s1 (later (g.W.Tokens.written c.token.new.self) (g.W.Tokens.written c.write_text.new.out) (g.W.Tokens.written c.token-2.new.self) (member_tokens (codes "ename") (string c.args.ename.now)) ((member_tokens (codes "evalue") (string c.args.evalue.now)) ++ ((member_tokens (codes "output_type") (string (codes "error"))) ++ ((member_tokens (codes "traceback") (texts_form c.args.traceback.now)) ++ (end_object ∷ [])))) s2 (later (g.W.Tokens.written c.write_text.new.out) (g.W.Tokens.written c.write_text-2.new.out) (g.W.Tokens.written c.token-2.new.self) (member_tokens (codes "evalue") (string c.args.evalue.now)) ((member_tokens (codes "output_type") (string (codes "error"))) ++ ((member_tokens (codes "traceback") (texts_form c.args.traceback.now)) ++ (end_object ∷ []))) s3 (later (g.W.Tokens.written c.write_text-2.new.out) (g.W.Tokens.written c.write_text-3.new.out) (g.W.Tokens.written c.token-2.new.self) (member_tokens (codes "output_type") (string (codes "error"))) ((member_tokens (codes "traceback") (texts_form c.args.traceback.now)) ++ (end_object ∷ [])) s4 (later (g.W.Tokens.written c.write_text-3.new.out) (g.W.Tokens.written c.write_texts.new.out) (g.W.Tokens.written c.token-2.new.self) (member_tokens (codes "traceback") (texts_form c.args.traceback.now)) (end_object ∷ []) s5 (e)))))) c.token-2.ensures
