use Rattle.std.proofs.Common.{◌≡◌, ◌∷◌, [], ◌++◌, codes, sym, subst, rules}
use Rattle.std.proofs.lemmas.Result.{on_ok_weaker}
use Rattle.json.specs.Token.{begin_object, end_object}
use Rattle.serde_json.specs.Data.{string}
use Rattle.nb_doc.specs.Writing.{lines_form, text_form}
use Rattle.nb_text.specs.Tokens.{member_tokens, attachments_tokens, data_tokens}
use Rattle.nb_text.proofs.Plain.{plain_tokens}
use Rattle.nb_text.proofs.Steps.{later}
use Rattle.nb_text.proofs.cells.write_plain.Goals as goal

pub returns : goal.returns
returns g c =
    let s1 : (g.W.Tokens.written c.token.new.self) ≡ (g.W.Tokens.written c.args.out.now) ++ begin_object ∷ [] = search rules in
    let s2 : (g.W.Tokens.written c.write_attachments.new.out) ≡ (g.W.Tokens.written c.token.new.self) ++ attachments_tokens c.args.attachments.now = search rules in
    let s3 : (g.W.Tokens.written c.write_text.new.out) ≡ (g.W.Tokens.written c.write_attachments.new.out) ++ member_tokens (codes "cell_type") (string c.args.kind.now) = search rules in
    let s4 : (g.W.Tokens.written c.write_text-2.new.out) ≡ (g.W.Tokens.written c.write_text.new.out) ++ member_tokens (codes "id") (string c.args.cell.now.id) = search rules in
    let s5 : (g.W.Tokens.written c.write_json.new.out) ≡ (g.W.Tokens.written c.write_text-2.new.out) ++ member_tokens (codes "metadata") c.args.cell.now.metadata = search rules in
    let s6 : (g.W.Tokens.written c.write_lines.new.out) ≡ (g.W.Tokens.written c.write_json.new.out) ++ member_tokens (codes "source") (lines_form c.args.cell.now.source) = search rules in
    on_ok_weaker c.token-2.result (λ (e : (g.W.Tokens.written c.token-2.new.self) ≡ (g.W.Tokens.written c.write_lines.new.out) ++ end_object ∷ []). subst (λ ts. (g.W.Tokens.written c.token-2.new.self) ≡ (g.W.Tokens.written c.args.out.now) ++ ts) (plain_tokens c.args.kind.now c.args.cell.now.id c.args.cell.now.source c.args.cell.now.metadata c.args.attachments.now) (later (g.W.Tokens.written c.args.out.now) (g.W.Tokens.written c.token.new.self) (g.W.Tokens.written c.token-2.new.self) (begin_object ∷ []) ((attachments_tokens c.args.attachments.now) ++ ((member_tokens (codes "cell_type") (string c.args.kind.now)) ++ ((member_tokens (codes "id") (string c.args.cell.now.id)) ++ ((member_tokens (codes "metadata") c.args.cell.now.metadata) ++ ((member_tokens (codes "source") (lines_form c.args.cell.now.source)) ++ (end_object ∷ [])))))) s1 (later (g.W.Tokens.written c.token.new.self) (g.W.Tokens.written c.write_attachments.new.out) (g.W.Tokens.written c.token-2.new.self) (attachments_tokens c.args.attachments.now) ((member_tokens (codes "cell_type") (string c.args.kind.now)) ++ ((member_tokens (codes "id") (string c.args.cell.now.id)) ++ ((member_tokens (codes "metadata") c.args.cell.now.metadata) ++ ((member_tokens (codes "source") (lines_form c.args.cell.now.source)) ++ (end_object ∷ []))))) s2 (later (g.W.Tokens.written c.write_attachments.new.out) (g.W.Tokens.written c.write_text.new.out) (g.W.Tokens.written c.token-2.new.self) (member_tokens (codes "cell_type") (string c.args.kind.now)) ((member_tokens (codes "id") (string c.args.cell.now.id)) ++ ((member_tokens (codes "metadata") c.args.cell.now.metadata) ++ ((member_tokens (codes "source") (lines_form c.args.cell.now.source)) ++ (end_object ∷ [])))) s3 (later (g.W.Tokens.written c.write_text.new.out) (g.W.Tokens.written c.write_text-2.new.out) (g.W.Tokens.written c.token-2.new.self) (member_tokens (codes "id") (string c.args.cell.now.id)) ((member_tokens (codes "metadata") c.args.cell.now.metadata) ++ ((member_tokens (codes "source") (lines_form c.args.cell.now.source)) ++ (end_object ∷ []))) s4 (later (g.W.Tokens.written c.write_text-2.new.out) (g.W.Tokens.written c.write_json.new.out) (g.W.Tokens.written c.token-2.new.self) (member_tokens (codes "metadata") c.args.cell.now.metadata) ((member_tokens (codes "source") (lines_form c.args.cell.now.source)) ++ (end_object ∷ [])) s5 (later (g.W.Tokens.written c.write_json.new.out) (g.W.Tokens.written c.write_lines.new.out) (g.W.Tokens.written c.token-2.new.self) (member_tokens (codes "source") (lines_form c.args.cell.now.source)) (end_object ∷ []) s6 (e)))))))) c.token-2.ensures
