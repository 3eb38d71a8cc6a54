use Rattle.std.proofs.Common.{◌≡◌, ◌∷◌, [], ◌++◌, codes, sym, subst, rules}
use Rattle.std.proofs.lemmas.Result.{on_ok_weaker}
use Rattle.json.specs.Token.{begin_object, end_object}
use Rattle.serde_json.specs.Data.{string}
use Rattle.nb_doc.specs.Writing.{count_form, outputs_form, lines_form, code_form}
use Rattle.nb_text.specs.Tokens.{member_tokens}
use Rattle.nb_text.proofs.Steps.{later}
use Rattle.nb_text.proofs.cells.write_code.Goals as goal

pub returns : goal.returns
unfolding code_form
returns g c =
    let s1 : (g.W.Tokens.written c.token.new.self) ≡ (g.W.Tokens.written c.args.out.now) ++ begin_object ∷ [] = search rules in
    let s2 : (g.W.Tokens.written c.write_text.new.out) ≡ (g.W.Tokens.written c.token.new.self) ++ member_tokens (codes "cell_type") (string (codes "code")) = search rules in
    let s3 : (g.W.Tokens.written c.write_count.new.out) ≡ (g.W.Tokens.written c.write_text.new.out) ++ member_tokens (codes "execution_count") (count_form c.args.execution.now.execution_count) = c.in_ok-write_count.ensures in
    let s4 : (g.W.Tokens.written c.write_text-2.new.out) ≡ (g.W.Tokens.written c.write_count.new.out) ++ member_tokens (codes "id") (string c.args.cell.now.id) = search rules in
    let s5 : (g.W.Tokens.written c.write_json.new.out) ≡ (g.W.Tokens.written c.write_text-2.new.out) ++ member_tokens (codes "metadata") c.args.cell.now.metadata = search rules in
    let s6 : (g.W.Tokens.written c.write_outputs.new.out) ≡ (g.W.Tokens.written c.write_json.new.out) ++ member_tokens (codes "outputs") (outputs_form c.args.execution.now.outputs) = search rules in
    let s7 : (g.W.Tokens.written c.write_lines.new.out) ≡ (g.W.Tokens.written c.write_outputs.new.out) ++ member_tokens (codes "source") (lines_form c.args.cell.now.source) = search rules in
    on_ok_weaker c.token-2.result (λ (e : (g.W.Tokens.written c.token-2.new.self) ≡ (g.W.Tokens.written c.write_lines.new.out) ++ end_object ∷ []). later (g.W.Tokens.written c.args.out.now) (g.W.Tokens.written c.token.new.self) (g.W.Tokens.written c.token-2.new.self) (begin_object ∷ []) ((member_tokens (codes "cell_type") (string (codes "code"))) ++ ((member_tokens (codes "execution_count") (count_form c.args.execution.now.execution_count)) ++ ((member_tokens (codes "id") (string c.args.cell.now.id)) ++ ((member_tokens (codes "metadata") c.args.cell.now.metadata) ++ ((member_tokens (codes "outputs") (outputs_form c.args.execution.now.outputs)) ++ ((member_tokens (codes "source") (lines_form c.args.cell.now.source)) ++ (end_object ∷ []))))))) s1 (later (g.W.Tokens.written c.token.new.self) (g.W.Tokens.written c.write_text.new.out) (g.W.Tokens.written c.token-2.new.self) (member_tokens (codes "cell_type") (string (codes "code"))) ((member_tokens (codes "execution_count") (count_form c.args.execution.now.execution_count)) ++ ((member_tokens (codes "id") (string c.args.cell.now.id)) ++ ((member_tokens (codes "metadata") c.args.cell.now.metadata) ++ ((member_tokens (codes "outputs") (outputs_form c.args.execution.now.outputs)) ++ ((member_tokens (codes "source") (lines_form c.args.cell.now.source)) ++ (end_object ∷ [])))))) s2 (later (g.W.Tokens.written c.write_text.new.out) (g.W.Tokens.written c.write_count.new.out) (g.W.Tokens.written c.token-2.new.self) (member_tokens (codes "execution_count") (count_form c.args.execution.now.execution_count)) ((member_tokens (codes "id") (string c.args.cell.now.id)) ++ ((member_tokens (codes "metadata") c.args.cell.now.metadata) ++ ((member_tokens (codes "outputs") (outputs_form c.args.execution.now.outputs)) ++ ((member_tokens (codes "source") (lines_form c.args.cell.now.source)) ++ (end_object ∷ []))))) s3 (later (g.W.Tokens.written c.write_count.new.out) (g.W.Tokens.written c.write_text-2.new.out) (g.W.Tokens.written c.token-2.new.self) (member_tokens (codes "id") (string c.args.cell.now.id)) ((member_tokens (codes "metadata") c.args.cell.now.metadata) ++ ((member_tokens (codes "outputs") (outputs_form c.args.execution.now.outputs)) ++ ((member_tokens (codes "source") (lines_form c.args.cell.now.source)) ++ (end_object ∷ [])))) s4 (later (g.W.Tokens.written c.write_text-2.new.out) (g.W.Tokens.written c.write_json.new.out) (g.W.Tokens.written c.token-2.new.self) (member_tokens (codes "metadata") c.args.cell.now.metadata) ((member_tokens (codes "outputs") (outputs_form c.args.execution.now.outputs)) ++ ((member_tokens (codes "source") (lines_form c.args.cell.now.source)) ++ (end_object ∷ []))) s5 (later (g.W.Tokens.written c.write_json.new.out) (g.W.Tokens.written c.write_outputs.new.out) (g.W.Tokens.written c.token-2.new.self) (member_tokens (codes "outputs") (outputs_form c.args.execution.now.outputs)) ((member_tokens (codes "source") (lines_form c.args.cell.now.source)) ++ (end_object ∷ [])) s6 (later (g.W.Tokens.written c.write_outputs.new.out) (g.W.Tokens.written c.write_lines.new.out) (g.W.Tokens.written c.token-2.new.self) (member_tokens (codes "source") (lines_form c.args.cell.now.source)) (end_object ∷ []) s7 (e)))))))) c.token-2.ensures
