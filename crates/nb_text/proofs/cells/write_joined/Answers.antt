use Rattle.std.proofs.Common.{◌≡◌, ◌∷◌, [], ◌++◌, codes, sym, subst, rules}
use Rattle.std.proofs.lemmas.Result.{on_ok_weaker}
use Rattle.json.specs.Token.{begin_object, end_object}
use Rattle.serde_json.specs.Data.{number, unsigned}
use Rattle.nb_doc.specs.Writing.{cells_form, notebook_form}
use Rattle.nb_text.specs.Tokens.{member_tokens}
use Rattle.nb_text.proofs.Steps.{later}
use Rattle.nb_text.proofs.cells.write_joined.Goals as goal

pub returns : goal.returns
unfolding notebook_form
returns g c =
    let s1 : (g.W.Tokens.written c.token.new.self) ≡ (g.W.Tokens.written c.args.out.now) ++ begin_object ∷ [] = search rules in
    let s2 : (g.W.Tokens.written c.write_cells.new.out) ≡ (g.W.Tokens.written c.token.new.self) ++ member_tokens (codes "cells") (cells_form c.args.notebook.now.cells) = search rules in
    let s3 : (g.W.Tokens.written c.write_json.new.out) ≡ (g.W.Tokens.written c.write_cells.new.out) ++ member_tokens (codes "metadata") c.args.notebook.now.metadata = search rules in
    let s4 : (g.W.Tokens.written c.write_version.new.out) ≡ (g.W.Tokens.written c.write_json.new.out) ++ member_tokens (codes "nbformat") (number (unsigned 4)) = search rules in
    let s5 : (g.W.Tokens.written c.write_version-2.new.out) ≡ (g.W.Tokens.written c.write_version.new.out) ++ member_tokens (codes "nbformat_minor") (number (unsigned 5)) = c.in_ok-write_version-2.ensures in
    on_ok_weaker c.token-2.result (λ (e : (g.W.Tokens.written c.token-2.new.self) ≡ (g.W.Tokens.written c.write_version-2.new.out) ++ end_object ∷ []). later (g.W.Tokens.written c.args.out.now) (g.W.Tokens.written c.token.new.self) (g.W.Tokens.written c.token-2.new.self) (begin_object ∷ []) ((member_tokens (codes "cells") (cells_form c.args.notebook.now.cells)) ++ ((member_tokens (codes "metadata") c.args.notebook.now.metadata) ++ ((member_tokens (codes "nbformat") (number (unsigned 4))) ++ ((member_tokens (codes "nbformat_minor") (number (unsigned 5))) ++ (end_object ∷ []))))) s1 (later (g.W.Tokens.written c.token.new.self) (g.W.Tokens.written c.write_cells.new.out) (g.W.Tokens.written c.token-2.new.self) (member_tokens (codes "cells") (cells_form c.args.notebook.now.cells)) ((member_tokens (codes "metadata") c.args.notebook.now.metadata) ++ ((member_tokens (codes "nbformat") (number (unsigned 4))) ++ ((member_tokens (codes "nbformat_minor") (number (unsigned 5))) ++ (end_object ∷ [])))) s2 (later (g.W.Tokens.written c.write_cells.new.out) (g.W.Tokens.written c.write_json.new.out) (g.W.Tokens.written c.token-2.new.self) (member_tokens (codes "metadata") c.args.notebook.now.metadata) ((member_tokens (codes "nbformat") (number (unsigned 4))) ++ ((member_tokens (codes "nbformat_minor") (number (unsigned 5))) ++ (end_object ∷ []))) s3 (later (g.W.Tokens.written c.write_json.new.out) (g.W.Tokens.written c.write_version.new.out) (g.W.Tokens.written c.token-2.new.self) (member_tokens (codes "nbformat") (number (unsigned 4))) ((member_tokens (codes "nbformat_minor") (number (unsigned 5))) ++ (end_object ∷ [])) s4 (later (g.W.Tokens.written c.write_version.new.out) (g.W.Tokens.written c.write_version-2.new.out) (g.W.Tokens.written c.token-2.new.self) (member_tokens (codes "nbformat_minor") (number (unsigned 5))) (end_object ∷ []) s5 (e)))))) c.token-2.ensures
