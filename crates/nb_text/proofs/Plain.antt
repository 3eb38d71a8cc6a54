-- The tokens of a cell of text.
use Rattle.std.proofs.Common.{◌≡◌, ℕ, List, [], ◌∷◌, ◌++◌, codes, Option, Some, None, refl}
use Rattle.json.specs.Token.{begin_object, end_object}
use Rattle.serde_json.specs.Data.{Data, string}
use Rattle.nb_doc.specs.Writing.{lines_form, text_form}
use Rattle.nb_text.specs.Tokens.{data_tokens, member_tokens, attachments_tokens}

pub plain_tokens : (kind id source : List ℕ) (metadata : Data) (a : Option Data)
    → (begin_object ∷ []) ++ (attachments_tokens a ++ (member_tokens (codes "cell_type") (string kind) ++ (member_tokens (codes "id") (string id) ++ (member_tokens (codes "metadata") metadata ++
    (member_tokens (codes "source") (lines_form source) ++ end_object ∷ []))))) ≡ data_tokens (text_form kind id metadata source a)
unfolding text_form
plain_tokens kind id source metadata None = refl
plain_tokens kind id source metadata (Some d) = refl
