-- The tokens of a JSON value, and of its parts.
use Rattle.std.specs.Prelude.{ℕ, List, [], ◌∷◌, Option, Some, None, codes, map}
use Rattle.json.specs.Token.{Token, key}
use Rattle.json.specs.Tree.{json_tokens, items_tokens, members_tokens}
use Rattle.serde_json.specs.Data.{Data, string, Items, Members}
use Rattle.serde_json.specs.View.{items_of}
use Rattle.serde_json.specs.Written.{outline, items_outline, members_outline}

abbrev pub data_tokens : Data → List Token
data_tokens d = json_tokens (outline d)

-- items, with the bracket that closes them
abbrev pub list_tokens : Items → List Token
list_tokens ds = items_tokens (items_outline ds)

-- members, with the brace that closes them
abbrev pub object_tokens : Members → List Token
object_tokens ms = members_tokens (members_outline ms)

-- one member
abbrev pub member_tokens : List ℕ → Data → List Token
member_tokens k d = key k ∷ data_tokens d

-- the member of attachments, where there are some
abbrev pub attachments_tokens : Option Data → List Token
attachments_tokens None = []
attachments_tokens (Some d) = member_tokens (codes "attachments") d

-- texts, with the bracket that closes them
abbrev pub texts_tokens : List (List ℕ) → List Token
texts_tokens ts = list_tokens (items_of (map (λ t. string t) ts))
