-- Tokens that are written one after another.
use Rattle.std.proofs.Common.{◌≡◌, ℕ, ◌+◌, ◌<◌, ◌≤◌, List, [], ◌∷◌, ◌++◌, length, drop, get_or, map, ap, sym, ◌∙◌, append_assoc}
use Rattle.std.proofs.lemmas.List.{drop_more, drop_all}
use Rattle.json.specs.Token.{Token, end_array, string as text_token}
use Rattle.serde_json.specs.Data.{Data, string}
use Rattle.serde_json.specs.View.{items_of}
use Rattle.nb_text.specs.Tokens.{data_tokens, list_tokens}

-- what is added after x comes after x
pub later : {A : Type 0} (a b c x y : List A) → b ≡ a ++ x → c ≡ b ++ y → c ≡ a ++ (x ++ y)
later a b c x y first next = next ∙ ap (λ l. l ++ y) first ∙ append_assoc a x y

-- ---- lists

-- the tokens of things, with the bracket that closes them
abbrev pub each_tokens : {A : Type 0} → (A → Data) → List A → List Token
each_tokens form xs = list_tokens (items_of (map form xs))

-- one more thing is written
pub each_step : {A : Type 0} (form : A → Data) (xs : List A) (i : ℕ) (x : A) (old now all : List Token) → i < length xs → x ≡ get_or xs i x → now ≡ old ++ data_tokens (form x)
    → old ++ each_tokens form (drop i xs) ≡ all → now ++ each_tokens form (drop (i + 1) xs) ≡ all
each_step form xs i x old now all below is added h =
    let here : drop i xs ≡ x ∷ drop (i + 1) xs = drop_more xs i x below ∙ ap (λ y. y ∷ drop (i + 1) xs) (sym is) in
    ap (λ ts. ts ++ each_tokens form (drop (i + 1) xs)) added ∙ append_assoc old (data_tokens (form x)) (each_tokens form (drop (i + 1) xs)) ∙ ap (λ ys. old ++ each_tokens form ys) (sym here) ∙ h

-- the list is closed
pub each_end : {A : Type 0} (form : A → Data) (xs : List A) (i : ℕ) (old final all : List Token) → length xs ≤ i → final ≡ old ++ end_array ∷ [] → old ++ each_tokens form (drop i xs) ≡ all → final ≡ all
each_end form xs i old final all past closed h = closed ∙ ap (λ ys. old ++ each_tokens form ys) (sym (drop_all i xs past)) ∙ h

-- the same of lines
pub line_step : (old now all : List Token) (line : List ℕ) (ls rest : List (List ℕ)) → now ≡ old ++ text_token line ∷ [] → ls ≡ line ∷ rest → old ++ each_tokens (λ t. string t) ls ≡ all
    → now ++ each_tokens (λ t. string t) rest ≡ all
line_step old now all line ls rest added first h =
    ap (λ ts. ts ++ each_tokens (λ t. string t) rest) added ∙ append_assoc old (text_token line ∷ []) (each_tokens (λ t. string t) rest) ∙ ap (λ ys. old ++ each_tokens (λ t. string t) ys) (sym first) ∙ h

pub line_end : (old final all : List Token) (ls : List (List ℕ)) → ls ≡ [] → final ≡ old ++ end_array ∷ [] → old ++ each_tokens (λ t. string t) ls ≡ all → final ≡ all
line_end old final all ls none closed h = closed ∙ ap (λ ys. old ++ each_tokens (λ t. string t) ys) (sym none) ∙ h
