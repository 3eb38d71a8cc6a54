-- The numbers of a text and the numbers of its value.
use Rattle.std.proofs.Common.{◌≡◌, ℕ, List, [], ◌∷◌, ◌++◌, Bool, false, ◌||◌, Option, Some, None, option_map, option_and_then, Ordering, Less, Equal, Greater, refl, sym, subst, ap, ◌∙◌, append-nil}
use Rattle.std.proofs.lemmas.Bool.{or_parts}
use Rattle.std.proofs.lemmas.List.Folds.{list_any-append}
use Rattle.std.specs.List.{list_any}
use Rattle.std.specs.Ordering.{match_ordering}
use Rattle.std.specs.Prelude.{⊤}
use Rattle.json.specs.Token.{Token}
use Rattle.json.specs.Lex.{tokens}
use Rattle.json.specs.Json as json
use Rattle.json.specs.Tree.{json_tokens, items_tokens, members_tokens}
use Rattle.serde_json.specs.Data.{Num, Data, number, array, object, item, Members, no_members, member, put}
use Rattle.serde_json.specs.Find.{is_float}
use Rattle.serde_json.specs.Read.{number_of, of_json, of_items, of_members, max_depth, read}
use Rattle.serde_json.specs.Written.{has_float, items_have_float, members_have_float}
use Rattle.json_form.specs.Forms.{number_is_float, text_is_float, token_is_float, text_has_float}
use Rattle.json_form.proofs.Spelled.{value-spelled}

abbrev has_float_token : List Token → Bool
has_float_token ts = list_any token_is_float ts

-- no float among these tokens, nor among those
apart : (xs ys : List Token) → has_float_token (xs ++ ys) ≡ false → (has_float_token xs ≡ false) × (has_float_token ys ≡ false)
apart xs ys h = or_parts (has_float_token xs) (has_float_token ys) (sym (list_any-append token_is_float xs ys) ∙ h)

abbrev Whole : {A : Type 0} → (A → Bool) → Option A → Type 0
Whole f None = ⊤
Whole f (Some a) = f a ≡ false

Whole-map : {A B : Type 0} (f : A → Bool) (g : B → Bool) (h : A → B) → ((a : A) → f a ≡ false → g (h a) ≡ false) → (o : Option A) → Whole f o → Whole g (option_map h o)
Whole-map f g h k None x = tt
Whole-map f g h k (Some a) x = k a x

Whole-and_then : {A B : Type 0} (f : A → Bool) (g : B → Bool) (h : A → Option B) → ((a : A) → f a ≡ false → Whole g (h a)) → (o : Option A) → Whole f o → Whole g (option_and_then h o)
Whole-and_then f g h k None x = tt
Whole-and_then f g h k (Some a) x = k a x

both : (a b : Bool) → a ≡ false → b ≡ false → (a || b) ≡ false
both a b p q = rw (p, q) refl

members-match_ordering : (o : Ordering) (a b c : Members) → members_have_float a ≡ false → members_have_float b ≡ false → members_have_float c ≡ false → members_have_float (match_ordering o a b c) ≡ false
members-match_ordering Less a b c p q r = p
members-match_ordering Equal a b c p q r = q
members-match_ordering Greater a b c p q r = r

members-put : (k : List ℕ) (d : Data) (ms : Members) → has_float d ≡ false → members_have_float ms ≡ false → members_have_float (put k d ms) ≡ false
members-put k d no_members p q = both (has_float d) false p refl
members-put k d (member l e ms) p q =
    let parts = or_parts (has_float e) (members_have_float ms) q in
    members-match_ordering _ (member k d (member l e ms)) (member l d ms) (member l e (put k d ms)) (both (has_float d) _ p q) (both (has_float d) _ p parts.1) (both (has_float e) _ parts.0 (members-put k d ms p parts.1))

number-whole : (o : Option Num) → number_is_float o ≡ false → Whole is_float o
number-whole None h = tt
number-whole (Some n) h = h

token-whole : (s : List ℕ) → has_float_token (Token.number s ∷ []) ≡ false → Whole is_float (number_of s)
unfolding text_is_float
token-whole s h = number-whole (number_of s) (or_parts (number_is_float (number_of s)) false h).0

mutual
  of_json-whole : (j : json.Json) → has_float_token (json_tokens j) ≡ false → Whole has_float (of_json j)
  of_json-whole json.null h = refl
  of_json-whole (json.boolean b) h = refl
  of_json-whole (json.number s) h = Whole-map is_float has_float number (λ n x. x) (number_of s) (token-whole s h)
  of_json-whole (json.string s) h = refl
  of_json-whole (json.array js) h = Whole-map items_have_float has_float array (λ ds x. x) (of_items js) (of_items-whole js h)
  of_json-whole (json.object ms) h = Whole-map members_have_float has_float object (λ ds x. x) (of_members ms no_members) (of_members-whole ms no_members h refl)

  of_items-whole : (js : json.Items) → has_float_token (items_tokens js) ≡ false → Whole items_have_float (of_items js)
  of_items-whole json.no_items h = refl
  of_items-whole (json.item j js) h =
      let parts = apart (json_tokens j) (items_tokens js) h in
      Whole-and_then has_float items_have_float _ (λ d x. Whole-map items_have_float items_have_float (item d) (λ ds y. both (has_float d) _ x y) (of_items js) (of_items-whole js parts.1)) (of_json j) (of_json-whole j parts.0)

  of_members-whole : (ms : json.Members) (found : Members) → has_float_token (members_tokens ms) ≡ false → members_have_float found ≡ false → Whole members_have_float (of_members ms found)
  of_members-whole json.no_members found h k = k
  of_members-whole (json.member name j ms) found h k =
      let parts = apart (json_tokens j) (members_tokens ms) h in
      Whole-and_then has_float members_have_float _ (λ d x. of_members-whole ms (put name d found) parts.1 (members-put name d found x k)) (of_json j) (of_json-whole j parts.0)

last-whole : (o : Option (json.Json × List Token)) → ((j : json.Json) → o ≡ Some (j, []) → Whole has_float (of_json j)) → Whole has_float (option_and_then of_json (option_and_then (λ p. json.if_last p.0 p.1) o))
last-whole None k = tt
last-whole (Some (j, [])) k = k j refl
last-whole (Some (j, t ∷ ts)) k = tt

-- where each number of the text is whole, each number of its value is
pub read-whole : (text : List ℕ) (d : Data) → read text ≡ Some d → text_has_float text ≡ false → has_float d ≡ false
unfolding text_has_float
read-whole text d e h =
    subst (Whole has_float) e (last-whole (json.value max_depth (tokens text)) (λ j is.
    let spelled = value-spelled max_depth (tokens text) [] j is ∙ append-nil (json_tokens j) in
    of_json-whole j (ap has_float_token (sym spelled) ∙ h)))
