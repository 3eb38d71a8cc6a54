-- Of a value with no float the text has none either: each number is written once, by its digits.
use Rattle.std.proofs.Common.{◌≡◌, ◌≢◌, ℕ, zero, suc, ◌/◌, ◌%◌, ◌==◌, pos, negsuc, List, [], ◌∷◌, ◌++◌, Bool, true, false, ◌||◌, cond, decimal, refl, sym, ap, ◌∙◌}
use Rattle.std.proofs.lemmas.Bool.{or_parts}
use Rattle.std.proofs.lemmas.List.Folds.{list_any-append}
use Rattle.std.specs.Fmt.{digits, digits_onto, digit_glyph}
use Rattle.std.specs.List.{list_any}
use Rattle.json.specs.Token.{Token}
use Rattle.json.specs.Json as json
use Rattle.json.specs.Tree.{json_tokens, items_tokens, members_tokens}
use Rattle.serde_json.specs.Data.{Num, unsigned, negative, float, Data, number, array, object, Items, no_items, item, Members, no_members, member}
use Rattle.serde_json.specs.Find.{is_float}
use Rattle.serde_json.specs.Read.{number_of}
use Rattle.serde_json.specs.Written.{number_text, unless_float, outline, items_outline, members_outline, blank, blank_items, blank_members, IsInOrder, has_float, items_have_float, members_have_float}
use Rattle.json_form.specs.Forms.{number_is_float, text_is_float, token_is_float, text_has_float}

-- ---- a number that is no float has a digit

cons_some : (x : ℕ) (xs : List ℕ) → x ∷ xs ≢ []
cons_some x xs e = cc

either_some : (b : Bool) (x : ℕ) (xs ys : List ℕ) → ys ≢ [] → cond b (x ∷ xs) ys ≢ []
either_some true x xs ys some = cons_some x xs
either_some false x xs ys some = some

digits_onto_some : (k n x : ℕ) (acc : List ℕ) → digits_onto k 10 false n (x ∷ acc) ≢ []
digits_onto_some zero n x acc = cons_some x acc
digits_onto_some (suc k) n x acc = let d = digit_glyph false (n % 10) in either_some (n / 10 == 0) d (x ∷ acc) _ (digits_onto_some k (n / 10) d (x ∷ acc))

decimal_some : (n : ℕ) → decimal n ≢ []
unfolding digits
decimal_some n = let d = digit_glyph false (n % 10) in either_some (n / 10 == 0) d [] _ (digits_onto_some 63 (n / 10) d [])

number_text_some : (n : Num) → is_float n ≡ false → number_text n ≢ []
number_text_some (unsigned n) h = decimal_some n
number_text_some (negative (pos n)) h = decimal_some n
number_text_some (negative (negsuc n)) h = cons_some _ _
number_text_some (float x) h = cc

-- ---- the tokens

kept : (b : Bool) (s : List ℕ) (n : Num) → cond b [] s ≡ number_text n → is_float n ≡ false → (b || false) ≡ false
kept true s n e h = absurd (number_text_some n h (sym e))
kept false s n e h = refl

number-whole : (s : List ℕ) (n : Num) → unless_float s ≡ number_text n → is_float n ≡ false → list_any token_is_float (Token.number s ∷ []) ≡ false
unfolding text_is_float
number-whole s n e h = kept (number_is_float (number_of s)) s n e h

joined : (xs ys : List Token) → list_any token_is_float xs ≡ false → list_any token_is_float ys ≡ false → list_any token_is_float (xs ++ ys) ≡ false
joined xs ys p q = list_any-append token_is_float xs ys ∙ both (list_any token_is_float xs) (list_any token_is_float ys) p q
  where
    both : (a b : Bool) → a ≡ false → b ≡ false → (a || b) ≡ false
    both a b p q = rw (p, q) refl

mutual
  value-whole : (j : json.Json) (d : Data) → blank j ≡ outline d → has_float d ≡ false → list_any token_is_float (json_tokens j) ≡ false
  value-whole json.null d e h = refl
  value-whole (json.boolean b) d e h = refl
  value-whole (json.string s) d e h = refl
  value-whole (json.number s) (number n) e h = let same : unless_float s ≡ number_text n = cc in number-whole s n same h
  value-whole (json.array js) (array ds) e h = let same : blank_items js ≡ items_outline ds = cc in items-whole js ds same h
  value-whole (json.object ms) (object ds) e h = let same : blank_members ms ≡ members_outline ds = cc in members-whole ms ds same h
  value-whole j d e h = cc

  items-whole : (js : json.Items) (ds : Items) → blank_items js ≡ items_outline ds → items_have_float ds ≡ false → list_any token_is_float (items_tokens js) ≡ false
  items-whole json.no_items ds e h = refl
  items-whole (json.item j js) no_items e h = cc
  items-whole (json.item j js) (item d ds) e h =
      let first : blank j ≡ outline d = cc in
      let rest : blank_items js ≡ items_outline ds = cc in
      let parts = or_parts (has_float d) (items_have_float ds) h in
      joined (json_tokens j) (items_tokens js) (value-whole j d first parts.0) (items-whole js ds rest parts.1)

  members-whole : (ms : json.Members) (ds : Members) → blank_members ms ≡ members_outline ds → members_have_float ds ≡ false → list_any token_is_float (members_tokens ms) ≡ false
  members-whole json.no_members ds e h = refl
  members-whole (json.member k j ms) no_members e h = cc
  members-whole (json.member k j ms) (member l d ds) e h =
      let first : blank j ≡ outline d = cc in
      let rest : blank_members ms ≡ members_outline ds = cc in
      let parts = or_parts (has_float d) (members_have_float ds) h in
      joined (json_tokens j) (members_tokens ms) (value-whole j d first parts.0) (members-whole ms ds rest parts.1)

pub written-whole : (text : List ℕ) (d : Data) → IsInOrder text d → has_float d ≡ false → text_has_float text ≡ false
unfolding text_has_float
written-whole text d w h = ap (list_any token_is_float) w.1 ∙ value-whole w.0 d w.2 h
