-- A value of the kit's json, and the data that it stands for.
use Rattle.std.proofs.Common.{◌≡◌, ℕ, List, [], Bool, true, false, cond, ◌&&◌, ◌||◌, Option, Some, None, is_some, option_map, option_and_then, unwrap_or, Bor, refl, sym, ap, ◌∙◌, subst, append-nil}
use Rattle.std.proofs.lemmas.Bool.{true≢false}
use Rattle.std.proofs.lemmas.List.Folds.{list_any-append}
use Rattle.std.specs.List.{list_any}
use Rattle.std.specs.Str.{bytes_eq}
use Rattle.std.specs.declared.alloc.Global.{Global}
use Rattle.json.specs.Json as json
use Rattle.json.specs.Find as found
use Rattle.json.specs.Lex.{tokens}
use Rattle.json.specs.Token.{Token}
use Rattle.json.specs.Tree.{json_tokens, items_tokens, members_tokens}
use Rattle.json.specs.Value.{value_view}
use Rattle.json.specs.declared.value.Value.{Value}
use Rattle.serde_json.specs.Data.{Num, Data, number, array, object, Members, no_members, put}
use Rattle.serde_json.specs.Find.{get, get_member, is_float}
use Rattle.serde_json.specs.Read.{number_of, of_json, of_items, of_members, max_depth, read}
use Rattle.serde_json.proofs.Views.{get_member-put, get_member-put_other}
use Rattle.json_form.specs.Forms.{number_is_float, text_is_float, token_is_float, text_has_float}
use Rattle.json_form.proofs.Spelled.{value-spelled}
use Rattle.nb_doc.proofs.Among.{same_itself, same_if}
use Rattle.nb_read.specs.Lent.{no_number, data_of, items_of, members_of, whole_number, is_whole, are_whole, have_whole, data_view}

-- ---- a field

abbrev over : Option Data → Option Data → Option Data
over None e = e
over (Some d) e = Some d

put_here : (b : Bool) (k l : List ℕ) (j : json.Json) (ms : Members) → bytes_eq l k ≡ b → get_member k (put l (data_of j) ms) ≡ over (option_map data_of (cond b (Some j) None)) (get_member k ms)
put_here true k l j ms e = subst (λ q. get_member q (put l (data_of j) ms) ≡ Some (data_of j)) (same_if l k e) (get_member-put l (data_of j) ms)
put_here false k l j ms e = get_member-put_other k l (data_of j) ms (λ same. true≢false (sym (same_itself l) ∙ ap (λ q. bytes_eq l q) (sym same) ∙ e))

over_later : (later : Option json.Json) (b : Bool) (k l : List ℕ) (j : json.Json) (ms : Members) → bytes_eq l k ≡ b
    → over (option_map data_of later) (get_member k (put l (data_of j) ms)) ≡ over (option_map data_of (found.later_or later (cond b (Some j) None))) (get_member k ms)
over_later None b k l j ms e = put_here b k l j ms e
over_later (Some i) b k l j ms e = refl

member_is : (k : List ℕ) (ms : json.Members) (before : Members) → get_member k (members_of ms before) ≡ over (option_map data_of (found.get_member k ms)) (get_member k before)
member_is k json.no_members before = refl
member_is k (json.member l j ms) before = member_is k ms (put l (data_of j) before) ∙ over_later (found.get_member k ms) (bytes_eq l k) k l j before refl

over_none : (o : Option Data) → over o None ≡ o
over_none None = refl
over_none (Some d) = refl

get_is : (k : List ℕ) (j : json.Json) → get k (data_of j) ≡ option_map data_of (found.get k j)
get_is k json.null = refl
get_is k (json.boolean b) = refl
get_is k (json.number s) = refl
get_is k (json.string s) = refl
get_is k (json.array js) = refl
get_is k (json.object ms) = member_is k ms no_members ∙ over_none _

views : (r : Option (Bor (Value Global))) → option_map (λ v. data_view v.now) r ≡ option_map data_of (option_map (λ v. value_view v.now) r)
views None = refl
views (Some v) = refl

pub found_is : (r : Option (Bor (Value Global))) (k : List ℕ) (j : json.Json) → option_map (λ v. value_view v.now) r ≡ found.get k j → option_map (λ v. data_view v.now) r ≡ get k (data_of j)
found_is r k j e = views r ∙ ap (option_map data_of) e ∙ sym (get_is k j)

-- ---- whole numbers

both : (a b : Bool) → (a && b) ≡ true → (a ≡ true) × (b ≡ true)
both true b e = (refl, e)
both false b e = cc

neither : (a b : Bool) → a ≡ false → b ≡ false → (a || b) ≡ false
neither a b p q = rw (p, q) refl

number_is : (o : Option Num) → is_some (whole_number o) ≡ true → option_map number o ≡ Some (number (unwrap_or o no_number))
number_is None h = cc
number_is (Some n) h = refl

mutual
  json_is : (j : json.Json) → is_whole j ≡ true → of_json j ≡ Some (data_of j)
  json_is json.null h = refl
  json_is (json.boolean b) h = refl
  json_is (json.number s) h = number_is (number_of s) h
  json_is (json.string s) h = refl
  json_is (json.array js) h = ap (option_map array) (items_are js h)
  json_is (json.object ms) h = ap (option_map object) (members_are ms no_members h)

  items_are : (js : json.Items) → are_whole js ≡ true → of_items js ≡ Some (items_of js)
  items_are json.no_items h = refl
  items_are (json.item j js) h =
      let parts = both (is_whole j) (are_whole js) h in
      rw (json_is j parts.0, items_are js parts.1) refl

  members_are : (ms : json.Members) (before : Members) → have_whole ms ≡ true → of_members ms before ≡ Some (members_of ms before)
  members_are json.no_members before h = refl
  members_are (json.member k j ms) before h =
      let parts = both (is_whole j) (have_whole ms) h in
      ap (option_and_then (λ d. of_members ms (put k d before))) (json_is j parts.0) ∙ members_are ms (put k (data_of j) before) parts.1

no_float : (b : Bool) (n : Num) → is_some (cond b None (Some n)) ≡ true → b ≡ false
no_float true n h = cc
no_float false n h = refl

number_whole : (o : Option Num) → is_some (whole_number o) ≡ true → number_is_float o ≡ false
number_whole None h = cc
number_whole (Some n) h = no_float (is_float n) n h

text_whole : (s : List ℕ) → is_some (whole_number (number_of s)) ≡ true → text_is_float s ≡ false
unfolding text_is_float
text_whole s h = number_whole (number_of s) h

abbrev has_float_token : List Token → Bool
has_float_token ts = list_any token_is_float ts

mutual
  no_float_token : (j : json.Json) → is_whole j ≡ true → has_float_token (json_tokens j) ≡ false
  no_float_token json.null h = refl
  no_float_token (json.boolean b) h = refl
  no_float_token (json.number s) h = neither _ false (text_whole s h) refl
  no_float_token (json.string s) h = refl
  no_float_token (json.array js) h = no_float_items js h
  no_float_token (json.object ms) h = no_float_members ms h

  no_float_items : (js : json.Items) → are_whole js ≡ true → has_float_token (items_tokens js) ≡ false
  no_float_items json.no_items h = refl
  no_float_items (json.item j js) h =
      let parts = both (is_whole j) (are_whole js) h in
      list_any-append token_is_float (json_tokens j) (items_tokens js) ∙ neither _ _ (no_float_token j parts.0) (no_float_items js parts.1)

  no_float_members : (ms : json.Members) → have_whole ms ≡ true → has_float_token (members_tokens ms) ≡ false
  no_float_members json.no_members h = refl
  no_float_members (json.member k j ms) h =
      let parts = both (is_whole j) (have_whole ms) h in
      list_any-append token_is_float (json_tokens j) (members_tokens ms) ∙ neither _ _ (no_float_token j parts.0) (no_float_members ms parts.1)

-- what a text is, where all that stands in it was read, and its numbers are whole
pub read_is : (text : List ℕ) (j : json.Json) → json.value max_depth (tokens text) ≡ Some (j, []) → is_whole j ≡ true → read text ≡ Some (data_of j)
read_is text j e h = ap (λ o. option_and_then of_json (option_and_then (λ p. json.if_last p.0 p.1) o)) e ∙ json_is j h

pub text_is_whole : (text : List ℕ) (j : json.Json) → json.value max_depth (tokens text) ≡ Some (j, []) → is_whole j ≡ true → text_has_float text ≡ false
unfolding text_has_float
text_is_whole text j e h = ap has_float_token (value-spelled max_depth (tokens text) [] j e ∙ append-nil (json_tokens j)) ∙ no_float_token j h
