-- The tokens of a value that was read are those that stood in front.
use Rattle.std.proofs.Common.{◌≡◌, ℕ, zero, suc, List, [], ◌∷◌, ◌++◌, length, Option, Some, None, option_and_then, refl, sym, subst, ap, ◌∙◌, append_assoc}
use Rattle.std.specs.Prelude.{⊤}
use Rattle.json.specs.Token.{Token}
use Rattle.json.specs.Json.{Json, array, object, Items, item, Members, member, Parse, parse_map, after_end_array, read_key, items_step, members_step, items, members, value_with, value}
use Rattle.json.specs.Tree.{json_tokens, items_tokens, members_tokens}
use Rattle.json.proofs.Grammar.{closed_array, read_key_is}

abbrev Spells : {A : Type 0} → (A → List Token) → List Token → Option (A × List Token) → Type 0
Spells f ts None = ⊤
Spells f ts (Some p) = ts ≡ f p.0 ++ p.1

abbrev Reads : {A : Type 0} → (A → List Token) → Parse A → Type 0
Reads f p = (ts : List Token) → Spells f ts (p ts)

-- what is read after some tokens, under h
after : {A B : Type 0} (f : A → List Token) (g : B → List Token) (front : List Token) (h : A → B) → ((a : A) → g (h a) ≡ front ++ f a) → (ts : List Token) (o : Option (A × List Token)) → Spells f ts o
    → Spells g (front ++ ts) (parse_map h o)
after f g front h is ts None x = tt
after f g front h is ts (Some p) x = ap (λ t. front ++ t) x ∙ sym (append_assoc front (f p.0) p.1) ∙ ap (λ t. t ++ p.1) (sym (is p.0))

and_more : {B : Type 0} (g : B → List Token) (h : Json → B → B) → ((j : Json) (b : B) → g (h j b) ≡ json_tokens j ++ g b) → (more : Parse B) → Reads g more → (ts : List Token) (o : Option (Json × List Token))
    → Spells json_tokens ts o → Spells g ts (option_and_then (λ q. parse_map (h q.0) (more q.1)) o)
and_more g h is more reads ts None x = tt
and_more g h is more reads ts (Some q) x = subst (λ t. Spells g t (parse_map (h q.0) (more q.1))) (sym x) (after g g (json_tokens q.0) (h q.0) (is q.0) q.1 (more q.1) (reads q.1))

-- a key stands before a member
and_key : (k : List ℕ) (s ts : List Token) (more : Parse Members) → Reads members_tokens more → ts ≡ Token.key k ∷ s → (o : Option (Json × List Token)) → Spells json_tokens s o
    → Spells members_tokens ts (option_and_then (λ q. parse_map (member k q.0) (more q.1)) o)
and_key k s ts more reads is None x = tt
and_key k s ts more reads is (Some q) x =
    let front : List Token = Token.key k ∷ json_tokens q.0 in
    let stands : ts ≡ front ++ q.1 = is ∙ ap (λ t. Token.key k ∷ t) x in
    subst (λ t. Spells members_tokens t (parse_map (member k q.0) (more q.1))) (sym stands) (after members_tokens members_tokens front (member k q.0) (λ ms. refl) q.1 (more q.1) (reads q.1))

module _ (p : Parse Json) (reads : Reads json_tokens p) where
  item_turn : (more : Parse Items) → Reads items_tokens more → (ts : List Token) (o : Option (List Token)) → after_end_array ts ≡ o → Spells items_tokens ts (items_step p more ts o)
  item_turn more again ts (Some r) e = closed_array ts r e
  item_turn more again ts None e = and_more items_tokens item (λ j js. refl) more again ts (p ts) (reads ts)

  Reads-items : (n : ℕ) → Reads items_tokens (items p n)
  unfolding items
  Reads-items zero ts = tt
  Reads-items (suc n) ts = item_turn (items p n) (Reads-items n) ts (after_end_array ts) refl

  member_turn : (more : Parse Members) → Reads members_tokens more → (ts : List Token) (o : Option (Option (List ℕ) × List Token)) → read_key ts ≡ o
      → Spells members_tokens ts (option_and_then (λ q. members_step p more q.0 q.1) o)
  member_turn more again ts None e = tt
  member_turn more again ts (Some (None, s)) e = read_key_is ts None s e
  member_turn more again ts (Some (Some k, s)) e = and_key k s ts more again (read_key_is ts (Some k) s e) (p s) (reads s)

  Reads-members : (n : ℕ) → Reads members_tokens (members p n)
  unfolding members
  Reads-members zero ts = tt
  Reads-members (suc n) ts = member_turn (members p n) (Reads-members n) ts (read_key ts) refl

one_level : (a : Parse Items) (o : Parse Members) → Reads items_tokens a → Reads members_tokens o → Reads json_tokens (value_with a o)
one_level a o p q [] = tt
one_level a o p q (Token.begin_object ∷ ts) = after members_tokens json_tokens (Token.begin_object ∷ []) object (λ ms. refl) ts (o ts) (q ts)
one_level a o p q (Token.end_object ∷ ts) = tt
one_level a o p q (Token.begin_array ∷ ts) = after items_tokens json_tokens (Token.begin_array ∷ []) array (λ js. refl) ts (a ts) (p ts)
one_level a o p q (Token.end_array ∷ ts) = tt
one_level a o p q (Token.key s ∷ ts) = tt
one_level a o p q (Token.string s ∷ ts) = refl
one_level a o p q (Token.number s ∷ ts) = refl
one_level a o p q (Token.boolean b ∷ ts) = refl
one_level a o p q (Token.null ∷ ts) = refl
one_level a o p q (Token.bad ∷ ts) = tt

Reads-value : (d : ℕ) → Reads json_tokens (value d)
unfolding value
Reads-value zero = one_level (λ ts. None) (λ ts. None) (λ ts. tt) (λ ts. tt)
Reads-value (suc d) = one_level (λ ts. items (value d) (length ts) ts) (λ ts. members (value d) (length ts) ts) (λ ts. Reads-items (value d) (Reads-value d) (length ts) ts) (λ ts. Reads-members (value d) (Reads-value d) (length ts) ts)

pub value-spelled : (d : ℕ) (ts r : List Token) (j : Json) → value d ts ≡ Some (j, r) → ts ≡ json_tokens j ++ r
value-spelled d ts r j e = subst (Spells json_tokens ts) e (Reads-value d ts)
