-- Texts that differ in a place that both have, and what the texts of two interfaces say of each other.
use Rattle.std.proofs.Common.{◌≡◌, ◌<◌, ◌||◌, not, nat_eq, ℕ, zero, suc, Bool, true, false, IsTrue, List, [], ◌∷◌, ◌++◌, take, drop, length, refl, sym, ap, ◌∙◌, append_assoc, arith}
use Rattle.std.proofs.lemmas.Bool.Decides.{Decides-eqb}
use Rattle.std.proofs.lemmas.List.{append_cancel_left}
use Rattle.std.proofs.lemmas.Slice.Eq.{bytes_eq-Decides}
use Rattle.std.specs.Prelude.{codes}
use Rattle.std.specs.Str.{bytes_eq}
use Rattle.ob_types.specs.declared.exports.Object.{Object}
use Rattle.ob_types.specs.declared.exports.Object.TheVariants as object
use Rattle.ob_types.specs.declared.exports.Exported.{Exported}
use Rattle.ob_types.specs.InterfaceTree.{InterfaceTree}
use Rattle.ob_types.specs.InterfaceText.{name_text, object_text, exports_text, interface_text}
use Rattle.ob_types.specs.Numbered.{are_apart}

pub nothing_apart : (xs : List ℕ) → are_apart xs [] ≡ false
nothing_apart [] = refl
nothing_apart (x ∷ xs) = refl

unequal : (x : ℕ) → nat_eq x x ≡ true
unequal x = (Decides-eqb x x).1 refl

apart_self : (xs : List ℕ) → are_apart xs xs ≡ false
apart_self [] = refl
apart_self (x ∷ xs) = ap (λ b. not b || are_apart xs xs) (unequal x) ∙ apart_self xs

or_kept : (b c d : Bool) → (c ≡ true → d ≡ true) → (b || c) ≡ true → (b || d) ≡ true
or_kept true c d f h = refl
or_kept false c d f h = f h

apart_more : (xs ys zs us : List ℕ) → are_apart xs ys ≡ true → are_apart (xs ++ zs) (ys ++ us) ≡ true
apart_more [] ys zs us h = absurd (let k : false ≡ true = h in cc)
apart_more (x ∷ xs) [] zs us h = absurd (let k : false ≡ true = h in cc)
apart_more (x ∷ xs) (y ∷ ys) zs us h = or_kept (not (nat_eq x y)) (are_apart xs ys) (are_apart (xs ++ zs) (ys ++ us)) (apart_more xs ys zs us) h

lines : (xs ys : List Exported) → exports_text (xs ++ ys) ≡ exports_text xs ++ exports_text ys
lines [] ys = refl
lines (x ∷ xs) ys =
    let line = object_text x.name x.object ++ codes "\n" in
    ap (λ l. line ++ l) (lines xs ys) ∙ sym (append_assoc line (exports_text xs) (exports_text ys))

parts : {A : Type 0} (n : ℕ) (xs : List A) → take n xs ++ drop n xs ≡ xs
parts zero xs = refl
parts (suc n) [] = refl
parts (suc n) (x ∷ xs) = ap (λ l. x ∷ l) (parts n xs)

split : (n : ℕ) (xs : List Exported) → exports_text xs ≡ exports_text (take n xs) ++ exports_text (drop n xs)
split n xs = ap exports_text (sym (parts n xs)) ∙ lines (take n xs) (drop n xs)

-- where the first lines differ in a place that both have, the texts differ
pub lines_differ : (xs ys : List Exported) → are_apart (exports_text (take 1 xs)) (exports_text (take 1 ys)) ≡ true → exports_text xs ≡ exports_text ys → ⊥
lines_differ xs ys h e =
    let apart : are_apart (exports_text xs) (exports_text ys) ≡ true =
    ap (are_apart (exports_text xs)) (split 1 ys) ∙ ap (λ l. are_apart l (exports_text (take 1 ys) ++ exports_text (drop 1 ys))) (split 1 xs)
    ∙ apart_more (exports_text (take 1 xs)) (exports_text (take 1 ys)) (exports_text (drop 1 xs)) (exports_text (drop 1 ys)) h in
    let not_apart : are_apart (exports_text xs) (exports_text ys) ≡ false = ap (are_apart (exports_text xs)) (sym e) ∙ apart_self (exports_text xs) in
    let k : true ≡ false = sym apart ∙ not_apart in
    cc

starts : (name : List ℕ) (o : Object) (rest : List ℕ) → [] ≡ object_text name o ++ rest → ⊥
starts name (object.Constant c) rest e = grind arith
starts name (object.TypeName t) rest e = grind arith
starts name (object.Variable t) rest e = grind arith
starts name (object.Procedure s) rest e = grind arith

-- a name has a line
line_there : (x : Exported) (xs : List Exported) → [] ≡ exports_text (x ∷ xs) → ⊥
line_there x xs e = starts x.name x.object (codes "\n" ++ exports_text xs) (e ∙ append_assoc (object_text x.name x.object) (codes "\n") (exports_text xs))

some_line : (xs : List Exported) → 0 < length xs → [] ≡ exports_text xs → ⊥
some_line [] h e = absurd (omega arith)
some_line (x ∷ xs) h e = line_there x xs e

pub lines_missing : (xs ys : List Exported) → length xs ≡ 0 → 0 < length ys → exports_text xs ≡ exports_text ys → ⊥
lines_missing [] ys none some e = some_line ys some e
lines_missing (x ∷ xs) ys none some e = absurd (omega arith)

whole : (i : InterfaceTree) (n : ℕ) → interface_text i ≡ (codes "module " ++ name_text i.name ++ codes "\n" ++ exports_text (take n i.exports)) ++ exports_text (drop n i.exports)
unfolding interface_text
whole i n =
    let head = codes "module " ++ name_text i.name ++ codes "\n" in
    ap (λ l. head ++ l) (split n i.exports) ∙ sym (append_assoc head (exports_text (take n i.exports)) (exports_text (drop n i.exports)))

begins : (i j : InterfaceTree) (n : ℕ) → i.name ≡ j.name → take n i.exports ≡ take n j.exports → codes "module " ++ name_text i.name ++ codes "\n" ++ exports_text (take n i.exports) ≡ codes "module " ++ name_text j.name ++ codes "\n" ++ exports_text (take n j.exports)
begins i j n e t = λ k. codes "module " ++ name_text (e k) ++ codes "\n" ++ exports_text (t k)

-- where names and so many exported names are the same, the texts are the same where the rest of them is
rest_same : (i j : InterfaceTree) (n : ℕ) → i.name ≡ j.name → take n i.exports ≡ take n j.exports → interface_text i ≡ interface_text j → exports_text (drop n i.exports) ≡ exports_text (drop n j.exports)
rest_same i j n e t h =
    append_cancel_left (codes "module " ++ name_text i.name ++ codes "\n" ++ exports_text (take n i.exports)) (exports_text (drop n i.exports)) (exports_text (drop n j.exports))
    (sym (whole i n) ∙ h ∙ whole j n ∙ ap (λ l. l ++ exports_text (drop n j.exports)) (sym (begins i j n e t)))

all_same : (i j : InterfaceTree) (n : ℕ) → i.name ≡ j.name → take n i.exports ≡ take n j.exports → exports_text (drop n i.exports) ≡ exports_text (drop n j.exports) → interface_text i ≡ interface_text j
all_same i j n e t h = whole i n ∙ (λ k. begins i j n e t k ++ h k) ∙ sym (whole j n)

seen_is : (b c : Bool) → (b ≡ true → c ≡ true) → (c ≡ true → b ≡ true) → b ≡ c
seen_is true c f g = sym (f refl)
seen_is false true f g = absurd (let k : false ≡ true = g refl in cc)
seen_is false false f g = refl

key_seen : (i j : InterfaceTree) (n : ℕ) (seen : Bool) → i.name ≡ j.name → take n i.exports ≡ take n j.exports → (IsTrue seen → exports_text (drop n i.exports) ≡ exports_text (drop n j.exports)) × (exports_text (drop n i.exports) ≡ exports_text (drop n j.exports) → IsTrue seen) → seen ≡ bytes_eq (interface_text i) (interface_text j)
key_seen i j n seen e t both =
    seen_is seen (bytes_eq (interface_text i) (interface_text j))
    (λ s. (bytes_eq-Decides (interface_text i) (interface_text j)).1 (all_same i j n e t (both.0 s)))
    (λ s. both.1 (rest_same i j n e t ((bytes_eq-Decides (interface_text i) (interface_text j)).0 s)))

-- what is seen of the rests of both is so of the texts
pub key_by_rests : (i j : InterfaceTree) (n : ℕ) (seen : Bool) (xs ys : List Exported) → i.name ≡ j.name → take n i.exports ≡ take n j.exports → xs ≡ drop n i.exports → ys ≡ drop n j.exports → (IsTrue seen → exports_text xs ≡ exports_text ys) × (exports_text xs ≡ exports_text ys → IsTrue seen) → seen ≡ bytes_eq (interface_text i) (interface_text j)
key_by_rests i j n seen xs ys e t f g both =
    let l = ap exports_text f in
    let r = ap exports_text g in
    key_seen i j n seen e t ((λ s. sym l ∙ both.0 s ∙ r), (λ h. both.1 (l ∙ h ∙ sym r)))
