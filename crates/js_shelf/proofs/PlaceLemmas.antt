-- The parent of a path is a path.
use Rattle.std.proofs.Common.{◌≡◌, ℕ, ◌+◌, Bool, true, false, cond, List, [], ◌∷◌, ◌++◌, length, arith, refl, sym, ap, ◌∙◌, length-append}
use Rattle.std.specs.Prelude.{nat_le, ◌&&◌, ◌||◌}
use Rattle.std.specs.List.{onto_first, list_all, list_any}
use Rattle.std.proofs.lemmas.Bool.Decides.{nat_tests}
use Rattle.js_shelf.specs.Paths.{is_slash, is_segment, segments, is_path, parent_of}

-- there is a first part
first_part : (bs : List ℕ) → (part : List ℕ) × (parts : List (List ℕ)) × (segments bs ≡ part ∷ parts)
first_part [] = ([], [], refl)
first_part (b ∷ bs) =
    let more = first_part bs in
    by_slash (is_slash b) more.0 more.1 (segments bs) more.2
  where
    by_slash : (slash : Bool) (part : List ℕ) (parts all : List (List ℕ)) → all ≡ part ∷ parts → (first : List ℕ) × (rest : List (List ℕ)) × (cond slash ([] ∷ all) (onto_first b all) ≡ first ∷ rest)
    by_slash true part parts all e = ([], all, refl)
    by_slash false part parts all e = (b ∷ part, parts, ap (onto_first b) e)

onto_first-push : (b : ℕ) (parts : List (List ℕ)) (last part : List ℕ) (more : List (List ℕ)) → parts ≡ part ∷ more → onto_first b parts ++ last ∷ [] ≡ onto_first b (parts ++ last ∷ [])
onto_first-push b parts last part more e = rw e refl

no_more : (bs : List ℕ) → list_any is_slash bs ≡ false → segments bs ≡ bs ∷ []
no_more [] e = refl
no_more (b ∷ bs) e =
    elim (is_slash b) as (λ s. (s || list_any is_slash bs) ≡ false → cond s ([] ∷ segments bs) (onto_first b (segments bs)) ≡ (b ∷ bs) ∷ []) [
      | true ↦ λ e. absurd (cc e)
      | false ↦ λ e. ap (onto_first b) (no_more bs e)
    ] e

-- the segments of the parent, and one more
abbrev Splits : List ℕ → List ℕ → Type 0
Splits parent path = (last : List ℕ) × (segments parent ++ last ∷ [] ≡ segments path)

longer : (b : ℕ) (parent bs last : List ℕ) (slash : Bool) → segments parent ++ last ∷ [] ≡ segments bs
    → cond slash ([] ∷ segments parent) (onto_first b (segments parent)) ++ last ∷ [] ≡ cond slash ([] ∷ segments bs) (onto_first b (segments bs))
longer b parent bs last true e = ap (λ (parts : List (List ℕ)). [] ∷ parts) e
longer b parent bs last false e = let first = first_part parent in onto_first-push b (segments parent) last first.0 first.1 first.2 ∙ ap (onto_first b) e

ends : (b : ℕ) (bs : List ℕ) (slash : Bool) → list_any is_slash bs ≡ false → (slash || list_any is_slash bs) ≡ true → [] ∷ bs ∷ [] ≡ cond slash ([] ∷ segments bs) (onto_first b (segments bs))
ends b bs true none some = ap (λ (parts : List (List ℕ)). [] ∷ parts) (sym (no_more bs none))
ends b bs false none some = absurd (cc (sym none ∙ some))

split_by : (b : ℕ) (bs : List ℕ) (any : Bool) → list_any is_slash bs ≡ any → (is_slash b || list_any is_slash bs) ≡ true → (list_any is_slash bs ≡ true → Splits (parent_of bs) bs) → Splits (cond any (b ∷ parent_of bs) []) (b ∷ bs)
split_by b bs true e some more = let front = more e in (front.0, longer b (parent_of bs) bs front.0 (is_slash b) front.1)
split_by b bs false e some more = (bs, ends b bs (is_slash b) e some)

split_parent : (path : List ℕ) → list_any is_slash path ≡ true → Splits (parent_of path) path
split_parent [] some = absurd (cc some)
split_parent (b ∷ bs) some = split_by b bs (list_any is_slash bs) refl some (split_parent bs)

no_parent : (path : List ℕ) → list_any is_slash path ≡ false → parent_of path ≡ []
no_parent [] none = refl
no_parent (b ∷ bs) none =
    elim (is_slash b) as (λ s. (s || list_any is_slash bs) ≡ false → cond (list_any is_slash bs) (b ∷ parent_of bs) [] ≡ []) [
      | true ↦ λ e. absurd (cc e)
      | false ↦ λ e. ap (λ any. cond any (b ∷ parent_of bs) []) e
    ] none

both : (a b : Bool) → (a && b) ≡ true → (a ≡ true) × (b ≡ true)
both true b e = (refl, e)
both false b e = absurd (cc e)

front_good : (parts : List (List ℕ)) (last : List ℕ) → list_all is_segment (parts ++ last ∷ []) ≡ true → list_all is_segment parts ≡ true
front_good [] last e = refl
front_good (part ∷ parts) last e =
    let here = both (is_segment part) (list_all is_segment (parts ++ last ∷ [])) e in
    ap (λ b. b && list_all is_segment parts) here.0 ∙ front_good parts last here.1

good_front : (parent last : List ℕ) (all : List (List ℕ)) → segments parent ++ last ∷ [] ≡ all → (nat_le (length all) 16 && list_all is_segment all) ≡ true → is_path parent ≡ true
good_front [] last all e h = refl
good_front (b ∷ bs) last all e h =
    let parts = both (nat_le (length all) 16) (list_all is_segment all) h in
    let size : length all ≡ length (segments (b ∷ bs)) + 1 = sym (ap length e) ∙ length-append (segments (b ∷ bs)) (last ∷ []) in
    let few : nat_le (length (segments (b ∷ bs))) 16 ≡ true = grind (arith, nat_tests, parts.0, size) in
    ap (λ t. t && list_all is_segment (segments (b ∷ bs))) few ∙ front_good (segments (b ∷ bs)) last (ap (list_all is_segment) e ∙ parts.1)

parent_by : (path : List ℕ) (any : Bool) → list_any is_slash path ≡ any → is_path path ≡ true → is_path (parent_of path) ≡ true
parent_by [] any e good = refl
parent_by (b ∷ bs) true e good = let front = split_parent (b ∷ bs) e in good_front (parent_of (b ∷ bs)) front.0 (segments (b ∷ bs)) front.1 good
parent_by (b ∷ bs) false e good = ap is_path (no_parent (b ∷ bs) e)

pub is_path-parent_of : (path : List ℕ) → is_path path ≡ true → is_path (parent_of path) ≡ true
is_path-parent_of path good = parent_by path (list_any is_slash path) refl good
