-- The number of a string among more variables.
use Rattle.std.proofs.Common.{◌≡◌, ℕ, suc, ◌==◌, ◌&&◌, Bool, true, false, cond, List, [], ◌∷◌, ◌++◌, length, Option, Some, None, option_map, slice_get, refl, sym, ap, ◌∙◌, subst, inl, inr}
use Rattle.std.specs.Cmp.Lexicographic.{bytes_decides}
use Rattle.std.specs.Str.{bytes_eq}
use Rattle.std.proofs.lemmas.Bool.{cases_Bool, eqb-true}
use Rattle.ob_mean.specs.declared.module.ModuleVariable.{ModuleVariable}
use Rattle.ob_mean.specs.declared.module.ModuleVariable.TheVariants as variable
use Rattle.ob_mean.specs.declared.shape.Shape.{Shape}
use Rattle.ob_check_scope.proofs.Index.{no_suc, not_first, choices}
use Rattle.ob_check_strings.specs.Strings.{Variables, is_string, string_at, string_number, with_string, number_or, with_more}

pub declared_more : (vs : Variables) (s : Shape) (t : List ℕ) (n : ℕ) → string_at (vs ++ variable.Declared s ∷ []) t n ≡ string_at vs t n
declared_more [] s t n = refl
declared_more (v ∷ vs) s t n = ap (λ o. cond (is_string v t n) (Some 0) (option_map suc o)) (declared_more vs s t n)

both : (b c : Bool) → (b && c) ≡ true → (b ≡ true) × (c ≡ true)
both true true e = (refl, refl)
both true false e = absurd (let k : false ≡ true = e in cc)
both false c e = absurd (let k : false ≡ true = e in cc)

-- what is the other string is not this one
other : (v : ModuleVariable) (c t : List ℕ) (m n : ℕ) → is_string v c m ≡ false → is_string v t n ≡ true → (bytes_eq c t && (m == n)) ≡ false
other v c t m n absent there =
    elim (cases_Bool (bytes_eq c t && (m == n))) as (λ _. (bytes_eq c t && (m == n)) ≡ false) [
      | inl same ↦
          let parts = both (bytes_eq c t) (m == n) same in
          let texts : c ≡ t = (bytes_decides c t).0 parts.0 in
          let counts : m ≡ n = eqb-true m n parts.1 in
          let here : is_string v t n ≡ false = subst (λ k. is_string v t k ≡ false) counts (subst (λ l. is_string v l m ≡ false) texts absent) in
          absurd (let k : true ≡ false = sym there ∙ here in cc)
      | inr apart ↦ apart
    ]

pub string_more : (vs : Variables) (c t : List ℕ) (m n : ℕ) → string_at vs c m ≡ None → string_at (vs ++ variable.Text c m ∷ []) t n ≡ cond (bytes_eq c t && (m == n)) (Some (length vs)) (string_at vs t n)
string_more [] c t m n none = refl
string_more (v ∷ vs) c t m n none =
    let parts = not_first (is_string v c m) (option_map suc (string_at vs c m)) none in
    ap (λ o. cond (is_string v t n) (Some 0) (option_map suc o)) (string_more vs c t m n (no_suc (string_at vs c m) parts.1))
    ∙ choices (is_string v t n) (bytes_eq c t && (m == n)) (length vs) (string_at vs t n) (other v c t m n parts.0)

pub new_number : (vs : Variables) (t : List ℕ) (n : ℕ) → string_at vs t n ≡ None → length vs ≡ string_number vs t n
new_number vs t n none = ap (λ o. number_or o (length vs)) (sym none)

pub new_variables : (vs : Variables) (t : List ℕ) (n : ℕ) → string_at vs t n ≡ None → (vs ++ variable.Text t n ∷ []) ≡ with_string vs t n
new_variables vs t n none = ap (λ o. with_more o vs (variable.Text t n)) (sym none)

pub old_number : (vs : Variables) (t : List ℕ) (n i : ℕ) → string_at vs t n ≡ Some i → i ≡ string_number vs t n
old_number vs t n i there = ap (λ o. number_or o (length vs)) (sym there)

pub old_variables : (vs : Variables) (t : List ℕ) (n i : ℕ) → string_at vs t n ≡ Some i → vs ≡ with_string vs t n
old_variables vs t n i there = ap (λ o. with_more o vs (variable.Text t n)) (sym there)

-- ---- what stands at a string's number

is_it : (v : ModuleVariable) (t : List ℕ) (n : ℕ) → is_string v t n ≡ true → v ≡ variable.Text t n
is_it (variable.Declared s) t n e = absurd (let k : false ≡ true = e in cc)
is_it (variable.Text c m) t n e =
    let parts = both (bytes_eq c t) (m == n) e in
    ap (λ l. variable.Text l m) ((bytes_decides c t).0 parts.0) ∙ ap (λ k. variable.Text t k) (eqb-true m n parts.1)

same_number : (i j : ℕ) → Some i ≡ Some j → i ≡ j
same_number i j e = cc

reads_later : (v : ModuleVariable) (all : Variables) (t : List ℕ) (n i : ℕ) (o : Option ℕ) → option_map suc o ≡ Some i → ((j : ℕ) → o ≡ Some j → slice_get all j ≡ Some (variable.Text t n)) → slice_get (v ∷ all) i ≡ Some (variable.Text t n)
reads_later v all t n i None e reads = absurd (let k : None ≡ Some i = e in cc)
reads_later v all t n i (Some j) e reads = subst (λ k. slice_get (v ∷ all) k ≡ Some (variable.Text t n)) (same_number (suc j) i e) (reads j refl)

reads_by : (b : Bool) (v : ModuleVariable) (all : Variables) (t : List ℕ) (n i : ℕ) (o : Option ℕ) → is_string v t n ≡ b → cond b (Some 0) (option_map suc o) ≡ Some i → ((j : ℕ) → o ≡ Some j → slice_get all j ≡ Some (variable.Text t n)) → slice_get (v ∷ all) i ≡ Some (variable.Text t n)
reads_by true v all t n i o is e reads = subst (λ k. slice_get (v ∷ all) k ≡ Some (variable.Text t n)) (same_number 0 i e) (ap Some (is_it v t n is))
reads_by false v all t n i o is e reads = reads_later v all t n i o e reads

pub string_reads : (vs rest : Variables) (t : List ℕ) (n i : ℕ) → string_at vs t n ≡ Some i → slice_get (vs ++ rest) i ≡ Some (variable.Text t n)
string_reads [] rest t n i e = absurd (let k : None ≡ Some i = e in cc)
string_reads (v ∷ vs) rest t n i e = reads_by (is_string v t n) v (vs ++ rest) t n i (string_at vs t n) refl e (λ j h. string_reads vs rest t n j h)
