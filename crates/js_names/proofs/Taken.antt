-- Names that are taken in a folder.
use Rattle.std.proofs.Common.{◌≡◌, ℕ, Bool, true, false, cond, List, [], ◌∷◌, ◌++◌, Option, Some, None, arith, refl, sym, ap, ◌∙◌}
use Rattle.std.specs.Prelude.{◌==◌, ◌&&◌, ◌||◌}
use Rattle.std.specs.Str.{bytes_eq}
use Rattle.std.proofs.lemmas.Bool.Decides.{nat_tests}
use Rattle.js_shelf.specs.Paths.{behind}
use Rattle.js_tables.specs.declared.tables.Session.{Session}
use Rattle.js_tables.specs.Sessions.{is_at}

-- there is one, and it is that name
abbrev pub is_that : List ℕ → Option (List ℕ) → Bool
is_that name None = false
is_that name (Some other) = bytes_eq other name

-- a text is a front and that name where what follows the front is the name
pub text_behind : (front text name : List ℕ) → bytes_eq text (front ++ name) ≡ is_that name (behind front text)
text_behind [] text name = refl
text_behind (b ∷ front) [] name = refl
text_behind (b ∷ front) (c ∷ text) name =
    elim (b == c) as (λ t. (c == b) ≡ t → ((c == b) && bytes_eq text (front ++ name)) ≡ is_that name (cond t (behind front text) None)) [
      | true ↦ λ t. (ap (λ t. t && bytes_eq text (front ++ name)) t ∙ text_behind front text name)
      | false ↦ λ t. ap (λ t. t && bytes_eq text (front ++ name)) t
    ] (flips c b)
  where
    flips : (m n : ℕ) → (m == n) ≡ (n == m)
    flips m n = grind (arith, nat_tests)

or_false : (a : Bool) → a ≡ (a || false)
or_false true = refl
or_false false = refl

-- no session takes a name
pub taken_none : (a : Bool) (path : List ℕ) (o : Option Session) → o ≡ None → a ≡ (a || is_at path o)
taken_none a path o e = or_false a ∙ ap (λ o. a || is_at path o) (sym e)

-- nor does one whose path has another front
pub taken_other : (a : Bool) (front name : List ℕ) (o : Option Session) (s : Session) → o ≡ Some s → None ≡ behind front s.path
    → a ≡ (a || is_at (front ++ name) o)
taken_other a front name o s e none =
    or_false a ∙ ap (λ r. a || is_that name r) none ∙ ap (λ t. a || t) (sym (text_behind front s.path name)) ∙ ap (λ o. a || is_at (front ++ name) o) (sym e)

-- and another takes what follows the front
pub taken_more : (a b : Bool) (front name rest : List ℕ) (o : Option Session) (s : Session) → o ≡ Some s → Some rest ≡ behind front s.path
    → b ≡ (a || bytes_eq rest name) → b ≡ (a || is_at (front ++ name) o)
taken_more a b front name rest o s e some is =
    is ∙ ap (λ r. a || is_that name r) some ∙ ap (λ t. a || t) (sym (text_behind front s.path name)) ∙ ap (λ o. a || is_at (front ++ name) o) (sym e)
