-- Whether bytes are UTF-8, as a test.
use Rattle.std.proofs.Common.{◌≡◌, ℕ, List, Bool, true, false, cond, refl, sym, ◌∙◌}
use Rattle.std.proofs.lemmas.Str.{IsUtf8-from_is_utf8, is_utf8-from_IsUtf8}
use Rattle.std.specs.Str.{IsUtf8, is_utf8}

pub text_if_utf8 : (bs : List ℕ) → IsUtf8 bs → is_utf8 bs ≡ true
text_if_utf8 bs is = is_utf8-from_IsUtf8 bs is

pub none_if_not : (bs : List ℕ) → ¬ (IsUtf8 bs) → is_utf8 bs ≡ false
none_if_not bs not = by_case (is_utf8 bs) (λ e. not (IsUtf8-from_is_utf8 bs e))
  where
    by_case : (b : Bool) → ¬ (b ≡ true) → b ≡ false
    by_case true h = absurd (h refl)
    by_case false h = refl
