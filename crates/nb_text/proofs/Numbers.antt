-- The text of a number that is no float.
use Rattle.std.proofs.Common.{◌≡◌, ℕ, ℤ, pos, negsuc, ◌^◌, false, true, nat_lt, cond, decimal, Option, Some, None, refl, sym, ap}
use Rattle.std.specs.Fmt.{signed_decimal}
use Rattle.serde_json.specs.Data.{Num, unsigned, negative, float}
use Rattle.serde_json.specs.Find.{as_u64, as_i64, is_float}
use Rattle.serde_json.specs.Written.{number_text}

pub positive_text : (n : Num) (k : ℕ) → as_u64 n ≡ Some k → number_text n ≡ decimal k
positive_text (unsigned m) k e = let same : m ≡ k = cc in ap decimal same
positive_text (negative z) k e = cc
positive_text (float x) k e = cc

pub negative_text : (n : Num) (z : ℤ) → as_u64 n ≡ None → as_i64 n ≡ Some z → number_text n ≡ signed_decimal z
negative_text (unsigned m) z none some = cc
negative_text (negative y) z none some = let same : y ≡ z = cc in ap signed_decimal same
negative_text (float x) z none some = cc

pub no_other : (n : Num) → as_u64 n ≡ None → as_i64 n ≡ None → is_float n ≡ false → ⊥
no_other (unsigned m) none other whole = cc
no_other (negative z) none other whole = cc
no_other (float x) none other whole = cc
