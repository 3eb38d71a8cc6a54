-- Numbers that are whole.
use Rattle.std.proofs.Common.{◌≡◌, Bool, true, false, cond, Float, Option, Some, None, unwrap_or, refl}
use Rattle.serde_json.specs.Data.{Num, float}
use Rattle.serde_json.specs.Find.{is_float}
use Rattle.nb_read.specs.Lent.{no_number, whole_number}

-- a number that is no integer is not whole
pub not_whole : (b : Bool) (x : Float) → whole_number (cond b (Some (float x)) None) ≡ None
not_whole true x = refl
not_whole false x = refl

kept : (b : Bool) (n m : Num) → Some n ≡ cond b None (Some m) → m ≡ n
kept true n m e = cc
kept false n m e = cc

pub num_is : (o : Option Num) (n : Num) → Some n ≡ whole_number o → unwrap_or o no_number ≡ n
num_is None n e = cc
num_is (Some m) n e = kept (is_float m) n m e

not_kept : (b : Bool) (n m : Num) → is_float m ≡ b → Some n ≡ cond b None (Some m) → is_float n ≡ false
not_kept true n m f e = cc
not_kept false n m f e = let same : m ≡ n = cc in rw (← same) f

pub not_float : (o : Option Num) (n : Num) → Some n ≡ whole_number o → is_float n ≡ false
not_float None n e = cc
not_float (Some m) n e = not_kept (is_float m) n m refl e
