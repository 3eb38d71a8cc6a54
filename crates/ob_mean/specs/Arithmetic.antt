-- To be believed.
-- Numbers of 32 bits, which wrap, and what operators and predeclared functions make of them (Wirth, The Programming
-- Language Oberon, Oberon-07; integers of 32 bits).
use Rattle.std.specs.Prelude.{ℕ, zero, suc, ◌^◌, ℤ, pos, negsuc, ◌+ℤ◌, ◌-ℤ◌, ◌*ℤ◌, int_lt, nat_lt, not, ◌||◌, if◌then◌else◌, Bool, true, false, List}
use Rattle.std.specs.Int.{int_wrap, w32, int_div_euclid, int_rem_euclid, int_shl, cast_signed, cast_unsigned, rotate_right}
use Rattle.std.specs.Ordering.{int_eq}
use Rattle.std.specs.Str.{bytes_eq}
use Rattle.ob_mean.specs.declared.operator.Relation.{Relation}
use Rattle.ob_mean.specs.declared.operator.Relation.TheVariants.{Equal, NotEqual, Less, LessEqual, Greater, GreaterEqual}
use Rattle.ob_mean.specs.declared.operator.Operator.{Operator}
use Rattle.ob_mean.specs.declared.operator.Operator.TheVariants.{Plus, Minus, Times, Quotient, Remainder, ShiftLeft, ShiftRight, Rotate, Compare}
use Rattle.ob_mean.specs.declared.operator.UnaryOperator.{UnaryOperator}
use Rattle.ob_mean.specs.declared.operator.UnaryOperator.TheVariants as one
use Rattle.ob_mean.specs.declared.outcome.TrapKind.{TrapKind}
use Rattle.ob_mean.specs.declared.outcome.TrapKind.TheVariants as trap
use Rattle.ob_mean.specs.Texts.{is_before}

-- what an operator gives: a number, or a trap
pub data Computed : Type 0 where
  Gives : ℤ → Computed
  Faults : TrapKind → Computed

-- the number from -2^31 to 2^31 - 1 that equals z modulo 2^32
abbrev pub wrap : ℤ → ℤ
wrap z = int_wrap w32 z

-- TRUE is 1, FALSE 0
abbrev pub truth : Bool → ℤ
truth true = pos 1
truth false = pos 0

-- ---- DIV and MOD: the floor, and its rest, at a divisor above 0

abbrev pub quotient : ℤ → ℤ → Computed
quotient x (pos zero) = Faults trap.Divisor
quotient x (pos (suc y)) = Gives (int_div_euclid x (pos (suc y)))
quotient x (negsuc y) = Faults trap.Divisor

abbrev pub remainder : ℤ → ℤ → Computed
remainder x (pos zero) = Faults trap.Divisor
remainder x (pos (suc y)) = Gives (int_rem_euclid x (pos (suc y)))
remainder x (negsuc y) = Faults trap.Divisor

-- ---- shifts, by 0 to 31

abbrev pub shifted : (ℕ → ℤ) → ℤ → Computed
shifted shift (pos k) = if nat_lt k 32 then Gives (shift k) else Faults trap.ShiftCount
shifted shift (negsuc k) = Faults trap.ShiftCount

-- LSL: the 32 bits go to the left, which is times a power of two
abbrev pub shift_left : ℤ → ℕ → ℤ
shift_left x k = int_shl w32 x k

-- ASR: the floor by a power of two
abbrev pub shift_right : ℤ → ℕ → ℤ
shift_right x k = int_div_euclid x (pos (2 ^ k))

-- ROR: the 32 bits go round to the right
abbrev pub rotated : ℤ → ℕ → ℤ
rotated x k = cast_signed w32 (rotate_right w32 (cast_unsigned w32 x) k)

-- ---- relations, of what is equal or not, and less or not

abbrev pub holds : Relation → Bool → Bool → Bool
holds Equal equal less = equal
holds NotEqual equal less = not equal
holds Less equal less = less
holds LessEqual equal less = less || equal
holds Greater equal less = not (less || equal)
holds GreaterEqual equal less = not less

abbrev pub numbers_relate : Relation → ℤ → ℤ → Bool
numbers_relate r x y = holds r (int_eq x y) (int_lt x y)

abbrev pub texts_relate : Relation → List ℕ → List ℕ → Bool
texts_relate r a b = holds r (bytes_eq a b) (is_before a b)

-- ---- operators and predeclared functions

abbrev pub apply : Operator → ℤ → ℤ → Computed
apply Plus x y = Gives (wrap (x +ℤ y))
apply Minus x y = Gives (wrap (x -ℤ y))
apply Times x y = Gives (wrap (x *ℤ y))
apply Quotient x y = quotient x y
apply Remainder x y = remainder x y
apply ShiftLeft x y = shifted (shift_left x) y
apply ShiftRight x y = shifted (shift_right x) y
apply Rotate x y = shifted (rotated x) y
apply (Compare r) x y = Gives (truth (numbers_relate r x y))

-- the sign `-`
abbrev pub negative : ℤ → ℤ
negative x = wrap (pos 0 -ℤ x)

-- ABS
abbrev pub absolute : ℤ → ℤ
absolute x = if int_lt x (pos 0) then negative x else x

-- a number from 0 to 255
abbrev pub within_byte : TrapKind → ℤ → Computed
within_byte kind (pos n) = if nat_lt n 256 then Gives (pos n) else Faults kind
within_byte kind (negsuc n) = Faults kind

abbrev pub apply_one : UnaryOperator → ℤ → Computed
apply_one one.Negative x = Gives (negative x)
apply_one one.Not x = Gives (truth (int_eq x (pos 0)))
apply_one one.Absolute x = Gives (absolute x)
apply_one one.Odd x = Gives (int_rem_euclid x (pos 2))
apply_one one.Ordinal x = Gives x
apply_one one.Character x = within_byte trap.Character x
apply_one one.Byte x = within_byte trap.Byte x
