use Rattle.std.proofs.Common.{◌≡◌, ◌≤◌, ◌^◌, take}
use Rattle.std.specs.Str.Parse.{digits_value}
use Rattle.ob_inout.proofs.front.value_of.Given as goal

abbrev pub invariant-loop-c : goal.invariant-loop-c
invariant-loop-c l = record {
  counted : l.value ≡ digits_value 10 (take l.c-index l.digits);
  small : l.value ≤ 2 ^ 31;
}
