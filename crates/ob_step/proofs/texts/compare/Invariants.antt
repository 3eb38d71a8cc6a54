use Rattle.std.proofs.Common.{◌≡◌, drop}
use Rattle.std.specs.Str.{bytes_eq}
use Rattle.ob_mean.specs.Texts.{is_before}
use Rattle.ob_step.specs.Rows.{text_in}
use Rattle.ob_step.proofs.texts.compare.Given as goal

abbrev pub invariant-loop-i : goal.invariant-loop-i
invariant-loop-i l = record {
  equal : bytes_eq (text_in l.first) (text_in l.second) ≡ bytes_eq (text_in (drop l.i l.first)) (text_in (drop l.i l.second));
  less : is_before (text_in l.first) (text_in l.second) ≡ is_before (text_in (drop l.i l.first)) (text_in (drop l.i l.second));
}
