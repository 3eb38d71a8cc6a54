-- A run of digits has digits alone.
use Rattle.std.proofs.Common.{◌≡◌, ℕ, ◌<◌, true, List, length, get_or, take, ap, ◌∙◌, arith}
use Rattle.std.specs.Char.{is_ascii_digit}
use Rattle.std.specs.List.{prefix_len}
use Rattle.std.proofs.lemmas.List.{length-take, get_or-take}
use Rattle.std.proofs.lemmas.List.Sums.{prefix_len_passes}

pub digits_pass : (n : ℕ) (chars : List ℕ) → n ≡ prefix_len is_ascii_digit chars → (i : ℕ) → i < length (take n chars) → is_ascii_digit (get_or (take n chars) i 0) ≡ true
digits_pass n chars e i lt =
    let below : i < n = omega (arith, length-take n chars) in
    ap is_ascii_digit (get_or-take n chars i 0 below) ∙ prefix_len_passes is_ascii_digit chars i 0 (omega arith)
