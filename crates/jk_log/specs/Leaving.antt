-- When each seat left last.
use Rattle.std.specs.Prelude.{ℕ, zero, suc, Bool, true, false, List, [], ◌∷◌, length, if◌then◌else◌}
use Rattle.jk_log.specs.declared.mark.Item.TheVariants.{Took, Marked}
use Rattle.jk_log.specs.Log.{Log, leaves}

-- the place of a seat's last leave, or 0
abbrev pub last_leave : ℕ → Log → ℕ
last_leave seat [] = 0
last_leave seat (Took a ∷ past) = if leaves seat a then length past else last_leave seat past
last_leave seat (Marked m ∷ past) = last_leave seat past

abbrev pub are_zeros : List ℕ → Bool
are_zeros [] = true
are_zeros (zero ∷ xs) = are_zeros xs
are_zeros (suc n ∷ xs) = false
