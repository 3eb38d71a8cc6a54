-- Names that are given one after another.
use Rattle.std.specs.Prelude.{◌≡◌, ◌≤◌, ◌<◌, ◌+◌, ◌^◌, ℕ, List, true, length}
use Rattle.nb_doc.specs.declared.cell_ids.Namer.{Namer}
use Rattle.nb_doc.specs.Ids.{is_taken}

-- Where these are taken: the names up to the last number are, and of later ones it is known which.
pub record IsNamer (taken : List (List ℕ)) (namer : Namer) : Type 0 where
  pub passed : (k : ℕ) → 1 ≤ k → k ≤ namer.last → is_taken taken k ≡ true
  pub ahead : (k : ℕ) → namer.last < k → k < 2 ^ 66 → is_taken namer.taken k ≡ is_taken taken k
  pub few : namer.last + length namer.taken ≤ length taken
