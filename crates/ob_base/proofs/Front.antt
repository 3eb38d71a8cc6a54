-- The front of a list.
use Rattle.std.proofs.Common.{◌≡◌, ℕ, min, length, take, List}
use Rattle.std.proofs.lemmas.List.{take_min}

pub take_least : (n : ℕ) (xs : List ℕ) → take (min n (length xs)) xs ≡ take n xs
take_least n xs = take_min n xs
