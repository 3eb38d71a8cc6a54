-- How entries are copied, and what a follower has read.
use Rattle.std.proofs.Common.{◌≡◌, ℕ, ◌+◌, ◌≤◌, min, List, ◌++◌, take, drop, length, sym, ap, ◌∙◌, append_assoc}
use Rattle.std.proofs.lemmas.List.{take_all, take_min, length-take, take-append-le, take-append-drop}
use Rattle.jk_log.specs.declared.entry.Entry.{Entry}
use Rattle.jk_board.specs.Boards.{StartsWith}
use Rattle.jk_board.proofs.Lists.{take-add}

pub copied : (old now entries : List Entry) (room m i : ℕ) → m ≡ min room (length entries) → length (take m entries) ≤ i → now ≡ old ++ take i (take m entries) → now ≡ old ++ take room entries
copied old now entries room m i is enough h =
    h ∙ ap (λ l. old ++ l) (take_all i (take m entries) enough ∙ ap (λ n. take n entries) is ∙ take_min room entries)

-- what a follower has read
pub read_on : (old found got : List Entry) (place now max n : ℕ) → place ≤ length old → StartsWith found old → got ≡ take max (drop place found) → n ≡ length got → now ≡ place + n → take now found ≡ take place old ++ got
read_on old found got place now max n within starts is size sum =
    let size' : n ≡ min max (length (drop place found)) = size ∙ ap length is ∙ length-take max (drop place found) in
    ap (λ k. take k found) sum
    ∙ take-add place n found
    ∙ ap (λ l. l ++ take n (drop place found)) (ap (take place) starts.1 ∙ take-append-le place old starts.0 within)
    ∙ ap (λ k. take place old ++ take k (drop place found)) size'
    ∙ ap (λ l. take place old ++ l) (take_min max (drop place found) ∙ sym is)

-- what a follower passes
pub passed_on : (old found read : List Entry) (place : ℕ) → StartsWith found old → read ≡ found → StartsWith read (take place old)
passed_on old found read place starts is = (
  drop place old ++ starts.0,
  is ∙ starts.1 ∙ ap (λ l. l ++ starts.0) (sym (take-append-drop place old)) ∙ append_assoc (take place old) (drop place old) starts.0,
)
