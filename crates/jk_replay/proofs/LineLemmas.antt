-- Bytes before a line end.
use Rattle.std.proofs.Common.{◌≢◌, ℕ, ◌+◌, ◌<◌, List, [], ◌∷◌, ◌++◌, length, take, get_or, sym, subst}
use Rattle.std.proofs.lemmas.List.{take_more}
use Rattle.jk_replay.specs.Lines.{IsOneLine}

one_more : (xs : List ℕ) (x : ℕ) → IsOneLine xs → x ≢ 10 → IsOneLine (xs ++ x ∷ [])
one_more [] x h e = (e, tt)
one_more (y ∷ ys) x h e = (h.0, one_more ys x h.1 e)

-- one byte more, which is no line end
pub line_more : (xs : List ℕ) (i d : ℕ) → i < length xs → IsOneLine (take i xs) → get_or xs i d ≢ 10 → IsOneLine (take (i + 1) xs)
line_more xs i d lt h e = subst IsOneLine (sym (take_more xs i d lt)) (one_more (take i xs) (get_or xs i d) h e)
