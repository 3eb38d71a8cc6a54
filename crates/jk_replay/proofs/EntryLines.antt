-- Lines of entries, one more at a time.
use Rattle.std.proofs.Common.{◌≡◌, ℕ, ◌+◌, ◌<◌, List, [], ◌∷◌, ◌++◌, length, take, get_or, sym, ap, ◌∙◌, append_assoc, append-nil}
use Rattle.std.proofs.lemmas.List.{take_more}
use Rattle.jk_log.specs.declared.entry.Entry.{Entry}
use Rattle.jk_replay.specs.Shown.{entry_line, entry_lines}

lines_append : (xs : List Entry) (x : Entry) → entry_lines (xs ++ x ∷ []) ≡ entry_lines xs ++ entry_line x
lines_append [] x = append-nil (entry_line x)
lines_append (y ∷ ys) x = ap (λ l. entry_line y ++ l) (lines_append ys x) ∙ sym (append_assoc (entry_line y) (entry_lines ys) (entry_line x))

pub lines_more : (xs : List Entry) (i : ℕ) (x : Entry) → i < length xs → x ≡ get_or xs i x → entry_lines (take (i + 1) xs) ≡ entry_lines (take i xs) ++ entry_line x
lines_more xs i x lt e = ap entry_lines (take_more xs i x lt) ∙ lines_append (take i xs) (get_or xs i x) ∙ ap (λ y. entry_lines (take i xs) ++ entry_line y) (sym e)
