-- Code cells, one more at a time.
use Rattle.std.proofs.Common.{◌≡◌, ℕ, ◌+◌, ◌<◌, ◌≤◌, List, [], ◌∷◌, ◌++◌, length, drop, get_or, true, false, refl, sym, ◌∙◌, ap, subst, append_assoc, append-nil, if◌then◌else◌}
use Rattle.std.proofs.lemmas.List.{at_drop_more, drop_all}
use Rattle.nb_doc.specs.declared.notebook.Cell.{Cell}
use Rattle.nb_record.specs.Book.{is_code}
use Rattle.nb_run.specs.declared.cells.Code.{Code}
use Rattle.nb_run.specs.Runs.{code_cells}

abbrev code_at : Cell → Code
code_at c = record { id = c.id; source = c.source }

next : (cs : List Cell) (i : ℕ) (c : Cell) → i < length cs → c ≡ get_or cs i c → code_cells (drop i cs) ≡ code_cells (c ∷ drop (i + 1) cs)
next cs i c lt is = at_drop_more code_cells cs i c lt ∙ ap (λ (x : Cell). code_cells (x ∷ drop (i + 1) cs)) (sym is)

pub codes_more : (cs : List Cell) (i : ℕ) (c : Cell) (codes : List Code) → i < length cs → c ≡ get_or cs i c → is_code c.content ≡ true
    → code_cells cs ≡ codes ++ code_cells (drop i cs) → code_cells cs ≡ (codes ++ code_at c ∷ []) ++ code_cells (drop (i + 1) cs)
codes_more cs i c codes lt is code before =
    before ∙ ap (λ (l : List Code). codes ++ l) (next cs i c lt is ∙ ap (λ b. if b then code_at c ∷ code_cells (drop (i + 1) cs) else code_cells (drop (i + 1) cs)) code)
    ∙ sym (append_assoc codes (code_at c ∷ []) (code_cells (drop (i + 1) cs)))

pub codes_skip : (cs : List Cell) (i : ℕ) (c : Cell) (codes : List Code) → i < length cs → c ≡ get_or cs i c → is_code c.content ≡ false
    → code_cells cs ≡ codes ++ code_cells (drop i cs) → code_cells cs ≡ codes ++ code_cells (drop (i + 1) cs)
codes_skip cs i c codes lt is code before =
    before ∙ ap (λ (l : List Code). codes ++ l) (next cs i c lt is ∙ ap (λ b. if b then code_at c ∷ code_cells (drop (i + 1) cs) else code_cells (drop (i + 1) cs)) code)

pub codes_end : (cs : List Cell) (i : ℕ) (codes : List Code) → length cs ≤ i → code_cells cs ≡ codes ++ code_cells (drop i cs) → codes ≡ code_cells cs
codes_end cs i codes over before =
    sym (before ∙ ap (λ (l : List Cell). codes ++ code_cells l) (drop_all i cs over) ∙ append-nil codes)
