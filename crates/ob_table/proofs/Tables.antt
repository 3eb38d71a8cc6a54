-- Where things are.
use Rattle.std.proofs.Common.{◌≡◌, ℕ, zero, suc, ◌+◌, ◌*◌, ◌<◌, ◌≤◌, arith, length, get_or, take, min, List, [], ◌∷◌, ◌++◌, refl, sym, ap, ◌∙◌, Result, Ok, Err}
use Rattle.std.specs.Prelude.{IfOk}
use Rattle.std.proofs.lemmas.List.{take_more}
use Rattle.ob_mean.specs.declared.shape.Shape.{Shape}
use Rattle.ob_mean.specs.declared.shape.Shape.TheVariants.{Array, Record}
use Rattle.ob_mean.specs.Values.{Value, Nothing, row, size, before}
use Rattle.ob_mean.specs.Shapes.{zero_of, zeros, at_least_one}
use Rattle.ob_mean.proofs.Zeros.{array_zero, record_zero}
use Rattle.ob_code.specs.declared.instr.Extent.{Extent}
use Rattle.ob_table.specs.Tables.{cells_in, extents, extent_in, sizes_of, AreBehind}

pub sizes-length : (es : List Extent) → length (sizes_of es) ≡ length es
sizes-length [] = refl
sizes-length (e ∷ es) = ap (λ k. suc k) (sizes-length es)

pub sizes-append : (es : List Extent) (e : Extent) → sizes_of (es ++ e ∷ []) ≡ sizes_of es ++ e.cells ∷ []
sizes-append [] e = refl
sizes-append (f ∷ es) e = ap (λ l. f.cells ∷ l) (sizes-append es e)

extents_more : (a : ℕ) (ns : List ℕ) (n : ℕ) → extents a (ns ++ n ∷ []) ≡ extents a ns ++ record { from = a + cells_in ns; cells = n } ∷ []
extents_more a [] n = ap (λ k. record { from = k; cells = n } ∷ []) (omega arith)
extents_more a (m ∷ ns) n = ap (λ l. record { from = a; cells = m } ∷ l) (extents_more (a + m) ns n ∙ ap (λ k. extents (a + m) ns ++ record { from = k; cells = n } ∷ []) (omega arith))

cells_in_more : (ns : List ℕ) (n : ℕ) → cells_in (ns ++ n ∷ []) ≡ cells_in ns + n
cells_in_more [] n = omega arith
cells_in_more (m ∷ ns) n = let e = cells_in_more ns n in omega (arith, e)

pub extents_front : (a : ℕ) (ns : List ℕ) (x : ℕ) (d : Extent) → x < length ns → get_or (extents a ns) x d ≡ extent_in a ns x
extents_front a [] x d lt = absurd (omega (arith, lt))
extents_front a (n ∷ ns) zero d lt = refl
extents_front a (n ∷ ns) (suc x) d lt = extents_front (a + n) ns x d (omega (arith, lt))

pub extents_past : (a : ℕ) (ns : List ℕ) (x : ℕ) → length ns ≤ x → extent_in a ns x ≡ record { from = a + cells_in ns; cells = 0 }
extents_past a [] x le = ap (λ k. record { from = k; cells = 0 }) (omega arith)
extents_past a (n ∷ ns) zero le = absurd (omega (arith, le))
extents_past a (n ∷ ns) (suc x) le = extents_past (a + n) ns x (omega (arith, le)) ∙ ap (λ k. record { from = k; cells = 0 }) (omega arith)

pub one_behind : (es es' : List Extent) (cells n all : ℕ) → AreBehind es cells → es' ≡ es ++ record { from = cells; cells = n } ∷ [] → all ≡ cells + n → AreBehind es' all
one_behind es es' cells n all h e f =
    let s : sizes_of es' ≡ sizes_of es ++ n ∷ [] = ap sizes_of e ∙ sizes-append es (record { from = cells; cells = n }) in
    record {
      behind = e ∙ ap (λ l. l ++ record { from = cells; cells = n } ∷ []) h.behind
          ∙ ap (λ k. extents 0 (sizes_of es) ++ record { from = k; cells = n } ∷ []) (h.total ∙ omega arith)
          ∙ sym (extents_more 0 (sizes_of es) n) ∙ ap (λ l. extents 0 l) (sym s);
      total = f ∙ ap (λ k. k + n) h.total ∙ sym (cells_in_more (sizes_of es) n) ∙ ap cells_in (sym s);
    }

pub looked : (es : List Extent) (ns : List ℕ) (x : ℕ) (cells : ℕ) (d : Extent) → AreBehind es cells → sizes_of es ≡ ns → x < length es → get_or es x d ≡ extent_in 0 ns x
looked es ns x cells d h v lt =
    ap (λ l. get_or l x d) h.behind
    ∙ extents_front 0 (sizes_of es) x d (omega (arith, lt, sizes-length es))
    ∙ ap (λ l. extent_in 0 l x) v

pub looked_past : (es : List Extent) (ns : List ℕ) (x : ℕ) (cells : ℕ) → AreBehind es cells → sizes_of es ≡ ns → length es ≤ x → record { from = cells; cells = 0 } ≡ extent_in 0 ns x
looked_past es ns x cells h v le =
    ap (λ k. record { from = k; cells = 0 }) (h.total ∙ omega arith)
    ∙ sym (extents_past 0 (sizes_of es) x (omega (arith, le, sizes-length es)))
    ∙ ap (λ l. extent_in 0 l x) v
