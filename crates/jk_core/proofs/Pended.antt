-- What the marks that are not handed on show, one after another.
use Rattle.std.proofs.Common.{◌≡◌, ℕ, zero, suc, ◌+◌, ◌<◌, Bool, true, false, cond, List, [], ◌∷◌, ◌++◌, length, take, drop, min, get_or, refl, sym, ◌∙◌, ap, arith, append-nil, append_assoc, Option}
use Rattle.std.proofs.lemmas.List.{take_min, drop_min, take_more}
use Rattle.jk_log.specs.declared.arrival.Arrival.{Arrival}
use Rattle.jk_log.specs.declared.entry.Entry.{Entry}
use Rattle.jk_log.specs.Pending.{joined}
use Rattle.jk_core.specs.declared.pending.Pended.{Pended}
use Rattle.jk_core.specs.Pended.{arrival_of, begins, cell_after, entries_for, last_cell, shown_by}

-- one more mark
pub shown_more : (cell : Option Arrival) (ps : List Pended) (p : Pended) → shown_by cell (ps ++ p ∷ []) ≡ shown_by cell ps ++ entries_for p.kind (arrival_of (last_cell cell ps) p.arrival) ∷ []
shown_more cell [] p = refl
shown_more cell (q ∷ ps) p = ap (λ (l : List (List Entry)). entries_for q.kind (arrival_of cell q.arrival) ∷ l) (shown_more (cell_after q.kind q.arrival cell) ps p)

pub last_more : (cell : Option Arrival) (ps : List Pended) (p : Pended) → last_cell cell (ps ++ p ∷ []) ≡ cell_after p.kind p.arrival (last_cell cell ps)
last_more cell [] p = refl
last_more cell (q ∷ ps) p = last_more (cell_after q.kind q.arrival cell) ps p

-- as many as there are marks
pub shown_length : (cell : Option Arrival) (ps : List Pended) → length (shown_by cell ps) ≡ length ps
shown_length cell [] = refl
shown_length cell (p ∷ ps) = ap suc (shown_length (cell_after p.kind p.arrival cell) ps)

shown_take : (n : ℕ) (cell : Option Arrival) (ps : List Pended) → shown_by cell (take n ps) ≡ take n (shown_by cell ps)
shown_take zero cell ps = refl
shown_take (suc n) cell [] = refl
shown_take (suc n) cell (p ∷ ps) = ap (λ (l : List (List Entry)). entries_for p.kind (arrival_of cell p.arrival) ∷ l) (shown_take n (cell_after p.kind p.arrival cell) ps)

joined_more : (xs : List (List Entry)) (x : List Entry) → joined (xs ++ x ∷ []) ≡ joined xs ++ x
joined_more [] x = append-nil x
joined_more (y ∷ ys) x = ap (λ (l : List Entry). y ++ l) (joined_more ys x) ∙ sym (append_assoc y (joined ys) x)

-- the first marks and the next one
next_taken : (i : ℕ) (ps : List Pended) (p : Pended) → i < length ps → p ≡ get_or ps i p → take (i + 1) ps ≡ take i ps ++ p ∷ []
next_taken i ps p h is = take_more ps i p h ∙ ap (λ (x : Pended). take i ps ++ x ∷ []) (sym is)

pub next_shown : (cell : Option Arrival) (i : ℕ) (ps : List Pended) (p : Pended) → i < length ps → p ≡ get_or ps i p → joined (shown_by cell (take (i + 1) ps)) ≡ joined (shown_by cell (take i ps)) ++ entries_for p.kind (arrival_of (last_cell cell (take i ps)) p.arrival)
next_shown cell i ps p h is =
    ap (λ (l : List Pended). joined (shown_by cell l)) (next_taken i ps p h is) ∙ ap joined (shown_more cell (take i ps) p)
    ∙ joined_more (shown_by cell (take i ps)) (entries_for p.kind (arrival_of (last_cell cell (take i ps)) p.arrival))

pub next_last : (cell : Option Arrival) (i : ℕ) (ps : List Pended) (p : Pended) → i < length ps → p ≡ get_or ps i p → last_cell cell (take (i + 1) ps) ≡ cell_after p.kind p.arrival (last_cell cell (take i ps))
next_last cell i ps p h is = ap (last_cell cell) (next_taken i ps p h is) ∙ last_more cell (take i ps) p

-- all that were to be made
pub all_shown : (cell : Option Arrival) (most count : ℕ) (ps : List Pended) → count ≡ min most (length ps) → joined (shown_by cell (take count ps)) ≡ joined (take most (shown_by cell ps))
all_shown cell most count ps e =
    ap (λ (n : ℕ). joined (shown_by cell (take n ps))) e ∙ ap (λ (l : List Pended). joined (shown_by cell l)) (take_min most ps) ∙ ap joined (shown_take most cell ps)

-- all that were to leave
pub all_dropped : (cell : Option Arrival) (most count : ℕ) (ps : List Pended) → count ≡ min most (length ps) → drop count (shown_by cell ps) ≡ drop most (shown_by cell ps)
all_dropped cell most count ps e =
    ap (λ (n : ℕ). drop n (shown_by cell ps)) (e ∙ ap (λ (l : ℕ). min most l) (sym (shown_length cell ps))) ∙ drop_min most (shown_by cell ps)

pub drop_next : {A : Type 0} (i : ℕ) (xs : List A) → drop 1 (drop i xs) ≡ drop (i + 1) xs
drop_next zero xs = let e : 1 ≡ 0 + 1 = omega arith in ap (λ k. drop k xs) e
drop_next (suc i) [] = nothing (suc i + 1)
  where
    nothing : {A : Type 0} (n : ℕ) → [] ≡ drop {A = A} n []
    nothing zero = refl
    nothing (suc n) = refl
drop_next (suc i) (x ∷ xs) = let e : suc (i + 1) ≡ suc i + 1 = omega arith in drop_next i xs ∙ ap (λ k. drop k (x ∷ xs)) e

-- the first mark leaves
pub first_left : (cell : Option Arrival) (all rest : List Pended) (p : Pended) → all ≡ p ∷ rest → shown_by (cell_after p.kind p.arrival cell) rest ≡ drop 1 (shown_by cell all)
first_left cell all rest p e = sym (ap (λ (l : List Pended). drop 1 (shown_by cell l)) e)

pub last_left : (cell : Option Arrival) (all rest : List Pended) (p : Pended) → all ≡ p ∷ rest → last_cell (cell_after p.kind p.arrival cell) rest ≡ last_cell cell all
last_left cell all rest p e = sym (ap (last_cell cell) e)

-- the entries of one more mark
pub made_more : (cell last arrival : Option Arrival) (i : ℕ) (ps : List Pended) (p : Pended) (entries now : List Entry) → i < length ps → p ≡ get_or ps i p → entries ≡ joined (shown_by cell (take i ps)) → last ≡ last_cell cell (take i ps) → arrival ≡ arrival_of last p.arrival → now ≡ entries ++ entries_for p.kind arrival → now ≡ joined (shown_by cell (take (i + 1) ps))
made_more cell last arrival i ps p entries now h is made cells own e =
    e ∙ ap (λ (l : List Entry). l ++ entries_for p.kind arrival) made
    ∙ ap (λ (o : Option Arrival). joined (shown_by cell (take i ps)) ++ entries_for p.kind o) (own ∙ ap (λ (o : Option Arrival). arrival_of o p.arrival) cells)
    ∙ sym (next_shown cell i ps p h is)

-- the request of the cell that was begun last, after one more mark
pub last_begun : (cell last arrival : Option Arrival) (i : ℕ) (ps : List Pended) (p : Pended) → i < length ps → p ≡ get_or ps i p → last ≡ last_cell cell (take i ps) → arrival ≡ arrival_of last p.arrival → begins p.kind ≡ true → arrival ≡ last_cell cell (take (i + 1) ps)
last_begun cell last arrival i ps p h is cells own first =
    own ∙ ap (λ (o : Option Arrival). arrival_of o p.arrival) cells
    ∙ sym (ap (λ (b : Bool). cond b (arrival_of (last_cell cell (take i ps)) p.arrival) (last_cell cell (take i ps))) first) ∙ sym (next_last cell i ps p h is)

pub last_same : (cell last : Option Arrival) (i : ℕ) (ps : List Pended) (p : Pended) → i < length ps → p ≡ get_or ps i p → last ≡ last_cell cell (take i ps) → begins p.kind ≡ false → last ≡ last_cell cell (take (i + 1) ps)
last_same cell last i ps p h is cells later =
    cells ∙ sym (ap (λ (b : Bool). cond b (arrival_of (last_cell cell (take i ps)) p.arrival) (last_cell cell (take i ps))) later) ∙ sym (next_last cell i ps p h is)
