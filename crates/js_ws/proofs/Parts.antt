-- What one more entry adds to a part.
use Rattle.std.proofs.Common.{◌≡◌, ℕ, ◌≤◌, Bool, true, false, cond, List, [], ◌∷◌, ◌++◌, length, take, length-take, append_assoc, append-nil, Result, Ok, Err, arith, refl, ◌∙◌, ap, sym}
use Rattle.std.specs.Prelude.{◌||◌, IfOk, OnErr}
use Rattle.jk_board.specs.declared.follower.Refusal.{Refusal}
use Rattle.std.specs.declared.alloc.Global.{Global}
use Rattle.std.specs.declared.vec.Vec.{Vec}
use Rattle.jk_log.specs.declared.entry.Entry.{Entry}
use Rattle.jk_log.specs.View.{is_join, has_joined, after_join, goes_to, for_seat, view, part}
use Rattle.js_ws.specs.Views.{one}
use Rattle.js_ws.specs.Reads.{items_read}
use Rattle.js_ws.specs.Shutdowns.{is_last, has_last}
use Rattle.js_ws.specs.Statuses.{busy_with, busy_after}

seat_step : (b : Bool) (e : Entry) (es : List Entry) → cond b (e ∷ es) es ≡ cond b (e ∷ []) [] ++ es
seat_step true e es = refl
seat_step false e es = refl

view_step : (b : Bool) (seat join : ℕ) (es : List Entry)
    → for_seat seat (cond b es (after_join seat join es)) ≡ cond b (for_seat seat es) (for_seat seat (after_join seat join es))
view_step true seat join es = refl
view_step false seat join es = refl

-- the part of a list is what its first adds, and then the part of the rest
part_step : (joined : Bool) (e : Entry) (es : List Entry) (seat join : ℕ)
    → part joined (e ∷ es) seat join ≡ one joined e seat ++ part (joined || is_join seat join e) es seat join
part_step true e es seat join = seat_step (goes_to seat e.to) e (for_seat seat es)
part_step false e es seat join = view_step (is_join seat join e) seat join es

-- one more of the entries to come was taken
pub part_more : (joined next : Bool) (held now : List Entry) (e : Entry) (es : List Entry) (seat join : ℕ)
    → now ≡ held ++ one joined e seat → next ≡ (joined || is_join seat join e)
    → held ++ part joined (e ∷ es) seat join ≡ now ++ part next es seat join
part_more joined next held now e es seat join is more =
    rw (is, more, part_step joined e es seat join) (sym (append_assoc held (one joined e seat) (part (joined || is_join seat join e) es seat join)))

or_assoc : (a b c : Bool) → (a || (b || c)) ≡ ((a || b) || c)
or_assoc true b c = refl
or_assoc false b c = refl

pub joined_more : (joined next : Bool) (e : Entry) (es : List Entry) (seat join : ℕ)
    → next ≡ (joined || is_join seat join e) → (joined || has_joined seat join (e ∷ es)) ≡ (next || has_joined seat join es)
joined_more joined next e es seat join more = rw more (or_assoc joined (is_join seat join e) (has_joined seat join es))

pub last_more : (ended next : Bool) (e : Entry) (es : List Entry)
    → next ≡ (ended || is_last e) → (ended || has_last (e ∷ es)) ≡ (next || has_last es)
last_more ended next e es more = rw more (or_assoc ended (is_last e) (has_last es))

pub busy_more : (busy next : Bool) (e : Entry) (es : List Entry)
    → next ≡ busy_with busy e → busy_after busy (e ∷ es) ≡ busy_after next es
busy_more busy next e es more = ap (λ (b : Bool). busy_after b es) (sym more)

-- no more were read than were asked for
pub few : (r : Result (Vec Entry Global) Refusal) (n : ℕ) (all : List Entry) → IfOk r (λ v. v.items ≡ take n all) → length (items_read r) ≤ n
few (Ok v) n all is = omega (arith, ap length is, length-take n all)
few (Err e) n all is = omega arith

-- what was read follows what was read before
pub read_on : (r : Result (Vec Entry Global) Refusal) (before after : List Entry) → IfOk r (λ v. after ≡ before ++ v.items) → OnErr r (after ≡ before)
    → after ≡ before ++ items_read r
read_on (Ok v) before after more same = more
read_on (Err e) before after more same = same ∙ sym (append-nil before)
