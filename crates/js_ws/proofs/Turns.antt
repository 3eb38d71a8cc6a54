-- The steps of a turn, one after another.
use Rattle.std.proofs.Common.{◌≡◌, ℕ, Bool, true, false, List, ◌++◌, Option, None, Some, sym, ap, ◌∙◌, refl, true≢false}
use Rattle.std.specs.Prelude.{is_some}
use Rattle.jk_log.specs.declared.arrival.Arrival.{Arrival}
use Rattle.jk_log.specs.declared.arrival.What.{What}
use Rattle.js_ws.specs.Arrivals.{arrivals_of, leave_of}
use Rattle.js_ws.specs.Turns.{turn_of}
use Rattle.js_ws.specs.declared.channel.Turn.{Turn}
use Rattle.js_ws.specs.declared.hearing.Heard.{Heard}

pub clash : (b : Bool) → b ≡ true → b ≡ false → ⊥
clash b is not = true≢false (sym is ∙ not)

pub none_in : (hand : Option What) → is_some hand ≡ false → hand ≡ None
none_in None not = refl
none_in (Some w) not = absurd (true≢false not)

pub said_more : (said ready before : List Arrival) (p q : ℕ) (h : Heard) → said ≡ ready ++ arrivals_of p ready h → ready ≡ before → p ≡ q
    → said ≡ before ++ arrivals_of q before h
said_more said ready before p q h is same place =
    is ∙ (ap (λ (xs : List Arrival). xs ++ arrivals_of p xs h) same ∙ ap (λ (n : ℕ). before ++ arrivals_of n before h) place)

pub left_more : (left said before came : List Arrival) (p q : ℕ) (due : Bool) → left ≡ said ++ leave_of due p said → said ≡ before ++ came → p ≡ q
    → left ≡ (before ++ came) ++ leave_of due q (before ++ came)
left_more left said before came p q due is same place =
    is ∙ (ap (λ (xs : List Arrival). xs ++ leave_of due p xs) same ∙ ap (λ (n : ℕ). (before ++ came) ++ leave_of due n (before ++ came)) place)

pub answered : (t : Turn) (over quiet told : Bool) (n count : ℕ) → t ≡ turn_of over quiet count → quiet ≡ told → n ≡ count → t ≡ turn_of over told n
answered t over quiet told n count is same counted =
    is ∙ (ap (λ (b : Bool). turn_of over b count) same ∙ ap (λ (k : ℕ). turn_of over told k) (sym counted))
