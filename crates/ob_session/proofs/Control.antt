-- Sequences, choices and loops of pieces.
use Rattle.std.proofs.Common.{◌≡◌, ℕ, zero, suc, ◌≤◌, ◌<◌, ℤ, pos, negsuc, List, [], ◌∷◌, refl, sym, ◌∙◌, arith, append-nil}
use Rattle.ob_inout.specs.Reading.{Line}
use Rattle.ob_mean.specs.declared.outcome.Outcome.TheVariants.{Stopped}
use Rattle.ob_mean.specs.declared.outcome.TurnKind.{TurnKind}
use Rattle.ob_mean.specs.declared.outcome.TurnKind.TheVariants.{BodyEntry}
use Rattle.ob_mean.specs.Runs.{World, Supply, supply, Run, Goes, Stands, Done, done, Piece, and_then, spend, turn, choose}
use Rattle.ob_mean.specs.Control.{in_order, Guarded, first_of, chosen, nothing, looping, repeating}
use Rattle.ob_session.proofs.Courses.{left_of, Sound, Good, goes_at, bind_at, choose_at, turn_at, at_less, same_at}

-- ---- one after the other

abbrev pub EachGood : {A : Type 0} → List (Piece A) → Type 0
EachGood [] = Unit {0}
EachGood (e ∷ es) = Good e × EachGood es

pub in_order_good : (es : List (Piece Done)) → EachGood es → Good (in_order es)
in_order_good [] x b w = goes_at b w.written done w refl
in_order_good (e ∷ es) x b w = bind_at (x.0 b w) (λ d w1. in_order_good es x.1 b w1)

-- ---- under guards

abbrev pub GuardsGood : List Guarded → Type 0
GuardsGood [] = Unit {0}
GuardsGood (g ∷ gs) = Good g.guard × Good g.body × GuardsGood gs

first_sound : (b : ℕ) (gs : List Guarded) (enter : Piece Done → Piece Done) (otherwise : Piece Done) → GuardsGood gs → ((body : Piece Done) → Good body → Sound b (enter body)) → Sound b otherwise → Sound b (first_of gs enter otherwise)
first_sound b [] enter otherwise x e o w = o w
first_sound b (g ∷ gs) enter otherwise x e o w =
    bind_at (x.0 b w) (λ v w1. choose_at v (first_sound b gs enter otherwise x.2 e o w1) (e g.body x.1 w1))

pub chosen_good : (gs : List Guarded) (rest : Piece Done) → GuardsGood gs → Good rest → Good (chosen gs rest)
chosen_good gs rest x r b = first_sound b gs (λ body. body) rest x (λ body y. y b) (r b)

nothing_good : Good nothing
nothing_good b w = goes_at b w.written done w refl

-- ---- no more turns are left after a piece than before it

fewer_turns : {A : Type 0} (e : Piece A) → Good e → (n : Supply) (w : World) → (left_of (e n w)).turns ≤ n.turns
fewer_turns e x n w = ((x 0 w).after n.turns n.lines).fewer

-- ---- equal runs, where what follows is equal at each number of turns that can be left

then_same : {A B : Type 0} (r : Run A) (f g : A → Piece B) (k : ℕ) → (left_of r).turns ≤ k → ((a : A) (n : Supply) (w : World) → n.turns ≤ k → f a n w ≡ g a n w) → and_then r f ≡ and_then r g
then_same (Goes a n w) f g k le x = x a n w le
then_same (Stands why n w) f g k le x = refl

choose_same : {A : Type 0} (v : ℤ) (x y x2 y2 : A) → x ≡ x2 → y ≡ y2 → choose v x y ≡ choose v x2 y2
choose_same (pos zero) x y x2 y2 e h = e
choose_same (pos (suc n)) x y x2 y2 e h = h
choose_same (negsuc n) x y x2 y2 e h = h

spend_same : {A : Type 0} (t : ℕ) (ls : List Line) (kind : TurnKind) (w : World) (f g : Supply → Run A) → ((k : ℕ) → t ≡ suc k → f (supply k ls) ≡ g (supply k ls)) → spend t ls kind w f ≡ spend t ls kind w g
spend_same zero ls kind w f g x = refl
spend_same (suc k) ls kind w f g x = x k refl

spend_none : {A : Type 0} (t : ℕ) (ls : List Line) (kind : TurnKind) (w : World) (f : Supply → Run A) → t ≤ 0 → spend t ls kind w f ≡ Stands (Stopped kind) (supply 0 ls) w
spend_none zero ls kind w f le = refl
spend_none (suc t) ls kind w f le = absurd (omega (arith, le))

first_same : (gs : List Guarded) → GuardsGood gs → (f g : Piece Done → Piece Done) (otherwise : Piece Done) (k : ℕ) → ((body : Piece Done) → Good body → (n : Supply) (w : World) → n.turns ≤ k → f body n w ≡ g body n w) → (n : Supply) (w : World) → n.turns ≤ k → first_of gs f otherwise n w ≡ first_of gs g otherwise n w
first_same [] x f g otherwise k h n w le = refl
first_same (b ∷ bs) x f g otherwise k h n w le =
    then_same (b.guard n w) (λ v n1 w1. choose v (first_of bs f otherwise n1 w1) (f b.body n1 w1)) (λ v n1 w1. choose v (first_of bs g otherwise n1 w1) (g b.body n1 w1)) k
    (let y = fewer_turns b.guard x.0 n w in omega (arith, y, le))
    (λ v n1 w1 le1. choose_same v (first_of bs f otherwise n1 w1) (f b.body n1 w1) (first_of bs g otherwise n1 w1) (g b.body n1 w1) (first_same bs x.2 f g otherwise k h n1 w1 le1) (h b.body x.1 n1 w1 le1))

-- ---- WHILE

-- an entry of a body, and what follows it
abbrev entry : Piece Done → Piece Done → Piece Done
entry on body n w = turn BodyEntry n w (λ n1. and_then (body n1 w) (λ _ n2 w2. on n2 w2))

abbrev no_entry : Piece Done → Piece Done
no_entry body n w = Stands (Stopped BodyEntry) (supply 0 n.lines) w

entry_same : (on on2 : Piece Done) (k : ℕ) → ((n : Supply) (w : World) → n.turns < k → on n w ≡ on2 n w) → (body : Piece Done) → Good body → (n : Supply) (w : World) → n.turns ≤ k → entry on body n w ≡ entry on2 body n w
entry_same on on2 k x body y n w le =
    spend_same n.turns n.lines BodyEntry w (λ n1. and_then (body n1 w) (λ _ n2 w2. on n2 w2)) (λ n1. and_then (body n1 w) (λ _ n2 w2. on2 n2 w2)) (λ j e.
    then_same (body (supply j n.lines) w) (λ _ n2 w2. on n2 w2) (λ _ n2 w2. on2 n2 w2) j (fewer_turns body y (supply j n.lines) w) (λ d n2 w2 le2. x n2 w2 (omega (arith, le, le2, e))))

entry_none : (on body : Piece Done) (n : Supply) (w : World) → n.turns ≤ 0 → entry on body n w ≡ no_entry body n w
entry_none on body n w le = spend_none n.turns n.lines BodyEntry w (λ n1. and_then (body n1 w) (λ _ n2 w2. on n2 w2)) le

module _ (gs : List Guarded) (x : GuardsGood gs) where
  -- it makes no difference how many more entries there may be than turns
  loop_same : (k j : ℕ) (n : Supply) (w : World) → n.turns ≤ k → n.turns ≤ j → looping gs k n w ≡ looping gs j n w
  loop_same zero zero n w le le2 = refl
  loop_same zero (suc j) n w le le2 = first_same gs x no_entry (entry (looping gs j)) nothing 0 (λ body y n1 w1 l. sym (entry_none (looping gs j) body n1 w1 l)) n w le
  loop_same (suc k) zero n w le le2 = first_same gs x (entry (looping gs k)) no_entry nothing 0 (λ body y n1 w1 l. entry_none (looping gs k) body n1 w1 l) n w le2
  loop_same (suc k) (suc j) n w le le2 =
      first_same gs x (entry (looping gs k)) (entry (looping gs j)) nothing n.turns
      (entry_same (looping gs k) (looping gs j) n.turns (λ n2 w2 l. loop_same k j n2 w2 (omega (arith, le, l)) (omega (arith, le2, l)))) n w (omega arith)

  abbrev loop : Piece Done
  loop n w = looping gs n.turns n w

  abbrev loop_step : Piece Done → Piece Done
  loop_step on = first_of gs (entry on) nothing

  -- a loop is its first step, and then the loop
  loop_once : (n : Supply) (w : World) → loop n w ≡ loop_step loop n w
  loop_once n w =
      loop_same n.turns (suc n.turns) n w (omega arith) (omega arith)
      ∙ first_same gs x (entry (looping gs n.turns)) (entry loop) nothing n.turns
      (entry_same (looping gs n.turns) loop n.turns (λ n2 w2 l. loop_same n.turns n2.turns n2 w2 (omega (arith, l)) (omega arith))) n w (omega arith)

  no_entry_sound : (body : Piece Done) → Sound 0 (no_entry body)
  no_entry_sound body w = record {
    after = λ n ls. record { extends = ([], append-nil w.written); fewer = omega arith };
    quiet = λ ls. record { same = refl; unasked = λ e. absurd (cc) };
    course = λ n ls lt. absurd (omega (arith, lt));
  }

  step_sound : (b : ℕ) (on : Piece Done) → Sound b on → Sound (suc b) (loop_step on)
  step_sound b on y =
      first_sound (suc b) gs (entry on) nothing x
      (λ body z w. turn_at b BodyEntry w (λ n1. and_then (body n1 w) (λ _ n2 w2. on n2 w2)) (bind_at (z b w) (λ d w2. y w2))) (nothing_good (suc b))

  looping_calm : (k : ℕ) → Sound 0 (looping gs k)
  looping_calm zero w = first_sound 0 gs no_entry nothing x (λ body z. no_entry_sound body) (nothing_good 0) w
  looping_calm (suc k) w = at_less 0 (omega arith) (step_sound 0 (looping gs k) (looping_calm k) w)

  loop_calm : Sound 0 loop
  loop_calm w = record {
    after = λ n ls. (looping_calm n w).after n ls;
    quiet = λ ls. (looping_calm 0 w).quiet ls;
    course = λ n ls lt. absurd (omega (arith, lt));
  }

  pub loop_good : Good (λ n w. looping gs n.turns n w)
  loop_good zero w = loop_calm w
  loop_good (suc b) w = same_at (λ n. loop_once n w) (step_sound b loop (loop_good b) w)

-- ---- REPEAT

-- the body, and again until this holds
abbrev until_then : Piece Done → Piece ℤ → Piece Done → Supply → World → Run Done
until_then body until on n1 w = and_then (body n1 w) (λ _ n2 w2. and_then (until n2 w2) (λ v n3 w3. choose v (on n3 w3) (Goes done n3 w3)))

abbrev round : Piece Done → Piece ℤ → Piece Done → Piece Done
round body until on n w = turn BodyEntry n w (λ n1. until_then body until on n1 w)

module _ (body : Piece Done) (until : Piece ℤ) (x : Good body) (y : Good until) where
  round_same : (on on2 : Piece Done) (k : ℕ) → ((n : Supply) (w : World) → n.turns < k → on n w ≡ on2 n w) → (n : Supply) (w : World) → n.turns ≤ k → round body until on n w ≡ round body until on2 n w
  round_same on on2 k h n w le =
      spend_same n.turns n.lines BodyEntry w (λ n1. until_then body until on n1 w) (λ n1. until_then body until on2 n1 w) (λ j e.
      then_same (body (supply j n.lines) w) (λ _ n2 w2. and_then (until n2 w2) (λ v n3 w3. choose v (on n3 w3) (Goes done n3 w3))) (λ _ n2 w2. and_then (until n2 w2) (λ v n3 w3. choose v (on2 n3 w3) (Goes done n3 w3))) j (fewer_turns body x (supply j n.lines) w) (λ d n2 w2 le2.
      then_same (until n2 w2) (λ v n3 w3. choose v (on n3 w3) (Goes done n3 w3)) (λ v n3 w3. choose v (on2 n3 w3) (Goes done n3 w3)) j (let f = fewer_turns until y n2 w2 in omega (arith, f, le2)) (λ v n3 w3 le3.
      choose_same v (on n3 w3) (Goes done n3 w3) (on2 n3 w3) (Goes done n3 w3) (h n3 w3 (omega (arith, le, le3, e))) refl)))

  round_none : (on : Piece Done) (n : Supply) (w : World) → n.turns ≤ 0 → round body until on n w ≡ no_entry body n w
  round_none on n w le = spend_none n.turns n.lines BodyEntry w (λ n1. until_then body until on n1 w) le

  repeat_same : (k j : ℕ) (n : Supply) (w : World) → n.turns ≤ k → n.turns ≤ j → repeating body until k n w ≡ repeating body until j n w
  repeat_same zero zero n w le le2 = refl
  repeat_same zero (suc j) n w le le2 = sym (round_none (repeating body until j) n w le)
  repeat_same (suc k) zero n w le le2 = round_none (repeating body until k) n w le2
  repeat_same (suc k) (suc j) n w le le2 =
      round_same (repeating body until k) (repeating body until j) n.turns (λ n2 w2 l. repeat_same k j n2 w2 (omega (arith, le, l)) (omega (arith, le2, l))) n w (omega arith)

  abbrev again : Piece Done
  again n w = repeating body until n.turns n w

  repeat_once : (n : Supply) (w : World) → again n w ≡ round body until again n w
  repeat_once n w =
      repeat_same n.turns (suc n.turns) n w (omega arith) (omega arith)
      ∙ round_same (repeating body until n.turns) again n.turns (λ n2 w2 l. repeat_same n.turns n2.turns n2 w2 (omega (arith, l)) (omega arith)) n w (omega arith)

  round_sound : (b : ℕ) (on : Piece Done) → Sound b on → Sound (suc b) (round body until on)
  round_sound b on z w =
      turn_at b BodyEntry w (λ n1. until_then body until on n1 w)
      (bind_at (x b w) (λ d w2. bind_at (y b w2) (λ v w3. choose_at v (z w3) (goes_at b w3.written done w3 refl))))

  stopped_sound : Sound 0 (repeating body until 0)
  stopped_sound w = record {
    after = λ n ls. record { extends = ([], append-nil w.written); fewer = omega arith };
    quiet = λ ls. record { same = refl; unasked = λ e. absurd (cc) };
    course = λ n ls lt. absurd (omega (arith, lt));
  }

  repeating_calm : (k : ℕ) → Sound 0 (repeating body until k)
  repeating_calm zero w = stopped_sound w
  repeating_calm (suc k) w = at_less 0 (omega arith) (round_sound 0 (repeating body until k) (repeating_calm k) w)

  again_calm : Sound 0 again
  again_calm w = record {
    after = λ n ls. (repeating_calm n w).after n ls;
    quiet = λ ls. (repeating_calm 0 w).quiet ls;
    course = λ n ls lt. absurd (omega (arith, lt));
  }

  pub repeat_good : Good (λ n w. repeating body until n.turns n w)
  repeat_good zero w = again_calm w
  repeat_good (suc b) w = same_at (λ n. repeat_once n w) (round_sound b again (repeat_good b) w)
