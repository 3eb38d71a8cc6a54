-- The readers of In, and the lines that they ask for.
use Rattle.std.proofs.Common.{◌≡◌, ℕ, zero, suc, ◌+◌, ◌≤◌, List, [], ◌∷◌, ◌++◌, Option, Some, None, refl, sym, ap, ◌∙◌, subst, arith, append-nil}
use Rattle.ob_inout.specs.declared.answer.Answer.{Answer}
use Rattle.ob_inout.specs.declared.answer.Answer.TheVariants as answer
use Rattle.ob_inout.specs.Reading.{Line, Input, Reading, given}
use Rattle.ob_mean.specs.declared.outcome.TurnKind.{TurnKind}
use Rattle.ob_mean.specs.declared.outcome.Outcome.TheVariants.{NeedsLine}
use Rattle.ob_mean.specs.declared.outcome.TurnKind.TheVariants.{LineAsked}
use Rattle.ob_mean.specs.Values.{Value}
use Rattle.ob_mean.specs.Runs.{World, Supply, supply, Run, Goes, Stands, spend, with_input}
use Rattle.ob_mean.specs.Input.{answered, reading}
use Rattle.ob_session.proofs.Courses.{Asks, After, Quiet, Course, passes, begs, waits, moved, At}

after_answered : (a : Answer Value) (w : World) (s : Supply) (n : ℕ) (ask : World → Run (Option Value)) → s.turns ≤ n → After w.written n (ask w) → After w.written n (answered a w s ask)
after_answered (answer.Value v) w s n ask le x = record { extends = ([], append-nil w.written); fewer = le }
after_answered answer.Failed w s n ask le x = record { extends = ([], append-nil w.written); fewer = le }
after_answered answer.NeedsLine w s n ask le x = x

quiet_answered : (a : Answer Value) (w : World) (s : Supply) (ask : World → Run (Option Value)) → Quiet w.written (ask w) → Quiet w.written (answered a w s ask)
quiet_answered (answer.Value v) w s ask x = record { same = refl; unasked = λ h. h }
quiet_answered answer.Failed w s ask x = record { same = refl; unasked = λ h. h }
quiet_answered answer.NeedsLine w s ask x = x

after_spend : {A : Type 0} (n : ℕ) (ls : List Line) (kind : TurnKind) (w : World) (next : Supply → Run A) → ((k : ℕ) → After w.written k (next (supply k ls))) → After w.written n (spend n ls kind w next)
after_spend zero ls kind w next x = record { extends = ([], append-nil w.written); fewer = omega arith }
after_spend (suc n) ls kind w next x = let y = x n in record { extends = y.extends; fewer = omega (arith, y.fewer) }

module _ (find : Input → Reading Value) where
  -- the world in which a reader asks
  abbrev asked : World → World
  asked w = with_input w (find w.input).input

  -- what comes of a line, or of none
  abbrev asking : List Line → World → Supply → Run (Option Value)
  asking [] w n = Stands NeedsLine n w
  asking (line ∷ lines) w n = reading find n.turns lines (with_input w (given line w.input))

  reading_is : (ls : List Line) (t : ℕ) (w : World) → reading find t ls w ≡ answered (find w.input).answer (asked w) (supply t ls) (λ w1. spend t ls LineAsked w1 (asking ls w1))
  reading_is [] t w = refl
  reading_is (line ∷ lines) t w = refl

  reading_after : (ls : List Line) (n : ℕ) (w : World) → After w.written n (reading find n ls w)
  reading_after [] n w =
      after_answered (find w.input).answer (asked w) (supply n []) n (λ w1. spend n [] LineAsked w1 (λ s. Stands NeedsLine s w1)) (omega arith)
      (after_spend n [] LineAsked (asked w) (λ s. Stands NeedsLine s (asked w)) (λ k. record { extends = ([], append-nil w.written); fewer = omega arith }))
  reading_after (line ∷ lines) n w =
      after_answered (find w.input).answer (asked w) (supply n (line ∷ lines)) n (λ w1. spend n (line ∷ lines) LineAsked w1 (asking (line ∷ lines) w1)) (omega arith)
      (after_spend n (line ∷ lines) LineAsked (asked w) (asking (line ∷ lines) (asked w)) (λ k. reading_after lines k (with_input (asked w) (given line (asked w).input))))

  reading_quiet : (ls : List Line) (w : World) → Quiet w.written (reading find 0 ls w)
  reading_quiet ls w =
      subst (Quiet w.written) (sym (reading_is ls 0 w))
      (quiet_answered (find w.input).answer (asked w) (supply 0 ls) (λ w1. spend 0 ls LineAsked w1 (asking ls w1)) (record { same = refl; unasked = λ e. absurd (cc) }))

  abbrev runs : World → Supply → Run (Option Value)
  runs w s = reading find s.turns s.lines w

  -- a reader that needs no line
  goes_on : (w : World) (v : Option Value) → ((ls : List Line) (t : ℕ) → reading find t ls w ≡ Goes v (supply t ls) (asked w)) → (n : ℕ) (ls : List Line) → Course (runs w) n ls
  goes_on w v is n ls = passes (record {
    value = v;
    used = 0;
    rest = n;
    whole = omega arith;
    left = ls;
    world = asked w;
    is = λ m t more h. is (ls ++ more) t ∙ ap (λ k. Goes v (supply k (ls ++ more)) (asked w)) (omega (arith, h));
  })

  module _ (w : World) (is : (ls : List Line) (t : ℕ) → reading find t ls w ≡ spend t ls LineAsked (asked w) (asking ls (asked w))) where
    -- a reader that asks, without a turn
    stops : (ls : List Line) → Course (runs w) 0 ls
    stops ls = waits (record {
      kind = LineAsked;
      left = ls;
      world = asked w;
      is = λ more. is (ls ++ more) 0;
      on = λ m t more h. subst (λ k. After w.written k (reading find t (ls ++ more) w)) (omega (arith, h)) (reading_after (ls ++ more) t w);
    })

    given_line : (m t : ℕ) (line : Line) (more : List Line) → t ≡ 1 + m → reading find t (line ∷ more) w ≡ reading find m more (with_input (asked w) (given line (asked w).input))
    given_line m t line more h = ap (λ k. reading find k (line ∷ more) w) (let e : t ≡ suc m = omega (arith, h) in e) ∙ is (line ∷ more) (suc m)

    -- a reader that asks, and there is none
    asks : (n : ℕ) → Course (runs w) (suc n) []
    asks n = begs (record {
      used = 1;
      rest = n;
      whole = omega arith;
      world = asked w;
      is = λ m t h. ap (λ k. reading find k [] w) (let e : t ≡ suc m = omega (arith, h) in e) ∙ is [] (suc m);
      on = λ m t line more h. subst (After w.written m) (sym (given_line m t line more h)) (reading_after more m (with_input (asked w) (given line (asked w).input)));
      once = λ t line more h x. (reading_quiet more (with_input (asked w) (given line (asked w).input))).unasked (subst Asks (given_line 0 t line more h) x);
    })

  by_answer : (w : World) (a : Answer Value) → (find w.input).answer ≡ a → (n : ℕ) (ls : List Line) → (((ls : List Line) (t : ℕ) → reading find t ls w ≡ spend t ls LineAsked (asked w) (asking ls (asked w))) → Course (runs w) n ls) → Course (runs w) n ls
  by_answer w (answer.Value v) e n ls x =
      goes_on w (Some v) (λ l t. reading_is l t w ∙ ap (λ a. answered a (asked w) (supply t l) (λ w1. spend t l LineAsked w1 (asking l w1))) e) n ls
  by_answer w answer.Failed e n ls x =
      goes_on w None (λ l t. reading_is l t w ∙ ap (λ a. answered a (asked w) (supply t l) (λ w1. spend t l LineAsked w1 (asking l w1))) e) n ls
  by_answer w answer.NeedsLine e n ls x =
      x (λ l t. reading_is l t w ∙ ap (λ a. answered a (asked w) (supply t l) (λ w1. spend t l LineAsked w1 (asking l w1))) e)

  asks_or_stops : (w : World) → ((ls : List Line) (t : ℕ) → reading find t ls w ≡ spend t ls LineAsked (asked w) (asking ls (asked w))) → (n : ℕ) → Course (runs w) n []
  asks_or_stops w is zero = stops w is []
  asks_or_stops w is (suc n) = asks w is n

  takes_or_stops : (w : World) (line : Line) (lines : List Line) → ((n : ℕ) (v : World) → Course (runs v) n lines) → ((ls : List Line) (t : ℕ) → reading find t ls w ≡ spend t ls LineAsked (asked w) (asking ls (asked w))) → (n : ℕ) → Course (runs w) n (line ∷ lines)
  takes_or_stops w line lines x is zero = stops w is (line ∷ lines)
  takes_or_stops w line lines x is (suc n) =
      let v : World = with_input (asked w) (given line (asked w).input) in
      moved (runs w) (runs v) (λ l. line ∷ l) (λ l more. refl) (λ t l. is (line ∷ l) (suc t)) n lines (x n v)

  reading_course : (ls : List Line) (n : ℕ) (w : World) → Course (runs w) n ls
  reading_course [] n w = by_answer w (find w.input).answer refl n [] (λ is. asks_or_stops w is n)
  reading_course (line ∷ lines) n w = by_answer w (find w.input).answer refl n (line ∷ lines) (λ is. takes_or_stops w line lines (reading_course lines) is n)

  pub reading_at : (b : ℕ) (w : World) → At b w.written (λ s. reading find s.turns s.lines w)
  reading_at b w = record {
    after = λ n ls. reading_after ls n w;
    quiet = λ ls. reading_quiet ls w;
    course = λ n ls lt. reading_course ls n w;
  }
