-- How a piece of a program goes on with more turns and more lines.
use Rattle.std.proofs.Common.{◌≡◌, ℕ, zero, suc, ◌+◌, ◌≤◌, ◌<◌, ℤ, pos, negsuc, List, [], ◌∷◌, ◌++◌, refl, sym, ap, ◌∙◌, subst, arith, append-nil, append_assoc}
use Rattle.ob_inout.specs.Reading.{Line}
use Rattle.ob_mean.specs.declared.outcome.TurnKind.{TurnKind}
use Rattle.ob_mean.specs.declared.outcome.Outcome.{Outcome}
use Rattle.ob_mean.specs.declared.outcome.Outcome.TheVariants.{Ended, Trapped, Stopped, NeedsLine}
use Rattle.ob_mean.specs.Runs.{World, Supply, supply, Run, Goes, Stands, Piece, and_then, turn, choose}

-- ---- what a run has come to

abbrev pub world_of : {A : Type 0} → Run A → World
world_of (Goes a n w) = w
world_of (Stands why n w) = w

abbrev pub left_of : {A : Type 0} → Run A → Supply
left_of (Goes a n w) = n
left_of (Stands why n w) = n

-- it asks for a line
abbrev pub Asks : {A : Type 0} → Run A → Type 0
Asks (Goes a n w) = ⊥
Asks (Stands why n w) = why ≡ NeedsLine

-- it is over, whatever is given to it
abbrev pub IsOver : Outcome → Type 0
IsOver Ended = Unit {0}
IsOver (Trapped kind home line) = Unit {0}
IsOver (Stopped kind) = ⊥
IsOver NeedsLine = ⊥

-- ---- what every run keeps

-- after this text was written, with so many turns: more is written after it, and no more turns are left
pub record After {A : Type 0} (text : List ℕ) (n : ℕ) (run : Run A) : Type 0 where
  pub extends : (rest : List ℕ) × (text ++ rest ≡ (world_of run).written)
  pub fewer : (left_of run).turns ≤ n

-- without a turn: nothing is written, and no line is asked for
pub record Quiet {A : Type 0} (text : List ℕ) (run : Run A) : Type 0 where
  pub same : text ≡ (world_of run).written
  pub unasked : Asks run → ⊥

-- ---- the courses that a piece can take with so many turns and these lines

-- it gave this value, and gives it with any more turns and lines
pub record Passes {A : Type 0} (run : Supply → Run A) (n : ℕ) (ls : List Line) : Type 0 where
  pub value : A
  pub used : ℕ
  pub rest : ℕ
  pub whole : used + rest ≡ n
  pub left : List Line
  pub world : World
  pub is : (m t : ℕ) (more : List Line) → t ≡ used + m → run (supply t (ls ++ more)) ≡ Goes value (supply m (left ++ more)) world

-- it is over, and stays over with any more turns and lines
pub record Halts {A : Type 0} (run : Supply → Run A) (n : ℕ) (ls : List Line) : Type 0 where
  pub why : Outcome
  pub over : IsOver why
  pub used : ℕ
  pub rest : ℕ
  pub whole : used + rest ≡ n
  pub left : List Line
  pub world : World
  pub is : (m t : ℕ) (more : List Line) → t ≡ used + m → run (supply t (ls ++ more)) ≡ Stands why (supply m (left ++ more)) world

-- It asked for a line, and asks with any more turns. With more lines it goes on from there, and asks no more without a turn.
pub record Begs {A : Type 0} (run : Supply → Run A) (n : ℕ) (ls : List Line) : Type 0 where
  pub used : ℕ
  pub rest : ℕ
  pub whole : used + rest ≡ n
  pub world : World
  pub is : (m t : ℕ) → t ≡ used + m → run (supply t (ls ++ [])) ≡ Stands NeedsLine (supply m []) world
  pub on : (m t : ℕ) (line : Line) (more : List Line) → t ≡ used + m → After world.written m (run (supply t (ls ++ line ∷ more)))
  pub once : (t : ℕ) (line : Line) (more : List Line) → t ≡ used + 0 → Asks (run (supply t (ls ++ line ∷ more))) → ⊥

-- it stands before a turn, whatever lines there are more, and with more turns it goes on from there
pub record Waits {A : Type 0} (run : Supply → Run A) (n : ℕ) (ls : List Line) : Type 0 where
  pub kind : TurnKind
  pub left : List Line
  pub world : World
  pub is : (more : List Line) → run (supply n (ls ++ more)) ≡ Stands (Stopped kind) (supply 0 (left ++ more)) world
  pub on : (m t : ℕ) (more : List Line) → t ≡ n + m → After world.written m (run (supply t (ls ++ more)))

pub data Course {A : Type 0} (run : Supply → Run A) (n : ℕ) (ls : List Line) : Type 0 where
  passes : Passes run n ls → Course run n ls
  halts : Halts run n ls → Course run n ls
  begs : Begs run n ls → Course run n ls
  waits : Waits run n ls → Course run n ls

-- a run from a world with this text: it has a course at each number of turns below a bound
pub record At {A : Type 0} (b : ℕ) (text : List ℕ) (run : Supply → Run A) : Type 0 where
  pub after : (n : ℕ) (ls : List Line) → After text n (run (supply n ls))
  pub quiet : (ls : List Line) → Quiet text (run (supply 0 ls))
  pub course : (n : ℕ) (ls : List Line) → n < b → Course run n ls

-- a piece, from every world
abbrev pub Sound : {A : Type 0} → ℕ → Piece A → Type 0
Sound b e = (w : World) → At b w.written (λ s. e s w)

-- at every bound
abbrev pub Good : {A : Type 0} → Piece A → Type 0
Good e = (b : ℕ) → Sound b e

-- ---- the same run

pub same_at : {A : Type 0} {b : ℕ} {text : List ℕ} {run run2 : Supply → Run A} → ((s : Supply) → run2 s ≡ run s) → At b text run → At b text run2
same_at {b = b} {text = text} h x = subst (λ r. At b text r) (λ i s. sym (h s) i) x

pub at_less : {A : Type 0} {b : ℕ} {text : List ℕ} {run : Supply → Run A} (k : ℕ) → k ≤ b → At b text run → At k text run
at_less k le x = record { after = x.after; quiet = x.quiet; course = λ n ls lt. x.course n ls (omega (arith, le, lt)) }

-- ---- pieces that use nothing up

pub goes_at : {A : Type 0} (b : ℕ) (text : List ℕ) (a : A) (w : World) → text ≡ w.written → At b text (λ s. Goes a s w)
goes_at b text a w e = record {
  after = λ n ls. record { extends = ([], append-nil text ∙ e); fewer = omega arith };
  quiet = λ ls. record { same = e; unasked = λ no. no };
  course = λ n ls lt. passes (record {
    value = a;
    used = 0;
    rest = n;
    whole = omega arith;
    left = ls;
    world = w;
    is = λ m t more h. ap (λ k. Goes a (supply k (ls ++ more)) w) (omega (arith, h));
  });
}

over_unasked : (why : Outcome) → IsOver why → why ≡ NeedsLine → ⊥
over_unasked Ended x e = cc
over_unasked (Trapped kind home line) x e = cc
over_unasked (Stopped kind) x e = x
over_unasked NeedsLine x e = x

pub stands_at : {A : Type 0} (b : ℕ) (text : List ℕ) (why : Outcome) (w : World) → IsOver why → text ≡ w.written → At {A = A} b text (λ s. Stands why s w)
stands_at b text why w over e = record {
  after = λ n ls. record { extends = ([], append-nil text ∙ e); fewer = omega arith };
  quiet = λ ls. record { same = e; unasked = over_unasked why over };
  course = λ n ls lt. halts (record {
    why = why;
    over = over;
    used = 0;
    rest = n;
    whole = omega arith;
    left = ls;
    world = w;
    is = λ m t more h. ap (λ k. Stands why (supply k (ls ++ more)) w) (omega (arith, h));
  });
}

-- ---- one piece after another

pub after_bind : {A B : Type 0} (text : List ℕ) (n : ℕ) (r : Run A) (f : A → Piece B) → After text n r → ((a : A) (w : World) (k : ℕ) (ls : List Line) → After w.written k (f a (supply k ls) w)) → After text n (and_then r f)
after_bind text n (Goes a s w) f x g =
    let y = g a w s.turns s.lines in
    record {
      extends = (x.extends.0 ++ y.extends.0, sym (append_assoc text x.extends.0 y.extends.0) ∙ ap (λ l. l ++ y.extends.0) x.extends.1 ∙ y.extends.1);
      fewer = omega (arith, x.fewer, y.fewer);
    }
after_bind text n (Stands why s w) f x g = record { extends = x.extends; fewer = x.fewer }

quiet_then : {A B : Type 0} (r : Run A) (f : A → Piece B) → (left_of r).turns ≡ 0 → (Asks r → ⊥) → ((a : A) (w : World) (ls : List Line) → Quiet w.written (f a (supply 0 ls) w)) → (Asks (and_then r f) → ⊥) × ((text : List ℕ) → text ≡ (world_of r).written → text ≡ (world_of (and_then r f)).written)
quiet_then (Goes a s w) f e x g =
    let q = subst (λ k. Quiet w.written (f a (supply k s.lines) w)) (sym e) (g a w s.lines) in
    (q.unasked, λ text h. h ∙ q.same)
quiet_then (Stands why s w) f e x g = (x, λ text h. h)

module _ {A B : Type 0} (b : ℕ) (run : Supply → Run A) (f : A → Piece B) (g : (a : A) → Sound b (f a)) (n : ℕ) (ls : List Line) where
  both : Supply → Run B
  both s = and_then (run s) f

  passes_then : (p : Passes run n ls) → Course (λ s. f p.value s p.world) p.rest p.left → Course (λ s. and_then (run s) f) n ls
  passes_then p (passes q) = passes (record {
    value = q.value;
    used = p.used + q.used;
    rest = q.rest;
    whole = omega (arith, p.whole, q.whole);
    left = q.left;
    world = q.world;
    is = λ m t more h. ap (λ r. and_then r f) (p.is (q.used + m) t more (omega (arith, h))) ∙ q.is m (q.used + m) more refl;
  })
  passes_then p (halts q) = halts (record {
    why = q.why;
    over = q.over;
    used = p.used + q.used;
    rest = q.rest;
    whole = omega (arith, p.whole, q.whole);
    left = q.left;
    world = q.world;
    is = λ m t more h. ap (λ r. and_then r f) (p.is (q.used + m) t more (omega (arith, h))) ∙ q.is m (q.used + m) more refl;
  })
  passes_then p (begs q) = begs (record {
    used = p.used + q.used;
    rest = q.rest;
    whole = omega (arith, p.whole, q.whole);
    world = q.world;
    is = λ m t h. ap (λ r. and_then r f) (p.is (q.used + m) t [] (omega (arith, h))) ∙ q.is m (q.used + m) refl;
    on = λ m t line more h. subst (λ r. After q.world.written m (and_then r f)) (sym (p.is (q.used + m) t (line ∷ more) (omega (arith, h)))) (q.on m (q.used + m) line more refl);
    once = λ t line more h x. q.once (q.used + 0) line more refl (subst (λ r. Asks (and_then r f)) (p.is (q.used + 0) t (line ∷ more) (omega (arith, h))) x);
  })
  passes_then p (waits q) = waits (record {
    kind = q.kind;
    left = q.left;
    world = q.world;
    is = λ more. ap (λ r. and_then r f) (p.is p.rest n more (sym p.whole)) ∙ q.is more;
    on = λ m t more h. subst (λ r. After q.world.written m (and_then r f)) (sym (p.is (p.rest + m) t more (omega (arith, h, p.whole)))) (q.on m (p.rest + m) more refl);
  })

  course_then : n < b → Course run n ls → Course (λ s. and_then (run s) f) n ls
  course_then lt (passes p) = passes_then p ((g p.value p.world).course p.rest p.left (omega (arith, lt, p.whole)))
  course_then lt (halts p) = halts (record {
    why = p.why;
    over = p.over;
    used = p.used;
    rest = p.rest;
    whole = p.whole;
    left = p.left;
    world = p.world;
    is = λ m t more h. ap (λ r. and_then r f) (p.is m t more h);
  })
  course_then lt (begs p) = begs (record {
    used = p.used;
    rest = p.rest;
    whole = p.whole;
    world = p.world;
    is = λ m t h. ap (λ r. and_then r f) (p.is m t h);
    on = λ m t line more h. after_bind p.world.written m (run (supply t (ls ++ line ∷ more))) f (p.on m t line more h) (λ a w k l. (g a w).after k l);
    once = λ t line more h. (quiet_then (run (supply t (ls ++ line ∷ more))) f (omega (arith, (p.on 0 t line more h).fewer)) (p.once t line more h) (λ a w l. (g a w).quiet l)).0;
  })
  course_then lt (waits p) = waits (record {
    kind = p.kind;
    left = p.left;
    world = p.world;
    is = λ more. ap (λ r. and_then r f) (p.is more);
    on = λ m t more h. after_bind p.world.written m (run (supply t (ls ++ more))) f (p.on m t more h) (λ a w k l. (g a w).after k l);
  })

pub bind_at : {A B : Type 0} {b : ℕ} {text : List ℕ} {run : Supply → Run A} {f : A → Piece B} → At b text run → ((a : A) → Sound b (f a)) → At b text (λ s. and_then (run s) f)
bind_at {b = b} {text = text} {run = run} {f = f} x g = record {
  after = λ n ls. after_bind text n (run (supply n ls)) f (x.after n ls) (λ a w k l. (g a w).after k l);
  quiet = λ ls.
      let q = quiet_then (run (supply 0 ls)) f (omega (arith, (x.after 0 ls).fewer)) (x.quiet ls).unasked (λ a w l. (g a w).quiet l) in
      record { same = q.1 text (x.quiet ls).same; unasked = q.0 };
  course = λ n ls lt. course_then b run f g n ls lt (x.course n ls lt);
}

-- ---- choices

pub choose_at : {A : Type 0} {b : ℕ} {text : List ℕ} {x y : Supply → Run A} (v : ℤ) → At b text x → At b text y → At b text (λ s. choose v (x s) (y s))
choose_at (pos zero) x y = x
choose_at (pos (suc n)) x y = y
choose_at (negsuc n) x y = y

-- ---- turns

-- a run that begins with a turn, or with a turn and a line
pub moved : {A : Type 0} (run next : Supply → Run A) (g : List Line → List Line) → ((ls more : List Line) → g ls ++ more ≡ g (ls ++ more)) → ((t : ℕ) (ls : List Line) → run (supply (suc t) (g ls)) ≡ next (supply t ls)) → (n : ℕ) (ls : List Line) → Course next n ls → Course run (suc n) (g ls)
moved {A = A} run next g joins is n ls = found
  where
    back : (k t : ℕ) (more : List Line) → t ≡ suc k → run (supply t (g ls ++ more)) ≡ next (supply k (ls ++ more))
    back k t more h = ap (λ j. run (supply j (g ls ++ more))) h ∙ ap (λ l. run (supply (suc k) l)) (joins ls more) ∙ is k (ls ++ more)

    found : Course next n ls → Course run (suc n) (g ls)
    found (passes p) = passes (record {
      value = p.value;
      used = suc p.used;
      rest = p.rest;
      whole = omega (arith, p.whole);
      left = p.left;
      world = p.world;
      is = λ m t more h. back (p.used + m) t more (omega (arith, h)) ∙ p.is m (p.used + m) more refl;
    })
    found (halts p) = halts (record {
      why = p.why;
      over = p.over;
      used = suc p.used;
      rest = p.rest;
      whole = omega (arith, p.whole);
      left = p.left;
      world = p.world;
      is = λ m t more h. back (p.used + m) t more (omega (arith, h)) ∙ p.is m (p.used + m) more refl;
    })
    found (begs p) = begs (record {
      used = suc p.used;
      rest = p.rest;
      whole = omega (arith, p.whole);
      world = p.world;
      is = λ m t h. back (p.used + m) t [] (omega (arith, h)) ∙ p.is m (p.used + m) refl;
      on = λ m t line more h. subst (After p.world.written m) (sym (back (p.used + m) t (line ∷ more) (omega (arith, h)))) (p.on m (p.used + m) line more refl);
      once = λ t line more h x. p.once (p.used + 0) line more refl (subst Asks (back (p.used + 0) t (line ∷ more) (omega (arith, h))) x);
    })
    found (waits p) = waits (record {
      kind = p.kind;
      left = p.left;
      world = p.world;
      is = λ more. back n (suc n) more refl ∙ p.is more;
      on = λ m t more h. subst (After p.world.written m) (sym (back (n + m) t more (omega (arith, h)))) (p.on m (n + m) more refl);
    })

module _ {A : Type 0} (b : ℕ) (kind : TurnKind) (w : World) (next : Supply → Run A) (after : (n : ℕ) (ls : List Line) → After w.written n (next (supply n ls))) (course : (n : ℕ) (ls : List Line) → n < b → Course next n ls) where
  after_turn : (n : ℕ) (ls : List Line) → After w.written n (turn kind (supply n ls) w next)
  after_turn zero ls = record { extends = ([], append-nil w.written); fewer = omega arith }
  after_turn (suc n) ls = let x = after n ls in record { extends = x.extends; fewer = omega (arith, x.fewer) }

  course_turn : (n : ℕ) (ls : List Line) → n < suc b → Course (λ s. turn kind s w next) n ls
  course_turn zero ls lt = waits (record {
    kind = kind;
    left = ls;
    world = w;
    is = λ more. refl;
    on = λ m t more h. subst (λ k. After w.written k (turn kind (supply t (ls ++ more)) w next)) (omega (arith, h)) (after_turn t (ls ++ more));
  })
  course_turn (suc n) ls lt = moved (λ s. turn kind s w next) next (λ l. l) (λ l more. refl) (λ t l. refl) n ls (course n ls (omega (arith, lt)))

  -- what follows the turn may write
  pub turn_then : At (suc b) w.written (λ s. turn kind s w next)
  turn_then = record {
    after = after_turn;
    quiet = λ ls. record { same = refl; unasked = λ e. absurd (cc) };
    course = course_turn;
  }

pub turn_at : {A : Type 0} (b : ℕ) (kind : TurnKind) (w : World) (next : Supply → Run A) → At b w.written next → At (suc b) w.written (λ s. turn kind s w next)
turn_at b kind w next x = turn_then b kind w next x.after x.course

-- where the turn leaves the bound
pub turn_within : {A : Type 0} (b : ℕ) (kind : TurnKind) (w : World) (next : Supply → Run A) → At b w.written next → At b w.written (λ s. turn kind s w next)
turn_within b kind w next x = at_less b (omega arith) (turn_at b kind w next x)
