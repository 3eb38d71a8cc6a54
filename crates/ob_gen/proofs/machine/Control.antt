-- Sequences, choices and loops: where the code of their parts does what those mean, theirs does.
use Rattle.std.proofs.Common.{◌≡◌, ℕ, zero, suc, ◌+◌, ◌-◌, ◌≤◌, ℤ, pos, negsuc, List, [], ◌∷◌, ◌++◌, length, Some, Bool, true, false, refl, sym, ap, ◌∙◌, subst, arith, length-append}
use Rattle.std.specs.Prelude.{slice_get, cond, int_le, int_lt, not, ◌&&◌, ◌||◌}
use Rattle.std.proofs.lemmas.Bool.Decides.{nat_tests}
use Rattle.std.specs.Ordering.{int_eq}
use Rattle.ob_inout.specs.Reading.{Line as InputLine}
use Rattle.ob_mean.specs.declared.outcome.Outcome.TheVariants.{Stopped}
use Rattle.ob_mean.specs.declared.outcome.TurnKind.TheVariants.{BodyEntry}
use Rattle.ob_mean.specs.declared.operator.UnaryOperator.TheVariants.{Not}
use Rattle.ob_mean.specs.declared.statement.LabelRange.{LabelRange}
use Rattle.ob_mean.specs.Values.{Value}
use Rattle.ob_mean.specs.Arithmetic.{truth}
use Rattle.ob_mean.specs.Runs.{World, Supply, supply, Run, Goes, Stands, Done, done, Piece, and_then, turn, choose}
use Rattle.ob_mean.specs.Control as meant
use Rattle.ob_mean.specs.Control.{first_of, nothing, looping, repeating, is_labelled}
use Rattle.ob_code.specs.declared.instr.Instr.TheVariants.{Skip, SkipIfZero, SkipIfWithin, Enter, EnterBack, Unary, Drop}
use Rattle.ob_code.specs.declared.instr.Line.{Line}
use Rattle.ob_code.specs.Machine.{Code, Standing, Comes}
use Rattle.ob_gen.specs.Code.{line, Guarded, first_code, bodies_code, guards_code, loop_code, repeat_code, labels_code, arm_code}
use Rattle.ob_code.proofs.machine.Runs.{stays, goes_on, performs}
use Rattle.ob_gen.proofs.machine.Reaches.{HasAt, has_front, has_back, Running, conf, here, lines_in, Good, Reaches, AnyNumber, AnyDone, weaken, follows, ties, then_comes, moved, skips, skip_runs, Same}

-- ---- numbers that are compared

positive_is : (v : ℕ) → int_eq (pos (suc v)) (pos 0) ≡ false
positive_is v = grind (arith, nat_tests)

pub le_is : (x y : ℤ) → (int_lt x y || int_eq x y) ≡ int_le x y
le_is x y = grind (arith, nat_tests)

pub le_back : (x y : ℤ) → not (int_lt x y) ≡ int_le y x
le_back x y = grind (arith, nat_tests)

labels-length : (labels : List LabelRange) → length (labels_code labels) ≡ length labels
labels-length [] = refl
labels-length (x ∷ rest) = ap (λ k. suc k) (labels-length rest)

module _ (code : Code) (r : Running) (s : Value) where
  -- from this place the machine does this piece and comes to that place; a test leaves its number
  abbrev pub Does : ℕ → ℕ → Piece Done → Type 0
  Does pc end piece = (n : Supply) (most : ℕ) (w : World) → Good most s n w → Reaches code most s AnyDone (here r pc [] [] n w) (λ d n' w'. here r end [] [] n' w') (piece n w)

  abbrev pub Tests : ℕ → ℕ → Piece ℤ → Type 0
  Tests pc end guard = (n : Supply) (most : ℕ) (w : World) → Good most s n w → Reaches code most s AnyNumber (here r pc [] [] n w) (λ v n' w'. here r end (v ∷ []) [] n' w') (guard n w)

  -- wherever this code stands
  abbrev pub BodyRuns : List Line → Piece Done → Type 0
  BodyRuns is piece = (pc : ℕ) → HasAt (lines_in code r) pc is → Does pc (pc + length is) piece

  abbrev pub TestRuns : List Line → Piece ℤ → Type 0
  TestRuns is guard = (pc : ℕ) → HasAt (lines_in code r) pc is → Tests pc (pc + length is) guard

  -- the code of each guard and of each body
  abbrev pub BranchesRun : List Guarded → List meant.Guarded → Type 0
  BranchesRun [] [] = Unit {0}
  BranchesRun [] (b ∷ bs) = ⊥
  BranchesRun (c ∷ cs) [] = ⊥
  BranchesRun (c ∷ cs) (b ∷ bs) = TestRuns c.guard b.guard × (BodyRuns c.body b.body × BranchesRun cs bs)

  -- ---- IF

  pub first_runs : (cs : List Guarded) (bs : List meant.Guarded) (rest_code : List Line) (rest : Piece Done) → BranchesRun cs bs → BodyRuns rest_code rest → BodyRuns (first_code cs rest_code) (first_of bs (λ body. body) rest)
  first_runs [] [] rest_code rest h hr = hr
  first_runs [] (b ∷ bs) rest_code rest h hr = absurd h
  first_runs (c ∷ cs) [] rest_code rest h hr = absurd h
  first_runs (c ∷ cs) (b ∷ bs) rest_code rest h hr = λ pc has n most w g.
      let ce = c.guard in
      let ca = c.body in
      let cb = first_code cs rest_code in
      let hh = has_back (lines_in code r) pc ce _ has in
      let ha = has_front (lines_in code r) (pc + length ce + 1) ca _ hh.1 in
      let hs = has_back (lines_in code r) (pc + length ce + 1) ca _ hh.1 in
      let len : pc + length ce + 1 + length ca + 1 + length cb ≡ pc + length (first_code (c ∷ cs) rest_code) = omega (arith, length-append ce (line 1 0 (SkipIfZero (length ca + 1)) ∷ (ca ++ (line 0 0 (Skip (length cb)) ∷ cb))), length-append ca (line 0 0 (Skip (length cb)) ∷ cb)) in
      let to_b : pc + length ce + 1 + length ca + 1 ≡ pc + length ce + 1 + (length ca + 1) = omega arith in
      let otherwise = first_of bs (λ body. body) rest in
      moved code most s _ _ AnyDone (λ p d n' w'. here r p [] [] n' w') (here r pc [] [] n w) _ len
      (ties code most s AnyNumber AnyDone (here r pc [] [] n w) (λ x n' w'. here r (pc + length ce) (x ∷ []) [] n' w') (λ d n' w'. here r (pc + length ce + 1 + length ca + 1 + length cb) [] [] n' w') (b.guard n w) _
      (h.0 pc (has_front (lines_in code r) pc ce _ has) n most w g)
      (λ v n1 w1 g1 k1. skip_runs code r s v 1 0 (length ca + 1) (pc + length ce) [] [] n1 most w1 AnyDone (λ d n' w'. here r (pc + length ce + 1 + length ca + 1 + length cb) [] [] n' w') (otherwise n1 w1) (b.body n1 w1) hh.0
      (subst (λ p. Reaches code most s AnyDone (here r p [] [] n1 w1) (λ d n' w'. here r (pc + length ce + 1 + length ca + 1 + length cb) [] [] n' w') (otherwise n1 w1)) to_b
      (first_runs cs bs rest_code rest h.1.1 hr (pc + length ce + 1 + length ca + 1) hs.1 n1 most w1 g1))
      (then_comes code most s AnyDone (here r (pc + length ce + 1) [] [] n1 w1) (λ d n' w'. here r (pc + length ce + 1 + length ca) [] [] n' w') _ (b.body n1 w1)
      (h.1.0 (pc + length ce + 1) ha n1 most w1 g1)
      (λ d n' w' g' k'. skips code r s 0 0 (length cb) (pc + length ce + 1 + length ca) [] [] n' w' hs.0))))

  -- ---- loops

  -- What it means to enter a body, after which the machine comes to this place, and in the end to that one: without a turn
  -- the run stands, and with one it goes on there.
  pub record Enters (most again end : ℕ) (enter : Piece Done → Piece Done) : Type 0 where
    pub none : (body : Piece Done) (ls : List InputLine) (w : World) → enter body (supply 0 ls) w ≡ Stands (Stopped BodyEntry) (supply 0 ls) w
    pub some : (body : Piece Done) (place : ℕ) → Does place again body → (m : ℕ) (ls : List InputLine) (w : World) → Good most s (supply (suc m) ls) w → Reaches code most s AnyDone (here r place [] [] (supply m ls) w) (λ d n' w'. here r end [] [] n' w') (enter body (supply (suc m) ls) w)

  -- the way back, where the number on top isn't 0
  turn_runs : (v : ℤ) (k pc place again end most t : ℕ) (ls : List InputLine) (w : World) (enter : Piece Done → Piece Done) (body : Piece Done) → ((m : ℕ) → Comes code (here r pc (v ∷ []) [] (supply (suc m) ls) w) (here r place [] [] (supply m ls) w)) → Comes code (here r pc (v ∷ []) [] (supply 0 ls) w) (Standing (Stopped BodyEntry) (supply 0 ls) (conf r pc (v ∷ []) [] w)) → Enters most again end enter → Does place again body → Good most s (supply t ls) w → Reaches code most s AnyDone (here r pc (v ∷ []) [] (supply t ls) w) (λ d n' w'. here r end [] [] n' w') (enter body (supply t ls) w)
  turn_runs v k pc place again end most zero ls w enter body back stop en db g =
      subst (λ x. Reaches code most s AnyDone (here r pc (v ∷ []) [] (supply 0 ls) w) (λ d n' w'. here r end [] [] n' w') x) (sym (en.none body ls w)) (record { there = conf r pc (v ∷ []) [] w; comes = stop; same = refl; kept = Same g.fits })
  turn_runs v k pc place again end most (suc m) ls w enter body back stop en db g =
      follows code most s AnyDone _ (here r place [] [] (supply m ls) w) _ (enter body (supply (suc m) ls) w) (back m) (en.some body place db m ls w g)

  back_runs : (v : ℤ) (k pc place again end most : ℕ) (n : Supply) (w : World) (enter : Piece Done → Piece Done) (body : Piece Done) (rest : Run Done) → slice_get (lines_in code r) pc ≡ Some (line 1 0 (EnterBack k)) → pc - k ≡ place → Enters most again end enter → Does place again body → Good most s n w → Reaches code most s AnyDone (here r (pc + 1) [] [] n w) (λ d n' w'. here r end [] [] n' w') rest → Reaches code most s AnyDone (here r pc (v ∷ []) [] n w) (λ d n' w'. here r end [] [] n' w') (choose v rest (enter body n w))
  back_runs (pos zero) k pc place again end most n w enter body rest has eb en db g hr =
      follows code most s AnyDone _ (here r (pc + 1) [] [] n w) _ rest (performs code n (conf r pc (pos zero ∷ []) [] w) (line 1 0 (EnterBack k)) _ has refl) hr
  back_runs (pos (suc v)) k pc place again end most n w enter body rest has eb en db g hr =
      turn_runs (pos (suc v)) k pc place again end most n.turns n.lines w enter body
      (λ m. performs code (supply (suc m) n.lines) (conf r pc (pos (suc v) ∷ []) [] w) (line 1 0 (EnterBack k)) _ has (ap (λ p. here r p [] [] (supply m n.lines) w) eb))
      (performs code (supply 0 n.lines) (conf r pc (pos (suc v) ∷ []) [] w) (line 1 0 (EnterBack k)) _ has refl) en db g
  back_runs (negsuc v) k pc place again end most n w enter body rest has eb en db g hr =
      turn_runs (negsuc v) k pc place again end most n.turns n.lines w enter body
      (λ m. performs code (supply (suc m) n.lines) (conf r pc (negsuc v ∷ []) [] w) (line 1 0 (EnterBack k)) _ has (ap (λ p. here r p [] [] (supply m n.lines) w) eb))
      (performs code (supply 0 n.lines) (conf r pc (negsuc v ∷ []) [] w) (line 1 0 (EnterBack k)) _ has refl) en db g

  -- the guards, from the first of these on, whose bodies stand from `bodies` on and lead to the place `again`
  guards_run : (cs : List Guarded) (bs : List meant.Guarded) (far at bodies again end most : ℕ) (enter : Piece Done → Piece Done) → BranchesRun cs bs → Enters most again end enter → HasAt (lines_in code r) at (guards_code far cs) → HasAt (lines_in code r) bodies (bodies_code cs) → at ≡ bodies + far → length (bodies_code cs) ≤ far → bodies + length (bodies_code cs) ≡ again → at + length (guards_code far cs) ≡ end → (n : Supply) (w : World) → Good most s n w → Reaches code most s AnyDone (here r at [] [] n w) (λ d n' w'. here r end [] [] n' w') (first_of bs enter nothing n w)
  guards_run [] [] far at bodies again end most enter h en hg hb ea le eb ee n w g =
      let e : at ≡ end = omega (arith, ee) in
      (g, tt, subst (λ p. Comes code (here r at [] [] n w) (here r p [] [] n w)) e (stays code (here r at [] [] n w)))
  guards_run [] (b ∷ bs) far at bodies again end most enter h en hg hb ea le eb ee n w g = absurd h
  guards_run (c ∷ cs) [] far at bodies again end most enter h en hg hb ea le eb ee n w g = absurd h
  guards_run (c ∷ cs) (b ∷ bs) far at bodies again end most enter h en hg hb ea le eb ee n w g =
      let k = far + length c.guard in
      let far' = far + length c.guard - length c.body in
      let hi = has_back (lines_in code r) at c.guard _ hg in
      let hs = has_back (lines_in code r) bodies c.body _ hb in
      let lb : length (bodies_code (c ∷ cs)) ≡ length c.body + (1 + length (bodies_code cs)) = length-append c.body (line 0 0 (Skip (length (bodies_code cs))) ∷ bodies_code cs) ∙ omega arith in
      let lg : length (guards_code far (c ∷ cs)) ≡ length c.guard + (1 + length (guards_code far' cs)) = length-append c.guard (line 1 0 (EnterBack k) ∷ guards_code far' cs) ∙ omega arith in
      let back : at + length c.guard - k ≡ bodies = omega (arith, ea) in
      let to_again : bodies + length c.body + 1 + length (bodies_code cs) ≡ again = omega (arith, eb, lb) in
      let at' : at + length c.guard + 1 ≡ bodies + length c.body + 1 + far' = omega (arith, ea, le, lb) in
      let le' : length (bodies_code cs) ≤ far' = omega (arith, le, lb) in
      let ee' : at + length c.guard + 1 + length (guards_code far' cs) ≡ end = omega (arith, ee, lg) in
      let db : Does bodies again b.body = λ n1 m1 w1 g1.
      then_comes code m1 s AnyDone (here r bodies [] [] n1 w1) (λ d n' w'. here r (bodies + length c.body) [] [] n' w') (λ d n' w'. here r again [] [] n' w') (b.body n1 w1)
      (h.1.0 bodies (has_front (lines_in code r) bodies c.body _ hb) n1 m1 w1 g1)
      (λ d n' w' g' k'. subst (λ p. Comes code (here r (bodies + length c.body) [] [] n' w') (here r p [] [] n' w')) to_again (skips code r s 0 0 (length (bodies_code cs)) (bodies + length c.body) [] [] n' w' hs.0)) in
      ties code most s AnyNumber AnyDone (here r at [] [] n w) (λ v n1 w1. here r (at + length c.guard) (v ∷ []) [] n1 w1) (λ d n' w'. here r end [] [] n' w') (b.guard n w) _
      (h.0 at (has_front (lines_in code r) at c.guard _ hg) n most w g)
      (λ v n1 w1 g1 k1. back_runs v k (at + length c.guard) bodies again end most n1 w1 enter b.body (first_of bs enter nothing n1 w1) hi.0 back en db g1
      (guards_run cs bs far' (at + length c.guard + 1) (bodies + length c.body + 1) again end most enter h.1.1 en hi.1 hs.1 at' le' to_again ee' n1 w1 g1))

  -- a loop, from its guards on
  rounds_run : (cs : List Guarded) (bs : List meant.Guarded) (far bodies again end most : ℕ) → BranchesRun cs bs → HasAt (lines_in code r) again (guards_code far cs) → HasAt (lines_in code r) bodies (bodies_code cs) → again ≡ bodies + far → length (bodies_code cs) ≡ far → again + length (guards_code far cs) ≡ end → (n : Supply) (w : World) → Good most s n w → Reaches code most s AnyDone (here r again [] [] n w) (λ d n' w'. here r end [] [] n' w') (looping bs most n w)
  rounds_run cs bs far bodies again end zero h hg hb ea le ee n w g =
      let lb : length (bodies_code cs) ≤ far = omega (arith, le) in
      let eb : bodies + length (bodies_code cs) ≡ again = omega (arith, le, ea) in
      guards_run cs bs far again bodies again end 0 (λ body n w. Stands (Stopped BodyEntry) (supply 0 n.lines) w) h
      (record { none = λ body ls w. refl; some = λ body place db m ls w g1. absurd (let l = g1.less in omega (arith, l)) })
      hg hb ea lb eb ee n w g
  rounds_run cs bs far bodies again end (suc most) h hg hb ea le ee n w g =
      let lb : length (bodies_code cs) ≤ far = omega (arith, le) in
      let eb : bodies + length (bodies_code cs) ≡ again = omega (arith, le, ea) in
      guards_run cs bs far again bodies again end (suc most) (λ body n w. turn BodyEntry n w (λ n1. and_then (body n1 w) (λ _ n2 w2. looping bs most n2 w2))) h
      (record {
        none = λ body ls w. refl;
        some = λ body place db m ls w g1.
            let g2 : Good most s (supply m ls) w = record { less = let l = g1.less in omega (arith, l); fits = g1.fits } in
            let up : most ≤ suc most = omega arith in
            weaken code most (suc most) s AnyDone (here r place [] [] (supply m ls) w) (λ d n' w'. here r end [] [] n' w') (and_then (body (supply m ls) w) (λ _ n2 w2. looping bs most n2 w2)) up
            (ties code most s AnyDone AnyDone (here r place [] [] (supply m ls) w) (λ d n2 w2. here r again [] [] n2 w2) (λ d n' w'. here r end [] [] n' w') (body (supply m ls) w) _
            (db (supply m ls) most w g2)
            (λ d n2 w2 g3 k3. rounds_run cs bs far bodies again end most h hg hb ea le ee n2 w2 g3));
      })
      hg hb ea lb eb ee n w g

  -- WHILE
  pub loop_runs : (cs : List Guarded) (bs : List meant.Guarded) → BranchesRun cs bs → BodyRuns (loop_code cs) (λ n w. looping bs n.turns n w)
  loop_runs cs bs h pc has n most w g =
      let far = length (bodies_code cs) in
      let hb = has_front (lines_in code r) (pc + 1) (bodies_code cs) _ has.1 in
      let hg = has_back (lines_in code r) (pc + 1) (bodies_code cs) _ has.1 in
      let end : pc + 1 + far + length (guards_code far cs) ≡ pc + length (loop_code cs) = omega (arith, length-append (bodies_code cs) (guards_code far cs)) in
      let g0 : Good n.turns s n w = record { less = omega arith; fits = g.fits } in
      weaken code n.turns most s AnyDone (here r pc [] [] n w) (λ d n' w'. here r (pc + length (loop_code cs)) [] [] n' w') (looping bs n.turns n w) g.less
      (follows code n.turns s AnyDone (here r pc [] [] n w) (here r (pc + 1 + far) [] [] n w) (λ d n' w'. here r (pc + length (loop_code cs)) [] [] n' w') (looping bs n.turns n w)
      (skips code r s 0 0 far pc [] [] n w has.0)
      (rounds_run cs bs far (pc + 1) (pc + 1 + far) (pc + length (loop_code cs)) n.turns h hg hb refl refl end n w g0))

  -- ---- REPEAT

  -- a body that was entered, and what follows it: the test, and again or not
  abbrev pub round : Piece Done → Piece ℤ → ℕ → Piece Done
  round body until most n w = and_then (body n w) (λ _ n2 w2. and_then (until n2 w2) (λ v n3 w3. choose v (repeating body until most n3 w3) (Goes done n3 w3)))

  -- after the test, whose number was turned round: again
  again_runs : (k pc place end most t : ℕ) (ls : List InputLine) (w : World) (body : Piece Done) (until : Piece ℤ) → slice_get (lines_in code r) pc ≡ Some (line 1 0 (EnterBack k)) → pc - k ≡ place → Good most s (supply t ls) w → ((m : ℕ) → most ≡ suc m → (n : Supply) (w : World) → Good m s n w → Reaches code m s AnyDone (here r place [] [] n w) (λ d n' w'. here r end [] [] n' w') (round body until m n w)) → Reaches code most s AnyDone (here r pc (pos 1 ∷ []) [] (supply t ls) w) (λ d n' w'. here r end [] [] n' w') (repeating body until most (supply t ls) w)
  again_runs k pc place end zero zero ls w body until has eb g hr =
      record { there = conf r pc (pos 1 ∷ []) [] w; comes = performs code (supply 0 ls) (conf r pc (pos 1 ∷ []) [] w) (line 1 0 (EnterBack k)) _ has refl; same = refl; kept = Same g.fits }
  again_runs k pc place end zero (suc t) ls w body until has eb g hr = absurd (let l = g.less in omega (arith, l))
  again_runs k pc place end (suc most) zero ls w body until has eb g hr =
      record { there = conf r pc (pos 1 ∷ []) [] w; comes = performs code (supply 0 ls) (conf r pc (pos 1 ∷ []) [] w) (line 1 0 (EnterBack k)) _ has refl; same = refl; kept = Same g.fits }
  again_runs k pc place end (suc most) (suc t) ls w body until has eb g hr =
      let g2 : Good most s (supply t ls) w = record { less = let l = g.less in omega (arith, l); fits = g.fits } in
      let up : most ≤ suc most = omega arith in
      follows code (suc most) s AnyDone _ (here r place [] [] (supply t ls) w) _ (round body until most (supply t ls) w)
      (performs code (supply (suc t) ls) (conf r pc (pos 1 ∷ []) [] w) (line 1 0 (EnterBack k)) _ has (ap (λ p. here r p [] [] (supply t ls) w) eb))
      (weaken code most (suc most) s AnyDone (here r place [] [] (supply t ls) w) (λ d n' w'. here r end [] [] n' w') (round body until most (supply t ls) w) up (hr most refl (supply t ls) w g2))

  -- `~` of the test's number, and the way back
  until_runs : (v : ℤ) (k pc place end most : ℕ) (n : Supply) (w : World) (body : Piece Done) (until : Piece ℤ) → slice_get (lines_in code r) pc ≡ Some (line 1 0 (EnterBack k)) → pc - k ≡ place → pc + 1 ≡ end → Good most s n w → ((m : ℕ) → most ≡ suc m → (n : Supply) (w : World) → Good m s n w → Reaches code m s AnyDone (here r place [] [] n w) (λ d n' w'. here r end [] [] n' w') (round body until m n w)) → Reaches code most s AnyDone (here r pc (truth (int_eq v (pos 0)) ∷ []) [] n w) (λ d n' w'. here r end [] [] n' w') (choose v (repeating body until most n w) (Goes done n w))
  until_runs (pos zero) k pc place end most n w body until has eb ee g hr = again_runs k pc place end most n.turns n.lines w body until has eb g hr
  until_runs (pos (suc v)) k pc place end most n w body until has eb ee g hr = (
    g,
    tt,
    subst (λ x. Comes code (here r pc (x ∷ []) [] n w) (here r end [] [] n w)) (sym (ap truth (positive_is v)))
        (performs code n (conf r pc (pos 0 ∷ []) [] w) (line 1 0 (EnterBack k)) _ has (ap (λ p. here r p [] [] n w) ee)),
  )
  until_runs (negsuc v) k pc place end most n w body until has eb ee g hr =
      (g, tt, performs code n (conf r pc (pos 0 ∷ []) [] w) (line 1 0 (EnterBack k)) _ has (ap (λ p. here r p [] [] n w) ee))

  -- the code after the first entry
  abbrev pub round_code : List Line → List Line → List Line
  round_code bc uc = bc ++ (uc ++ (line 1 0 (Unary Not 0) ∷ (line 1 0 (EnterBack (length bc + length uc + 1)) ∷ [])))

  round_runs : (bc uc : List Line) (place end most : ℕ) (n : Supply) (w : World) (body : Piece Done) (until : Piece ℤ) → BodyRuns bc body → TestRuns uc until → HasAt (lines_in code r) place (round_code bc uc) → place + length bc + length uc + 1 + 1 ≡ end → Good most s n w → ((m : ℕ) → most ≡ suc m → (n : Supply) (w : World) → Good m s n w → Reaches code m s AnyDone (here r place [] [] n w) (λ d n' w'. here r end [] [] n' w') (round body until m n w)) → Reaches code most s AnyDone (here r place [] [] n w) (λ d n' w'. here r end [] [] n' w') (round body until most n w)
  round_runs bc uc place end most n w body until hb hu has ee g hr =
      let k = length bc + length uc + 1 in
      let h1 = has_back (lines_in code r) place bc _ has in
      let h2 = has_back (lines_in code r) (place + length bc) uc _ h1 in
      let back : place + length bc + length uc + 1 - k ≡ place = omega arith in
      ties code most s AnyDone AnyDone (here r place [] [] n w) (λ d n2 w2. here r (place + length bc) [] [] n2 w2) (λ d n' w'. here r end [] [] n' w') (body n w) _
      (hb place (has_front (lines_in code r) place bc _ has) n most w g)
      (λ d n2 w2 g2 k2. ties code most s AnyNumber AnyDone (here r (place + length bc) [] [] n2 w2) (λ v n3 w3. here r (place + length bc + length uc) (v ∷ []) [] n3 w3) (λ d n' w'. here r end [] [] n' w') (until n2 w2) _
      (hu (place + length bc) (has_front (lines_in code r) (place + length bc) uc _ h1) n2 most w2 g2)
      (λ v n3 w3 g3 k3. follows code most s AnyDone _ (here r (place + length bc + length uc + 1) (truth (int_eq v (pos 0)) ∷ []) [] n3 w3) _ (choose v (repeating body until most n3 w3) (Goes done n3 w3))
      (performs code n3 (conf r (place + length bc + length uc) (v ∷ []) [] w3) (line 1 0 (Unary Not 0)) _ h2.0 refl)
      (until_runs v k (place + length bc + length uc + 1) place end most n3 w3 body until h2.1.0 back ee g3 hr)))

  round_again : (bc uc : List Line) (place end most : ℕ) (body : Piece Done) (until : Piece ℤ) → BodyRuns bc body → TestRuns uc until → HasAt (lines_in code r) place (round_code bc uc) → place + length bc + length uc + 1 + 1 ≡ end → (n : Supply) (w : World) → Good most s n w → Reaches code most s AnyDone (here r place [] [] n w) (λ d n' w'. here r end [] [] n' w') (round body until most n w)
  round_again bc uc place end zero body until hb hu has ee n w g =
      round_runs bc uc place end 0 n w body until hb hu has ee g (λ m e. absurd (omega (arith, e)))
  round_again bc uc place end (suc most) body until hb hu has ee n w g =
      round_runs bc uc place end (suc most) n w body until hb hu has ee g
      (λ m e. let same : most ≡ m = omega (arith, e) in
      subst (λ k. (n : Supply) (w : World) → Good k s n w → Reaches code k s AnyDone (here r place [] [] n w) (λ d n' w'. here r end [] [] n' w') (round body until k n w)) same
      (round_again bc uc place end most body until hb hu has ee))

  repeat_by : (bc uc : List Line) (pc end most t : ℕ) (ls : List InputLine) (w : World) (body : Piece Done) (until : Piece ℤ) → BodyRuns bc body → TestRuns uc until → slice_get (lines_in code r) pc ≡ Some (line 0 0 Enter) → HasAt (lines_in code r) (pc + 1) (round_code bc uc) → pc + 1 + length bc + length uc + 1 + 1 ≡ end → Good most s (supply t ls) w → Reaches code most s AnyDone (here r pc [] [] (supply t ls) w) (λ d n' w'. here r end [] [] n' w') (repeating body until t (supply t ls) w)
  repeat_by bc uc pc end most zero ls w body until hb hu h0 has ee g =
      record { there = conf r pc [] [] w; comes = performs code (supply 0 ls) (conf r pc [] [] w) (line 0 0 Enter) _ h0 refl; same = refl; kept = Same g.fits }
  repeat_by bc uc pc end most (suc t) ls w body until hb hu h0 has ee g =
      let g2 : Good t s (supply t ls) w = record { less = omega arith; fits = g.fits } in
      let up : t ≤ most = let l = g.less in omega (arith, l) in
      follows code most s AnyDone _ (here r (pc + 1) [] [] (supply t ls) w) _ (round body until t (supply t ls) w)
      (performs code (supply (suc t) ls) (conf r pc [] [] w) (line 0 0 Enter) _ h0 refl)
      (weaken code t most s AnyDone (here r (pc + 1) [] [] (supply t ls) w) (λ d n' w'. here r end [] [] n' w') (round body until t (supply t ls) w) up
      (round_again bc uc (pc + 1) end t body until hb hu has ee (supply t ls) w g2))

  -- REPEAT
  pub repeat_runs : (bc uc : List Line) (body : Piece Done) (until : Piece ℤ) → BodyRuns bc body → TestRuns uc until → BodyRuns (repeat_code bc uc) (λ n w. repeating body until n.turns n w)
  repeat_runs bc uc body until hb hu pc has n most w g =
      let tail = line 1 0 (Unary Not 0) ∷ (line 1 0 (EnterBack (length bc + length uc + 1)) ∷ []) in
      let ee : pc + 1 + length bc + length uc + 1 + 1 ≡ pc + length (repeat_code bc uc) = omega (arith, length-append bc (uc ++ tail), length-append uc tail) in
      repeat_by bc uc pc (pc + length (repeat_code bc uc)) most n.turns n.lines w body until hb hu has.0 has.1 ee g

  -- ---- CASE

  labels_by : (b l : Bool) (far pc p q : ℕ) (v : ℤ) (n : Supply) (w : World) → far ≡ p → Comes code (here r (pc + 1) (v ∷ []) [] n w) (here r (cond l p q) (v ∷ []) [] n w) → Comes code (here r (cond b far (pc + 1)) (v ∷ []) [] n w) (here r (cond (cond b true l) p q) (v ∷ []) [] n w)
  labels_by true l far pc p q v n w e h = subst (λ x. Comes code (here r far (v ∷ []) [] n w) (here r x (v ∷ []) [] n w)) e (stays code (here r far (v ∷ []) [] n w))
  labels_by false l far pc p q v n w e h = h

  -- from the tests of the labels the machine comes after them, past a jump where there is such a label
  labels_run : (labels : List LabelRange) (pc p q : ℕ) (v : ℤ) (n : Supply) (w : World) → HasAt (lines_in code r) pc (labels_code labels) → pc + length labels ≡ q → q + 1 ≡ p → Comes code (here r pc (v ∷ []) [] n w) (here r (cond (is_labelled labels v) p q) (v ∷ []) [] n w)
  labels_run [] pc p q v n w has eq ep =
      let e : pc ≡ q = omega (arith, eq) in
      subst (λ x. Comes code (here r pc (v ∷ []) [] n w) (here r x (v ∷ []) [] n w)) e (stays code (here r pc (v ∷ []) [] n w))
  labels_run (x ∷ rest) pc p q v n w has eq ep =
      let far : pc + 1 + (length rest + 1) ≡ p = omega (arith, eq, ep) in
      let eq' : pc + 1 + length rest ≡ q = omega (arith, eq) in
      goes_on code _ (here r (cond (int_le x.first v && int_le v x.last) (pc + 1 + (length rest + 1)) (pc + 1)) (v ∷ []) [] n w) _
      (performs code n (conf r pc (v ∷ []) [] w) (line 1 0 (SkipIfWithin x.first x.last (length rest + 1))) _ has.0 refl)
      (labels_by (int_le x.first v && int_le v x.last) (is_labelled rest v) (pc + 1 + (length rest + 1)) pc p q v n w far (labels_run rest (pc + 1) p q v n w has.1 eq' ep))

  -- the code of arms, before which the number lies there that is looked up
  abbrev pub ArmsRun : List Line → (ℤ → Piece Done) → Type 0
  ArmsRun is piece = (pc : ℕ) → HasAt (lines_in code r) pc is → (v : ℤ) (n : Supply) (most : ℕ) (w : World) → Good most s n w → Reaches code most s AnyDone (here r pc (v ∷ []) [] n w) (λ d n' w'. here r (pc + length is) [] [] n' w') (piece v n w)

  arm_by : (b : Bool) (bc rc : List Line) (q end most : ℕ) (v : ℤ) (n : Supply) (w : World) (body : Piece Done) (rest : ℤ → Piece Done) → BodyRuns bc body → ArmsRun rc rest → HasAt (lines_in code r) q (line 1 0 (Skip (length bc + 2)) ∷ (line 1 0 Drop ∷ (bc ++ (line 0 0 (Skip (length rc)) ∷ rc)))) → q + length bc + 3 + length rc ≡ end → Good most s n w → Reaches code most s AnyDone (here r (cond b (q + 1) q) (v ∷ []) [] n w) (λ d n' w'. here r end [] [] n' w') (cond b (body n w) (rest v n w))
  arm_by true bc rc q end most v n w body rest hb hr has ee g =
      let h2 = has.1.1 in
      let h3 = has_back (lines_in code r) (q + 1 + 1) bc _ h2 in
      let e : q + 1 + 1 + length bc + 1 + length rc ≡ end = omega (arith, ee) in
      follows code most s AnyDone _ (here r (q + 1 + 1) [] [] n w) _ (body n w)
      (performs code n (conf r (q + 1) (v ∷ []) [] w) (line 1 0 Drop) _ has.1.0 refl)
      (then_comes code most s AnyDone (here r (q + 1 + 1) [] [] n w) (λ d n' w'. here r (q + 1 + 1 + length bc) [] [] n' w') (λ d n' w'. here r end [] [] n' w') (body n w)
      (hb (q + 1 + 1) (has_front (lines_in code r) (q + 1 + 1) bc _ h2) n most w g)
      (λ d n' w' g' k'. subst (λ p. Comes code (here r (q + 1 + 1 + length bc) [] [] n' w') (here r p [] [] n' w')) e (skips code r s 0 0 (length rc) (q + 1 + 1 + length bc) [] [] n' w' h3.0)))
  arm_by false bc rc q end most v n w body rest hb hr has ee g =
      let h3 = has_back (lines_in code r) (q + 1 + 1) bc _ has.1.1 in
      let here_is : q + 1 + (length bc + 2) ≡ q + 1 + 1 + length bc + 1 = omega arith in
      let e : q + 1 + 1 + length bc + 1 + length rc ≡ end = omega (arith, ee) in
      follows code most s AnyDone _ (here r (q + 1 + 1 + length bc + 1) (v ∷ []) [] n w) _ (rest v n w)
      (subst (λ p. Comes code (here r q (v ∷ []) [] n w) (here r p (v ∷ []) [] n w)) here_is (skips code r s 1 0 (length bc + 2) q (v ∷ []) [] n w has.0))
      (moved code most s _ _ AnyDone (λ p d n' w'. here r p [] [] n' w') (here r (q + 1 + 1 + length bc + 1) (v ∷ []) [] n w) (rest v n w) e
      (hr (q + 1 + 1 + length bc + 1) h3.1 v n most w g))

  -- an arm, and what follows it
  pub arm_runs : (labels : List LabelRange) (bc rc : List Line) (body : Piece Done) (rest : ℤ → Piece Done) → BodyRuns bc body → ArmsRun rc rest → ArmsRun (arm_code labels bc rc) (λ v n w. cond (is_labelled labels v) (body n w) (rest v n w))
  arm_runs labels bc rc body rest hb hr pc has v n most w g =
      let tail = line 1 0 (Skip (length bc + 2)) ∷ (line 1 0 Drop ∷ (bc ++ (line 0 0 (Skip (length rc)) ∷ rc))) in
      let q = pc + length (labels_code labels) in
      let h1 = has_back (lines_in code r) pc (labels_code labels) tail has in
      let eq : pc + length labels ≡ q = omega (arith, labels-length labels) in
      let ee : q + length bc + 3 + length rc ≡ pc + length (arm_code labels bc rc) = omega (arith, length-append (labels_code labels) tail, length-append bc (line 0 0 (Skip (length rc)) ∷ rc)) in
      follows code most s AnyDone (here r pc (v ∷ []) [] n w) (here r (cond (is_labelled labels v) (q + 1) q) (v ∷ []) [] n w) _ (cond (is_labelled labels v) (body n w) (rest v n w))
      (labels_run labels pc (q + 1) q v n w (has_front (lines_in code r) pc (labels_code labels) tail has) eq refl)
      (arm_by (is_labelled labels v) bc rc q (pc + length (arm_code labels bc rc)) most v n w body rest hb hr h1 ee g)

  -- ---- sequences

  pub none_runs : BodyRuns [] (λ n w. Goes done n w)
  none_runs pc has n most w g =
      let e : pc ≡ pc + 0 = omega arith in
      (g, tt, subst (λ p. Comes code (here r pc [] [] n w) (here r p [] [] n w)) e (stays code (here r pc [] [] n w)))

  pub then_runs : (a b : List Line) (p q : Piece Done) → BodyRuns a p → BodyRuns b q → BodyRuns (a ++ b) (λ n w. and_then (p n w) (λ _ n1 w1. q n1 w1))
  then_runs a b p q ha hb pc has n most w g =
      let len : pc + length a + length b ≡ pc + length (a ++ b) = omega (arith, length-append a b) in
      moved code most s _ _ AnyDone (λ p d n' w'. here r p [] [] n' w') (here r pc [] [] n w) _ len
      (ties code most s AnyDone AnyDone (here r pc [] [] n w) (λ d n' w'. here r (pc + length a) [] [] n' w') (λ d n' w'. here r (pc + length a + length b) [] [] n' w') (p n w) _
      (ha pc (has_front (lines_in code r) pc a b has) n most w g)
      (λ d n1 w1 g1 k1. hb (pc + length a) (has_back (lines_in code r) pc a b has) n1 most w1 g1))
