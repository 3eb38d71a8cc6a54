-- What cells keep, from the courses of their runs.
use Rattle.std.proofs.Common.{◌≡◌, ◌≢◌, ℕ, ◌+◌, ◌-◌, ◌≤◌, List, [], ◌∷◌, ◌++◌, length, Option, Some, None, refl, sym, ap, ◌∙◌, subst, arith, append-nil, length-append}
use Rattle.ob_inout.specs.Reading.{Line}
use Rattle.ob_mean.specs.declared.outcome.Outcome.{Outcome}
use Rattle.ob_mean.specs.declared.outcome.Outcome.TheVariants as why
use Rattle.ob_mean.specs.Runs.{World, Supply, supply, Run, Goes, Stands, Done}
use Rattle.ob_mean.specs.Programs.{body_meaning, commands_meaning, kept_store, world_before}
use Rattle.ob_session.specs.Session.{Session, Module, name_of, place_of, link_fault, installed, program_of}
use Rattle.ob_session.specs.Cells.{LinkFault, OtherKey, CellOutcome, Ended, Stopped, NeedsLine, CellMeaning, OfModule, OfCommands, outcome_of, ran, unlinked, module_meaning, Ready, Runs, Faulty, all_ready, commands_by, checked_meaning}
use Rattle.ob_session.specs.Laws.{IsStopped, IsLawful, IsFed, EachIsLawful, EachIsFed}
use Rattle.ob_session.proofs.Courses.{world_of, left_of, Asks, IsOver, Course, passes, halts, begs, waits, At}
use Rattle.ob_session.proofs.Programs.{body_good, commands_good}

-- ---- what a run has come to

ran-turns : (ms : List Module) (n : Supply) (r : Run Done) → (ran ms n r).turns ≡ n.turns - (left_of r).turns
ran-turns ms n (Goes d left w) = refl
ran-turns ms n (Stands why left w) = refl

ran-output : (ms : List Module) (n : Supply) (r : Run Done) → (ran ms n r).output ≡ (world_of r).written
ran-output ms n (Goes d left w) = refl
ran-output ms n (Stands why left w) = refl

asked_why : (ms : List Module) (o : Outcome) → outcome_of ms o ≡ NeedsLine → o ≡ why.NeedsLine
asked_why ms why.Ended e = absurd (cc)
asked_why ms (why.Trapped kind home line) e = absurd (cc)
asked_why ms (why.Stopped kind) e = absurd (cc)
asked_why ms why.NeedsLine e = refl

ran_asks : (ms : List Module) (n : Supply) (r : Run Done) → (ran ms n r).outcome ≡ NeedsLine → Asks r
ran_asks ms n (Goes d left w) e = cc
ran_asks ms n (Stands o left w) e = asked_why ms o e

over_stops : (ms : List Module) (o : Outcome) → IsOver o → IsStopped (outcome_of ms o) → ⊥
over_stops ms why.Ended x h = let e = h.1 in cc
over_stops ms (why.Trapped kind home line) x h = let e = h.1 in cc
over_stops ms (why.Stopped kind) x h = x
over_stops ms why.NeedsLine x h = x

over_asks : (ms : List Module) (o : Outcome) → IsOver o → outcome_of ms o ≡ NeedsLine → ⊥
over_asks ms why.Ended x e = cc
over_asks ms (why.Trapped kind home line) x e = cc
over_asks ms (why.Stopped kind) x e = x
over_asks ms why.NeedsLine x e = x

abbrev meant : List Module → List Line → ℕ → List Line → World → CellOutcome → CellMeaning
meant ms ls used left w o = record {
  session = record { modules = ms; store = kept_store (program_of ms) w.store };
  output = w.written;
  lines_used = length ls - length left;
  turns = used;
  outcome = o;
}

-- ---- the laws at one number of turns

record LawfulAt (goes : ℕ → CellMeaning) (n : ℕ) : Type 0 where
  settled : goes (goes n).turns ≡ goes n
  onward : (m : ℕ) → n ≤ m → (goes n).turns ≤ (goes m).turns
  output : (m : ℕ) → n ≤ m → (rest : List ℕ) × ((goes n).output ++ rest ≡ (goes m).output)
  stopped : IsStopped (goes n).outcome → (goes n).turns ≡ n
  last : (m : ℕ) → n ≤ m → (IsStopped (goes n).outcome → ⊥) → goes m ≡ goes n

record FedAt (goes fed : CellMeaning) (n : ℕ) : Type 0 where
  same : goes.outcome ≢ NeedsLine → fed ≡ goes
  onward : goes.turns ≤ fed.turns
  output : (rest : List ℕ) × (goes.output ++ rest ≡ fed.output)
  freed : goes.outcome ≡ NeedsLine → goes.turns ≡ n → fed.outcome ≢ NeedsLine

-- where it has come to what it stays
final : (goes : ℕ → CellMeaning) (n used rest : ℕ) (g : CellMeaning) → used + rest ≡ n → g.turns ≡ used → (IsStopped g.outcome → ⊥) → ((m t : ℕ) → t ≡ used + m → goes t ≡ g) → LawfulAt goes n
final goes n used rest g whole turns over is =
    let here = is rest n (sym whole) in
    let later : (m : ℕ) → n ≤ m → goes m ≡ goes n = λ m le. is (m - used) m (omega (arith, le, whole)) ∙ sym here in
    record {
      settled = ap goes (ap (λ (h : CellMeaning). h.turns) here ∙ turns) ∙ is 0 used (omega arith) ∙ sym here;
      onward = λ m le. let e = ap (λ (h : CellMeaning). h.turns) (later m le) in omega (arith, e);
      output = λ m le. ([], append-nil (goes n).output ∙ sym (ap (λ (h : CellMeaning). h.output) (later m le)));
      stopped = λ h. absurd (over (subst (λ (g : CellMeaning). IsStopped g.outcome) here h));
      last = λ m le no. later m le;
    }

unasked_fed : (goes fed : CellMeaning) (n : ℕ) → goes.outcome ≢ NeedsLine → fed ≡ goes → FedAt goes fed n
unasked_fed goes fed n other e = record {
  same = λ h. e;
  onward = let t = ap (λ (h : CellMeaning). h.turns) e in omega (arith, t);
  output = ([], append-nil goes.output ∙ sym (ap (λ (h : CellMeaning). h.output) e));
  freed = λ h. absurd (other h);
}

-- ---- the laws of what runs

module _ (ms : List Module) (run : Supply → Run Done) (x : (b : ℕ) → At b [] run) where
  abbrev came : List Line → ℕ → CellMeaning
  came ls n = ran ms (supply n ls) (run (supply n ls))

  without : (ls : List Line) (t : ℕ) (r : Run Done) → run (supply t (ls ++ [])) ≡ r → came ls t ≡ ran ms (supply t ls) r
  without ls t r e = ap (ran ms (supply t ls)) (ap (λ l. run (supply t l)) (sym (append-nil ls)) ∙ e)

  lawful_by : (ls : List Line) (n : ℕ) → Course run n ls → LawfulAt (came ls) n
  lawful_by ls n (passes p) =
      final (came ls) n p.used p.rest (meant ms ls p.used (p.left ++ []) p.world Ended) p.whole refl (λ h. let e = h.1 in cc) (λ m t h.
      without ls t (Goes p.value (supply m (p.left ++ [])) p.world) (p.is m t [] h)
      ∙ ap (λ k. meant ms ls k (p.left ++ []) p.world Ended) (let e : t - m ≡ p.used = omega (arith, h) in e))
  lawful_by ls n (halts p) =
      final (came ls) n p.used p.rest (meant ms ls p.used (p.left ++ []) p.world (outcome_of ms p.why)) p.whole refl (over_stops ms p.why p.over) (λ m t h.
      without ls t (Stands p.why (supply m (p.left ++ [])) p.world) (p.is m t [] h)
      ∙ ap (λ k. meant ms ls k (p.left ++ []) p.world (outcome_of ms p.why)) (let e : t - m ≡ p.used = omega (arith, h) in e))
  lawful_by ls n (begs p) =
      final (came ls) n p.used p.rest (meant ms ls p.used [] p.world NeedsLine) p.whole refl (λ h. let e = h.1 in cc) (λ m t h.
      without ls t (Stands why.NeedsLine (supply m []) p.world) (p.is m t h)
      ∙ ap (λ k. meant ms ls k [] p.world NeedsLine) (let e : t - m ≡ p.used = omega (arith, h) in e))
  lawful_by ls n (waits p) =
      let here = without ls n (Stands (why.Stopped p.kind) (supply 0 (p.left ++ [])) p.world) (p.is []) in
      let turns : (came ls n).turns ≡ n = ap (λ (h : CellMeaning). h.turns) here ∙ (let e : n - 0 ≡ n = omega arith in e) in
      let on = λ (m : ℕ) (le : n ≤ m). p.on (m - n) m [] (omega (arith, le)) in
      record {
        settled = ap (came ls) turns;
        onward = λ m le.
            let few = subst (λ l. (left_of (run (supply m l))).turns ≤ m - n) (append-nil ls) (on m le).fewer in
            let e = ran-turns ms (supply m ls) (run (supply m ls)) in
            omega (arith, turns, few, e, le);
        output = λ m le.
            let more = (on m le).extends in
            (more.0, ap (λ (h : CellMeaning). h.output ++ more.0) here ∙ more.1 ∙ ap (λ l. (world_of (run (supply m l))).written) (append-nil ls) ∙ sym (ran-output ms (supply m ls) (run (supply m ls))));
        stopped = λ h. turns;
        last = λ m le no. absurd (no (subst (λ (g : CellMeaning). IsStopped g.outcome) (sym here) (p.kind, refl)));
      }

  -- the line after is left where it isn't asked for
  as_many : (ls left : List Line) (line : Line) → length (ls ++ line ∷ []) - length (left ++ line ∷ []) ≡ length ls - length (left ++ [])
  as_many ls left line =
      let a = length-append ls (line ∷ []) in
      let b = length-append left (line ∷ []) in
      let c = length-append left [] in
      omega (arith, a, b, c)

  fed_by : (ls : List Line) (line : Line) (n : ℕ) → Course run n ls → FedAt (came ls n) (came (ls ++ line ∷ []) n) n
  fed_by ls line n (passes p) =
      let here = without ls n (Goes p.value (supply p.rest (p.left ++ [])) p.world) (p.is p.rest n [] (sym p.whole)) in
      let there = ap (ran ms (supply n (ls ++ line ∷ []))) (p.is p.rest n (line ∷ []) (sym p.whole)) in
      unasked_fed (came ls n) (came (ls ++ line ∷ []) n) n
      (λ h. let e : Ended ≡ NeedsLine = sym (ap (λ (g : CellMeaning). g.outcome) here) ∙ h in cc)
      (there ∙ ap (λ k. record { session = record { modules = ms; store = kept_store (program_of ms) p.world.store }; output = p.world.written; lines_used = k; turns = n - p.rest; outcome = Ended }) (as_many ls p.left line) ∙ sym here)
  fed_by ls line n (halts p) =
      let here = without ls n (Stands p.why (supply p.rest (p.left ++ [])) p.world) (p.is p.rest n [] (sym p.whole)) in
      let there = ap (ran ms (supply n (ls ++ line ∷ []))) (p.is p.rest n (line ∷ []) (sym p.whole)) in
      unasked_fed (came ls n) (came (ls ++ line ∷ []) n) n
      (λ h. over_asks ms p.why p.over (sym (ap (λ (g : CellMeaning). g.outcome) here) ∙ h))
      (there ∙ ap (λ k. record { session = record { modules = ms; store = kept_store (program_of ms) p.world.store }; output = p.world.written; lines_used = k; turns = n - p.rest; outcome = outcome_of ms p.why }) (as_many ls p.left line) ∙ sym here)
  fed_by ls line n (waits p) =
      let here = without ls n (Stands (why.Stopped p.kind) (supply 0 (p.left ++ [])) p.world) (p.is []) in
      let there = ap (ran ms (supply n (ls ++ line ∷ []))) (p.is (line ∷ [])) in
      unasked_fed (came ls n) (came (ls ++ line ∷ []) n) n
      (λ h. let e : Stopped p.kind ≡ NeedsLine = sym (ap (λ (g : CellMeaning). g.outcome) here) ∙ h in cc)
      (there ∙ ap (λ k. record { session = record { modules = ms; store = kept_store (program_of ms) p.world.store }; output = p.world.written; lines_used = k; turns = n - 0; outcome = Stopped p.kind }) (as_many ls p.left line) ∙ sym here)
  fed_by ls line n (begs p) =
      let here = without ls n (Stands why.NeedsLine (supply p.rest []) p.world) (p.is p.rest n (sym p.whole)) in
      let turns = ap (λ (h : CellMeaning). h.turns) here in
      let on = p.on p.rest n line [] (sym p.whole) in
      let r = run (supply n (ls ++ line ∷ [])) in
      let e = ran-turns ms (supply n (ls ++ line ∷ [])) r in
      let few = on.fewer in
      record {
        same = λ no. absurd (no (ap (λ (g : CellMeaning). g.outcome) here));
        onward = omega (arith, turns, few, e);
        output = (on.extends.0, ap (λ (h : CellMeaning). h.output ++ on.extends.0) here ∙ on.extends.1 ∙ sym (ran-output ms (supply n (ls ++ line ∷ [])) r));
        freed = λ h all asks. p.once n line [] (omega (arith, turns, all, p.whole)) (ran_asks ms (supply n (ls ++ line ∷ [])) r asks);
      }

  course_at : (ls : List Line) (n : ℕ) → Course run n ls
  course_at ls n = (x (n + 1)).course n ls (omega arith)

  ran-lawful : (ls : List Line) → IsLawful (came ls)
  ran-lawful ls = record {
    few = λ n. let e = ran-turns ms (supply n ls) (run (supply n ls)) in omega (arith, e);
    settled = λ n. (lawful_by ls n (course_at ls n)).settled;
    onward = λ n. (lawful_by ls n (course_at ls n)).onward;
    output = λ n. (lawful_by ls n (course_at ls n)).output;
    silent = ran-output ms (supply 0 ls) (run (supply 0 ls)) ∙ sym ((x 0).quiet ls).same;
    unasked = λ e. ((x 0).quiet ls).unasked (ran_asks ms (supply 0 ls) (run (supply 0 ls)) e);
    stopped = λ n. (lawful_by ls n (course_at ls n)).stopped;
    last = λ n. (lawful_by ls n (course_at ls n)).last;
  }

  ran-fed : (ls : List Line) (line : Line) → IsFed (came ls) (came (ls ++ line ∷ []))
  ran-fed ls line = record {
    same = λ n. (fed_by ls line n (course_at ls n)).same;
    onward = λ n. (fed_by ls line n (course_at ls n)).onward;
    output = λ n. (fed_by ls line n (course_at ls n)).output;
    freed = λ n. (fed_by ls line n (course_at ls n)).freed;
  }

-- ---- a cell that does not link

unlinked-lawful : (s : Session) (fault : LinkFault) → IsLawful (λ n. unlinked s fault)
unlinked-lawful s fault = record {
  few = λ n. omega arith;
  settled = λ n. refl;
  onward = λ n m le. omega arith;
  output = λ n m le. ([], refl);
  silent = refl;
  unasked = λ e. cc;
  stopped = λ n h. let e = h.1 in absurd (cc);
  last = λ n m le no. refl;
}

unlinked-fed : (s : Session) (fault : LinkFault) → IsFed (λ n. unlinked s fault) (λ n. unlinked s fault)
unlinked-fed s fault = record {
  same = λ n no. refl;
  onward = λ n. omega arith;
  output = λ n. ([], refl);
  freed = λ n e. absurd (cc);
}

-- ---- every cell

module _ (s : Session) where
  module_lawful : (fault : Option (List ℕ)) (m : Module) (lines : List Line) → IsLawful (λ n. module_meaning fault s m lines n)
  module_lawful (Some name) m lines = unlinked-lawful s (OtherKey name)
  module_lawful None m lines =
      let t = installed s m in
      ran-lawful t.modules (λ n. body_meaning (program_of t.modules) (place_of t.modules (name_of m)) n (world_before t.store))
      (λ b. body_good (program_of t.modules) (place_of t.modules (name_of m)) b (world_before t.store)) lines

  module_fed : (fault : Option (List ℕ)) (m : Module) (lines : List Line) (line : Line) → IsFed (λ n. module_meaning fault s m lines n) (λ n. module_meaning fault s m (lines ++ line ∷ []) n)
  module_fed (Some name) m lines line = unlinked-fed s (OtherKey name)
  module_fed None m lines line =
      let t = installed s m in
      ran-fed t.modules (λ n. body_meaning (program_of t.modules) (place_of t.modules (name_of m)) n (world_before t.store))
      (λ b. body_good (program_of t.modules) (place_of t.modules (name_of m)) b (world_before t.store)) lines line

  commands_lawful : (ready : Ready) (lines : List Line) → IsLawful (λ n. commands_by ready s lines n)
  commands_lawful (Faulty fault) lines = unlinked-lawful s fault
  commands_lawful (Runs cs) lines =
      ran-lawful s.modules (λ n. commands_meaning (program_of s.modules) cs n (world_before s.store))
      (λ b. commands_good (program_of s.modules) cs b (world_before s.store)) lines

  commands_fed : (ready : Ready) (lines : List Line) (line : Line) → IsFed (λ n. commands_by ready s lines n) (λ n. commands_by ready s (lines ++ line ∷ []) n)
  commands_fed (Faulty fault) lines line = unlinked-fed s fault
  commands_fed (Runs cs) lines line =
      ran-fed s.modules (λ n. commands_meaning (program_of s.modules) cs n (world_before s.store))
      (λ b. commands_good (program_of s.modules) cs b (world_before s.store)) lines line

pub each_lawful : EachIsLawful
unfolding checked_meaning
each_lawful s (OfModule m) lines = module_lawful s (link_fault s.modules m.imports) m lines
each_lawful s (OfCommands cs) lines = commands_lawful s (all_ready s cs) lines

pub each_fed : EachIsFed
unfolding checked_meaning
each_fed s (OfModule m) lines line = module_fed s (link_fault s.modules m.imports) m lines line
each_fed s (OfCommands cs) lines line = commands_fed s (all_ready s cs) lines line
