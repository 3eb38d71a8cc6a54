-- Statements: where the code of expressions and actions does what those mean, that of all statements does.
use Rattle.std.proofs.Common.{◌≡◌, ℕ, ◌+◌, ℤ, pos, negsuc, List, [], ◌∷◌, ◌++◌, length, Option, Some, Bool, true, false, refl, sym, ap, subst, arith, length-append}
use Rattle.std.specs.Prelude.{cond, ◌+ℤ◌}
use Rattle.ob_mean.specs.declared.expression.TypedExpr.{TypedExpr}
use Rattle.ob_mean.specs.declared.outcome.Outcome.TheVariants.{Trapped}
use Rattle.ob_mean.specs.declared.outcome.TrapKind.TheVariants as trap
use Rattle.ob_mean.specs.declared.operator.Operator.TheVariants.{Plus, Compare}
use Rattle.ob_mean.specs.declared.statement.ForHead.{ForHead}
use Rattle.ob_mean.specs.declared.statement.TypedStatement.{TypedStatement, Row_of-TypedStatement, end_of-TypedStatement, more_of-TypedStatement}
use Rattle.ob_mean.specs.declared.statement.TypedStatement.TheBlock.{Row_of-Branch, end_of-Branch, more_of-Branch, Row_of-CaseArm, end_of-CaseArm, more_of-CaseArm}
use Rattle.ob_mean.specs.declared.statement.TypedStatement.TheVariants.{Simple, If', Case', While', Repeat', For'}
use Rattle.ob_mean.specs.Values.{Value, Cell, get, number}
use Rattle.ob_mean.specs.Arithmetic.{wrap, truth, numbers_relate}
use Rattle.ob_mean.specs.Runs.{World, Supply, Goes, Done, Piece, stored}
use Rattle.ob_mean.specs.Expressions.{Scope, value_of, variable_place}
use Rattle.ob_mean.specs.Control.{in_order, looping, is_labelled, arm_for}
use Rattle.ob_mean.specs.Statements as meant
use Rattle.ob_mean.specs.Statements.{not_past, for_body, for_loop, case_body, stat_meaning, pieces, guarded, arms_of, list_meaning}
use Rattle.ob_mean.specs.WellFormed.{Names, ExprFits, HeadFits, StatFits, StatsFit, BranchesFit, ArmsFit}
use Rattle.ob_code.specs.declared.instr.Instr.TheVariants.{Push, Operate, Store, Trap}
use Rattle.ob_code.specs.declared.instr.Line.{Line}
use Rattle.ob_code.specs.Machine.{Code, Standing}
use Rattle.ob_gen.specs.TypesAgree.{Shapes, ExprAgrees, HeadAgrees, StatAgrees, StatsAgree, BranchesAgree, ArmsAgree}
use Rattle.ob_gen.specs.Code.{line, root_of, expr_code, stat_code, stats_code, branches, arms_code, list_code, for_relation, for_guard, for_step, for_code, loop_code}
use Rattle.ob_code.proofs.machine.Runs.{goes_on, performs}
use Rattle.ob_gen.proofs.machine.Reaches.{has_front, has_back, Running, conf, here, lines_in, Reaches, AnyNumber, AnyDone, ExprRuns, ActionRuns, ListRuns, Holds, VariablesHold, follows, ties, moved, one_runs, Same}
use Rattle.ob_gen.proofs.machine.Control.{le_is, le_back, BodyRuns, TestRuns, BranchesRun, ArmsRun, first_runs, loop_runs, repeat_runs, arm_runs, none_runs, then_runs}

-- the test of FOR
past_is : (step x y : ℤ) → numbers_relate (for_relation step) x y ≡ not_past step x y
past_is (pos n) x y = le_is x y
past_is (negsuc n) x y = le_back x y

found_by : (b : Bool) (scope : Scope) (l : ℕ) (body : Piece Done) (rest : Option (Piece Done)) (n : Supply) (w : World) → cond b (body n w) (case_body scope l rest n w) ≡ case_body scope l (cond b (Some body) rest) n w
found_by true scope l body rest n w = refl
found_by false scope l body rest n w = refl

module _ (code : Code) (shapes : Shapes) (r : Running) (s : Value) (names : Names) (scope : Scope) (er : ExprRuns code shapes r s names scope) (ar : ActionRuns code shapes r s names scope) (vh : VariablesHold code r s names scope) (home : scope.home ≡ r.home) where
  test_runs : (e : TypedExpr) → ExprFits names e → ExprAgrees shapes e → TestRuns code r s (expr_code names 0 0 e) (value_of scope e)
  test_runs e fits ag pc has n most w g = er e 0 0 pc [] [] n most w fits ag g has

  -- ---- FOR

  for_guard_runs : (head : ForHead) (h : Holds code r s names scope head.variable) → ExprFits names head.last → ExprAgrees shapes head.last → TestRuns code r s (for_guard names head) (meant.for_guard scope head h.place)
  for_guard_runs head h fits ag pc has n most w g =
      let x = number (get w.store h.place) in
      let ce = expr_code names 1 0 head.last in
      let i = line 2 0 (Operate (Compare (for_relation head.step)) 0) in
      let len : pc + 1 + length (ce ++ i ∷ []) ≡ pc + length (for_guard names head) = omega arith in
      moved code most s _ _ AnyNumber (λ p v n' w'. here r p (v ∷ []) [] n' w') (here r pc [] [] n w) (meant.for_guard scope head h.place n w) len
      (follows code most s AnyNumber (here r pc [] [] n w) (here r (pc + 1) (x ∷ []) [] n w) (λ v n' w'. here r (pc + 1 + length (ce ++ i ∷ [])) (v ∷ []) [] n' w') (meant.for_guard scope head h.place n w)
      (h.loads 0 0 pc [] [] n w g.fits has.0)
      (one_runs code r s AnyNumber AnyNumber (λ v. v ∷ (x ∷ [])) (λ v. []) ce i (λ p v n' w'. here r p (v ∷ []) [] n' w') (value_of scope head.last n w) (λ y n1 w1. Goes (truth (not_past head.step x y)) n1 w1) (pc + 1) (here r (pc + 1) (x ∷ []) [] n w) most has.1
      (er head.last 1 0 (pc + 1) (x ∷ []) [] n most w fits ag g (has_front (lines_in code r) (pc + 1) ce (i ∷ []) has.1))
      (λ y n1 w1 g1 k1 at_i. (g1, tt, performs code n1 (conf r (pc + 1 + length ce) (y ∷ (x ∷ [])) [] w1) i _ at_i (ap (λ b. here r (pc + 1 + length ce + 1) (truth b ∷ []) [] n1 w1) (past_is head.step x y))))))

  for_body_runs : (head : ForHead) (h : Holds code r s names scope head.variable) (bc : List Line) (body : Piece Done) → BodyRuns code r s bc body → BodyRuns code r s (bc ++ for_step names head) (for_body head h.place body)
  for_body_runs head h bc body hb pc has n most w g =
      let q = pc + length bc in
      let hs = has_back (lines_in code r) pc bc (for_step names head) has in
      let len : q + 1 + 1 + 1 + 1 ≡ pc + length (bc ++ for_step names head) = omega (arith, length-append bc (for_step names head)) in
      moved code most s _ _ AnyDone (λ p d n' w'. here r p [] [] n' w') (here r pc [] [] n w) _ len
      (ties code most s AnyDone AnyDone (here r pc [] [] n w) (λ d n' w'. here r q [] [] n' w') (λ d n' w'. here r (q + 1 + 1 + 1 + 1) [] [] n' w') (body n w) _
      (hb pc (has_front (lines_in code r) pc bc (for_step names head) has) n most w g)
      (λ d n1 w1 g1 k1.
      let x = number (get w1.store h.place) in
      let z = wrap (x +ℤ head.step) in (
        record { less = g1.less; fits = h.keeps z w1 g1.fits },
        tt,
        goes_on code _ (here r (q + 1) (x ∷ []) [] n1 w1) _ (h.loads 0 0 q [] [] n1 w1 g1.fits hs.0)
            (goes_on code _ (here r (q + 1 + 1) (head.step ∷ (x ∷ [])) [] n1 w1) _ (performs code n1 (conf r (q + 1) (x ∷ []) [] w1) (line 1 0 (Push head.step)) _ hs.1.0 refl)
            (goes_on code _ (here r (q + 1 + 1 + 1) (z ∷ []) [] n1 w1) _ (performs code n1 (conf r (q + 1 + 1) (head.step ∷ (x ∷ [])) [] w1) (line 2 0 (Operate Plus 0)) _ hs.1.1.0 refl)
            (h.stores 1 0 (q + 1 + 1 + 1) z [] [] n1 w1 g1.fits hs.1.1.1.0))),
      )))

  for_runs : (head : ForHead) (bc : List Line) (body : Piece Done) → HeadFits names head → HeadAgrees shapes head → BodyRuns code r s bc body → BodyRuns code r s (for_code names head bc) (λ n w. for_loop scope head (variable_place scope head.variable w.store) body n w)
  for_runs head bc body fits ag hb pc has n most w g =
      let h = vh head.variable fits.0 in
      let ce = expr_code names 0 0 head.first in
      let cs = record { guard = for_guard names head; body = bc ++ for_step names head } ∷ [] in
      let bs = record { guard = meant.for_guard scope head h.place; body = for_body head h.place body } ∷ [] in
      let lc = loop_code cs in
      let hs = has_back (lines_in code r) pc ce (line 1 0 (Store (root_of names head.variable)) ∷ lc) has in
      let q = pc + length ce in
      let len : q + 1 + length lc ≡ pc + length (for_code names head bc) = omega (arith, length-append ce (line 1 0 (Store (root_of names head.variable)) ∷ lc)) in
      let both : BranchesRun code r s cs bs = (for_guard_runs head h fits.2 ag.1, (for_body_runs head h bc body hb, tt)) in
      subst (λ p. Reaches code most s AnyDone (here r pc [] [] n w) (λ d n' w'. here r (pc + length (for_code names head bc)) [] [] n' w') (for_loop scope head p body n w)) (sym (h.stands w g.fits))
      (moved code most s _ _ AnyDone (λ p d n' w'. here r p [] [] n' w') (here r pc [] [] n w) (for_loop scope head h.place body n w) len
      (ties code most s AnyNumber AnyDone (here r pc [] [] n w) (λ v n1 w1. here r q (v ∷ []) [] n1 w1) (λ d n' w'. here r (q + 1 + length lc) [] [] n' w') (value_of scope head.first n w) _
      (er head.first 0 0 pc [] [] n most w fits.1 ag.0 g (has_front (lines_in code r) pc ce _ has))
      (λ v n1 w1 g1 k1.
      follows code most s AnyDone (here r q (v ∷ []) [] n1 w1) (here r (q + 1) [] [] n1 (stored w1 h.place (Cell v))) (λ d n' w'. here r (q + 1 + length lc) [] [] n' w') (looping bs n1.turns n1 (stored w1 h.place (Cell v)))
      (h.stores 1 0 q v [] [] n1 w1 g1.fits hs.0)
      (loop_runs code r s cs bs both (q + 1) hs.1 n1 most (stored w1 h.place (Cell v)) (record { less = g1.less; fits = h.keeps v w1 g1.fits })))))

  -- ---- all statements

  mutual
    pub stat_runs : (x : TypedStatement) → StatFits names x → StatAgrees shapes x → BodyRuns code r s (stat_code names x) (stat_meaning scope x)
    stat_runs (Simple action) fits ag pc has n most w g = ar action pc n most w fits ag g has
    stat_runs (If' k bs m rest) fits ag pc has n most w g =
        first_runs code r s (branches names bs) (guarded scope bs) (stats_code names rest) (in_order (pieces scope rest)) (branches_run bs fits.0 ag.0) (stats_run rest fits.1 ag.1) pc has n most w g
    stat_runs (Case' l e k arms) fits ag pc has n most w g =
        let ce = expr_code names 0 0 e in
        let ca = arms_code names l arms in
        let len : pc + length ce + length ca ≡ pc + length (ce ++ ca) = omega (arith, length-append ce ca) in
        moved code most s _ _ AnyDone (λ p d n' w'. here r p [] [] n' w') (here r pc [] [] n w) _ len
        (ties code most s AnyNumber AnyDone (here r pc [] [] n w) (λ v n1 w1. here r (pc + length ce) (v ∷ []) [] n1 w1) (λ d n' w'. here r (pc + length ce + length ca) [] [] n' w') (value_of scope e n w) _
        (er e 0 0 pc [] [] n most w fits.0 ag.0 g (has_front (lines_in code r) pc ce ca has))
        (λ v n1 w1 g1 k1. arms_run l arms fits.1 ag.1 (pc + length ce) (has_back (lines_in code r) pc ce ca has) v n1 most w1 g1))
    stat_runs (While' k bs) fits ag pc has n most w g = loop_runs code r s (branches names bs) (guarded scope bs) (branches_run bs fits ag) pc has n most w g
    stat_runs (Repeat' k body e) fits ag pc has n most w g =
        repeat_runs code r s (stats_code names body) (expr_code names 0 0 e) (in_order (pieces scope body)) (value_of scope e) (stats_run body fits.0 ag.0) (test_runs e fits.1 ag.1) pc has n most w g
    stat_runs (For' head k body) fits ag pc has n most w g =
        for_runs head (stats_code names body) (in_order (pieces scope body)) fits.0 ag.0 (stats_run body fits.1 ag.1) pc has n most w g

    stats_run : {k : _} (row : Row_of-TypedStatement k) → StatsFit names row → StatsAgree shapes row → BodyRuns code r s (stats_code names row) (in_order (pieces scope row))
    stats_run end_of-TypedStatement fits ag = none_runs code r s
    stats_run (more_of-TypedStatement x rest) fits ag =
        then_runs code r s (stat_code names x) (stats_code names rest) (stat_meaning scope x) (in_order (pieces scope rest)) (stat_runs x fits.0 ag.0) (stats_run rest fits.1 ag.1)

    branches_run : {k : _} (row : Row_of-Branch k) → BranchesFit names row → BranchesAgree shapes row → BranchesRun code r s (branches names row) (guarded scope row)
    branches_run end_of-Branch fits ag = tt
    branches_run (more_of-Branch e k body rest) fits ag = (test_runs e fits.0 ag.0, (stats_run body fits.1 ag.1, branches_run rest fits.2 ag.2))

    arms_run : (l : ℕ) {k : _} (row : Row_of-CaseArm k) → ArmsFit names row → ArmsAgree shapes row → ArmsRun code r s (arms_code names l row) (λ v. case_body scope l (arm_for (arms_of scope row) v))
    arms_run l end_of-CaseArm fits ag pc has v n most w g =
        record {
          there = conf r pc (v ∷ []) [] w;
          comes = performs code n (conf r pc (v ∷ []) [] w) (line 1 0 (Trap trap.Label l)) _ has.0 (ap (λ m. Standing (Trapped trap.Label m l) n (conf r pc (v ∷ []) [] w)) (sym home));
          same = refl;
          kept = Same g.fits;
        }
    arms_run l (more_of-CaseArm labels k body rest) fits ag pc has v n most w g =
        subst (λ x. Reaches code most s AnyDone (here r pc (v ∷ []) [] n w) (λ d n' w'. here r (pc + length (arms_code names l (more_of-CaseArm labels k body rest))) [] [] n' w') x)
        (found_by (is_labelled labels v) scope l (in_order (pieces scope body)) (arm_for (arms_of scope rest) v) n w)
        (arm_runs code r s labels (stats_code names body) (arms_code names l rest) (in_order (pieces scope body)) (λ v. case_body scope l (arm_for (arms_of scope rest) v)) (stats_run body fits.0 ag.0) (arms_run l rest fits.1 ag.1) pc has v n most w g)

  -- the code of statements does what they mean
  pub list_runs : ListRuns code shapes r s names scope
  list_runs [] pc n most w fits ag g has = none_runs code r s pc has n most w g
  list_runs (x ∷ rest) pc n most w fits ag g has =
      then_runs code r s (stat_code names x) (list_code names rest) (stat_meaning scope x) (list_meaning scope rest) (stat_runs x fits.0 ag.0)
      (λ pc' has' n' most' w' g'. list_runs rest pc' n' most' w' fits.1 ag.1 g' has') pc has n most w g
