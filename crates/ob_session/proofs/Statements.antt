-- Statements.
use Rattle.std.proofs.Common.{ℕ, ℤ, List, [], ◌∷◌, ◌++◌, map, Bool, true, false, Option, Some, None, if◌then◌else◌, refl, ap, arith}
use Rattle.std.specs.Prelude.{cond}
use Rattle.ob_inout.specs.Reading.{opened}
use Rattle.ob_inout.specs.Writing.{int_text, char_text, string_text, line_end}
use Rattle.ob_mean.specs.declared.statement.Action.{Action}
use Rattle.ob_mean.specs.declared.statement.Action.TheVariants.{Assign, Copy, AssignText, Adjust, Assert, Call, Input, Output}
use Rattle.ob_mean.specs.declared.statement.InputCall.{InputCall}
use Rattle.ob_mean.specs.declared.statement.InputCall.TheVariants as incoming
use Rattle.ob_mean.specs.declared.statement.OutputCall.{OutputCall}
use Rattle.ob_mean.specs.declared.statement.OutputCall.TheVariants as outgoing
use Rattle.ob_mean.specs.declared.statement.ForHead.{ForHead}
use Rattle.ob_mean.specs.declared.statement.TypedStatement.{TypedStatement, Row_of-TypedStatement, end_of-TypedStatement, more_of-TypedStatement}
use Rattle.ob_mean.specs.declared.statement.TypedStatement.TheBlock.{Row_of-Branch, end_of-Branch, more_of-Branch, Row_of-CaseArm, end_of-CaseArm, more_of-CaseArm}
use Rattle.ob_mean.specs.declared.statement.TypedStatement.TheVariants.{Simple, If', Case', While', Repeat', For'}
use Rattle.ob_mean.specs.declared.outcome.TrapKind.TheVariants as trap
use Rattle.ob_mean.specs.declared.outcome.TurnKind.{TurnKind}
use Rattle.ob_mean.specs.declared.outcome.TurnKind.TheVariants as kind
use Rattle.ob_mean.specs.declared.expression.Callee.{Callee}
use Rattle.ob_mean.specs.declared.expression.Argument.{Argument}
use Rattle.ob_mean.specs.Values.{Place, Value, Cell, get}
use Rattle.ob_mean.specs.Texts.{character, characters}
use Rattle.ob_mean.specs.Runs.{World, supply, Goes, Done, done, Piece, and_then, turn, write, stored, with_input}
use Rattle.ob_mean.specs.Input.{finds, reading, kept}
use Rattle.ob_mean.specs.Expressions.{Scope, traps, variable_place, value_of, argument_of}
use Rattle.ob_mean.specs.Control.{in_order, Arm, arm_for, is_labelled}
use Rattle.ob_mean.specs.Statements.{input_meaning, output_meaning, action_meaning, for_guard, for_body, for_loop, case_body, stat_meaning, pieces, guarded, arms_of, list_meaning}
use Rattle.ob_session.proofs.Courses.{At, Good, passes, goes_at, bind_at, choose_at, turn_then, turn_within, at_less}
use Rattle.ob_session.proofs.Reading.{reading_at}
use Rattle.ob_session.proofs.Control.{EachGood, GuardsGood, in_order_good, chosen_good, loop_good, repeat_good}
use Rattle.ob_session.proofs.Expressions.{traps_at, passed_good, value_good, place_good, argument_good}

-- a turn, and then text is written
writes_at : (b : ℕ) (k : TurnKind) (w : World) (text : List ℕ) → At b w.written (λ s. turn k s w (λ n. Goes done n (write w text)))
writes_at b k w text =
    at_less b (omega arith) (turn_then b k w (λ n. Goes done n (write w text)) (λ n ls. record { extends = (text, refl); fewer = omega arith }) (λ n ls lt. passes (record {
      value = done;
      used = 0;
      rest = n;
      whole = omega arith;
      left = ls;
      world = write w text;
      is = λ m t more h. ap (λ k. Goes done (supply k (ls ++ more)) (write w text)) (omega (arith, h));
    })))

kept_at : (b : ℕ) (w : World) (p : Place) (v : Option Value) → At b w.written (λ s. Goes done s (kept w p v))
kept_at b w p None = goes_at b w.written done w refl
kept_at b w p (Some v) = goes_at b w.written done (stored w p v) refl

module _ (scope : Scope) (calls : (f : Callee) (a : Value) (line : ℕ) → Good (scope.call f a line)) where
  text_if : (b : ℕ) (p : Place) (line : ℕ) (v : Value) (fits : Bool) (w : World) → At b w.written (λ n. if fits then Goes done n (stored w p v) else traps scope trap.TextLength line n w)
  text_if b p line v true w = goes_at b w.written done (stored w p v) refl
  text_if b p line v false w = traps_at b scope trap.TextLength line w

  input_good : (call : InputCall) → Good (input_meaning scope call)
  input_good incoming.Open b w = turn_within b kind.Input w (λ n1. Goes done n1 (with_input w opened)) (goes_at b w.written done (with_input w opened) refl)
  input_good (incoming.Read reader d) b w =
      bind_at (place_good scope calls d b w) (λ p w1.
      turn_within b kind.Input w1 (λ n2. and_then (reading (finds reader (get w1.store p)) n2.turns n2.lines w1) (λ v n3 w3. Goes done n3 (kept w3 p v)))
      (bind_at (reading_at (finds reader (get w1.store p)) b w1) (λ v w3. kept_at b w3 p v)))

  output_good : (call : OutputCall) → Good (output_meaning scope call)
  output_good outgoing.Open b w = turn_within b kind.Output w (λ n1. Goes done n1 w) (goes_at b w.written done w refl)
  output_good (outgoing.Char e) b w =
      bind_at (value_good scope calls e b w) (λ c w1. writes_at b kind.Output w1 (char_text (character c)))
  output_good (outgoing.String d) b w =
      bind_at (place_good scope calls d b w) (λ p w1. writes_at b kind.Output w1 (string_text (characters (get w1.store p))))
  output_good (outgoing.Int e width) b w =
      bind_at (value_good scope calls e b w) (λ v w1. bind_at (value_good scope calls width b w1) (λ k w2. writes_at b kind.Output w2 (int_text v k)))
  output_good outgoing.Ln b w = writes_at b kind.Output w line_end

  each_argument : (args : List Argument) → EachGood (map (argument_of scope) args)
  each_argument [] = tt
  each_argument (a ∷ args) = (argument_good scope calls a, each_argument args)

  action_good : (a : Action) → Good (action_meaning scope a)
  action_good (Assign d e) b w =
      bind_at (place_good scope calls d b w) (λ p w1. bind_at (value_good scope calls e b w1) (λ v w2. goes_at b w2.written done _ refl))
  action_good (Copy d e) b w =
      bind_at (place_good scope calls d b w) (λ p w1. bind_at (place_good scope calls e b w1) (λ q w2. goes_at b w2.written done _ refl))
  action_good (AssignText d line text) b w =
      bind_at (place_good scope calls d b w) (λ p w1. text_if b p line _ _ w1)
  action_good (Adjust a d e) b w =
      bind_at (place_good scope calls d b w) (λ p w1. bind_at (value_good scope calls e b w1) (λ v w2. goes_at b w2.written done _ refl))
  action_good (Assert line e) b w =
      bind_at (value_good scope calls e b w) (λ v w1. choose_at v (traps_at b scope trap.Assertion line w1) (goes_at b w1.written done w1 refl))
  action_good (Call p line args) b w =
      bind_at (passed_good (map (argument_of scope) args) (each_argument args) b w) (λ a w1. bind_at (calls p a line b w1) (λ vs w2. goes_at b w2.written done w2 refl))
  action_good (Input call) b w = input_good call b w
  action_good (Output call) b w = output_good call b w

  -- ---- FOR

  guard_good : (head : ForHead) (p : Place) → Good (for_guard scope head p)
  guard_good head p b w = bind_at (value_good scope calls head.last b w) (λ last w1. goes_at b w1.written _ w1 refl)

  step_good : (head : ForHead) (p : Place) (body : Piece Done) → Good body → Good (for_body head p body)
  step_good head p body x b w = bind_at (x b w) (λ d w1. goes_at b w1.written done _ refl)

  for_good : (head : ForHead) (p : Place) (body : Piece Done) → Good body → Good (for_loop scope head p body)
  for_good head p body x b w =
      bind_at (value_good scope calls head.first b w) (λ v w1.
      loop_good (record { guard = for_guard scope head p; body = for_body head p body } ∷ []) (guard_good head p, step_good head p body x, tt) b (stored w1 p (Cell v)))

  -- ---- CASE

  abbrev ArmsGood : List Arm → Type 0
  ArmsGood [] = Unit {0}
  ArmsGood (a ∷ arms) = Good a.body × ArmsGood arms

  case_if : (labelled : Bool) (line : ℕ) (body : Piece Done) (other : Option (Piece Done)) → Good body → Good (case_body scope line other) → Good (case_body scope line (cond labelled (Some body) other))
  case_if true line body other x y = x
  case_if false line body other x y = y

  case_good : (line : ℕ) (arms : List Arm) → ArmsGood arms → (v : ℤ) → Good (case_body scope line (arm_for arms v))
  case_good line [] x v b w = traps_at b scope trap.Label line w
  case_good line (a ∷ arms) x v b w = case_if (is_labelled a.labels v) line a.body (arm_for arms v) x.0 (case_good line arms x.1 v) b w

  -- ---- all statements

  mutual
    pub statement_good : (s : TypedStatement) → Good (stat_meaning scope s)
    statement_good (Simple action) b w = action_good action b w
    statement_good (If' k bs m rest) b w = chosen_good (guarded scope bs) (in_order (pieces scope rest)) (guarded_good bs) (in_order_good (pieces scope rest) (pieces_good rest)) b w
    statement_good (Case' line e k arms) b w =
        bind_at (value_good scope calls e b w) (λ v w1. case_good line (arms_of scope arms) (arms_good arms) v b w1)
    statement_good (While' k bs) b w = loop_good (guarded scope bs) (guarded_good bs) b w
    statement_good (Repeat' k body e) b w =
        repeat_good (in_order (pieces scope body)) (value_of scope e) (in_order_good (pieces scope body) (pieces_good body)) (value_good scope calls e) b w
    statement_good (For' head k body) b w =
        for_good head (variable_place scope head.variable w.store) (in_order (pieces scope body)) (in_order_good (pieces scope body) (pieces_good body)) b w

    pieces_good : {k : _} (row : Row_of-TypedStatement k) → EachGood (pieces scope row)
    pieces_good end_of-TypedStatement = tt
    pieces_good (more_of-TypedStatement s rest) = (statement_good s, pieces_good rest)

    guarded_good : {k : _} (row : Row_of-Branch k) → GuardsGood (guarded scope row)
    guarded_good end_of-Branch = tt
    guarded_good (more_of-Branch e k body rest) = (value_good scope calls e, in_order_good (pieces scope body) (pieces_good body), guarded_good rest)

    arms_good : {k : _} (row : Row_of-CaseArm k) → ArmsGood (arms_of scope row)
    arms_good end_of-CaseArm = tt
    arms_good (more_of-CaseArm labels k body rest) = (in_order_good (pieces scope body) (pieces_good body), arms_good rest)

  each_statement : (statements : List TypedStatement) → EachGood (map (stat_meaning scope) statements)
  each_statement [] = tt
  each_statement (s ∷ rest) = (statement_good s, each_statement rest)

  pub list_good : (statements : List TypedStatement) → Good (list_meaning scope statements)
  list_good statements = in_order_good (map (stat_meaning scope) statements) (each_statement statements)
