-- To be believed.
-- Statements (Wirth, The Programming Language Oberon, Oberon-07; In and Out after the Oakwood Guidelines).
use Rattle.std.specs.Prelude.{ℕ, ℤ, pos, negsuc, ◌+ℤ◌, ◌-ℤ◌, int_le, nat_lt, if◌then◌else◌, length, map, Bool, List, [], ◌∷◌, Option, Some, None}
use Rattle.ob_inout.specs.Reading.{opened}
use Rattle.ob_inout.specs.Writing.{int_text, char_text, string_text, line_end}
use Rattle.ob_mean.specs.declared.statement.Action.{Action}
use Rattle.ob_mean.specs.declared.statement.Action.TheVariants.{Assign, Copy, AssignText, Adjust, Assert, Call, Input, Output}
use Rattle.ob_mean.specs.declared.statement.Adjustment.{Adjustment}
use Rattle.ob_mean.specs.declared.statement.Adjustment.TheVariants.{Increase, Decrease}
use Rattle.ob_mean.specs.declared.statement.InputCall.{InputCall}
use Rattle.ob_mean.specs.declared.statement.InputCall.TheVariants as incoming
use Rattle.ob_mean.specs.declared.statement.OutputCall.{OutputCall}
use Rattle.ob_mean.specs.declared.statement.OutputCall.TheVariants as outgoing
use Rattle.ob_mean.specs.declared.statement.ForHead.{ForHead}
use Rattle.ob_mean.specs.declared.statement.TypedStatement.{TypedStatement, Row_of-TypedStatement, end_of-TypedStatement, more_of-TypedStatement}
use Rattle.ob_mean.specs.declared.statement.TypedStatement.TheBlock.{Row_of-Branch, end_of-Branch, more_of-Branch, Row_of-CaseArm, end_of-CaseArm, more_of-CaseArm}
use Rattle.ob_mean.specs.declared.statement.TypedStatement.TheVariants.{Simple, If', Case', While', Repeat', For'}
use Rattle.ob_mean.specs.declared.outcome.TrapKind.TheVariants as trap
use Rattle.ob_mean.specs.declared.outcome.TurnKind.TheVariants as kind
use Rattle.ob_mean.specs.Values.{Place, Cell, count, get, number}
use Rattle.ob_mean.specs.Texts.{character, characters, text_row}
use Rattle.ob_mean.specs.Arithmetic.{truth, wrap}
use Rattle.ob_mean.specs.Runs.{Goes, Done, done, Piece, and_then, turn, choose, stored, write, with_input}
use Rattle.ob_mean.specs.Input.{finds, reading, kept}
use Rattle.ob_mean.specs.Expressions.{Scope, traps, variable_place, value_of, place_of, argument_of, passed}
use Rattle.ob_mean.specs.Control.{in_order, Guarded, chosen, looping, repeating, Arm, arm_for}

-- ---- statements without others in them

-- a string for an array that is longer: 0X fills the rest
abbrev pub text_stored : Scope → Place → ℕ → List ℕ → Piece Done
text_stored scope p line text n w =
    if nat_lt (length text) (count (get w.store p)) then Goes done n (stored w p (text_row (count (get w.store p)) text))
    else traps scope trap.TextLength line n w

-- INC and DEC
abbrev pub adjusted : Adjustment → ℤ → ℤ → ℤ
adjusted Increase x y = wrap (x +ℤ y)
adjusted Decrease x y = wrap (x -ℤ y)

-- a call of In is a turn, after its arguments
abbrev pub input_meaning : Scope → InputCall → Piece Done
input_meaning scope incoming.Open n w = turn kind.Input n w (λ n1. Goes done n1 (with_input w opened))
input_meaning scope (incoming.Read reader d) n w =
    and_then (place_of scope d n w) (λ p n1 w1. turn kind.Input n1 w1 (λ n2.
    and_then (reading (finds reader (get w1.store p)) n2.turns n2.lines w1) (λ v n3 w3. Goes done n3 (kept w3 p v))))

-- a call of Out is a turn, after its arguments
abbrev pub output_meaning : Scope → OutputCall → Piece Done
output_meaning scope outgoing.Open n w = turn kind.Output n w (λ n1. Goes done n1 w)
output_meaning scope (outgoing.Char e) n w =
    and_then (value_of scope e n w) (λ c n1 w1. turn kind.Output n1 w1 (λ n2. Goes done n2 (write w1 (char_text (character c)))))
output_meaning scope (outgoing.String d) n w =
    and_then (place_of scope d n w) (λ p n1 w1. turn kind.Output n1 w1 (λ n2.
    Goes done n2 (write w1 (string_text (characters (get w1.store p))))))
output_meaning scope (outgoing.Int e width) n w =
    and_then (value_of scope e n w) (λ v n1 w1. and_then (value_of scope width n1 w1) (λ k n2 w2. turn kind.Output n2 w2 (λ n3.
    Goes done n3 (write w2 (int_text v k)))))
output_meaning scope outgoing.Ln n w = turn kind.Output n w (λ n1. Goes done n1 (write w line_end))

-- the designator first, then the value
abbrev pub action_meaning : Scope → Action → Piece Done
action_meaning scope (Assign d e) n w =
    and_then (place_of scope d n w) (λ p n1 w1. and_then (value_of scope e n1 w1) (λ v n2 w2. Goes done n2 (stored w2 p (Cell v))))
action_meaning scope (Copy d e) n w =
    and_then (place_of scope d n w) (λ p n1 w1. and_then (place_of scope e n1 w1) (λ q n2 w2.
    Goes done n2 (stored w2 p (get w2.store q))))
action_meaning scope (AssignText d line text) n w =
    and_then (place_of scope d n w) (λ p n1 w1. text_stored scope p line text n1 w1)
action_meaning scope (Adjust a d e) n w =
    and_then (place_of scope d n w) (λ p n1 w1. and_then (value_of scope e n1 w1) (λ v n2 w2.
    Goes done n2 (stored w2 p (Cell (adjusted a (number (get w2.store p)) v)))))
action_meaning scope (Assert line e) n w =
    and_then (value_of scope e n w) (λ v n1 w1. choose v (traps scope trap.Assertion line n1 w1) (Goes done n1 w1))
action_meaning scope (Call p line args) n w =
    and_then (passed (map (argument_of scope) args) n w) (λ a n1 w1. and_then (scope.call p a line n1 w1) (λ vs n2 w2. Goes done n2 w2))
action_meaning scope (Input call) n w = input_meaning scope call n w
action_meaning scope (Output call) n w = output_meaning scope call n w

-- ---- FOR: v := first, then as long as v is not past last, the body and v := v + step

abbrev pub not_past : ℤ → ℤ → ℤ → Bool
not_past (pos step) v last = int_le v last
not_past (negsuc step) v last = int_le last v

-- last is evaluated at each test
abbrev pub for_guard : Scope → ForHead → Place → Piece ℤ
for_guard scope head p n w =
    and_then (value_of scope head.last n w) (λ last n1 w1. Goes (truth (not_past head.step (number (get w.store p)) last)) n1 w1)

abbrev pub for_body : ForHead → Place → Piece Done → Piece Done
for_body head p body n w =
    and_then (body n w) (λ _ n1 w1. Goes done n1 (stored w1 p (Cell (wrap (number (get w1.store p) +ℤ head.step)))))

abbrev pub for_loop : Scope → ForHead → Place → Piece Done → Piece Done
for_loop scope head p body n w =
    and_then (value_of scope head.first n w) (λ v n1 w1.
    looping (record { guard = for_guard scope head p; body = for_body head p body } ∷ []) n1.turns n1 (stored w1 p (Cell v)))

-- ---- all statements

-- the arm that was found, or the trap in the line of CASE
abbrev pub case_body : Scope → ℕ → Option (Piece Done) → Piece Done
case_body scope line None n w = traps scope trap.Label line n w
case_body scope line (Some body) n w = body n w

abbrev mutual
  pub stat_meaning : Scope → TypedStatement → Piece Done
  stat_meaning scope (Simple action) n w = action_meaning scope action n w
  stat_meaning scope (If' k bs m rest) n w = chosen (guarded scope bs) (in_order (pieces scope rest)) n w
  stat_meaning scope (Case' line e k arms) n w =
      and_then (value_of scope e n w) (λ v n1 w1. case_body scope line (arm_for (arms_of scope arms) v) n1 w1)
  stat_meaning scope (While' k bs) n w = looping (guarded scope bs) n.turns n w
  stat_meaning scope (Repeat' k body e) n w = repeating (in_order (pieces scope body)) (value_of scope e) n.turns n w
  stat_meaning scope (For' head k body) n w =
      for_loop scope head (variable_place scope head.variable w.store) (in_order (pieces scope body)) n w

  pub pieces : Scope → {k : _} → Row_of-TypedStatement k → List (Piece Done)
  pieces scope end_of-TypedStatement = []
  pieces scope (more_of-TypedStatement s rest) = stat_meaning scope s ∷ pieces scope rest

  pub guarded : Scope → {k : _} → Row_of-Branch k → List Guarded
  guarded scope end_of-Branch = []
  guarded scope (more_of-Branch e k body rest) =
      record { guard = value_of scope e; body = in_order (pieces scope body) } ∷ guarded scope rest

  pub arms_of : Scope → {k : _} → Row_of-CaseArm k → List Arm
  arms_of scope end_of-CaseArm = []
  arms_of scope (more_of-CaseArm labels k body rest) =
      record { labels = labels; body = in_order (pieces scope body) } ∷ arms_of scope rest

-- statements that follow each other
abbrev pub list_meaning : Scope → List TypedStatement → Piece Done
list_meaning scope statements = in_order (map (stat_meaning scope) statements)
