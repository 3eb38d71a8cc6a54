-- To be believed.
-- Assignments (Wirth, The Programming Language Oberon, Oberon-07): what may be assigned to a variable, and the typed tree.
use Rattle.std.specs.Prelude.{ℕ, length, Bool, true, false, not, ◌&&◌, ◌||◌, Option, Some, None}
use Rattle.ob_check_scope.specs.declared.rule.RuleCode.TheVariants as code
use Rattle.ob_tree.specs.declared.tree.Designator.{Designator}
use Rattle.ob_tree.specs.declared.tree.Expr.{Expr}
use Rattle.ob_tree.specs.FirstToken.{first_of}
use Rattle.ob_types.specs.declared.structure.Basic.{Basic}
use Rattle.ob_types.specs.declared.structure.ObType.{ObType}
use Rattle.ob_types.specs.declared.structure.ObType.TheVariants.{Basic as OfBasic, Array', Open'}
use Rattle.ob_types.specs.Types.{string_assignable}
use Rattle.ob_mean.specs.declared.expression.Designator.{Designator as Place}
use Rattle.ob_mean.specs.declared.statement.Action.{Action}
use Rattle.ob_mean.specs.declared.statement.Action.TheVariants as action
use Rattle.ob_check_scope.specs.Imports.{Modules}
use Rattle.ob_check_scope.specs.Rule.{Rule, Given, Breaks, Then, Needs, there}
use Rattle.ob_check_scope.specs.declared.scope.Scope.{Scope}
use Rattle.ob_check_operand.specs.declared.operand.Operand.{Operand}
use Rattle.ob_check_operand.specs.declared.operand.Operand.TheVariants as operand
use Rattle.ob_check_expr.specs.Expressions.{expr_at, value_for_at, target_at}
use Rattle.ob_check_operand.specs.Operands.{Variables}
use Rattle.ob_check_operand.specs.Selecting.{part_as}

-- the basic type that a type is
abbrev pub basic_of : ObType → Option Basic
basic_of (OfBasic b) = Some b
basic_of t = None

abbrev pub is_open : ObType → Bool
is_open (Open' p element) = true
is_open t = false

abbrev pub is_array : ObType → Bool
is_array (Array' size p element) = true
is_array (Open' p element) = true
is_array t = false

-- two arrays of which either is open are not assigned in this language
abbrev pub is_left_out_copy : ObType → ObType → Bool
is_left_out_copy t u = is_array t && is_array u && (is_open t || is_open u)

-- What is assigned to a variable of structured type: a value of the same type, or a string in this line. Of an extension the part
-- is assigned that is of the variable's type.
unfoldable pub structured_assigned : ObType → Place → ℕ → Operand → Rule Action
structured_assigned t to line (operand.Text chars) =
    Needs (string_assignable t (length chars)) code.Types (Given (action.AssignText to line chars))
structured_assigned t to line (operand.Place u from) =
    Needs (not (is_left_out_copy t u)) code.LeftOut (
    Needs (not (is_open t)) code.Types (
    Then (there (part_as t u from) code.Types) (λ part. Given (action.Copy to part))))
structured_assigned t to line (operand.Value b e) = Breaks code.Types

module _ (ms : Modules) (s : Scope) (n : ℕ) where
  -- a value for a variable that is of basic type, or of none
  unfoldable pub assigned : Option Basic → ObType → Place → Variables → Expr → Rule (Action × Variables)
  assigned (Some b) t to variables e = Then (value_for_at ms s n b variables e) (λ p. Given (action.Assign to p.0, p.1))
  assigned None t to variables e =
      Then (expr_at ms s n variables e) (λ p. Then (structured_assigned t to (first_of e).line p.0) (λ a. Given (a, p.1)))

  -- the variable first, and then the value
  unfoldable pub assignment : Variables → Designator → Expr → Rule (Action × Variables)
  assignment variables d e = Then (target_at ms s n variables d) (λ p. assigned (basic_of p.0) p.0 p.1 p.2 e)
