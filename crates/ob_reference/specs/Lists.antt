-- What the lists in trees mean, one by one.
use Rattle.std.specs.Prelude.{ℕ, ℤ, List, [], ◌∷◌, map}
use Rattle.ob_mean.specs.declared.expression.TypedExpr.{TypedExpr}
use Rattle.ob_mean.specs.declared.expression.Operation.{Operation}
use Rattle.ob_mean.specs.declared.expression.Argument.{Argument}
use Rattle.ob_mean.specs.declared.expression.Callee.{Callee}
use Rattle.ob_mean.specs.Arithmetic.{apply}
use Rattle.ob_mean.specs.Runs.{Goes, Piece, and_then}
use Rattle.ob_mean.specs.Expressions.{Scope, value_of, argument_of, passed, only, computed}

abbrev pub value_pieces : Scope → List TypedExpr → List (Piece ℤ)
value_pieces scope [] = []
value_pieces scope (e ∷ es) = value_of scope e ∷ value_pieces scope es

abbrev pub operation_pieces : Scope → List Operation → List (ℤ → Piece ℤ)
operation_pieces scope [] = []
operation_pieces scope (o ∷ os) =
    (λ x n w. and_then (value_of scope o.operand n w) (λ y n1 w1. computed scope (apply o.operator x y) o.line n1 w1)) ∷ operation_pieces scope os

-- a function's value, with what is passed
abbrev pub called : Scope → Callee → ℕ → List Argument → Piece ℤ
called scope f line args n w =
    and_then (passed (map (argument_of scope) args) n w) (λ a n1 w1. and_then (scope.call f a line n1 w1) (λ vs n2 w2. Goes (only vs) n2 w2))
