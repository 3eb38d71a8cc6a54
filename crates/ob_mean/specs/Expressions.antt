-- To be believed.
-- Expressions, variables and what is passed, from left to right (Wirth, The Programming Language Oberon, Oberon-07).
use Rattle.std.specs.Prelude.{ℕ, ℤ, pos, negsuc, Bool, true, false, List, [], ◌∷◌, Option, Some, None, nat_lt, if◌then◌else◌, slice_index}
use Rattle.ob_mean.specs.declared.expression.Variable.{Variable}
use Rattle.ob_mean.specs.declared.expression.Variable.TheVariants as variable
use Rattle.ob_mean.specs.declared.expression.Callee.{Callee}
use Rattle.ob_mean.specs.declared.expression.TypedExpr.{TypedExpr, Row_of-TypedExpr, end_of-TypedExpr, more_of-TypedExpr}
use Rattle.ob_mean.specs.declared.expression.TypedExpr.TheVariants.{Constant, Read, InputDone, Unary', Chain', Every', Either', Texts, Length, Function', Test}
use Rattle.ob_mean.specs.declared.expression.Designator.{Designator, end_of-Designator, more_of-Designator}
use Rattle.ob_mean.specs.declared.expression.Designator.TheVariants as designator
use Rattle.ob_mean.specs.declared.expression.Argument.{Argument}
use Rattle.ob_mean.specs.declared.expression.Argument.TheVariants as argument
use Rattle.ob_mean.specs.declared.expression.Argument.TheBlock.{Row_of-Argument, end_of-Argument, more_of-Argument, Row_of-Operation, end_of-Operation, more_of-Operation}
use Rattle.ob_mean.specs.declared.outcome.Outcome.TheVariants.{Trapped}
use Rattle.ob_mean.specs.declared.outcome.TrapKind.{TrapKind}
use Rattle.ob_mean.specs.declared.outcome.TrapKind.TheVariants as trap
use Rattle.ob_mean.specs.Values.{Place, Whole, Part, Value, Cell, Named, Open, Nothing, Beside, count, get, number, named, told, down, up}
use Rattle.ob_mean.specs.RecordTypes.{TypeNames, extends}
use Rattle.ob_mean.specs.Texts.{text_of}
use Rattle.ob_mean.specs.Arithmetic.{Computed, Gives, Faults, truth, apply, apply_one, texts_relate}
use Rattle.ob_mean.specs.Runs.{Goes, Stands, Piece, and_then, choose}

-- What the names of a text mean while it runs.
pub record Scope : Type 0 where
  -- the number of its module, and those of the modules that it imports
  pub home : ℕ
  pub imports : List ℕ
  -- the number of the running call's part of the store
  pub frame : ℕ
  -- what a call does, with what is passed, in a line: it gives no value or one
  pub call : Callee → Value → ℕ → Piece (List ℤ)

-- a trap in a line of the running text
abbrev pub traps : {A : Type 0} → Scope → TrapKind → ℕ → Piece A
traps scope kind line n w = Stands (Trapped kind scope.home line) n w

-- a computed number, or the trap in this line
abbrev pub computed : Scope → Computed → ℕ → Piece ℤ
computed scope (Gives v) line n w = Goes v n w
computed scope (Faults kind) line n w = traps scope kind line n w

-- ---- sequences of pieces

-- each step has the value of what is before it
abbrev pub chained : List (ℤ → Piece ℤ) → ℤ → Piece ℤ
chained [] x n w = Goes x n w
chained (step ∷ steps) x n w = and_then (step x n w) (λ y n1 w1. chained steps y n1 w1)

-- FALSE at the first that is FALSE; what stands after it isn't evaluated
abbrev pub every : List (Piece ℤ) → Piece ℤ
every [] n w = Goes (pos 1) n w
every (e ∷ es) n w = and_then (e n w) (λ v n1 w1. choose v (Goes (pos 0) n1 w1) (every es n1 w1))

-- TRUE at the first that is TRUE; what stands after it isn't evaluated
abbrev pub either : List (Piece ℤ) → Piece ℤ
either [] n w = Goes (pos 0) n w
either (e ∷ es) n w = and_then (e n w) (λ v n1 w1. choose v (either es n1 w1) (Goes (pos 1) n1 w1))

-- values beside one another
abbrev pub passed : List (Piece Value) → Piece Value
passed [] n w = Goes Nothing n w
passed (a ∷ rest) n w = and_then (a n w) (λ v n1 w1. and_then (passed rest n1 w1) (λ vs n2 w2. Goes (Beside v vs) n2 w2))

-- ---- places

-- a variable: a parameter that names a place is that place
abbrev pub variable_place : Scope → Variable → Value → Place
variable_place scope (variable.OfModule x) s = Part (Part Whole scope.home) x
variable_place scope (variable.OfImport i x) s = Part (Part Whole (slice_index scope.imports i)) x
variable_place scope (variable.OfProcedure x) s = Part (Part Whole scope.frame) x
variable_place scope (variable.ByParameter x) s = named (get s (Part (Part Whole scope.frame) x))

-- an index of so many elements
abbrev pub index_in : ℤ → ℕ → Option ℕ
index_in (pos i) length = if nat_lt i length then Some i else None
index_in (negsuc i) length = None

-- the element of a place, or the trap in this line
abbrev pub element : Scope → Option ℕ → Place → ℕ → Piece Place
element scope (Some i) p line n w = Goes (Part p i) n w
element scope None p line n w = traps scope trap.Index line n w

-- ---- record types

-- the record type that is told of what a VAR parameter names
abbrev pub told_variable : Scope → Variable → Value → TypeNames
told_variable scope (variable.OfModule x) s = []
told_variable scope (variable.OfImport i x) s = []
told_variable scope (variable.OfProcedure x) s = []
told_variable scope (variable.ByParameter x) s = told (get s (Part (Part Whole scope.frame) x))

-- and guarded it is the same
abbrev pub told_of : Scope → Designator → Value → TypeNames
told_of scope (designator.Whole v) s = told_variable scope v s
told_of scope (designator.Element' g d line h row) s = []
told_of scope (designator.Field' h d i) s = []
told_of scope (designator.Guarded' h (more_of-Designator d end_of-Designator) line kind levels) s = told_of scope d s

-- the record so many levels up of which a place is the base part, or the trap in this line
abbrev pub extension : Scope → Bool → ℕ → Place → ℕ → Piece Place
extension scope true levels p line n w = Goes (up levels p) n w
extension scope false levels p line n w = traps scope trap.Guard line n w

-- ---- expressions

-- the value of a function
abbrev pub only : List ℤ → ℤ
only [] = pos 0
only (v ∷ vs) = v

abbrev mutual
  pub value_of : Scope → TypedExpr → Piece ℤ
  value_of scope (Constant v) n w = Goes v n w
  value_of scope (Read d) n w = and_then (place_of scope d n w) (λ p n1 w1. Goes (number (get w1.store p)) n1 w1)
  value_of scope InputDone n w = Goes (truth w.input.done) n w
  value_of scope (Unary' op line h (more_of-TypedExpr a end_of-TypedExpr)) n w =
      and_then (value_of scope a n w) (λ x n1 w1. computed scope (apply_one op x) line n1 w1)
  value_of scope (Chain' h (more_of-TypedExpr a end_of-TypedExpr) k steps) n w =
      and_then (value_of scope a n w) (λ x n1 w1. chained (operations scope steps) x n1 w1)
  value_of scope (Every' k es) n w = every (values scope es) n w
  value_of scope (Either' k es) n w = either (values scope es) n w
  value_of scope (Texts relation a b) n w =
      and_then (place_of scope a n w) (λ p n1 w1. and_then (place_of scope b n1 w1) (λ q n2 w2.
      Goes (truth (texts_relate relation (text_of (get w2.store p)) (text_of (get w2.store q)))) n2 w2))
  value_of scope (Length d) n w = and_then (place_of scope d n w) (λ p n1 w1. Goes (pos (count (get w1.store p))) n1 w1)
  value_of scope (Function' f line k args) n w =
      and_then (passed (arguments scope args) n w) (λ a n1 w1. and_then (scope.call f a line n1 w1) (λ vs n2 w2. Goes (only vs) n2 w2))
  value_of scope (Test d names) n w =
      and_then (place_of scope d n w) (λ p n1 w1. Goes (truth (extends (told_of scope d w1.store) names)) n1 w1)

  pub place_of : Scope → Designator → Piece Place
  place_of scope (designator.Whole v) n w = Goes (variable_place scope v w.store) n w
  place_of scope (designator.Element' g (more_of-Designator d end_of-Designator) line h (more_of-TypedExpr e end_of-TypedExpr)) n w =
      and_then (place_of scope d n w) (λ p n1 w1. and_then (value_of scope e n1 w1) (λ i n2 w2.
      element scope (index_in i (count (get w2.store p))) p line n2 w2))
  place_of scope (designator.Field' h (more_of-Designator d end_of-Designator) i) n w =
      and_then (place_of scope d n w) (λ p n1 w1. Goes (Part p i) n1 w1)
  place_of scope (designator.Guarded' h (more_of-Designator d end_of-Designator) line kind levels) n w =
      and_then (place_of scope d n w) (λ p n1 w1.
      extension scope (extends (told_of scope d w1.store) kind.names) levels p line n1 w1)

  -- a value, or the place that is named
  pub argument_of : Scope → Argument → Piece Value
  argument_of scope (argument.Value e) n w = and_then (value_of scope e n w) (λ v n1 w1. Goes (Cell v) n1 w1)
  argument_of scope (argument.Place d) n w = and_then (place_of scope d n w) (λ p n1 w1. Goes (Named p []) n1 w1)
  argument_of scope (argument.Open d) n w = and_then (place_of scope d n w) (λ p n1 w1. Goes (Open p (count (get w1.store p))) n1 w1)
  argument_of scope (argument.Typed d kind levels) n w =
      and_then (place_of scope d n w) (λ p n1 w1. Goes (Named (down levels p) kind.names) n1 w1)
  argument_of scope (argument.Again d levels) n w =
      and_then (place_of scope d n w) (λ p n1 w1. Goes (Named (down levels p) (told_of scope d w1.store)) n1 w1)

  pub values : Scope → {k : _} → Row_of-TypedExpr k → List (Piece ℤ)
  values scope end_of-TypedExpr = []
  values scope (more_of-TypedExpr e rest) = value_of scope e ∷ values scope rest

  pub arguments : Scope → {k : _} → Row_of-Argument k → List (Piece Value)
  arguments scope end_of-Argument = []
  arguments scope (more_of-Argument a rest) = argument_of scope a ∷ arguments scope rest

  -- an operator and its second operand: the first is known, and then the second is evaluated
  pub operations : Scope → {k : _} → Row_of-Operation k → List (ℤ → Piece ℤ)
  operations scope end_of-Operation = []
  operations scope (more_of-Operation op line e rest) =
      (λ x n w. and_then (value_of scope e n w) (λ y n1 w1. computed scope (apply op x y) line n1 w1)) ∷ operations scope rest
