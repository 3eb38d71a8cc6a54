-- Expressions, variables and what is passed.
use Rattle.std.proofs.Common.{ℕ, ℤ, pos, Bool, true, false, List, [], ◌∷◌, Option, Some, None, refl}
use Rattle.ob_mean.specs.declared.expression.Callee.{Callee}
use Rattle.ob_mean.specs.declared.expression.TypedExpr.{TypedExpr, Row_of-TypedExpr, end_of-TypedExpr, more_of-TypedExpr}
use Rattle.ob_mean.specs.declared.expression.TypedExpr.TheVariants.{Constant, Read, InputDone, Unary', Chain', Every', Either', Texts, Length, Function', Test}
use Rattle.ob_mean.specs.declared.expression.Designator.{Designator, end_of-Designator, more_of-Designator}
use Rattle.ob_mean.specs.declared.expression.Designator.TheVariants as designator
use Rattle.ob_mean.specs.declared.expression.Argument.{Argument}
use Rattle.ob_mean.specs.declared.expression.Argument.TheVariants as argument
use Rattle.ob_mean.specs.declared.expression.Argument.TheBlock.{Row_of-Argument, end_of-Argument, more_of-Argument, Row_of-Operation, end_of-Operation, more_of-Operation}
use Rattle.ob_mean.specs.declared.outcome.Outcome.TheVariants.{Trapped}
use Rattle.ob_mean.specs.declared.outcome.TrapKind.{TrapKind}
use Rattle.ob_mean.specs.Values.{Place, Part, Value, Nothing}
use Rattle.ob_mean.specs.Arithmetic.{Computed, Gives, Faults}
use Rattle.ob_mean.specs.Runs.{Piece}
use Rattle.ob_mean.specs.Expressions.{Scope, traps, computed, chained, every, either, passed, element, extension, value_of, place_of, argument_of, values, arguments, operations}
use Rattle.ob_session.proofs.Courses.{Sound, Good, goes_at, stands_at, bind_at, choose_at}
use Rattle.ob_session.proofs.Control.{EachGood}

pub traps_at : {A : Type 0} (b : ℕ) (scope : Scope) (kind : TrapKind) (line : ℕ) → Sound {A = A} b (traps scope kind line)
traps_at b scope kind line w = stands_at b w.written (Trapped kind scope.home line) w tt refl

computed_good : (scope : Scope) (c : Computed) (line : ℕ) → Good (computed scope c line)
computed_good scope (Gives v) line b w = goes_at b w.written v w refl
computed_good scope (Faults kind) line b w = traps_at b scope kind line w

element_good : (scope : Scope) (i : Option ℕ) (p : Place) (line : ℕ) → Good (element scope i p line)
element_good scope (Some i) p line b w = goes_at b w.written (Part p i) w refl
element_good scope None p line b w = traps_at b scope _ line w

extension_good : (scope : Scope) (told : Bool) (levels : ℕ) (p : Place) (line : ℕ) → Good (extension scope told levels p line)
extension_good scope true levels p line b w = goes_at b w.written _ w refl
extension_good scope false levels p line b w = traps_at b scope _ line w

abbrev StepsGood : List (ℤ → Piece ℤ) → Type 0
StepsGood [] = Unit {0}
StepsGood (step ∷ steps) = ((x : ℤ) → Good (step x)) × StepsGood steps

chained_good : (steps : List (ℤ → Piece ℤ)) → StepsGood steps → (x : ℤ) → Good (chained steps x)
chained_good [] h x b w = goes_at b w.written x w refl
chained_good (step ∷ steps) h x b w = bind_at (h.0 x b w) (λ y w1. chained_good steps h.1 y b w1)

every_good : (es : List (Piece ℤ)) → EachGood es → Good (every es)
every_good [] h b w = goes_at b w.written (pos 1) w refl
every_good (e ∷ es) h b w = bind_at (h.0 b w) (λ v w1. choose_at v (goes_at b w1.written (pos 0) w1 refl) (every_good es h.1 b w1))

either_good : (es : List (Piece ℤ)) → EachGood es → Good (either es)
either_good [] h b w = goes_at b w.written (pos 0) w refl
either_good (e ∷ es) h b w = bind_at (h.0 b w) (λ v w1. choose_at v (either_good es h.1 b w1) (goes_at b w1.written (pos 1) w1 refl))

pub passed_good : (es : List (Piece Value)) → EachGood es → Good (passed es)
passed_good [] h b w = goes_at b w.written Nothing w refl
passed_good (e ∷ es) h b w = bind_at (h.0 b w) (λ v w1. bind_at (passed_good es h.1 b w1) (λ vs w2. goes_at b w2.written _ w2 refl))

module _ (scope : Scope) (calls : (f : Callee) (a : Value) (line : ℕ) → Good (scope.call f a line)) where
  mutual
    pub value_good : (e : TypedExpr) → Good (value_of scope e)
    value_good (Constant v) b w = goes_at b w.written v w refl
    value_good (Read d) b w = bind_at (place_good d b w) (λ p w1. goes_at b w1.written _ w1 refl)
    value_good InputDone b w = goes_at b w.written _ w refl
    value_good (Unary' op line h (more_of-TypedExpr a end_of-TypedExpr)) b w =
        bind_at (value_good a b w) (λ x w1. computed_good scope _ line b w1)
    value_good (Chain' h (more_of-TypedExpr a end_of-TypedExpr) k steps) b w =
        bind_at (value_good a b w) (λ x w1. chained_good (operations scope steps) (operations_good steps) x b w1)
    value_good (Every' k es) b w = every_good (values scope es) (values_good es) b w
    value_good (Either' k es) b w = either_good (values scope es) (values_good es) b w
    value_good (Texts relation a c) b w =
        bind_at (place_good a b w) (λ p w1. bind_at (place_good c b w1) (λ q w2. goes_at b w2.written _ w2 refl))
    value_good (Length d) b w = bind_at (place_good d b w) (λ p w1. goes_at b w1.written _ w1 refl)
    value_good (Function' f line k args) b w =
        bind_at (passed_good (arguments scope args) (arguments_good args) b w) (λ a w1. bind_at (calls f a line b w1) (λ vs w2. goes_at b w2.written _ w2 refl))
    value_good (Test d names) b w = bind_at (place_good d b w) (λ p w1. goes_at b w1.written _ w1 refl)

    pub place_good : (d : Designator) → Good (place_of scope d)
    place_good (designator.Whole v) b w = goes_at b w.written _ w refl
    place_good (designator.Element' g (more_of-Designator d end_of-Designator) line h (more_of-TypedExpr e end_of-TypedExpr)) b w =
        bind_at (place_good d b w) (λ p w1. bind_at (value_good e b w1) (λ i w2. element_good scope _ p line b w2))
    place_good (designator.Field' h (more_of-Designator d end_of-Designator) i) b w =
        bind_at (place_good d b w) (λ p w1. goes_at b w1.written _ w1 refl)
    place_good (designator.Guarded' h (more_of-Designator d end_of-Designator) line kind levels) b w =
        bind_at (place_good d b w) (λ p w1. extension_good scope _ levels p line b w1)

    pub argument_good : (a : Argument) → Good (argument_of scope a)
    argument_good (argument.Value e) b w = bind_at (value_good e b w) (λ v w1. goes_at b w1.written _ w1 refl)
    argument_good (argument.Place d) b w = bind_at (place_good d b w) (λ p w1. goes_at b w1.written _ w1 refl)
    argument_good (argument.Open d) b w = bind_at (place_good d b w) (λ p w1. goes_at b w1.written _ w1 refl)
    argument_good (argument.Typed d kind levels) b w = bind_at (place_good d b w) (λ p w1. goes_at b w1.written _ w1 refl)
    argument_good (argument.Again d levels) b w = bind_at (place_good d b w) (λ p w1. goes_at b w1.written _ w1 refl)

    values_good : {k : _} (es : Row_of-TypedExpr k) → EachGood (values scope es)
    values_good end_of-TypedExpr = tt
    values_good (more_of-TypedExpr e rest) = (value_good e, values_good rest)

    arguments_good : {k : _} (es : Row_of-Argument k) → EachGood (arguments scope es)
    arguments_good end_of-Argument = tt
    arguments_good (more_of-Argument a rest) = (argument_good a, arguments_good rest)

    operations_good : {k : _} (es : Row_of-Operation k) → StepsGood (operations scope es)
    operations_good end_of-Operation = tt
    operations_good (more_of-Operation op line e rest) =
        (λ x b w. bind_at (value_good e b w) (λ y w1. computed_good scope _ line b w1), operations_good rest)
