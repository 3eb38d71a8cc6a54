-- What a tree means, by its parts and its lists.
use Rattle.std.proofs.Common.{◌≡◌, ℕ, ℤ, List, ◌∷◌, map, refl, ap, ◌∙◌}
use Rattle.ob_mean.specs.declared.operator.UnaryOperator.{UnaryOperator}
use Rattle.ob_mean.specs.declared.expression.TypedExpr.{TypedExpr, Row_of-TypedExpr, end_of-TypedExpr, more_of-TypedExpr}
use Rattle.ob_mean.specs.declared.expression.TypedExpr.TheVariants.{Unary, Chain, Chain', Every, Every', Either, Either', Function, Function'}
use Rattle.ob_mean.specs.declared.expression.Designator.{Designator}
use Rattle.ob_mean.specs.declared.expression.Designator.TheVariants as designator
use Rattle.ob_mean.specs.declared.expression.Operation.{Operation}
use Rattle.ob_mean.specs.declared.expression.Argument.{Argument}
use Rattle.ob_mean.specs.declared.expression.Callee.{Callee}
use Rattle.ob_mean.specs.declared.expression.Argument.TheBlock.{Row_of-Argument, end_of-Argument, more_of-Argument, items-the_row-Argument, Row_of-Operation, end_of-Operation, more_of-Operation, items-the_row-TypedExpr, items-the_row-Operation, items_hidden-the_row-Operation-2, items_hidden-the_row-TypedExpr-3, items_hidden-the_row-Argument-4}
use Rattle.ob_mean.specs.declared.kind.RecordKind.{RecordKind}
use Rattle.ob_mean.specs.RecordTypes.{extends}
use Rattle.ob_mean.specs.Values.{Value, Part, get, count}
use Rattle.ob_mean.specs.Arithmetic.{Gives, apply, apply_one}
use Rattle.ob_mean.specs.Runs.{World, Supply, Goes, and_then}
use Rattle.ob_mean.specs.Expressions.{Scope, value_of, place_of, argument_of, values, arguments, operations, passed, only, chained, every, either, computed, element, index_in, told_of, extension}
use Rattle.ob_reference.specs.Lists.{value_pieces, operation_pieces, called}

pub unary_is : (scope : Scope) (op : UnaryOperator) (line : ℕ) (a : TypedExpr) (n : Supply) (w : World) → value_of scope (Unary op line a) n w ≡ and_then (value_of scope a n w) (λ x n1 w1. computed scope (apply_one op x) line n1 w1)
unfolding Rattle.ob_mean.specs.declared.expression.Argument.TheBlock.hidden-the_row-TypedExpr-1 denote.Hole.Carrier.hidden
unary_is scope op line a n w = refl

row_values : (scope : Scope) (k : _) (row : Row_of-TypedExpr k) → values scope row ≡ value_pieces scope (items-the_row-TypedExpr k row)
row_values scope k end_of-TypedExpr = refl
row_values scope k (more_of-TypedExpr e rest) = ap (λ l. value_of scope e ∷ l) (row_values scope _ rest)

row_operations : (scope : Scope) (k : _) (row : Row_of-Operation k) → operations scope row ≡ operation_pieces scope (items-the_row-Operation k row)
row_operations scope k end_of-Operation = refl
row_operations scope k (more_of-Operation op line e rest) =
    ap (λ l. (λ x n w. and_then (value_of scope e n w) (λ y n1 w1. computed scope (apply op x y) line n1 w1)) ∷ l) (row_operations scope _ rest)

-- the row in an expression
abbrev values_in : TypedExpr → (k : _) × Row_of-TypedExpr k
values_in (Every' k es) = (_, es)
values_in (Either' k es) = (_, es)
values_in _ = (_, end_of-TypedExpr)

abbrev operations_in : TypedExpr → (k : _) × Row_of-Operation k
operations_in (Chain' h a k steps) = (_, steps)
operations_in _ = (_, end_of-Operation)

pub chain_is : (scope : Scope) (a : TypedExpr) (os : List Operation) (n : Supply) (w : World) → value_of scope (Chain a os) n w ≡ and_then (value_of scope a n w) (λ x n1 w1. chained (operation_pieces scope os) x n1 w1)
unfolding Rattle.ob_mean.specs.declared.expression.Argument.TheBlock.hidden-the_row-TypedExpr-1 denote.Hole.Carrier.hidden
chain_is scope a os n w =
    ap (λ l. and_then (value_of scope a n w) (λ x n1 w1. chained l x n1 w1))
    (row_operations scope (operations_in (Chain a os)).0 (operations_in (Chain a os)).1 ∙ ap (operation_pieces scope) (items_hidden-the_row-Operation-2 os))

pub every_is : (scope : Scope) (es : List TypedExpr) (n : Supply) (w : World) → value_of scope (Every es) n w ≡ every (value_pieces scope es) n w
every_is scope es n w =
    ap (λ l. every l n w) (row_values scope (values_in (Every es)).0 (values_in (Every es)).1 ∙ ap (value_pieces scope) (items_hidden-the_row-TypedExpr-3 es))

pub either_is : (scope : Scope) (es : List TypedExpr) (n : Supply) (w : World) → value_of scope (Either es) n w ≡ either (value_pieces scope es) n w
either_is scope es n w =
    ap (λ l. either l n w) (row_values scope (values_in (Either es)).0 (values_in (Either es)).1 ∙ ap (value_pieces scope) (items_hidden-the_row-TypedExpr-3 es))

row_arguments : (scope : Scope) (k : _) (row : Row_of-Argument k) → arguments scope row ≡ map (argument_of scope) (items-the_row-Argument k row)
row_arguments scope k end_of-Argument = refl
row_arguments scope k (more_of-Argument a rest) = ap (λ l. argument_of scope a ∷ l) (row_arguments scope _ rest)

abbrev arguments_in : TypedExpr → (k : _) × Row_of-Argument k
arguments_in (Function' f line k args) = (_, args)
arguments_in _ = (_, end_of-Argument)

pub function_is : (scope : Scope) (f : Callee) (line : ℕ) (args : List Argument) (n : Supply) (w : World) → value_of scope (Function f line args) n w ≡ called scope f line args n w
function_is scope f line args n w =
    ap (λ l. and_then (passed l n w) (λ a n1 w1. and_then (scope.call f a line n1 w1) (λ vs n2 w2. Goes (only vs) n2 w2)))
    (row_arguments scope (arguments_in (Function f line args)).0 (arguments_in (Function f line args)).1 ∙ ap (map (argument_of scope)) (items_hidden-the_row-Argument-4 args))

-- one operator more
pub chain_gives : (scope : Scope) (o : Operation) (os : List Operation) (x y z : ℤ) (n n1 : Supply) (w w1 : World) → value_of scope o.operand n w ≡ Goes y n1 w1 → apply o.operator x y ≡ Gives z → chained (operation_pieces scope (o ∷ os)) x n w ≡ chained (operation_pieces scope os) z n1 w1
chain_gives scope o os x y z n n1 w w1 e f =
    ap (λ r. and_then (and_then r (λ y n1 w1. computed scope (apply o.operator x y) o.line n1 w1)) (λ y n1 w1. chained (operation_pieces scope os) y n1 w1)) e
    ∙ ap (λ c. and_then (computed scope c o.line n1 w1) (λ y n1 w1. chained (operation_pieces scope os) y n1 w1)) f

pub element_is : (scope : Scope) (d : Designator) (line : ℕ) (e : TypedExpr) (n : Supply) (w : World) → place_of scope (designator.Element d line e) n w ≡ and_then (place_of scope d n w) (λ p n1 w1. and_then (value_of scope e n1 w1) (λ i n2 w2. element scope (index_in i (count (get w2.store p))) p line n2 w2))
unfolding Rattle.ob_mean.specs.declared.expression.Argument.TheBlock.hidden-the_row-TypedExpr-1 Rattle.ob_mean.specs.declared.expression.Argument.TheBlock.hidden-the_row-Designator-0 denote.Hole.Carrier.hidden
element_is scope d line e n w = refl

pub field_is : (scope : Scope) (d : Designator) (i : ℕ) (n : Supply) (w : World) → place_of scope (designator.Field d i) n w ≡ and_then (place_of scope d n w) (λ p n1 w1. Goes (Part p i) n1 w1)
unfolding Rattle.ob_mean.specs.declared.expression.Argument.TheBlock.hidden-the_row-Designator-0 denote.Hole.Carrier.hidden
field_is scope d i n w = refl

pub guarded_is : (scope : Scope) (d : Designator) (line : ℕ) (kind : RecordKind) (levels : ℕ) (n : Supply) (w : World) → place_of scope (designator.Guarded d line kind levels) n w ≡ and_then (place_of scope d n w) (λ p n1 w1. extension scope (extends (told_of scope d w1.store) kind.names) levels p line n1 w1)
unfolding Rattle.ob_mean.specs.declared.expression.Argument.TheBlock.hidden-the_row-Designator-0 denote.Hole.Carrier.hidden
guarded_is scope d line kind levels n w = refl

pub told_guarded : (scope : Scope) (d : Designator) (line : ℕ) (kind : RecordKind) (levels : ℕ) (s : Value) → told_of scope (designator.Guarded d line kind levels) s ≡ told_of scope d s
unfolding Rattle.ob_mean.specs.declared.expression.Argument.TheBlock.hidden-the_row-Designator-0 denote.Hole.Carrier.hidden
told_guarded scope d line kind levels s = refl
