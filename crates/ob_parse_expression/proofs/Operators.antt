-- The four classes of operators.
use Rattle.std.proofs.Common.{◌≡◌, ◌≤◌, Some, None, refl, ap, arith}
use Rattle.ob_scan.specs.declared.token.Kind.{Kind}
use Rattle.ob_scan.specs.declared.token.Kind.TheVariants as kinds
use Rattle.ob_scan.specs.declared.token.Symbol.TheVariants as s
use Rattle.ob_tree.specs.declared.tree.Sign.{Sign}
use Rattle.ob_tree.specs.declared.tree.Sign.TheVariants as sign
use Rattle.ob_tree.specs.declared.tree.Relation.{Relation}
use Rattle.ob_tree.specs.declared.tree.Relation.TheVariants as relation
use Rattle.ob_tree.specs.declared.tree.AddOperator.{AddOperator}
use Rattle.ob_tree.specs.declared.tree.AddOperator.TheVariants as add
use Rattle.ob_tree.specs.declared.tree.MulOperator.{MulOperator}
use Rattle.ob_tree.specs.declared.tree.MulOperator.TheVariants as mul
use Rattle.ob_tree.specs.Expression.{sign_symbol, relation_symbol, add_symbol, mul_symbol}
use Rattle.ob_parse_expression.specs.ExpressionReading.{sign_of, relation_of, add_of, mul_of}
use Rattle.ob_parse_expression.proofs.OneToken.{IsClass, binding, start_of}

some_is : {A : Type 0} (x y : A) → Some x ≡ Some y → x ≡ y
some_is x y e = cc

sign_back : (k : Kind) (o : Sign) → sign_of k ≡ Some o → k ≡ kinds.Symbol (sign_symbol o)
sign_back (kinds.Symbol s.Plus) o e = ap (λ x. kinds.Symbol (sign_symbol x)) (some_is sign.Plus o e)
sign_back (kinds.Symbol s.Minus) o e = ap (λ x. kinds.Symbol (sign_symbol x)) (some_is sign.Minus o e)
sign_back _ o e = absurd cc

sign_again : (o : Sign) → sign_of (kinds.Symbol (sign_symbol o)) ≡ Some o
sign_again sign.Plus = refl
sign_again sign.Minus = refl

pub signs : IsClass sign_of sign_symbol
signs = record { back = sign_back; again = sign_again }

pub sign_starts : (k : Kind) → 2 ≤ start_of k → sign_of k ≡ None
sign_starts (kinds.Symbol s.Plus) h = absurd (omega arith)
sign_starts (kinds.Symbol s.Minus) h = absurd (omega arith)
sign_starts _ h = refl

relation_back : (k : Kind) (o : Relation) → relation_of k ≡ Some o → k ≡ kinds.Symbol (relation_symbol o)
relation_back (kinds.Symbol s.Equal) o e = ap (λ x. kinds.Symbol (relation_symbol x)) (some_is relation.Equal o e)
relation_back (kinds.Symbol s.NotEqual) o e = ap (λ x. kinds.Symbol (relation_symbol x)) (some_is relation.NotEqual o e)
relation_back (kinds.Symbol s.Less) o e = ap (λ x. kinds.Symbol (relation_symbol x)) (some_is relation.Less o e)
relation_back (kinds.Symbol s.LessEqual) o e = ap (λ x. kinds.Symbol (relation_symbol x)) (some_is relation.LessEqual o e)
relation_back (kinds.Symbol s.Greater) o e = ap (λ x. kinds.Symbol (relation_symbol x)) (some_is relation.Greater o e)
relation_back (kinds.Symbol s.GreaterEqual) o e = ap (λ x. kinds.Symbol (relation_symbol x)) (some_is relation.GreaterEqual o e)
relation_back _ o e = absurd cc

relation_again : (o : Relation) → relation_of (kinds.Symbol (relation_symbol o)) ≡ Some o
relation_again relation.Equal = refl
relation_again relation.NotEqual = refl
relation_again relation.Less = refl
relation_again relation.LessEqual = refl
relation_again relation.Greater = refl
relation_again relation.GreaterEqual = refl

pub relations : IsClass relation_of relation_symbol
relations = record { back = relation_back; again = relation_again }

pub relation_ends : (k : Kind) → binding k ≤ 1 → relation_of k ≡ None
relation_ends (kinds.Symbol s.Equal) h = absurd (omega arith)
relation_ends (kinds.Symbol s.NotEqual) h = absurd (omega arith)
relation_ends (kinds.Symbol s.Less) h = absurd (omega arith)
relation_ends (kinds.Symbol s.LessEqual) h = absurd (omega arith)
relation_ends (kinds.Symbol s.Greater) h = absurd (omega arith)
relation_ends (kinds.Symbol s.GreaterEqual) h = absurd (omega arith)
relation_ends _ h = refl

add_back : (k : Kind) (o : AddOperator) → add_of k ≡ Some o → k ≡ kinds.Symbol (add_symbol o)
add_back (kinds.Symbol s.Plus) o e = ap (λ x. kinds.Symbol (add_symbol x)) (some_is add.Plus o e)
add_back (kinds.Symbol s.Minus) o e = ap (λ x. kinds.Symbol (add_symbol x)) (some_is add.Minus o e)
add_back (kinds.Symbol s.Or) o e = ap (λ x. kinds.Symbol (add_symbol x)) (some_is add.Or o e)
add_back _ o e = absurd cc

add_again : (o : AddOperator) → add_of (kinds.Symbol (add_symbol o)) ≡ Some o
add_again add.Plus = refl
add_again add.Minus = refl
add_again add.Or = refl

pub adds : IsClass add_of add_symbol
adds = record { back = add_back; again = add_again }

pub add_ends : (k : Kind) → binding k ≤ 2 → add_of k ≡ None
add_ends (kinds.Symbol s.Plus) h = absurd (omega arith)
add_ends (kinds.Symbol s.Minus) h = absurd (omega arith)
add_ends (kinds.Symbol s.Or) h = absurd (omega arith)
add_ends _ h = refl

mul_back : (k : Kind) (o : MulOperator) → mul_of k ≡ Some o → k ≡ kinds.Symbol (mul_symbol o)
mul_back (kinds.Symbol s.Times) o e = ap (λ x. kinds.Symbol (mul_symbol x)) (some_is mul.Times o e)
mul_back (kinds.Symbol s.Div) o e = ap (λ x. kinds.Symbol (mul_symbol x)) (some_is mul.Div o e)
mul_back (kinds.Symbol s.Mod) o e = ap (λ x. kinds.Symbol (mul_symbol x)) (some_is mul.Mod o e)
mul_back (kinds.Symbol s.And) o e = ap (λ x. kinds.Symbol (mul_symbol x)) (some_is mul.And o e)
mul_back _ o e = absurd cc

mul_again : (o : MulOperator) → mul_of (kinds.Symbol (mul_symbol o)) ≡ Some o
mul_again mul.Times = refl
mul_again mul.Div = refl
mul_again mul.Mod = refl
mul_again mul.And = refl

pub muls : IsClass mul_of mul_symbol
muls = record { back = mul_back; again = mul_again }

pub mul_ends : (k : Kind) → binding k ≤ 3 → mul_of k ≡ None
mul_ends (kinds.Symbol s.Times) h = absurd (omega arith)
mul_ends (kinds.Symbol s.Div) h = absurd (omega arith)
mul_ends (kinds.Symbol s.Mod) h = absurd (omega arith)
mul_ends (kinds.Symbol s.And) h = absurd (omega arith)
mul_ends _ h = refl

-- the symbols of a class bind alike
pub add_binding : (o : AddOperator) → binding (kinds.Symbol (add_symbol o)) ≤ 3
add_binding add.Plus = omega arith
add_binding add.Minus = omega arith
add_binding add.Or = omega arith

pub mul_binding : (o : MulOperator) → binding (kinds.Symbol (mul_symbol o)) ≤ 4
mul_binding mul.Times = omega arith
mul_binding mul.Div = omega arith
mul_binding mul.Mod = omega arith
mul_binding mul.And = omega arith

pub relation_binding : (o : Relation) → binding (kinds.Symbol (relation_symbol o)) ≤ 2
relation_binding relation.Equal = omega arith
relation_binding relation.NotEqual = omega arith
relation_binding relation.Less = omega arith
relation_binding relation.LessEqual = omega arith
relation_binding relation.Greater = omega arith
relation_binding relation.GreaterEqual = omega arith

pub sign_starts_expr : (o : Sign) → 1 ≤ start_of (kinds.Symbol (sign_symbol o))
sign_starts_expr sign.Plus = omega arith
sign_starts_expr sign.Minus = omega arith
