-- To be believed.
-- Expressions that are a designator alone, or a variable that is guarded (Wirth, The Programming Language Oberon, Oberon-07).
use Rattle.std.specs.Prelude.{List, [], ◌∷◌, Bool, true, false, Option, Some, None, option_map, if◌then◌else◌}
use Rattle.ob_scan.specs.declared.token.Span.{Span}
use Rattle.ob_tree.specs.declared.tree.Sign.{Sign}
use Rattle.ob_tree.specs.declared.tree.Ident.{Ident}
use Rattle.ob_tree.specs.declared.tree.Qualident.{Qualident}
use Rattle.ob_tree.specs.declared.tree.Expr.{Expr, out-Expr}
use Rattle.ob_tree.specs.declared.tree.Related.{Related}
use Rattle.ob_tree.specs.declared.tree.Simple.{Simple, out-Simple}
use Rattle.ob_tree.specs.declared.tree.AddedTerm.{AddedTerm}
use Rattle.ob_tree.specs.declared.tree.Term.{Term, out-Term}
use Rattle.ob_tree.specs.declared.tree.NextFactor.{NextFactor}
use Rattle.ob_tree.specs.declared.tree.Factor.{Factor, out-Factor}
use Rattle.ob_tree.specs.declared.tree.Designator.{Designator as Written, out-Designator}
use Rattle.ob_tree.specs.declared.tree.Selector.{Selector, out-Selector}
use Rattle.ob_tree.specs.declared.tree.Factor.TheOpen.{Factor-F, Selector-F}
use Rattle.ob_check_scope.specs.declared.block.Entry.{Entry}
use Rattle.ob_check_scope.specs.declared.block.Entry.TheVariants as entry
use Rattle.ob_check_scope.specs.declared.scope.Scope.{Scope}
use Rattle.ob_check_scope.specs.Scope.{seen}
use Rattle.ob_check_const.specs.Constants.{FactorLayer, SelectorLayer}
use Rattle.ob_check_const.specs.NamedTypes.{written}
use Rattle.ob_check_operand.specs.Names.{tells}
use Rattle.ob_check_expr.specs.declared.alone.Lone.{Lone}

-- ---- a designator alone

-- the factor that a sum is, without operators
abbrev pub factor_alone : Factor → List NextFactor → Option Factor
factor_alone f [] = Some f
factor_alone f (x ∷ xs) = None

abbrev pub term_alone : Option (Sign × Span) → Term → List AddedTerm → Option Factor
term_alone None t [] = factor_alone (out-Term t).first (out-Term t).others
term_alone None t (x ∷ xs) = None
term_alone (Some p) t xs = None

abbrev pub sum_alone : Simple → Option Factor
sum_alone x = term_alone (out-Simple x).sign (out-Simple x).first (out-Simple x).others

-- the factor that an expression is
abbrev pub simple_alone : Simple → Option Related → Option Factor
simple_alone x None = sum_alone x
simple_alone x (Some r) = None

abbrev pub only_factor : Expr → Option Factor
only_factor e = simple_alone (out-Expr e).left (out-Expr e).right

abbrev pub designator_layer : FactorLayer → Option Written
designator_layer (Factor-F.Integer n span) = None
designator_layer (Factor-F.Text t span) = None
designator_layer (Factor-F.Truth b span) = None
designator_layer (Factor-F.Value d) = Some d
designator_layer (Factor-F.Call d es) = None
designator_layer (Factor-F.Parens span e) = None
designator_layer (Factor-F.Not span f) = None

abbrev pub designator_in : Option Factor → Option Written
designator_in None = None
designator_in (Some f) = designator_layer (out-Factor f)

-- the designator that an expression is, without parentheses or operators
unfoldable pub alone : Expr → Option Written
alone e = designator_in (only_factor e)

-- ---- a variable alone, which may be guarded

-- A variable that is written alone, and the name of the type in a guard behind it that is read as actual parameters: a name in
-- parentheses is a guard where `.`, `[`, `(` or `:=` stands after it, and a list of actual parameters otherwise.
abbrev pub LoneVariable : Type 0
LoneVariable = Written × Option Qualident

-- what the code has of it
abbrev pub lone : Lone → LoneVariable
lone x = (x.variable.now, option_map written x.guard)

-- the name of a type that a designator can be
abbrev pub name_with : Ident → SelectorLayer → Option Qualident
name_with first (Selector-F.Field f) = Some (record { first = first; second = Some f })
name_with first (Selector-F.Index es) = None
name_with first (Selector-F.Guard q) = None

abbrev pub name_of : Ident → List Selector → Option Qualident
name_of first [] = Some (record { first = first; second = None })
name_of first (x ∷ []) = name_with first (out-Selector x)
name_of first (x ∷ y ∷ ys) = None

abbrev pub name_in : Option Written → Option Qualident
name_in None = None
name_in (Some d) = name_of (out-Designator d).name (out-Designator d).selectors

-- and the only one of some actual parameters
abbrev pub only_name : List Expr → Option Qualident
only_name [] = None
only_name (e ∷ []) = name_in (alone e)
only_name (e ∷ f ∷ fs) = None

-- whether a name stands for a VAR parameter
abbrev pub is_told : Option Entry → Bool
is_told (Some (entry.Variable t v)) = tells v
is_told _ = false

-- the name of the type, where what looks like a call is a guard: of a VAR parameter
unfoldable pub guard_in : Scope → Written → List Expr → Option Qualident
guard_in s d es = if is_told (seen s (out-Designator d).name.name) then only_name es else None

abbrev pub lone_layer : Scope → FactorLayer → Option LoneVariable
lone_layer s (Factor-F.Integer n span) = None
lone_layer s (Factor-F.Text t span) = None
lone_layer s (Factor-F.Truth b span) = None
lone_layer s (Factor-F.Value d) = Some (d, None)
lone_layer s (Factor-F.Call d es) = option_map (λ q. (d, Some q)) (guard_in s d es)
lone_layer s (Factor-F.Parens span e) = None
lone_layer s (Factor-F.Not span f) = None

abbrev pub lone_in : Scope → Option Factor → Option LoneVariable
lone_in s None = None
lone_in s (Some f) = lone_layer s (out-Factor f)

-- the variable that an expression is, without parentheses or operators, and the one that a sum is
unfoldable pub lone_variable : Scope → Expr → Option LoneVariable
lone_variable s e = lone_in s (only_factor e)

unfoldable pub lone_sum : Scope → Simple → Option LoneVariable
lone_sum s x = lone_in s (sum_alone x)
