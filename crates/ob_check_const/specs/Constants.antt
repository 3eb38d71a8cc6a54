-- To be believed.
-- Constants (Wirth, The Programming Language Oberon, Oberon-07): a literal, a declared constant, or operators and the
-- functions ABS, ODD, LSL, ASR, ROR, ORD, CHR of constants. The number says how many more constructs may nest.
use Rattle.std.specs.Prelude.{ℕ, zero, suc, List, [], ◌∷◌, Bool, true, false, Option, Some, None, is_some}
use Rattle.ob_check_scope.specs.declared.rule.RuleCode.{RuleCode}
use Rattle.ob_check_scope.specs.declared.rule.RuleCode.TheVariants as code
use Rattle.ob_scan.specs.declared.token.Span.{Span}
use Rattle.ob_tree.specs.declared.tree.Sign.{Sign}
use Rattle.ob_tree.specs.declared.tree.Expr.{Expr, out-Expr}
use Rattle.ob_tree.specs.declared.tree.Related.{Related, out-Related}
use Rattle.ob_tree.specs.declared.tree.Relation.{Relation}
use Rattle.ob_tree.specs.declared.tree.Simple.{Simple, out-Simple}
use Rattle.ob_tree.specs.declared.tree.AddedTerm.{AddedTerm, out-AddedTerm}
use Rattle.ob_tree.specs.declared.tree.Term.{Term, out-Term}
use Rattle.ob_tree.specs.declared.tree.NextFactor.{NextFactor, out-NextFactor}
use Rattle.ob_tree.specs.declared.tree.Factor.{Factor, out-Factor}
use Rattle.ob_tree.specs.declared.tree.Designator.{Designator, out-Designator}
use Rattle.ob_tree.specs.declared.tree.Selector.{Selector, out-Selector}
use Rattle.ob_tree.specs.declared.tree.Factor.TheOpen.{Factor-F, Selector-F, Related-F}
use Rattle.ob_types.specs.declared.exports.Constant.{Constant}
use Rattle.ob_types.specs.declared.exports.Object.{Object}
use Rattle.ob_types.specs.declared.exports.Object.TheVariants as object
use Rattle.ob_check_scope.specs.declared.block.Entry.{Entry}
use Rattle.ob_check_scope.specs.declared.block.Entry.TheVariants as entry
use Rattle.ob_check_const.specs.declared.folding.Folded.{Folded}
use Rattle.ob_check_const.specs.declared.folding.Folded.TheVariants as folded
use Rattle.ob_check_scope.specs.declared.predeclared.Function.{Function}
use Rattle.ob_check_scope.specs.declared.predeclared.Function.TheVariants as function
use Rattle.ob_check_scope.specs.declared.predeclared.InputName.{InputName}
use Rattle.ob_check_scope.specs.declared.predeclared.InputName.TheVariants as input
use Rattle.ob_check_scope.specs.declared.predeclared.OutputName.{OutputName}
use Rattle.ob_check_scope.specs.declared.predeclared.OutputName.TheVariants as output
use Rattle.ob_check_scope.specs.declared.predeclared.Predeclared.{Predeclared}
use Rattle.ob_check_scope.specs.declared.predeclared.Predeclared.TheVariants as predeclared
use Rattle.ob_check_scope.specs.declared.scope.Scope.{Scope}
use Rattle.ob_check_scope.specs.Exports.{Modules}
use Rattle.ob_check_scope.specs.Imports.{exported_at}
use Rattle.ob_check_scope.specs.Predeclared.{absent, input_named, output_named, is_input, is_output}
use Rattle.ob_check_scope.specs.Scope.{seen, outer}
use Rattle.ob_check_scope.specs.Rule.{Rule, Given, Breaks, Then, Needs, there, through}
use Rattle.ob_check_const.specs.Folding.{adds, multiplies, relates, sum_of, product_of, sign_of, not_of, relation_of, related_of, takes, is_shift, one_of, two_of, folded_of, constant_of}

abbrev pub FactorLayer : Type 0
FactorLayer = Factor-F Factor Related Selector AddedTerm Designator Expr NextFactor Simple Term

abbrev pub SelectorLayer : Type 0
SelectorLayer = Selector-F Factor Related Selector AddedTerm Designator Expr NextFactor Simple Term

abbrev pub RelatedLayer : Type 0
RelatedLayer = Related-F Factor Related Selector AddedTerm Designator Expr NextFactor Simple Term

-- ---- names

-- what is imported under a name, with selectors after it: no part of a variable is constant
unfoldable pub imported : Object → List Selector → Rule Folded
imported (object.Constant c) [] = Given (folded_of c)
imported (object.Constant c) (x ∷ xs) = Breaks code.Types
imported (object.Variable t) xs = Breaks code.NotConstant
imported (object.TypeName t) xs = Breaks code.Types
imported (object.Procedure s) xs = Breaks code.Types

-- the first selector after the name of a loaded module, and those after it
abbrev pub member_layer : Modules → ℕ → SelectorLayer → List Selector → Rule Folded
member_layer ms place (Selector-F.Field f) xs = Then (there (exported_at ms place f.name) code.NotExported) (λ o. imported o xs)
member_layer ms place (Selector-F.Index indexes) xs = Breaks code.Types
member_layer ms place (Selector-F.Guard q) xs = Breaks code.Types

unfoldable pub member : Modules → ℕ → Selector → List Selector → Rule Folded
member ms place x xs = member_layer ms place (out-Selector x) xs

-- In and Out export no constants
abbrev pub no_input : InputName → RuleCode
no_input input.Unknown = code.NotExported
no_input input.Done = code.NotConstant
no_input _ = code.Types

abbrev pub no_output : OutputName → RuleCode
no_output output.Unknown = code.NotExported
no_output _ = code.Types

abbrev pub input_layer : SelectorLayer → Rule Folded
input_layer (Selector-F.Field f) = Breaks (no_input (input_named f.name))
input_layer (Selector-F.Index indexes) = Breaks code.Types
input_layer (Selector-F.Guard q) = Breaks code.Types

unfoldable pub input_member : Selector → Rule Folded
input_member x = input_layer (out-Selector x)

abbrev pub output_layer : SelectorLayer → Rule Folded
output_layer (Selector-F.Field f) = Breaks (no_output (output_named f.name))
output_layer (Selector-F.Index indexes) = Breaks code.Types
output_layer (Selector-F.Guard q) = Breaks code.Types

unfoldable pub output_member : Selector → Rule Folded
output_member x = output_layer (out-Selector x)

-- a declared name with selectors after it
unfoldable pub named : Modules → Entry → List Selector → Rule Folded
named ms (entry.Constant c) [] = Given (folded_of c)
named ms (entry.Variable t standing) selectors = Breaks code.NotConstant
named ms (entry.Module number place) (x ∷ xs) = member ms place x xs
named ms entry.In (x ∷ xs) = input_member x
named ms entry.Out (x ∷ xs) = output_member x
named ms e selectors = Breaks code.Types

unfoldable pub value_named : Modules → Scope → Designator → Rule Folded
value_named ms s d =
    Then (there (seen s (out-Designator d).name.name) (absent (outer s (out-Designator d).name.name))) (λ e.
    named ms e (out-Designator d).selectors)

-- ---- functions

-- what a name that nothing declares is as a function
unfoldable pub function_called : Predeclared → Rule Function
function_called (predeclared.Function f) = Given f
function_called (predeclared.Procedure p) = Breaks code.Parameters
function_called p = Breaks (absent p)

-- what is broken where something of another module is called: that it isn't there, or that no call of it is constant
abbrev pub no_call : Bool → RuleCode
no_call true = code.NotConstant
no_call false = code.NotExported

abbrev pub calls_object : Modules → ℕ → SelectorLayer → RuleCode
calls_object ms place (Selector-F.Field f) = no_call (is_some (exported_at ms place f.name))
calls_object ms place (Selector-F.Index indexes) = code.NotConstant
calls_object ms place (Selector-F.Guard q) = code.NotConstant

abbrev pub calls_input : SelectorLayer → RuleCode
calls_input (Selector-F.Field f) = no_call (is_input (input_named f.name))
calls_input (Selector-F.Index indexes) = code.NotConstant
calls_input (Selector-F.Guard q) = code.NotConstant

abbrev pub calls_output : SelectorLayer → RuleCode
calls_output (Selector-F.Field f) = no_call (is_output (output_named f.name))
calls_output (Selector-F.Index indexes) = code.NotConstant
calls_output (Selector-F.Guard q) = code.NotConstant

-- what is broken where a declared name is called
unfoldable pub entry_called : Modules → Entry → List Selector → RuleCode
entry_called ms (entry.Module number place) (x ∷ xs) = calls_object ms place (out-Selector x)
entry_called ms entry.In (x ∷ xs) = calls_input (out-Selector x)
entry_called ms entry.Out (x ∷ xs) = calls_output (out-Selector x)
entry_called ms e selectors = code.NotConstant

-- the function that a name stands for, where nothing declares it
unfoldable pub function_found : Modules → Option Entry → List Selector → Predeclared → Rule Function
function_found ms (Some e) selectors p = Breaks (entry_called ms e selectors)
function_found ms None [] p = function_called p
function_found ms None (x ∷ xs) p = Breaks (absent p)

abbrev pub function_of : Modules → Scope → Designator → Rule Function
function_of ms s d =
    function_found ms (seen s (out-Designator d).name.name) (out-Designator d).selectors (outer s (out-Designator d).name.name)

-- the actual parameters of a function are judged from left to right, and their number after them
module _ (inner : Expr → Rule Folded) where
  -- after two values nothing may stand
  unfoldable pub two_called : Function → Folded → Folded → List Expr → Rule Folded
  two_called f v w [] = there (two_of f v w) code.Parameters
  two_called f v w (c ∷ cs) = Breaks code.Parameters

  -- after the first value a shift takes another
  unfoldable pub one_called : Function → Folded → List Expr → Rule Folded
  one_called f v [] = there (one_of f v) code.Parameters
  one_called f v (b ∷ bs) = Needs (is_shift f) code.Parameters (Then (inner b) (λ w. two_called f v w bs))

  unfoldable pub called : Function → List Expr → Rule Folded
  called function.Len actuals = Breaks code.NotConstant
  called f [] = Breaks code.Parameters
  called f (a ∷ bs) = Then (inner a) (λ v. Needs (takes f v) code.Parameters (one_called f v bs))

-- ---- expressions

-- a sign before a term
unfoldable pub signed : Option (Sign × Span) → Folded → Rule Folded
signed None v = Given v
signed (Some p) v = there (sign_of p.0 v) code.Types

module _ (inner : Expr → Rule Folded) (deeper : Factor → Rule Folded) (ms : Modules) (s : Scope) where
  abbrev pub factor_layer : FactorLayer → Rule Folded
  factor_layer (Factor-F.Integer n span) = Given (folded.Integer (Some n))
  factor_layer (Factor-F.Text chars span) = Given (folded.Text chars)
  factor_layer (Factor-F.Truth b span) = Given (folded.Boolean (Some b))
  factor_layer (Factor-F.Value d) = value_named ms s d
  factor_layer (Factor-F.Call d actuals) = Then (function_of ms s d) (λ f. called inner f actuals)
  factor_layer (Factor-F.Parens span e) = inner e
  factor_layer (Factor-F.Not span f) = Then (deeper f) (λ v. there (not_of v) code.Types)

  unfoldable pub factor_rule : Factor → Rule Folded
  factor_rule f = factor_layer (out-Factor f)

  -- one factor more: what stands before the operator is judged before what stands after it
  unfoldable pub next_factor : Folded → NextFactor → Rule Folded
  next_factor v x =
      Needs (multiplies (out-NextFactor x).operator v) code.Types (
      Then (factor_rule (out-NextFactor x).factor) (λ w. there (product_of (out-NextFactor x).operator v w) code.Types))

  unfoldable pub term_rule : Term → Rule Folded
  term_rule t = Then (factor_rule (out-Term t).first) (λ v. through next_factor v (out-Term t).others)

  -- one term more
  unfoldable pub added_term : Folded → AddedTerm → Rule Folded
  added_term v x =
      Needs (adds (out-AddedTerm x).operator v) code.Types (
      Then (term_rule (out-AddedTerm x).term) (λ w. there (sum_of (out-AddedTerm x).operator v w) code.Types))

  unfoldable pub simple_rule : Simple → Rule Folded
  simple_rule x =
      Then (term_rule (out-Simple x).first) (λ v.
      Then (signed (out-Simple x).sign v) (λ w. through added_term w (out-Simple x).others))

  -- a relation of what stands before it to another sum
  unfoldable pub relation : Folded → Relation → Simple → Rule Folded
  relation v r x =
      Needs (relates (relation_of r) v) code.Types (
      Then (simple_rule x) (λ w. there (related_of (relation_of r) v w) code.Types))

  -- a test of a type is no constant
  abbrev pub related_layer : Simple → RelatedLayer → Rule Folded
  related_layer x (Related-F.By r span y) = Then (simple_rule x) (λ v. relation v r y)
  related_layer x (Related-F.Is span q) = Breaks code.NotConstant

  unfoldable pub related : Simple → Option Related → Rule Folded
  related x None = simple_rule x
  related x (Some r) = related_layer x (out-Related r)

  unfoldable pub expr_rule : Expr → Rule Folded
  expr_rule e = related (out-Expr e).left (out-Expr e).right

-- what nests in an expression: one that nests deeper has no size
unfoldable mutual
  pub inner_at : Modules → Scope → ℕ → Expr → Rule Folded
  inner_at ms s zero e = Breaks code.Size
  inner_at ms s (suc n) e = expr_rule (inner_at ms s n) (deeper_at ms s n) ms s e

  pub deeper_at : Modules → Scope → ℕ → Factor → Rule Folded
  deeper_at ms s zero f = Breaks code.Size
  deeper_at ms s (suc n) f = factor_rule (inner_at ms s n) (deeper_at ms s n) ms s f

unfoldable pub expr_at : Modules → Scope → ℕ → Expr → Rule Folded
expr_at ms s n e = expr_rule (inner_at ms s n) (deeper_at ms s n) ms s e

-- a constant, whose evaluation doesn't trap
unfoldable pub constant_at : Modules → Scope → ℕ → Expr → Rule Constant
constant_at ms s n e = Then (expr_at ms s n e) (λ v. there (constant_of v) code.NotConstant)
