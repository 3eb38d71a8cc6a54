-- What the rules of assignments and calls give fits.
use Rattle.std.proofs.Common.{◌≡◌, ℕ, zero, suc, length, Bool, true, false, not, ◌&&◌, List, [], ◌∷◌, Option, Some, None, is_some, is_none, refl, sym, ap, ◌∙◌, subst}
use Rattle.ob_tree.specs.declared.tree.Expr.{Expr}
use Rattle.ob_tree.specs.declared.tree.Designator.{Designator as Written, out-Designator}
use Rattle.ob_tree.specs.FirstToken.{first_of}
use Rattle.ob_types.specs.declared.exports.Formal.{Formal}
use Rattle.ob_types.specs.declared.exports.Signature.{Signature}
use Rattle.ob_types.specs.declared.exports.FormalKind.{FormalKind}
use Rattle.ob_types.specs.declared.exports.FormalKind.TheVariants as kind
use Rattle.ob_types.specs.declared.structure.Basic.{Basic}
use Rattle.ob_types.specs.declared.structure.Basic.TheVariants as basic
use Rattle.ob_types.specs.declared.structure.ObType.{ObType, end_of-ObType, more_of-ObType, out-ObType}
use Rattle.ob_types.specs.declared.structure.ObType.TheVariants.{Basic as OfBasic, Array', Open', Array, Open, Record}
use Rattle.ob_types.specs.declared.structure.ObType.TheBlock as block
use Rattle.ob_types.specs.Types.{is_char, string_assignable}
use Rattle.ob_mean.specs.declared.expression.Argument.{Argument}
use Rattle.ob_mean.specs.declared.expression.Argument.TheVariants as argument
use Rattle.ob_mean.specs.declared.expression.Callee.{Callee}
use Rattle.ob_mean.specs.declared.expression.Designator.{Designator}
use Rattle.ob_mean.specs.declared.expression.TypedExpr.{TypedExpr}
use Rattle.ob_mean.specs.declared.module.Parameter.TheVariants as parameter
use Rattle.ob_mean.specs.declared.shape.Shape.TheVariants as shape
use Rattle.ob_mean.specs.declared.statement.Action.{Action}
use Rattle.ob_mean.specs.declared.statement.Action.TheVariants as action
use Rattle.ob_mean.specs.declared.statement.Adjustment.{Adjustment}
use Rattle.ob_mean.specs.declared.statement.Adjustment.TheVariants as adjustment
use Rattle.ob_mean.specs.declared.statement.InputCall.TheVariants as incoming
use Rattle.ob_mean.specs.declared.statement.OutputCall.TheVariants as outgoing
use Rattle.ob_mean.specs.declared.statement.Reader.{Reader}
use Rattle.ob_mean.specs.declared.statement.Reader.TheVariants as reader
use Rattle.ob_mean.specs.WellFormed.{Names, IsBasic, IsText, IsRead, object_of, called}
use Rattle.ob_check_scope.specs.declared.predeclared.InputName.{InputName}
use Rattle.ob_check_scope.specs.declared.predeclared.InputName.TheVariants as in_name
use Rattle.ob_check_scope.specs.declared.predeclared.OutputName.{OutputName}
use Rattle.ob_check_scope.specs.declared.predeclared.OutputName.TheVariants as out_name
use Rattle.ob_check_scope.specs.declared.predeclared.ProperProcedure.{ProperProcedure}
use Rattle.ob_check_scope.specs.declared.predeclared.ProperProcedure.TheVariants as procedure
use Rattle.ob_check_scope.specs.declared.scope.Scope.{Scope}
use Rattle.ob_check_scope.specs.Imports.{Modules}
use Rattle.ob_check_scope.specs.declared.rule.RuleCode.TheVariants as code
use Rattle.ob_check_scope.specs.Rule.{gives}
use Rattle.ob_check_operand.specs.declared.operand.Operand.{Operand}
use Rattle.ob_check_operand.specs.declared.operand.Operand.TheVariants as operand
use Rattle.ob_check_operand.specs.Operands.{Variables}
use Rattle.ob_check_operand.specs.Named.{Callable}
use Rattle.ob_check_operand.specs.Selecting.{part_as}
use Rattle.ob_check_operand.specs.Named as meaning
use Rattle.ob_check_stmt.specs.Assignments.{basic_of, is_open, structured_assigned, assigned, assignment}
use Rattle.ob_check_stmt.specs.Calls.{call_with, procedure_call, call_of, call}
use Rattle.ob_check_stmt.specs.StandardCalls.{value_formal, variable_formal, reader_formal, place_passed, value_passed, none_left, without_actuals, number_inside, truth_inside, place_at, scalar_at, read_call, in_call, out_char, out_string, out_width, out_int, out_call, adjusted_by, adjusted, asserted, predeclared_call}
use Rattle.ob_check_kinds.specs.Shapes.{shape_of, parameters_of}
use Rattle.ob_check_kinds.proofs.ShapeForms.{parameter_open}
use Rattle.ob_check_laws.specs.Fitting.{Suits, OperandFits, ScopeFits, StartsWith, heading_of}
use Rattle.ob_check_laws.proofs.Bases.{part_fits}
use Rattle.ob_check_laws.proofs.Expressions.{at_fits, target_at_fits, passed_fits, actuals_fit, value_for_fits, number_at_fits, truth_at_fits}
use Rattle.ob_check_laws.proofs.Read.{CallableFits, called_fits}
use Rattle.ob_check_laws.proofs.Rules.{there_is}
use Rattle.ob_check_laws.proofs.Suiting.{never, nothing, closed_suits, elements_suit, char_basic}
use Rattle.ob_check_laws.specs.Formed.{ExprFits, IndexesFit, IsPassed, ActionFits}

-- an action, where the variables begin with these
abbrev pub ActionIs : Names → Variables → Action × Variables → Type 0
ActionIs names vs p = StartsWith names.variables p.1 → ActionFits names p.0 × StartsWith names.variables vs

-- the action with the variables that there were
same_variables : (names : Names) (vs : Variables) (a : Action) (p : Action × Variables) → (a, vs) ≡ p → ActionFits names a → ActionIs names vs p
same_variables names vs a p e h t = (subst (λ x. ActionFits names x.0) e h, subst (λ x. StartsWith names.variables x.1) (sym e) t)

-- ---- assignments

left_of : (a b : Bool) → (a && b) ≡ true → a ≡ true
left_of true b h = refl
left_of false b h = never h

-- an array of CHAR, or a character
text_assigned : (names : Names) (t : ObType) (d : Designator) (n : ℕ) → basic_of t ≡ None → string_assignable t n ≡ true → Suits t (object_of names d) → IsText (object_of names d)
unfolding block.hidden-the_row-ObType-0 denote.Hole.Carrier.hidden block.shown-the_row-ObType-0 denote.Hole.Carrier.shown out-ObType denote.Hole.Carrier.out
text_assigned names (OfBasic b) d n e h g = nothing b (sym e)
text_assigned names (Array' m p (more_of-ObType x end_of-ObType)) d n e h g =
    elements_suit (Array m x) x (object_of names d) refl g ∙ ap Some (char_basic x (left_of (is_char x) _ h))
text_assigned names (Open' p (more_of-ObType x end_of-ObType)) d n e h g = elements_suit (Open x) x (object_of names d) refl g ∙ ap Some (char_basic x h)
text_assigned names (Record r) d n e h g = never h

closed_target : (b : Bool) → not b ≡ true → b ≡ false
closed_target true h = never h
closed_target false h = refl

structured_fits : (names : Names) (t : ObType) (to : Designator) (line : ℕ) (v : Operand) (a : Action) → basic_of t ≡ None → gives (structured_assigned t to line v) a → IndexesFit names to → Suits t (object_of names to) → OperandFits names v → ActionFits names a
unfolding structured_assigned
structured_fits names t to line (operand.Text chars) a e h g s k =
    subst (ActionFits names) h.1 (g, text_assigned names t to (length chars) e h.0 s)
structured_fits names t to line (operand.Place u from) a e h g s k =
    let o = closed_target (is_open t) h.1.0 in
    let p = h.1.1 in
    let f = part_fits names t u from p.0 (there_is (part_as t u from) code.Types p.0 p.1) k.0 k.1 in
    subst (ActionFits names) p.2 (
      g,
      f.0,
      (
        shape_of t,
        closed_suits t (object_of names to) o s,
        closed_suits t (object_of names p.0) o f.1,
      ),
    )
structured_fits names t to line (operand.Value b x) a e h g s k = absurd h

module _ (ms : Modules) (names : Names) (s : Scope) (scope : ScopeFits ms names s) (n : ℕ) where
  assigned_fits : (b : Option Basic) (t : ObType) (to : Designator) (vs : Variables) (e : Expr) (p : Action × Variables) → basic_of t ≡ b → gives (assigned ms s n b t to vs e) p → StartsWith names.variables p.1 → (IndexesFit names to → Suits t (object_of names to) → ActionFits names p.0) × StartsWith names.variables vs
  unfolding assigned
  assigned_fits (Some b) t to vs e p o h u =
      let k = value_for_fits ms names s scope n b vs e h.0 h.1 (subst (λ y. StartsWith names.variables y.1) (sym h.2) u) in
      (λ g f. subst (λ y. ActionFits names y.0) h.2 (g, basic_target t b o f, k.0), k.1)
    where
      basic_target : (t : ObType) (b : Basic) → basic_of t ≡ Some b → Suits t (object_of names to) → IsBasic (object_of names to)
      basic_target (OfBasic c) b e f = closed_suits (OfBasic c) (object_of names to) refl f
      basic_target (Array' m q (more_of-ObType x end_of-ObType)) b e f = nothing b e
      basic_target (Open' q (more_of-ObType x end_of-ObType)) b e f = nothing b e
      basic_target (Record r) b e f = nothing b e
  assigned_fits None t to vs e p o h u =
      let a = h.2 in
      let k = at_fits ms names s scope n vs e h.0 h.1 (subst (λ y. StartsWith names.variables y.1) (sym a.2) u) in
      (λ g f. subst (λ y. ActionFits names y.0) a.2 (structured_fits names t to (first_of e).line h.0.0 a.0 o a.1 g f k.0), k.1)

  pub assignment_fits : (vs : Variables) (d : Written) (e : Expr) (p : Action × Variables) → gives (assignment ms s n vs d e) p → ActionIs names vs p
  unfolding assignment
  assignment_fits vs d e p h u =
      let k = assigned_fits (basic_of h.0.0) h.0.0 h.0.1 h.0.2 e p refl h.2 u in
      let t = target_at_fits ms names s scope n vs d h.0 h.1 k.1 in
      (k.0 t.0 t.1, t.2)

-- ---- what is passed to standard procedures

basic_place : (names : Names) (a : Argument) (d : Designator) → gives (place_passed a) d → IsPassed names a (parameter.Place shape.Basic) → IndexesFit names d × IsBasic (object_of names d)
unfolding place_passed
basic_place names (argument.Place e) d h g = subst (λ x. IndexesFit names x × IsBasic (object_of names x)) h g
basic_place names (argument.Open e) d h g = absurd g
basic_place names (argument.Value e) d h g = absurd h
basic_place names (argument.Typed e kind levels) d h g = absurd h
basic_place names (argument.Again e levels) d h g = absurd h

text_place : (names : Names) (a : Argument) (d : Designator) → gives (place_passed a) d → IsPassed names a (parameter.Open shape.Basic) → IndexesFit names d × IsText (object_of names d)
unfolding place_passed
text_place names (argument.Place e) d h g = absurd g
text_place names (argument.Open e) d h g = subst (λ x. IndexesFit names x × IsText (object_of names x)) h g
text_place names (argument.Value e) d h g = absurd h
text_place names (argument.Typed e kind levels) d h g = absurd h
text_place names (argument.Again e levels) d h g = absurd h

passed_value : (names : Names) (a : Argument) (x : TypedExpr) → gives (value_passed a) x → IsPassed names a parameter.Value → ExprFits names x
unfolding value_passed
passed_value names (argument.Value e) x h g = subst (ExprFits names) h g
passed_value names (argument.Place e) x h g = absurd h
passed_value names (argument.Open e) x h g = absurd h
passed_value names (argument.Typed e kind levels) x h g = absurd h
passed_value names (argument.Again e levels) x h g = absurd h

module _ (ms : Modules) (names : Names) (s : Scope) (scope : ScopeFits ms names s) (n : ℕ) where
  basic_at : (vs : Variables) (b : Basic) (e : Expr) (p : Designator × Variables) → gives (place_at ms s n vs (variable_formal b) e) p → StartsWith names.variables p.1 → (IndexesFit names p.0 × IsBasic (object_of names p.0)) × StartsWith names.variables vs
  unfolding place_at
  basic_at vs b e p h t =
      let d = h.2 in
      let k = passed_fits ms names s scope n (variable_formal b) vs e h.0 h.1 (subst (λ y. StartsWith names.variables y.1) (sym d.2) t) in
      (subst (λ y. IndexesFit names y.0 × IsBasic (object_of names y.0)) d.2 (basic_place names h.0.0 d.0 d.1 k.0), k.1)

  text_at : (vs : Variables) (k : FormalKind) (e : Expr) (p : Designator × Variables) → gives (place_at ms s n vs (record { kind = k; of = Open (OfBasic basic.Char) }) e) p → StartsWith names.variables p.1 → (IndexesFit names p.0 × IsText (object_of names p.0)) × StartsWith names.variables vs
  unfolding place_at
  text_at vs k e p h t =
      let d = h.2 in
      let f = passed_fits ms names s scope n (record { kind = k; of = Open (OfBasic basic.Char) }) vs e h.0 h.1 (subst (λ y. StartsWith names.variables y.1) (sym d.2) t) in
      (subst (λ y. IndexesFit names y.0 × IsText (object_of names y.0)) d.2 (text_place names h.0.0 d.0 d.1 (subst (IsPassed names h.0.0) (parameter_open k (OfBasic basic.Char)) f.0)), f.1)

  scalar_fits : (vs : Variables) (b : Basic) (e : Expr) (p : TypedExpr × Variables) → gives (scalar_at ms s n vs b e) p → StartsWith names.variables p.1 → ExprFits names p.0 × StartsWith names.variables vs
  unfolding scalar_at
  scalar_fits vs b e p h t =
      let x = h.2 in
      let k = passed_fits ms names s scope n (value_formal b) vs e h.0 h.1 (subst (λ y. StartsWith names.variables y.1) (sym x.2) t) in
      (subst (λ y. ExprFits names y.0) x.2 (passed_value names h.0.0 x.0 x.1 k.0), k.1)

  -- ---- In

  reader_fits : (r : Reader) (vs : Variables) (e : Expr) (p : Designator × Variables) → gives (place_at ms s n vs (reader_formal r) e) p → StartsWith names.variables p.1 → (IndexesFit names p.0 × IsRead r (object_of names p.0)) × StartsWith names.variables vs
  reader_fits reader.Char vs e p h t = basic_at vs basic.Char e p h t
  reader_fits reader.Int vs e p h t = basic_at vs basic.Integer e p h t
  reader_fits reader.String vs e p h t = text_at vs kind.Variable e p h t
  reader_fits reader.Name vs e p h t = text_at vs kind.Variable e p h t

  -- what is done, where no actual parameter is left
  none_left_fits : (a : Action) (vs : Variables) (es : List Expr) (p : Action × Variables) → gives (none_left a vs es) p → StartsWith names.variables p.1 → (ActionFits names a → ActionFits names p.0) × StartsWith names.variables vs
  unfolding none_left
  none_left_fits a vs [] p h t = (λ g. subst (λ y. ActionFits names y.0) h g, subst (λ y. StartsWith names.variables y.1) (sym h) t)
  none_left_fits a vs (e ∷ es) p h t = absurd h

  without_fits : (a : Action) (vs : Variables) (es : Option (List Expr)) (p : Action × Variables) → ActionFits names a → gives (without_actuals a vs es) p → ActionIs names vs p
  unfolding without_actuals
  without_fits a vs None p g h = same_variables names vs a p h g
  without_fits a vs (Some es) p g h = λ t. let k = none_left_fits a vs es p h t in (k.0 g, k.1)

  read_call_fits : (r : Reader) (vs : Variables) (es : Option (List Expr)) (p : Action × Variables) → gives (read_call ms s n r vs es) p → ActionIs names vs p
  unfolding read_call
  read_call_fits r vs (Some (e ∷ es)) p h t =
      let l = none_left_fits (action.Input (incoming.Read r h.0.0)) h.0.1 es p h.2 t in
      let k = reader_fits r vs e h.0 h.1 l.1 in
      (l.0 k.0, k.1)
  read_call_fits r vs None p h t = absurd h
  read_call_fits r vs (Some []) p h t = absurd h

  in_call_fits : (i : InputName) (vs : Variables) (es : Option (List Expr)) (p : Action × Variables) → gives (in_call ms s n i vs es) p → ActionIs names vs p
  unfolding in_call
  in_call_fits in_name.Open vs es p h = without_fits (action.Input incoming.Open) vs es p tt h
  in_call_fits in_name.Char vs es p h = read_call_fits reader.Char vs es p h
  in_call_fits in_name.Int vs es p h = read_call_fits reader.Int vs es p h
  in_call_fits in_name.String vs es p h = read_call_fits reader.String vs es p h
  in_call_fits in_name.Name vs es p h = read_call_fits reader.Name vs es p h
  in_call_fits in_name.Done vs es p h = absurd h
  in_call_fits in_name.Unknown vs es p h = absurd h

  -- ---- Out

  out_char_fits : (vs : Variables) (es : Option (List Expr)) (p : Action × Variables) → gives (out_char ms s n vs es) p → ActionIs names vs p
  unfolding out_char
  out_char_fits vs (Some (e ∷ es)) p h t =
      let l = none_left_fits (action.Output (outgoing.Char h.0.0)) h.0.1 es p h.2 t in
      let k = scalar_fits vs basic.Char e h.0 h.1 l.1 in
      (l.0 k.0, k.1)
  out_char_fits vs None p h t = absurd h
  out_char_fits vs (Some []) p h t = absurd h

  out_string_fits : (vs : Variables) (es : Option (List Expr)) (p : Action × Variables) → gives (out_string ms s n vs es) p → ActionIs names vs p
  unfolding out_string
  out_string_fits vs (Some (e ∷ es)) p h t =
      let l = none_left_fits (action.Output (outgoing.String h.0.0)) h.0.1 es p h.2 t in
      let k = text_at vs kind.Value e h.0 h.1 l.1 in
      (l.0 k.0, k.1)
  out_string_fits vs None p h t = absurd h
  out_string_fits vs (Some []) p h t = absurd h

  width_fits : (x : TypedExpr) (vs : Variables) (es : List Expr) (p : Action × Variables) → gives (out_width ms s n x vs es) p → StartsWith names.variables p.1 → (ExprFits names x → ActionFits names p.0) × StartsWith names.variables vs
  unfolding out_width
  width_fits x vs [] p h t = absurd h
  width_fits x vs (width ∷ es) p h t =
      let l = none_left_fits (action.Output (outgoing.Int x h.0.0)) h.0.1 es p h.2 t in
      let k = scalar_fits vs basic.Integer width h.0 h.1 l.1 in
      (λ g. l.0 (g, k.0), k.1)

  out_int_fits : (vs : Variables) (es : Option (List Expr)) (p : Action × Variables) → gives (out_int ms s n vs es) p → ActionIs names vs p
  unfolding out_int
  out_int_fits vs (Some (e ∷ es)) p h t =
      let k = width_fits h.0.0 h.0.1 es p h.2 t in
      let f = scalar_fits vs basic.Integer e h.0 h.1 k.1 in
      (k.0 f.0, f.1)
  out_int_fits vs None p h t = absurd h
  out_int_fits vs (Some []) p h t = absurd h

  out_call_fits : (o : OutputName) (vs : Variables) (es : Option (List Expr)) (p : Action × Variables) → gives (out_call ms s n o vs es) p → ActionIs names vs p
  unfolding out_call
  out_call_fits out_name.Open vs es p h = without_fits (action.Output outgoing.Open) vs es p tt h
  out_call_fits out_name.Char vs es p h = out_char_fits vs es p h
  out_call_fits out_name.String vs es p h = out_string_fits vs es p h
  out_call_fits out_name.Int vs es p h = out_int_fits vs es p h
  out_call_fits out_name.Ln vs es p h = without_fits (action.Output outgoing.Ln) vs es p tt h
  out_call_fits out_name.Unknown vs es p h = absurd h

  -- ---- INC, DEC and ASSERT

  number_inside_fits : (m : ℕ) (vs : Variables) (e : Expr) (p : TypedExpr × Variables) → gives (number_inside ms s m vs e) p → StartsWith names.variables p.1 → ExprFits names p.0 × StartsWith names.variables vs
  unfolding number_inside
  number_inside_fits zero vs e p h = absurd h
  number_inside_fits (suc m) vs e p h = number_at_fits ms names s scope m vs e p h

  truth_inside_fits : (m : ℕ) (vs : Variables) (e : Expr) (p : TypedExpr × Variables) → gives (truth_inside ms s m vs e) p → StartsWith names.variables p.1 → ExprFits names p.0 × StartsWith names.variables vs
  unfolding truth_inside
  truth_inside_fits zero vs e p h = absurd h
  truth_inside_fits (suc m) vs e p h = truth_at_fits ms names s scope m vs e p h

  adjusted_by_fits : (a : Adjustment) (d : Designator) (vs : Variables) (es : List Expr) (p : Action × Variables) → gives (adjusted_by ms s n a d vs es) p → StartsWith names.variables p.1 → (IndexesFit names d × IsBasic (object_of names d) → ActionFits names p.0) × StartsWith names.variables vs
  unfolding adjusted_by
  adjusted_by_fits a d vs [] p h t = (λ g. subst (λ y. ActionFits names y.0) h (g.0, g.1, tt), subst (λ y. StartsWith names.variables y.1) (sym h) t)
  adjusted_by_fits a d vs (e ∷ es) p h t =
      let l = none_left_fits (action.Adjust a d h.0.0) h.0.1 es p h.2 t in
      let k = number_inside_fits n vs e h.0 h.1 l.1 in
      (λ g. l.0 (g.0, g.1, k.0), k.1)

  adjusted_fits : (a : Adjustment) (vs : Variables) (es : Option (List Expr)) (p : Action × Variables) → gives (adjusted ms s n a vs es) p → ActionIs names vs p
  unfolding adjusted
  adjusted_fits a vs (Some (v ∷ es)) p h t =
      let k = adjusted_by_fits a h.0.0 h.0.1 es p h.2 t in
      let f = basic_at vs basic.Integer v h.0 h.1 k.1 in
      (k.0 f.0, f.1)
  adjusted_fits a vs None p h t = absurd h
  adjusted_fits a vs (Some []) p h t = absurd h

  asserted_fits : (line : ℕ) (vs : Variables) (es : Option (List Expr)) (p : Action × Variables) → gives (asserted ms s n line vs es) p → ActionIs names vs p
  unfolding asserted
  asserted_fits line vs (Some (e ∷ es)) p h t =
      let l = none_left_fits (action.Assert line h.0.0) h.0.1 es p h.2 t in
      let k = truth_inside_fits n vs e h.0 h.1 l.1 in
      (l.0 k.0, k.1)
  asserted_fits line vs None p h t = absurd h
  asserted_fits line vs (Some []) p h t = absurd h

  proper_fits : (q : ProperProcedure) (line : ℕ) (vs : Variables) (es : Option (List Expr)) (p : Action × Variables) → gives (predeclared_call ms s n q line vs es) p → ActionIs names vs p
  unfolding predeclared_call
  proper_fits procedure.Inc line vs es p h = adjusted_fits adjustment.Increase vs es p h
  proper_fits procedure.Dec line vs es p h = adjusted_fits adjustment.Decrease vs es p h
  proper_fits procedure.Assert line vs es p h = asserted_fits line vs es p h

  -- ---- calls

  call_with_fits : (to : Callee) (fs : List Formal) (line : ℕ) (vs : Variables) (es : Option (List Expr)) (p : Action × Variables) → called names to ≡ Some (record { parameters = parameters_of fs; is_function = false }) → gives (call_with ms s n to fs line vs es) p → ActionIs names vs p
  unfolding call_with
  call_with_fits to [] line vs None p c h t = same_variables names vs (action.Call to line []) p h.1 (_, c, refl, tt) t
  call_with_fits to (f ∷ fs) line vs None p c h t = never h.0
  call_with_fits to fs line vs (Some es) p c h t =
      let k = actuals_fit ms names s scope n fs vs es h.0 h.1 (subst (λ y. StartsWith names.variables y.1) (sym h.2) t) in
      (subst (λ y. ActionFits names y.0) h.2 (_, c, refl, k.0), k.1)

  no_result : {A : Type 0} (r : Option A) → is_none r ≡ true → is_some r ≡ false
  no_result None h = refl
  no_result (Some b) h = never h

  procedure_call_fits : (f : Signature) (to : Callee) (line : ℕ) (vs : Variables) (es : Option (List Expr)) (p : Action × Variables) → called names to ≡ Some (heading_of f) → gives (procedure_call ms s n f to line vs es) p → ActionIs names vs p
  unfolding procedure_call
  procedure_call_fits f to line vs es p c h =
      call_with_fits to f.formals line vs es p (c ∙ ap (λ b. Some (record { parameters = parameters_of f.formals; is_function = b })) (no_result f.result h.0)) h.1

  call_of_fits : (c : Callable) (line : ℕ) (vs : Variables) (es : Option (List Expr)) (p : Action × Variables) → CallableFits names c → gives (call_of ms s n c line vs es) p → ActionIs names vs p
  unfolding call_of
  call_of_fits (meaning.Procedure f to) line vs es p c h = procedure_call_fits f to line vs es p c h
  call_of_fits (meaning.Function f) line vs es p c h = absurd h
  call_of_fits (meaning.Proper q) line vs es p c h = proper_fits q line vs es p h
  call_of_fits (meaning.Input i) line vs es p c h = in_call_fits i vs es p h
  call_of_fits (meaning.Output o) line vs es p c h = out_call_fits o vs es p h

  pub call_fits : (vs : Variables) (d : Written) (es : Option (List Expr)) (p : Action × Variables) → gives (call ms s n vs d es) p → ActionIs names vs p
  unfolding call
  call_fits vs d es p h = call_of_fits h.0 (out-Designator d).name.span.line vs es p (called_fits ms names s d h.0 scope h.1) h.2
