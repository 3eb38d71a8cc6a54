use Rattle.std.proofs.Common.{◌≡◌, ◌+◌, ◌*◌, [], drop}
use Rattle.ob_check_scope.specs.Rule.{answer, through}
use Rattle.ob_check_expr.specs.Expressions as spec
use Rattle.ob_check_expr.proofs.expression.+expression.Given as goal

abbrev pub decreases-nested : goal.decreases-nested
decreases-nested l = 33 * l.site.levels + 0

abbrev pub decreases-deeper : goal.decreases-deeper
decreases-deeper l = 33 * l.site.levels + 1

abbrev pub decreases-element : goal.decreases-element
decreases-element l = 33 * l.site.levels + 2

abbrev pub decreases-elements : goal.decreases-elements
decreases-elements l = 33 * l.site.levels + 3

abbrev pub decreases-next_selected : goal.decreases-next_selected
decreases-next_selected l = 33 * l.site.levels + 4

abbrev pub decreases-selected : goal.decreases-selected
decreases-selected l = 33 * l.site.levels + 5

abbrev pub decreases-variable_named : goal.decreases-variable_named
decreases-variable_named l = 33 * l.site.levels + 6

abbrev pub decreases-value_named : goal.decreases-value_named
decreases-value_named l = 33 * l.site.levels + 7

abbrev pub decreases-lone_read : goal.decreases-lone_read
decreases-lone_read l = 33 * l.site.levels + 8

abbrev pub decreases-actual : goal.decreases-actual
decreases-actual l = 33 * l.site.levels + 9

abbrev pub decreases-next_passed : goal.decreases-next_passed
decreases-next_passed l = 33 * l.site.levels + 10

abbrev pub decreases-passed_in_turn : goal.decreases-passed_in_turn
decreases-passed_in_turn l = 33 * l.site.levels + 11

abbrev pub decreases-all_passed : goal.decreases-all_passed
decreases-all_passed l = 33 * l.site.levels + 12

abbrev pub decreases-function_call : goal.decreases-function_call
decreases-function_call l = 33 * l.site.levels + 13

abbrev pub decreases-one_taken : goal.decreases-one_taken
decreases-one_taken l = 33 * l.site.levels + 14

abbrev pub decreases-predeclared_call : goal.decreases-predeclared_call
decreases-predeclared_call l = 33 * l.site.levels + 15

abbrev pub decreases-call : goal.decreases-call
decreases-call l = 33 * l.site.levels + 16

abbrev pub decreases-call_or_guard : goal.decreases-call_or_guard
decreases-call_or_guard l = 33 * l.site.levels + 17

abbrev pub decreases-factor : goal.decreases-factor
decreases-factor l = 33 * l.site.levels + 18

abbrev pub decreases-next_factor : goal.decreases-next_factor
decreases-next_factor l = 33 * l.site.levels + 19

abbrev pub decreases-next_factors : goal.decreases-next_factors
decreases-next_factors l = 33 * l.site.levels + 20

abbrev pub decreases-term : goal.decreases-term
decreases-term l = 33 * l.site.levels + 21

abbrev pub decreases-added_term : goal.decreases-added_term
decreases-added_term l = 33 * l.site.levels + 22

abbrev pub decreases-added_terms : goal.decreases-added_terms
decreases-added_terms l = 33 * l.site.levels + 23

abbrev pub decreases-simple : goal.decreases-simple
decreases-simple l = 33 * l.site.levels + 24

abbrev pub decreases-relation : goal.decreases-relation
decreases-relation l = 33 * l.site.levels + 25

abbrev pub decreases-test : goal.decreases-test
decreases-test l = 33 * l.site.levels + 26

abbrev pub decreases-expr : goal.decreases-expr
decreases-expr l = 33 * l.site.levels + 27

abbrev pub decreases-target : goal.decreases-target
decreases-target l = 33 * l.site.levels + 28

abbrev pub decreases-lone_written : goal.decreases-lone_written
decreases-lone_written l = 33 * l.site.levels + 29

abbrev pub decreases-value_actual : goal.decreases-value_actual
decreases-value_actual l = 33 * l.site.levels + 30

abbrev pub decreases-variable_actual : goal.decreases-variable_actual
decreases-variable_actual l = 33 * l.site.levels + 31

abbrev pub decreases-actual_of_kind : goal.decreases-actual_of_kind
decreases-actual_of_kind l = 33 * l.site.levels + 32

abbrev pub invariant-added_terms-loop-x : goal.invariant-added_terms-loop-x
invariant-added_terms-loop-x l = answer (through (spec.added_term_at l.site.imports.now l.site.scope.now l.site.levels) (l.fn.first, l.fn.variables) l.others) ≡ answer (through (spec.added_term_at l.site.imports.now l.site.scope.now l.site.levels) (l.so_far.0, l.so_far.1) (drop l.x-index l.others))

abbrev pub invariant-next_factors-loop-x : goal.invariant-next_factors-loop-x
invariant-next_factors-loop-x l = answer (through (spec.next_factor_at l.site.imports.now l.site.scope.now l.site.levels) (l.fn.first, l.fn.variables) l.others) ≡ answer (through (spec.next_factor_at l.site.imports.now l.site.scope.now l.site.levels) (l.so_far.0, l.so_far.1) (drop l.x-index l.others))

abbrev pub invariant-selected-loop-selector : goal.invariant-selected-loop-selector
invariant-selected-loop-selector l = answer (through (spec.selected_at l.site.imports.now l.site.scope.now l.site.levels) l.fn.whole l.selectors) ≡ answer (through (spec.selected_at l.site.imports.now l.site.scope.now l.site.levels) l.so_far (drop l.selector-index l.selectors))

abbrev pub invariant-elements-loop-e : goal.invariant-elements-loop-e
invariant-elements-loop-e l = answer (through (spec.indexed_at l.site.imports.now l.site.scope.now l.site.levels) l.fn.at l.indexes) ≡ answer (through (spec.indexed_at l.site.imports.now l.site.scope.now l.site.levels) l.so_far (drop l.e-index l.indexes))

abbrev pub invariant-passed_in_turn-loop-e : goal.invariant-passed_in_turn-loop-e
invariant-passed_in_turn-loop-e l = answer (through (spec.next_passed_at l.site.imports.now l.site.scope.now l.site.levels) ([], l.fn.variables, l.formals) l.actuals) ≡ answer (through (spec.next_passed_at l.site.imports.now l.site.scope.now l.site.levels) (l.so_far.0, l.so_far.1, l.so_far.2.now) (drop l.e-index l.actuals))
