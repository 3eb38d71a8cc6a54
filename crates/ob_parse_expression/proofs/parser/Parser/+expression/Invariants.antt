use Rattle.std.proofs.Common.{◌≤◌, length, ◌+◌, ◌*◌}
use Rattle.ob_parse_expression.specs.ExpressionReading as spec
use Rattle.ob_parse_expression.specs.ExpressionReading.{inner, inner_factor}
use Rattle.ob_parse_expression.proofs.Loop.{Looped}
use Rattle.ob_parse_expression.proofs.parser.Parser.+expression.Given as goal

abbrev pub decreases-actuals : goal.decreases-actuals
decreases-actuals l = 16 * l.levels + 0

abbrev pub decreases-selector : goal.decreases-selector
decreases-selector l = 16 * l.levels + 0

abbrev pub decreases-parens : goal.decreases-parens
decreases-parens l = 16 * l.levels + 0

abbrev pub decreases-negated : goal.decreases-negated
decreases-negated l = 16 * l.levels + 0

abbrev pub decreases-selectors : goal.decreases-selectors
decreases-selectors l = 16 * l.levels + 1

abbrev pub decreases-designator : goal.decreases-designator
decreases-designator l = 16 * l.levels + 2

abbrev pub decreases-value_or_call : goal.decreases-value_or_call
decreases-value_or_call l = 16 * l.levels + 3

abbrev pub decreases-factor : goal.decreases-factor
decreases-factor l = 16 * l.levels + 4

abbrev pub decreases-next_factor : goal.decreases-next_factor
decreases-next_factor l = 16 * l.levels + 5

abbrev pub decreases-next_factors : goal.decreases-next_factors
decreases-next_factors l = 16 * l.levels + 6

abbrev pub decreases-term : goal.decreases-term
decreases-term l = 16 * l.levels + 7

abbrev pub decreases-added_term : goal.decreases-added_term
decreases-added_term l = 16 * l.levels + 8

abbrev pub decreases-added_terms : goal.decreases-added_terms
decreases-added_terms l = 16 * l.levels + 9

abbrev pub decreases-simple : goal.decreases-simple
decreases-simple l = 16 * l.levels + 10

abbrev pub decreases-related : goal.decreases-related
decreases-related l = 16 * l.levels + 11

abbrev pub decreases-expr : goal.decreases-expr
decreases-expr l = 16 * l.levels + 12

abbrev pub decreases-boxed_expr : goal.decreases-boxed_expr
decreases-boxed_expr l = 16 * l.levels + 13

abbrev pub decreases-next_expr : goal.decreases-next_expr
decreases-next_expr l = 16 * l.levels + 14

abbrev pub decreases-exprs : goal.decreases-exprs
decreases-exprs l = 16 * l.levels + 15

abbrev pub invariant-added_terms-loop-items : goal.invariant-added_terms-loop-items
invariant-added_terms-loop-items l = record {
  read : Looped (spec.added_term l.levels (inner l.levels) (inner_factor l.levels)) l.items l.self.rest.now l.initial.items l.initial.self.rest.now;
  shorter : length l.self.rest.now ≤ length l.initial.self.rest.now;
}

abbrev pub decreases-added_terms-loop-items : goal.decreases-added_terms-loop-items
decreases-added_terms-loop-items l = length l.self.rest.now

abbrev pub invariant-next_factors-loop-items : goal.invariant-next_factors-loop-items
invariant-next_factors-loop-items l = record {
  read : Looped (spec.next_factor l.levels (inner l.levels) (inner_factor l.levels)) l.items l.self.rest.now l.initial.items l.initial.self.rest.now;
  shorter : length l.self.rest.now ≤ length l.initial.self.rest.now;
}

abbrev pub decreases-next_factors-loop-items : goal.decreases-next_factors-loop-items
decreases-next_factors-loop-items l = length l.self.rest.now

abbrev pub invariant-selectors-loop-items : goal.invariant-selectors-loop-items
invariant-selectors-loop-items l = record {
  read : Looped (spec.selector l.levels (inner l.levels)) l.items l.self.rest.now l.initial.items l.initial.self.rest.now;
  shorter : length l.self.rest.now ≤ length l.initial.self.rest.now;
}

abbrev pub decreases-selectors-loop-items : goal.decreases-selectors-loop-items
decreases-selectors-loop-items l = length l.self.rest.now

abbrev pub invariant-exprs-loop-exprs : goal.invariant-exprs-loop-exprs
invariant-exprs-loop-exprs l = record {
  read : Looped (spec.next_expr (spec.expr l.levels)) l.exprs l.self.rest.now l.initial.exprs l.initial.self.rest.now;
  shorter : length l.self.rest.now ≤ length l.initial.self.rest.now;
}

abbrev pub decreases-exprs-loop-exprs : goal.decreases-exprs-loop-exprs
decreases-exprs-loop-exprs l = length l.self.rest.now
