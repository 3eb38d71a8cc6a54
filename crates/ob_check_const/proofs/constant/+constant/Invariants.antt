use Rattle.std.proofs.Common.{◌≡◌, ◌+◌, ◌*◌, drop}
use Rattle.ob_check_scope.specs.Rule.{answer, through}
use Rattle.ob_check_const.specs.Constants as spec
use Rattle.ob_check_const.proofs.constant.+constant.Given as goal

abbrev pub decreases-expr : goal.decreases-expr
decreases-expr l = 13 * l.site.levels + 12

abbrev pub decreases-related : goal.decreases-related
decreases-related l = 13 * l.site.levels + 11

abbrev pub decreases-simple : goal.decreases-simple
decreases-simple l = 13 * l.site.levels + 10

abbrev pub decreases-added_terms : goal.decreases-added_terms
decreases-added_terms l = 13 * l.site.levels + 9

abbrev pub decreases-added_term : goal.decreases-added_term
decreases-added_term l = 13 * l.site.levels + 8

abbrev pub decreases-term : goal.decreases-term
decreases-term l = 13 * l.site.levels + 7

abbrev pub decreases-next_factors : goal.decreases-next_factors
decreases-next_factors l = 13 * l.site.levels + 6

abbrev pub decreases-next_factor : goal.decreases-next_factor
decreases-next_factor l = 13 * l.site.levels + 5

abbrev pub decreases-factor : goal.decreases-factor
decreases-factor l = 13 * l.site.levels + 4

abbrev pub decreases-called : goal.decreases-called
decreases-called l = 13 * l.site.levels + 3

abbrev pub decreases-one_called : goal.decreases-one_called
decreases-one_called l = 13 * l.site.levels + 2

abbrev pub decreases-nested : goal.decreases-nested
decreases-nested l = 13 * l.site.levels + 0

abbrev pub decreases-deeper : goal.decreases-deeper
decreases-deeper l = 13 * l.site.levels + 1

abbrev pub invariant-next_factors-loop-x : goal.invariant-next_factors-loop-x
invariant-next_factors-loop-x l = answer (through (spec.next_factor (spec.inner_at l.site.imports.now l.site.scope.now l.site.levels) (spec.deeper_at l.site.imports.now l.site.scope.now l.site.levels) l.site.imports.now l.site.scope.now) l.fn.first l.others) ≡ answer (through (spec.next_factor (spec.inner_at l.site.imports.now l.site.scope.now l.site.levels) (spec.deeper_at l.site.imports.now l.site.scope.now l.site.levels) l.site.imports.now l.site.scope.now) l.so_far (drop l.x-index l.others))

abbrev pub invariant-added_terms-loop-x : goal.invariant-added_terms-loop-x
invariant-added_terms-loop-x l = answer (through (spec.added_term (spec.inner_at l.site.imports.now l.site.scope.now l.site.levels) (spec.deeper_at l.site.imports.now l.site.scope.now l.site.levels) l.site.imports.now l.site.scope.now) l.fn.first l.others) ≡ answer (through (spec.added_term (spec.inner_at l.site.imports.now l.site.scope.now l.site.levels) (spec.deeper_at l.site.imports.now l.site.scope.now l.site.levels) l.site.imports.now l.site.scope.now) l.so_far (drop l.x-index l.others))
