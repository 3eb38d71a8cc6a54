use Rattle.std.proofs.Common.{◌≡◌, ◌+◌, ◌*◌, [], drop}
use Rattle.ob_check_scope.specs.Rule.{answer, through}
use Rattle.ob_check_stmt.specs.Statements as spec
use Rattle.ob_check_stmt.proofs.statement.+statement.Given as goal

abbrev pub decreases-sequence : goal.decreases-sequence
decreases-sequence l = 18 * l.site.levels + 17

abbrev pub decreases-next_statement : goal.decreases-next_statement
decreases-next_statement l = 18 * l.site.levels + 16

abbrev pub decreases-statement : goal.decreases-statement
decreases-statement l = 18 * l.site.levels + 15

abbrev pub decreases-if_statement : goal.decreases-if_statement
decreases-if_statement l = 18 * l.site.levels + 14

abbrev pub decreases-while_statement : goal.decreases-while_statement
decreases-while_statement l = 18 * l.site.levels + 13

abbrev pub decreases-branches : goal.decreases-branches
decreases-branches l = 18 * l.site.levels + 12

abbrev pub decreases-more_branches : goal.decreases-more_branches
decreases-more_branches l = 18 * l.site.levels + 11

abbrev pub decreases-next_branch : goal.decreases-next_branch
decreases-next_branch l = 18 * l.site.levels + 10

abbrev pub decreases-case_statement : goal.decreases-case_statement
decreases-case_statement l = 18 * l.site.levels + 9

abbrev pub decreases-arms_of : goal.decreases-arms_of
decreases-arms_of l = 18 * l.site.levels + 8

abbrev pub decreases-all_cases : goal.decreases-all_cases
decreases-all_cases l = 18 * l.site.levels + 7

abbrev pub decreases-next_case : goal.decreases-next_case
decreases-next_case l = 18 * l.site.levels + 6

abbrev pub decreases-case_of : goal.decreases-case_of
decreases-case_of l = 18 * l.site.levels + 5

abbrev pub decreases-arm_of : goal.decreases-arm_of
decreases-arm_of l = 18 * l.site.levels + 4

abbrev pub decreases-repeat_statement : goal.decreases-repeat_statement
decreases-repeat_statement l = 18 * l.site.levels + 3

abbrev pub decreases-for_statement : goal.decreases-for_statement
decreases-for_statement l = 18 * l.site.levels + 2

abbrev pub decreases-optional : goal.decreases-optional
decreases-optional l = 18 * l.site.levels + 1

abbrev pub decreases-statements : goal.decreases-statements
decreases-statements l = 18 * l.site.levels + 0

abbrev pub invariant-more_branches-loop-b : goal.invariant-more_branches-loop-b
invariant-more_branches-loop-b l = answer (through (spec.next_branch l.site.imports.now l.site.scope.now l.site.levels (spec.statements_at l.site.imports.now l.site.scope.now l.site.levels)) (l.fn.first, l.fn.variables) l.others) ≡ answer (through (spec.next_branch l.site.imports.now l.site.scope.now l.site.levels (spec.statements_at l.site.imports.now l.site.scope.now l.site.levels)) (l.done, l.so_far) (drop l.b-index l.others))

abbrev pub invariant-all_cases-loop-x : goal.invariant-all_cases-loop-x
invariant-all_cases-loop-x l = answer (through (spec.next_case l.site.imports.now l.site.scope.now l.site.levels (spec.statements_at l.site.imports.now l.site.scope.now l.site.levels) l.character) ([], [], l.fn.variables) l.cases) ≡ answer (through (spec.next_case l.site.imports.now l.site.scope.now l.site.levels (spec.statements_at l.site.imports.now l.site.scope.now l.site.levels) l.character) l.so_far (drop l.x-index l.cases))

abbrev pub invariant-sequence-loop-x : goal.invariant-sequence-loop-x
invariant-sequence-loop-x l = answer (through (spec.next_statement l.site.imports.now l.site.scope.now l.site.levels (spec.statements_at l.site.imports.now l.site.scope.now l.site.levels)) ([], l.fn.variables) l.xs) ≡ answer (through (spec.next_statement l.site.imports.now l.site.scope.now l.site.levels (spec.statements_at l.site.imports.now l.site.scope.now l.site.levels)) (l.done, l.so_far) (drop l.x-index l.xs))
