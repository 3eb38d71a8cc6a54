use Rattle.std.proofs.Common.{◌≡◌, ◌+◌, ◌*◌, drop}
use Rattle.ob_check_scope.specs.Rule.{answer, through}
use Rattle.ob_check_decl.specs.WrittenTypes as spec
use Rattle.ob_check_decl.proofs.written_type.+written.Given as goal

abbrev pub decreases-written_type : goal.decreases-written_type
decreases-written_type l = 5 * l.site.levels + 4

abbrev pub decreases-record_type : goal.decreases-record_type
decreases-record_type l = 5 * l.site.levels + 3

abbrev pub decreases-all_fields : goal.decreases-all_fields
decreases-all_fields l = 5 * l.site.levels + 2

abbrev pub decreases-next_fields : goal.decreases-next_fields
decreases-next_fields l = 5 * l.site.levels + 1

abbrev pub decreases-inner_type : goal.decreases-inner_type
decreases-inner_type l = 5 * l.site.levels + 0

abbrev pub invariant-all_fields-loop-x : goal.invariant-all_fields-loop-x
invariant-all_fields-loop-x l = answer (through (spec.next_fields (spec.inner_type l.site.imports.now l.site.scope.now l.naming l.site.levels)) l.fn.first l.list) ≡ answer (through (spec.next_fields (spec.inner_type l.site.imports.now l.site.scope.now l.naming l.site.levels)) l.so_far (drop l.x-index l.list))
