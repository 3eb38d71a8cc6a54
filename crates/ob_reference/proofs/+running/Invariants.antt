use Rattle.std.proofs.Common.{◌≡◌, ◌-◌, drop}
use Rattle.ob_mean.specs.Control.{looping, repeating}
use Rattle.ob_mean.specs.Expressions.{value_of}
use Rattle.ob_mean.specs.Statements.{list_meaning}
use Rattle.ob_reference.specs.Branches.{branch_pieces, for_pieces}
use Rattle.ob_reference_store.specs.Kept.{place_of}
use Rattle.ob_reference_store.specs.States.{scope_in, supply_in, world_in}
use Rattle.ob_reference.proofs.+running.Given as goal

abbrev pub invariant-statement::statements-loop-s : goal.invariant-statement::statements-loop-s
invariant-statement::statements-loop-s l =
    list_meaning (scope_in l.site.program.now l.site.at) l.all (supply_in l.fn.state) (world_in l.fn.state)
    ≡ list_meaning (scope_in l.site.program.now l.site.at) (drop l.s-index l.all) (supply_in l.state) (world_in l.state)

abbrev pub invariant-repetition::while_loop-loop : goal.invariant-repetition::while_loop-loop
invariant-repetition::while_loop-loop l =
    looping (branch_pieces (scope_in l.site.program.now l.site.at) l.branches) l.fn.state.turns (supply_in l.fn.state) (world_in l.fn.state)
    ≡ looping (branch_pieces (scope_in l.site.program.now l.site.at) l.branches) (l.most - l.counter) (supply_in l.state) (world_in l.state)

abbrev pub invariant-repetition::repeat_loop-loop : goal.invariant-repetition::repeat_loop-loop
invariant-repetition::repeat_loop-loop l =
    repeating (list_meaning (scope_in l.site.program.now l.site.at) l.body) (value_of (scope_in l.site.program.now l.site.at) l.until) l.fn.state.turns (supply_in l.fn.state) (world_in l.fn.state)
    ≡ repeating (list_meaning (scope_in l.site.program.now l.site.at) l.body) (value_of (scope_in l.site.program.now l.site.at) l.until) (l.most - l.counter) (supply_in l.state) (world_in l.state)

abbrev pub invariant-repetition::for_rounds-loop : goal.invariant-repetition::for_rounds-loop
invariant-repetition::for_rounds-loop l =
    looping (for_pieces (scope_in l.site.program.now l.site.at) l.head (place_of l.path) l.body) l.fn.state.turns (supply_in l.fn.state) (world_in l.fn.state)
    ≡ looping (for_pieces (scope_in l.site.program.now l.site.at) l.head (place_of l.path) l.body) (l.most - l.counter) (supply_in l.state) (world_in l.state)

abbrev pub decreases-action::action : goal.decreases-action::action
decreases-action::action l = l.room

abbrev pub decreases-action::input : goal.decreases-action::input
decreases-action::input l = l.room

abbrev pub decreases-action::output : goal.decreases-action::output
decreases-action::output l = l.room

abbrev pub decreases-call::argument : goal.decreases-call::argument
decreases-call::argument l = l.room

abbrev pub decreases-call::passed : goal.decreases-call::passed
decreases-call::passed l = l.room

abbrev pub decreases-call::call : goal.decreases-call::call
decreases-call::call l = l.room

abbrev pub decreases-call::procedure : goal.decreases-call::procedure
decreases-call::procedure l = l.room

abbrev pub decreases-call::result_of : goal.decreases-call::result_of
decreases-call::result_of l = l.room

abbrev pub decreases-expression::value : goal.decreases-expression::value
decreases-expression::value l = l.room

abbrev pub decreases-expression::chain : goal.decreases-expression::chain
decreases-expression::chain l = l.room

abbrev pub decreases-expression::every : goal.decreases-expression::every
decreases-expression::every l = l.room

abbrev pub decreases-expression::either : goal.decreases-expression::either
decreases-expression::either l = l.room

abbrev pub decreases-expression::place : goal.decreases-expression::place
decreases-expression::place l = l.room

abbrev pub decreases-repetition::while_loop : goal.decreases-repetition::while_loop
decreases-repetition::while_loop l = l.room

abbrev pub decreases-repetition::while_round : goal.decreases-repetition::while_round
decreases-repetition::while_round l = l.room

abbrev pub decreases-repetition::repeat_loop : goal.decreases-repetition::repeat_loop
decreases-repetition::repeat_loop l = l.room

abbrev pub decreases-repetition::repeat_round : goal.decreases-repetition::repeat_round
decreases-repetition::repeat_round l = l.room

abbrev pub decreases-repetition::for_loop : goal.decreases-repetition::for_loop
decreases-repetition::for_loop l = l.room

abbrev pub decreases-repetition::for_rounds : goal.decreases-repetition::for_rounds
decreases-repetition::for_rounds l = l.room

abbrev pub decreases-repetition::for_round : goal.decreases-repetition::for_round
decreases-repetition::for_round l = l.room

abbrev pub decreases-repetition::for_test : goal.decreases-repetition::for_test
decreases-repetition::for_test l = l.room

abbrev pub decreases-statement::statements : goal.decreases-statement::statements
decreases-statement::statements l = l.room

abbrev pub decreases-statement::statement : goal.decreases-statement::statement
decreases-statement::statement l = l.room

abbrev pub decreases-statement::first_branch : goal.decreases-statement::first_branch
decreases-statement::first_branch l = l.room

abbrev pub decreases-call::function : goal.decreases-call::function
decreases-call::function l = l.room
