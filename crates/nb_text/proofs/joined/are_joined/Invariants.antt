use Rattle.std.proofs.Common.{drop}
use Rattle.nb_text.proofs.Apart.{after_last, Stay}
use Rattle.nb_text.proofs.joined.are_joined.Given as goal

-- if the outputs that are left stay apart after the last one, all do
abbrev pub invariant-loop-output : goal.invariant-loop-output
invariant-loop-output l = Stay (after_last l.last (drop l.output-index l.outputs)) → Stay l.outputs
