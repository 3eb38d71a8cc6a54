use Rattle.std.proofs.Common.{arith, ap, ◌∙◌, ◌≡◌, ◌++◌, ◌∷◌, []}
use Rattle.std.proofs.lemmas.Result.{err_from_is_err_and}
use Rattle.ob_parse_expression.specs.Reading.{separated}
use Rattle.ob_parse_expression.proofs.Loop.{looped_init, after_step, loop_fails, loop_goes, loop_done_one}
use Rattle.ob_parse_expression.proofs.parser.Parser.label_ranges.Goals as goal

pub loop-ranges-init : goal.loop-ranges-init
loop-ranges-init c = record { read = looped_init _ _ _; shorter = omega arith }

pub returns-in_err-next-clause-read : goal.returns-in_err-next-clause-read
unfolding separated
returns-in_err-next-clause-read c =
    let p = err_from_is_err_and c.from_residual-in_err-next.result c.from_residual-in_err-next.ensures.1 in
    rw (p.1, p.2) (after_step _ _ _ _ _ _ c.in_ok-label_range.ensures.read (loop_fails _ _ _ _ _ _ _ _ c.loop-ranges.invariant.read c.in_err-next.ensures.read))

pub loop-ranges-preserved : goal.loop-ranges-preserved
loop-ranges-preserved c =
    let taken = rw c.in-Some.is at c.in_ok-next.ensures.taken in
    record {
      read = loop_goes _ _ _ _ _ _ _ _ _ c.loop-ranges.invariant.read c.in_ok-next.ensures.read c.in-Some.is taken c.in_ok-push-2.ensures.ok;
      shorter = omega arith;
    }

pub returns-clause-read : goal.returns-clause-read
unfolding separated
returns-clause-read c =
    let one : c.push.new.self ≡ c.in_ok-label_range.field-0 ∷ [] = c.in_ok-push.ensures.ok ∙ ap (λ xs. xs ++ c.in_ok-label_range.field-0 ∷ []) c.new-ranges.ensures in
    let all = loop_done_one _ _ _ _ _ _ _ _ c.loop-ranges.invariant.read one c.in_ok-next.ensures.read c.in_default.is in
    rw (c.in_ok-label_range.ensures.read) all
