use Rattle.std.proofs.Common.{◌≡◌, ℕ, ◌+◌, ◌-◌, ◌*◌, ◌<◌, ◌≤◌, length}
use denote.Text.{Utf8}
use denote.Shadow.{shadow}
use Rattle.serve_tests.proofs.steps.is_like.Given as goal

-- What is left of the text is a text.
abbrev pub invariant-loop-part : goal.invariant-loop-part
invariant-loop-part l =
    (goal.iterator-loop-part).can_next l.part-iterator ×
    (goal.iterator-loop-part).is_finite l.part-iterator ×
    shadow (Utf8 l.rest)
