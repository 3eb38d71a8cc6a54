use Rattle.std.proofs.Common.{◌≡◌, take}
use Rattle.ob_image.proofs.copies.copy_headings.Given as goal

abbrev pub invariant-loop-heading : goal.invariant-loop-heading
invariant-loop-heading l = l.copies ≡ take l.heading-index l.headings
