-- To be believed.
-- Whose parsers come with a new kernel.
use Rattle.std.specs.Prelude.{List, map}
use Rattle.js_drive.specs.Threads.{AreNewEndsOf}
use Rattle.js_drive.specs.declared.driving.NewKernel.{NewKernel}
use Rattle.js_drive.specs.declared.parser.Parser.{Parser}

module _ {L S T M : Type 0} where
  -- they are of the pool of its driver, and have taken and handed in nothing
  abbrev pub AreParsersOf : NewKernel L S T M → List (Parser L S T M) → Type 0
  AreParsersOf kernel parsers = AreNewEndsOf kernel.driver.pool (map (λ p. p.end) parsers)
