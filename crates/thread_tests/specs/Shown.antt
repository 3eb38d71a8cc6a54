-- What was shown of a kernel.
use Rattle.std.specs.Prelude.{◌≡◌, List, ◌++◌}
use Rattle.jk_language.specs.Spoken.{Spoken}
use Rattle.jk_log.specs.declared.entry.Entry.{Entry}
use Rattle.jk_log.specs.Legal.{IsLegal}
use Rattle.jk_log.specs.Render.{render}
use Rattle.jk_core.specs.State.{KernelState}
use Rattle.jk_log.specs.Pending.{joined}

-- with what is pending, these entries are the render of the kernel's log, which is legal
pub record HasShown {S T : Type 0} (spoken : Spoken S T) (shown : List Entry) (k : KernelState T) : Type 0 where
  pub legal : IsLegal spoken k.log
  pub rendered : shown ++ joined k.pending ≡ render k.log
