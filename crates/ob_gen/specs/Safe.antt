-- Compiled code runs safely.
use Rattle.std.specs.Prelude.{List}
use Rattle.ob_mean.specs.declared.face.Face.{Face}
use Rattle.ob_mean.specs.declared.module.TypedModule.{TypedModule}
use Rattle.ob_mean.specs.WellFormed.{IsWellFormed}
use Rattle.ob_code.specs.declared.instr.CodeModule.{CodeModule}
use Rattle.ob_code.specs.Kinds.{IsMeasured}
use Rattle.ob_code.specs.Stuck.{RunsSafely}
use Rattle.ob_gen.specs.Generated.{IsGenerated}

-- Of the operands and names of a well-formed module's code enough is known, so that it runs safely wherever it is linked among
-- such modules: no run takes a cell out of an object.
abbrev pub EachRunsSafely : Type 0
EachRunsSafely = (faces : List Face) (m : TypedModule) (code : CodeModule) → IsWellFormed faces m → IsGenerated faces m code → IsMeasured code × RunsSafely code
