use Rattle.std.proofs.Common.{◌≡◌, take}
use Rattle.js_tables.specs.Forms.{session_forms}
use Rattle.js_tables.proofs.forms.sessions_value.Given as goal

abbrev pub invariant-loop-kernel : goal.invariant-loop-kernel
invariant-loop-kernel l = l.row ≡ session_forms (take l.kernel-index l.kernels)
