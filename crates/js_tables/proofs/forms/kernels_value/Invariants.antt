use Rattle.std.proofs.Common.{◌≡◌, map, take}
use Rattle.js_tables.specs.Forms.{kernel_form}
use Rattle.js_tables.proofs.forms.kernels_value.Given as goal

abbrev pub invariant-loop-kernel : goal.invariant-loop-kernel
invariant-loop-kernel l = l.row ≡ map kernel_form (take l.kernel-index l.kernels)
