use Rattle.std.proofs.Common.{Result, Ok, Err, ap}
use Rattle.std.specs.declared.alloc.AllocError.{AllocError}
use Rattle.jk_core.specs.State.{KernelState, fresh}
use Rattle.jk_replay.specs.Replaying.{opening_of}
use Rattle.jk_replay.proofs.replaying.Replay+Kernel+L.new.Goals as goal

abbrev kernel_in : {T : Type 0} → Result (KernelState T) AllocError → KernelState T
kernel_in (Ok k) = k
kernel_in (Err e) = fresh

pub returns : goal.returns
returns g c = ap (λ made. opening_of (kernel_in made)) c.in_ok-new.ensures
