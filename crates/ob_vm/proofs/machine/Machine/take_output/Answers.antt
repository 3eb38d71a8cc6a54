use Rattle.std.proofs.Common.{subst, sym}
use Rattle.ob_vm.specs.Images.{IsOf, AsksFor, machine_config, machine_of}
use Rattle.ob_vm.proofs.Asks.{rewritten_safe, rewritten_asks}
use Rattle.ob_vm.proofs.machine.Machine.take_output.Goals as goal

pub returns-clause-fits : goal.returns-clause-fits
returns-clause-fits c = λ i fits.
    let before = machine_of c.self.inside.state c.self.inside.used in
    rewritten_safe i.code (machine_config i before) c.take.new.self.bytes before.operand_room before.name_room (subst (IsOf i) (sym c.self.view_is) fits)

pub returns-clause-asks : goal.returns-clause-asks
returns-clause-asks c = λ i asks.
    let before = machine_of c.self.inside.state c.self.inside.used in
    rewritten_asks i.code (machine_config i before) c.take.new.self.bytes (subst (AsksFor i) (sym c.self.view_is) asks)
