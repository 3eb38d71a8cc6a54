use Rattle.std.proofs.Common.{◌-◌, subst, sym, ap, ◌∙◌}
use Rattle.std.specs.Prelude.{option_copied}
use Rattle.ob_code.specs.Machine.{go, with_buffer}
use Rattle.ob_step.specs.Rooms.{IsSafeAt}
use Rattle.ob_vm.specs.Images.{MachineState, IsOf, AsksFor, machine_config, machine_of}
use Rattle.ob_vm.proofs.Asks.{behind, reads, place_there, behind_safe}
use Rattle.ob_vm.proofs.machine.Machine.give_line.Goals as goal

pub overflow_sub-self : goal.overflow_sub-self
overflow_sub-self c =
    let image = c.args.image.now in
    let before = machine_of c.self.inside.state c.self.inside.used in
    let fits = subst (IsOf image) (sym c.self.view_is) c.requires.fits in
    let asks = subst (AsksFor image) (sym c.self.view_is) c.requires.asks in
    place_there image.code (machine_config image before) asks before.operand_room before.name_room fits

pub returns-clause-fits : goal.returns-clause-fits
returns-clause-fits c =
    let image = c.args.image.now in
    let before = machine_of c.self.inside.state c.self.inside.used in
    let here = machine_config image before in
    let fits = subst (IsOf image) (sym c.self.view_is) c.requires.fits in
    let asks = subst (AsksFor image) (sym c.self.view_is) c.requires.asks in
    subst (λ i. IsSafeAt image.code (go here (here.at.place - 2) here.stack (with_buffer here.memory i)) before.operand_room before.name_room) (sym c.in_ok-feed.ensures.ok)
    (behind_safe image.code here asks before.operand_room before.name_room fits (option_copied c.args.line))

pub returns-clause-taken : goal.returns-clause-taken
returns-clause-taken c =
    let image = c.args.image.now in
    let here = machine_config image (machine_of c.self.inside.state c.self.inside.used) in
    let line = option_copied c.args.line in
    record {
      next = behind image.code (machine_config image c.args.self.now);
      reads = reads image.code (machine_config image c.args.self.now) c.requires.asks;
      taken =
          ap (λ i. go here (here.at.place - 2) here.stack (with_buffer here.memory i)) c.in_ok-feed.ensures.ok
          ∙ ap (λ (m : MachineState). behind image.code (machine_config image m) line) c.self.view_is;
    }
