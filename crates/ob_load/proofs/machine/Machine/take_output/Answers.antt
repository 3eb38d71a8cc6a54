use Rattle.std.proofs.Common.{◌≡◌, subst, ◌∙◌}
use Rattle.std.specs.Prelude.{string_bytes}
use Rattle.jk_language.specs.Runs.{unshown}
use Rattle.ob_image.specs.Stores.{store_of}
use Rattle.ob_load.specs.MachineState.{MachineState, state_of}
use Rattle.ob_load.proofs.Machines.{unshown_is, taken_now}
use Rattle.ob_load.proofs.machine.Machine.take_output.Goals as goal

pub invariant_of-self : goal.invariant_of-self
invariant_of-self c =
    let ms = c.self.inside.modules in
    let s = store_of ms c.self.inside.opening.value.items in (
      c.self.invariant.0,
      taken_now ms s c.self.inside.task c.self.inside.lines c.self.inside.image c.self.inside.run c.self.inside.asks c.self.invariant.1 c.take_output.new.self c.take_output.ensures.rest (λ e. c.take_output.ensures.asks c.self.inside.image (c.self.invariant.1.asking e)),
      c.self.invariant.2,
      c.self.invariant.3,
    )

pub returns-clause-output : goal.returns-clause-output
returns-clause-output c =
    let ms = c.self.inside.modules in
    let s = store_of ms c.self.inside.opening.value.items in
    subst (λ (x : MachineState). string_bytes c.take_output.result ≡ unshown (state_of x)) c.self.view_is
    (c.take_output.ensures.output ∙ unshown_is ms s c.self.inside.task c.self.inside.lines c.self.inside.image c.self.inside.run c.self.inside.asks c.self.invariant.1)
