use Rattle.std.proofs.Common.{length, sym, ap, ◌∙◌, arith}
use Rattle.std.specs.Prelude.{slice_get}
use Rattle.std.proofs.lemmas.List.{length-reverse}
use Rattle.ob_code.specs.Machine.{Config, procedure_in, target_of, number_of, entered}
use Rattle.ob_step.specs.States.{config_of}
use Rattle.ob_step.proofs.turn.call.Goals as goal

pub returns-clause-ok : goal.returns-clause-ok
returns-clause-ok c =
    let code = c.args.code.now in
    let old = c.args.state.now in
    let mid = c.make_room.new.state in
    let r = c.callee-home.result in
    let f = c.procedure-procedure.result.now in
    let t = target_of code old.at.home c.args.called in
    let n = number_of code old.at.home c.args.called in
    let same = c.make_room.ensures.same in
    let size = ap (λ (x : Config). length x.stack) same.config in
    let names = ap (λ (x : Config). length x.names) same.config in
    let one = length-reverse mid.stack.items in
    let two = length-reverse old.stack.items in
    record {
      f = f;
      found = ap (λ h. procedure_in (slice_get code h) n) (sym c.callee-home.ensures.home) ∙ ap (λ p. procedure_in (slice_get code r.0) p) (sym c.callee-home.ensures.number) ∙ c.procedure-procedure.ensures;
      config = c.enter.ensures.config ∙ ap (entered r.0 r.1 f) same.config ∙ ap (λ h. entered h r.1 f (config_of old)) c.callee-home.ensures.home ∙ ap (λ p. entered t p f (config_of old)) c.callee-home.ensures.number;
      operand_room = omega (arith, size, one, two, c.in_ok-make_room.ensures.operands, c.enter.ensures.operand_room);
      name_room = omega (arith, names, c.in_ok-make_room.ensures.names, c.enter.ensures.name_room);
      more_operands = omega (arith, same.operand_room, c.enter.ensures.operand_room);
      more_names = omega (arith, same.name_room, c.enter.ensures.name_room);
    }
