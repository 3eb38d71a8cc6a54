use Rattle.std.proofs.Common.{◌≡◌, ◌-◌, [], length, ap, sym, subst, arith}
use Rattle.std.specs.Prelude.{slice_get}
use Rattle.ob_inout.specs.Reading.{opened}
use Rattle.ob_inout.specs.Buffer.{Buffer}
use Rattle.ob_code.specs.Machine.{Memory, body_number}
use Rattle.ob_code.specs.Linked.{IsLinked, runs_of}
use Rattle.ob_step.specs.Rooms.{IsSafeAt}
use Rattle.ob_step.specs.Written.{Written}
use Rattle.ob_vm.specs.Images.{ImageState, RoomState, AreMeasured, IsRoomFor}
use Rattle.ob_vm.proofs.Begins.{start_safe, start_is}
use Rattle.ob_vm.proofs.machine.Machine.start.Goals as goal

pub returns-clause-begins : goal.returns-clause-begins
returns-clause-begins c =
    let image = c.args.image.now in
    let count = length c.module.result.now.code.procedures.items in
    let here : body_number (slice_get image.code c.args.home) ≡ count - 1 = ap body_number c.module.ensures.value in
    let number : c.saturating_sub.result ≡ body_number (slice_get image.code c.args.home) = omega (arith, here, c.saturating_sub.ensures, c.len.ensures) in
    let cells : c.len-2.result ≡ length image.cells = let e = ap (λ (i : ImageState). length i.cells) c.image.view_is in omega (arith, e, c.len-2.ensures) in
    start_is image.code c.args.home c.saturating_sub.result c.len-2.result c.room.inside.stack.items c.room.inside.names.items c.new.result.items image.cells c.new-3.result.bytes c.new-4.result.input
    number cells c.room.invariant.0 c.room.invariant.1 c.new.ensures.items (ap (λ (w : Written). w.bytes) c.new-3.ensures) (ap (λ (b : Buffer). b.input) c.new-4.ensures)

pub returns-clause-fits : goal.returns-clause-fits
returns-clause-fits c =
    let image = c.args.image.now in
    let memory : Memory = record { cells = image.cells; written = []; input = opened } in
    let linked = subst (λ (i : ImageState). IsLinked i.code (runs_of i.may_run)) c.image.view_is c.image.invariant.2 in
    let measured = subst (λ (i : ImageState). AreMeasured i.code (runs_of i.may_run)) c.image.view_is c.image.invariant.3 in
    let l = c.module.result.now in
    let enough = subst (λ (r : RoomState). IsRoomFor l.code r) (sym c.room.view_is) (c.requires.room l c.module.ensures.value) in
    subst (λ d. IsSafeAt image.code d c.room.inside.stack.cap c.room.inside.names.cap) (sym (returns-clause-begins c))
    (start_safe image.code (runs_of image.may_run) linked measured c.args.home l c.module.ensures.value c.requires.runs.1 memory c.requires.cells c.room.inside.stack.cap c.room.inside.names.cap enough)
