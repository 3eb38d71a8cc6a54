use Rattle.std.proofs.Common.{◌≡◌, ◌+◌, ◌-◌, ◌<◌, List, min, true, false, ap, subst, sym, arith, ◌∙◌, ℕ}
use Rattle.ob_mean.specs.declared.outcome.Outcome.TheVariants as why
use Rattle.std.specs.Prelude.{slice_get}
use Rattle.ob_vm.specs.Images as vm
use Rattle.ob_vm.specs.Slices.{SliceDone}
use Rattle.ob_vm.specs.declared.run.Turned.TheVariants as slice
use Rattle.jk_language.specs.Runs.{HasTurned}
use Rattle.jk_language.specs.declared.outcome.Turned.TheVariants as turned
use Rattle.ob_session.specs.Session.{Module}
use Rattle.ob_session.specs.Cells.{name_in}
use Rattle.ob_image.specs.Stores.{store_of}
use Rattle.ob_load.specs.MachineState.{MachineState, stands_at, state_of}
use Rattle.ob_load.proofs.Machines.{ended, trapped, stopped, asked, refused, kept, held}
use Rattle.ob_load.proofs.machine.Machine.turns.Goals as goal

within : (u most : ℕ) → u + most < 18446744073709551616 → min most (18446744073709551615 - u) ≡ most
within u most few = omega (arith, few)

false_true : false ≡ true → ⊥
false_true e = cc

true_false : true ≡ false → ⊥
true_false e = cc

pub invariant_of-self : goal.invariant_of-self
invariant_of-self c =
    let ms = c.self.inside.modules in
    let s = store_of c.self.inside.modules c.self.inside.opening.value.items in
    let t = c.self.inside.task in
    let ls = c.self.inside.lines in
    let i = c.self.inside.image in
    let m = c.self.inside.run in
    let i' = c.turns.new.image in
    let m' = c.turns.new.self in
    let r = c.self.invariant.1 in
    let few : m.used + c.args.most < 18446744073709551616 = let e = ap (λ (x : MachineState). x.turns) c.self.view_is in omega (arith, e, c.requires.few) in
    let k = c.in-Ended.ensures.does.0 in
    let used = c.in-Ended.ensures.does.1 in
    let done = subst (λ n. SliceDone i.code (vm.machine_config i m) (vm.machine_config i' m') n (slice.Ended) k) (within m.used c.args.most few) c.in-Ended.ensures.does.2 in (
      held ms c.self.inside.known.items i i' c.in-Ended.ensures.code c.in-Ended.ensures.may_run c.self.invariant.0,
      kept ms s t ls i i' m m' c.self.inside.asks r k used (why.Ended) done.1 false c.in-Ended.ensures.code c.in-Ended.ensures.fits (λ e. absurd (false_true e)),
      c.self.invariant.2,
      record { empty = λ e. absurd (true_false e); room = λ e. absurd (true_false e) },
    )

pub invariant_of-self-in-Trapped : goal.invariant_of-self-in-Trapped
invariant_of-self-in-Trapped c =
    let ms = c.self.inside.modules in
    let s = store_of c.self.inside.modules c.self.inside.opening.value.items in
    let t = c.self.inside.task in
    let ls = c.self.inside.lines in
    let i = c.self.inside.image in
    let m = c.self.inside.run in
    let i' = c.turns.new.image in
    let m' = c.turns.new.self in
    let r = c.self.invariant.1 in
    let few : m.used + c.args.most < 18446744073709551616 = let e = ap (λ (x : MachineState). x.turns) c.self.view_is in omega (arith, e, c.requires.few) in
    let k = c.in-Trapped.ensures.does.0 in
    let used = c.in-Trapped.ensures.does.1 in
    let done = subst (λ n. SliceDone i.code (vm.machine_config i m) (vm.machine_config i' m') n (slice.Trapped c.in-Trapped.kind c.in-Trapped.home c.in-Trapped.line) k) (within m.used c.args.most few) c.in-Trapped.ensures.does.2 in (
      held ms c.self.inside.known.items i i' c.in-Trapped.ensures.code c.in-Trapped.ensures.may_run c.self.invariant.0,
      kept ms s t ls i i' m m' c.self.inside.asks r k used (why.Trapped c.in-Trapped.kind c.in-Trapped.home c.in-Trapped.line) done.1 false c.in-Trapped.ensures.code c.in-Trapped.ensures.fits (λ e. absurd (false_true e)),
      c.self.invariant.2,
      record { empty = λ e. absurd (true_false e); room = λ e. absurd (true_false e) },
    )

pub invariant_of-self-in-Stopped : goal.invariant_of-self-in-Stopped
invariant_of-self-in-Stopped c =
    let ms = c.self.inside.modules in
    let s = store_of c.self.inside.modules c.self.inside.opening.value.items in
    let t = c.self.inside.task in
    let ls = c.self.inside.lines in
    let i = c.self.inside.image in
    let m = c.self.inside.run in
    let i' = c.turns.new.image in
    let m' = c.turns.new.self in
    let r = c.self.invariant.1 in
    let few : m.used + c.args.most < 18446744073709551616 = let e = ap (λ (x : MachineState). x.turns) c.self.view_is in omega (arith, e, c.requires.few) in
    let k = c.in-Stopped.ensures.does.0 in
    let used = c.in-Stopped.ensures.does.1 in
    let done = subst (λ n. SliceDone i.code (vm.machine_config i m) (vm.machine_config i' m') n (slice.Stopped) k) (within m.used c.args.most few) c.in-Stopped.ensures.does.2 in (
      held ms c.self.inside.known.items i i' c.in-Stopped.ensures.code c.in-Stopped.ensures.may_run c.self.invariant.0,
      kept ms s t ls i i' m m' c.self.inside.asks r k used (why.Stopped done.1.0) done.1.1 false c.in-Stopped.ensures.code c.in-Stopped.ensures.fits (λ e. absurd (false_true e)),
      c.self.invariant.2,
      c.self.invariant.3,
    )

pub invariant_of-self-in-NeedsLine : goal.invariant_of-self-in-NeedsLine
invariant_of-self-in-NeedsLine c =
    let ms = c.self.inside.modules in
    let s = store_of c.self.inside.modules c.self.inside.opening.value.items in
    let t = c.self.inside.task in
    let ls = c.self.inside.lines in
    let i = c.self.inside.image in
    let m = c.self.inside.run in
    let i' = c.turns.new.image in
    let m' = c.turns.new.self in
    let r = c.self.invariant.1 in
    let few : m.used + c.args.most < 18446744073709551616 = let e = ap (λ (x : MachineState). x.turns) c.self.view_is in omega (arith, e, c.requires.few) in
    let k = c.in-NeedsLine.ensures.does.0 in
    let used = c.in-NeedsLine.ensures.does.1 in
    let done = subst (λ n. SliceDone i.code (vm.machine_config i m) (vm.machine_config i' m') n (slice.NeedsLine) k) (within m.used c.args.most few) c.in-NeedsLine.ensures.does.2 in (
      held ms c.self.inside.known.items i i' c.in-NeedsLine.ensures.code c.in-NeedsLine.ensures.may_run c.self.invariant.0,
      kept ms s t ls i i' m m' c.self.inside.asks r k used (why.NeedsLine) done.1 true c.in-NeedsLine.ensures.code c.in-NeedsLine.ensures.fits (λ e. c.in-NeedsLine.ensures.asks),
      c.self.invariant.2,
      c.self.invariant.3,
    )

pub invariant_of-self-in-NoMemory : goal.invariant_of-self-in-NoMemory
invariant_of-self-in-NoMemory c =
    let ms = c.self.inside.modules in
    let s = store_of c.self.inside.modules c.self.inside.opening.value.items in
    let t = c.self.inside.task in
    let ls = c.self.inside.lines in
    let i = c.self.inside.image in
    let m = c.self.inside.run in
    let i' = c.turns.new.image in
    let m' = c.turns.new.self in
    let r = c.self.invariant.1 in
    let few : m.used + c.args.most < 18446744073709551616 = let e = ap (λ (x : MachineState). x.turns) c.self.view_is in omega (arith, e, c.requires.few) in
    let k = c.in-NoMemory.ensures.does.0 in
    let used = c.in-NoMemory.ensures.does.1 in
    let done = subst (λ n. SliceDone i.code (vm.machine_config i m) (vm.machine_config i' m') n (slice.NoMemory) k) (within m.used c.args.most few) c.in-NoMemory.ensures.does.2 in (
      held ms c.self.inside.known.items i i' c.in-NoMemory.ensures.code c.in-NoMemory.ensures.may_run c.self.invariant.0,
      kept ms s t ls i i' m m' c.self.inside.asks r k used (why.Stopped done.1.0) done.1.2 false c.in-NoMemory.ensures.code c.in-NoMemory.ensures.fits (λ e. absurd (false_true e)),
      c.self.invariant.2,
      c.self.invariant.3,
    )

pub returns-in-Ended : goal.returns-in-Ended
returns-in-Ended c =
    let ms = c.self.inside.modules in
    let s = store_of c.self.inside.modules c.self.inside.opening.value.items in
    let t = c.self.inside.task in
    let ls = c.self.inside.lines in
    let i = c.self.inside.image in
    let m = c.self.inside.run in
    let i' = c.turns.new.image in
    let m' = c.turns.new.self in
    let r = c.self.invariant.1 in
    let few : m.used + c.args.most < 18446744073709551616 = let e = ap (λ (x : MachineState). x.turns) c.self.view_is in omega (arith, e, c.requires.few) in
    let k = c.in-Ended.ensures.does.0 in
    let used = c.in-Ended.ensures.does.1 in
    let done = subst (λ n. SliceDone i.code (vm.machine_config i m) (vm.machine_config i' m') n (slice.Ended) k) (within m.used c.args.most few) c.in-Ended.ensures.does.2 in
    subst (λ (x : MachineState). HasTurned (state_of x) c.args.most (turned.Ended) (state_of (stands_at ms s t ls m' false true))) c.self.view_is
    (ended ms s t ls i i' m m' c.self.inside.asks r k used c.self.inside.over c.args.most done)

pub returns-in-Trapped : goal.returns-in-Trapped
returns-in-Trapped c =
    let ms = c.self.inside.modules in
    let s = store_of c.self.inside.modules c.self.inside.opening.value.items in
    let t = c.self.inside.task in
    let ls = c.self.inside.lines in
    let i = c.self.inside.image in
    let m = c.self.inside.run in
    let i' = c.turns.new.image in
    let m' = c.turns.new.self in
    let r = c.self.invariant.1 in
    let few : m.used + c.args.most < 18446744073709551616 = let e = ap (λ (x : MachineState). x.turns) c.self.view_is in omega (arith, e, c.requires.few) in
    let k = c.in-Trapped.ensures.does.0 in
    let used = c.in-Trapped.ensures.does.1 in
    let done = subst (λ n. SliceDone i.code (vm.machine_config i m) (vm.machine_config i' m') n (slice.Trapped c.in-Trapped.kind c.in-Trapped.home c.in-Trapped.line) k) (within m.used c.args.most few) c.in-Trapped.ensures.does.2 in
    let named = ap (λ (x : List Module). name_in (slice_get x c.in-Trapped.home)) c.as_slice.ensures in
    subst (λ (x : MachineState). HasTurned (state_of x) c.args.most (turned.Trapped (record { number = c.trap_number.result; «module» = c.name_in-module.result; line = c.in-Trapped.line })) (state_of (stands_at ms s t ls m' false true))) c.self.view_is
    (trapped ms s t ls i i' m m' c.self.inside.asks r k used c.self.inside.over c.args.most c.in-Trapped.kind c.in-Trapped.home c.in-Trapped.line c.trap_number.result c.name_in-module.result c.trap_number.ensures (c.name_in-module.ensures ∙ named) done)

pub returns-in-Stopped : goal.returns-in-Stopped
returns-in-Stopped c =
    let ms = c.self.inside.modules in
    let s = store_of c.self.inside.modules c.self.inside.opening.value.items in
    let t = c.self.inside.task in
    let ls = c.self.inside.lines in
    let i = c.self.inside.image in
    let m = c.self.inside.run in
    let i' = c.turns.new.image in
    let m' = c.turns.new.self in
    let r = c.self.invariant.1 in
    let few : m.used + c.args.most < 18446744073709551616 = let e = ap (λ (x : MachineState). x.turns) c.self.view_is in omega (arith, e, c.requires.few) in
    let k = c.in-Stopped.ensures.does.0 in
    let used = c.in-Stopped.ensures.does.1 in
    let done = subst (λ n. SliceDone i.code (vm.machine_config i m) (vm.machine_config i' m') n (slice.Stopped) k) (within m.used c.args.most few) c.in-Stopped.ensures.does.2 in
    let on : c.self.inside.over ≡ false = ap (λ (x : MachineState). x.over) c.self.view_is ∙ c.requires.on in
    subst (λ (x : MachineState). HasTurned (state_of x) c.args.most (turned.Stopped) (state_of (stands_at ms s t ls m' false c.self.inside.over))) c.self.view_is
    (subst (λ o. HasTurned (state_of (stands_at ms s t ls m c.self.inside.asks c.self.inside.over)) c.args.most (turned.Stopped) (state_of (stands_at ms s t ls m' false o))) (sym on) (stopped ms s t ls i i' m m' c.self.inside.asks r k used c.self.inside.over c.args.most done))

pub returns-in-NeedsLine : goal.returns-in-NeedsLine
returns-in-NeedsLine c =
    let ms = c.self.inside.modules in
    let s = store_of c.self.inside.modules c.self.inside.opening.value.items in
    let t = c.self.inside.task in
    let ls = c.self.inside.lines in
    let i = c.self.inside.image in
    let m = c.self.inside.run in
    let i' = c.turns.new.image in
    let m' = c.turns.new.self in
    let r = c.self.invariant.1 in
    let few : m.used + c.args.most < 18446744073709551616 = let e = ap (λ (x : MachineState). x.turns) c.self.view_is in omega (arith, e, c.requires.few) in
    let k = c.in-NeedsLine.ensures.does.0 in
    let used = c.in-NeedsLine.ensures.does.1 in
    let done = subst (λ n. SliceDone i.code (vm.machine_config i m) (vm.machine_config i' m') n (slice.NeedsLine) k) (within m.used c.args.most few) c.in-NeedsLine.ensures.does.2 in
    let on : c.self.inside.over ≡ false = ap (λ (x : MachineState). x.over) c.self.view_is ∙ c.requires.on in
    subst (λ (x : MachineState). HasTurned (state_of x) c.args.most (turned.NeedsLine) (state_of (stands_at ms s t ls m' true c.self.inside.over))) c.self.view_is
    (subst (λ o. HasTurned (state_of (stands_at ms s t ls m c.self.inside.asks c.self.inside.over)) c.args.most (turned.NeedsLine) (state_of (stands_at ms s t ls m' true o))) (sym on) (asked ms s t ls i i' m m' c.self.inside.asks r k used c.self.inside.over c.args.most done))

pub returns-in-NoMemory : goal.returns-in-NoMemory
returns-in-NoMemory c =
    let ms = c.self.inside.modules in
    let s = store_of c.self.inside.modules c.self.inside.opening.value.items in
    let t = c.self.inside.task in
    let ls = c.self.inside.lines in
    let i = c.self.inside.image in
    let m = c.self.inside.run in
    let i' = c.turns.new.image in
    let m' = c.turns.new.self in
    let r = c.self.invariant.1 in
    let few : m.used + c.args.most < 18446744073709551616 = let e = ap (λ (x : MachineState). x.turns) c.self.view_is in omega (arith, e, c.requires.few) in
    let k = c.in-NoMemory.ensures.does.0 in
    let used = c.in-NoMemory.ensures.does.1 in
    let done = subst (λ n. SliceDone i.code (vm.machine_config i m) (vm.machine_config i' m') n (slice.NoMemory) k) (within m.used c.args.most few) c.in-NoMemory.ensures.does.2 in
    let on : c.self.inside.over ≡ false = ap (λ (x : MachineState). x.over) c.self.view_is ∙ c.requires.on in
    subst (λ (x : MachineState). HasTurned (state_of x) c.args.most (turned.NoMemory) (state_of (stands_at ms s t ls m' false c.self.inside.over))) c.self.view_is
    (subst (λ o. HasTurned (state_of (stands_at ms s t ls m c.self.inside.asks c.self.inside.over)) c.args.most (turned.NoMemory) (state_of (stands_at ms s t ls m' false o))) (sym on) (refused ms s t ls i i' m m' c.self.inside.asks r k used c.self.inside.over c.args.most done))
