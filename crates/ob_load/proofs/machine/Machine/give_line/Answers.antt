use Rattle.std.proofs.Common.{◌≡◌, ℕ, ◌-◌, true, false, List, [], ◌∷◌, ◌++◌, min, sym, ap, ◌∙◌, subst, arith}
use Rattle.std.specs.Prelude.{option_copied}
use Rattle.ob_inout.specs.Reading.{Line}
use Rattle.ob_vm.specs.Images as vm
use Rattle.ob_vm.specs.Slices.{StandsIn, SliceDone}
use Rattle.jk_language.specs.Runs.{line_given}
use Rattle.ob_image.specs.Stores.{store_of}
use Rattle.ob_load.specs.Kept.{IsRunning}
use Rattle.ob_load.specs.MachineState.{MachineState, stands_at, state_of}
use Rattle.ob_load.proofs.Finished.{stands_in_none}
use Rattle.ob_load.proofs.Machines.{held, given_kept, given_state}
use Rattle.ob_load.proofs.machine.Machine.give_line.Goals as goal

none_of : (u : ℕ) → min 0 u ≡ 0
none_of u = omega arith

pub invariant_of-self : goal.invariant_of-self
invariant_of-self c =
    let ms = c.self.inside.modules in
    let s = store_of ms c.self.inside.opening.value.items in (
      c.self.invariant.0,
      subst (λ (x : vm.MachineState). IsRunning ms s c.self.inside.task c.self.inside.lines c.self.inside.image x c.self.inside.asks) (sym c.in_err-give_line.ensures.err) c.self.invariant.1,
      c.self.invariant.2,
      c.self.invariant.3,
    )

pub invariant_of-self-2 : goal.invariant_of-self-2
invariant_of-self-2 c =
    let ms = c.self.inside.modules in
    let s = store_of ms c.self.inside.opening.value.items in
    let t = c.self.inside.task in
    let ls = c.self.inside.lines in
    let line = option_copied c.args.line in
    let i = c.self.inside.image in
    let m = c.self.inside.run in
    let m' = c.give_line.new.self in
    let i' = c.turns-turned.new.image in
    let m'' = c.turns-turned.new.self in
    let asked : c.self.inside.asks ≡ true = ap (λ (x : MachineState). x.asks) c.self.view_is ∙ c.requires.asked in
    let r = subst (λ b. IsRunning ms s t ls i m b) asked c.self.invariant.1 in
    let k = c.turns-turned.ensures.does.0 in
    let done = subst (λ n. SliceDone i.code (vm.machine_config i m') (vm.machine_config i' m'') n c.turns-turned.result k) (none_of (18446744073709551615 - m'.used)) c.turns-turned.ensures.does.2 in
    let stands = stands_in_none i.code _ _ c.turns-turned.result k done in
    let there = subst (λ n. StandsIn i.code n (vm.machine_config i m') (vm.machine_config i' m'') stands.1.0) stands.0 stands.1.1 in
    let used : m''.used ≡ m'.used = let e = c.turns-turned.ensures.does.1 in omega (arith, e, stands.0) in
    let given = c.add.ensures ∙ ap (λ (l : Line). ls ++ l ∷ []) c.in_ok-copy.ensures.ok in (
      held ms c.self.inside.known.items i i' c.turns-turned.ensures.code c.turns-turned.ensures.may_run c.self.invariant.0,
      subst (λ (xs : List Line). IsRunning ms s t xs i' m'' false) (sym given)
          (given_kept ms s t ls line i i' m m' m'' r c.in_ok-give_line.ensures.taken c.in_ok-give_line.ensures.used stands.1.0 there used c.turns-turned.ensures.code c.turns-turned.ensures.fits),
      c.self.invariant.2,
      c.self.invariant.3,
    )

pub returns-clause-ok : goal.returns-clause-ok
returns-clause-ok c =
    let ms = c.self.inside.modules in
    let s = store_of ms c.self.inside.opening.value.items in
    let t = c.self.inside.task in
    let ls = c.self.inside.lines in
    let line = option_copied c.args.line in
    let i = c.self.inside.image in
    let m = c.self.inside.run in
    let m' = c.give_line.new.self in
    let i' = c.turns-turned.new.image in
    let m'' = c.turns-turned.new.self in
    let asked : c.self.inside.asks ≡ true = ap (λ (x : MachineState). x.asks) c.self.view_is ∙ c.requires.asked in
    let r = subst (λ b. IsRunning ms s t ls i m b) asked c.self.invariant.1 in
    let k = c.turns-turned.ensures.does.0 in
    let done = subst (λ n. SliceDone i.code (vm.machine_config i m') (vm.machine_config i' m'') n c.turns-turned.result k) (none_of (18446744073709551615 - m'.used)) c.turns-turned.ensures.does.2 in
    let stands = stands_in_none i.code _ _ c.turns-turned.result k done in
    let there = subst (λ n. StandsIn i.code n (vm.machine_config i m') (vm.machine_config i' m'') stands.1.0) stands.0 stands.1.1 in
    let used : m''.used ≡ m'.used = let e = c.turns-turned.ensures.does.1 in omega (arith, e, stands.0) in
    let given = c.add.ensures ∙ ap (λ (l : Line). ls ++ l ∷ []) c.in_ok-copy.ensures.ok in
    ap (λ (xs : List Line). state_of (stands_at ms s t xs m'' false c.self.inside.over)) given
    ∙ given_state ms s t ls line i i' m m' m'' r c.in_ok-give_line.ensures.taken c.in_ok-give_line.ensures.used stands.1.0 there used c.self.inside.over
    ∙ ap (λ (x : MachineState). line_given line (state_of x)) c.self.view_is
