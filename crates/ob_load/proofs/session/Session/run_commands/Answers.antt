use Rattle.std.proofs.Common.{◌≡◌, ℤ, List, sym, ap, ◌∙◌, subst}
use Rattle.ob_vm.specs.Images as vm
use Rattle.ob_session.specs.Session.{Session}
use Rattle.ob_image.specs.Stores.{store_of, session_of}
use Rattle.ob_session.specs.Cells.{Runs, all_ready}
use Rattle.ob_load.specs.Commanded.{AllRunnable}
use Rattle.ob_load.specs.declared.task.Task.TheVariants.{Commands}
use Rattle.ob_load.specs.Kept.{IsKept}
use Rattle.ob_load.specs.MachineState.{begun_in}
use Rattle.ob_load.proofs.Commanded.{ready_for}
use Rattle.ob_load.proofs.Loaded.{same_image}
use Rattle.ob_load.proofs.Said.{runnable}
use Rattle.ob_load.proofs.session.Session.run_commands.Goals as goal

pub ready-requires-clause-runnable : goal.ready-requires-clause-runnable
ready-requires-clause-runnable c =
    let s : Session = record { modules = c.self.inside.modules; store = store_of c.self.inside.modules c.self.inside.image.cells } in
    let looked = subst (λ (x : Session). all_ready x c.requires.0 ≡ Runs c.args.commands.items) (sym c.self.view_is) c.requires.1 in
    subst (AllRunnable c.self.inside.modules) (sym c.as_slice-2.ensures.value) (runnable s c.self.inside.known.items c.self.invariant.0.said c.requires.0 c.args.commands.items looked)

pub begin-requires-clause-kept : goal.begin-requires-clause-kept
begin-requires-clause-kept c =
    subst (λ (x : vm.ImageState). IsKept c.self.inside.modules c.self.inside.known.items x)
    (sym (same_image c.self.inside.image c.ready.new.code.items c.ready.new.runs.items c.into_parts-code.result.2.items (c.in-Ok.ensures.code ∙ c.into_parts-code.ensures.code) (c.in-Ok.ensures.flags ∙ c.into_parts-code.ensures.may_run) c.into_parts-code.ensures.cells))
    c.self.invariant.0

pub begin-requires-clause-ready : goal.begin-requires-clause-ready
begin-requires-clause-ready c = ready_for c.self.inside.modules _ _ _ _ c.self.inside.longest c.in-Ok.calls c.as_slice.ensures.value c.as_slice-2.ensures.value c.in-Ok.ensures.ready

pub of-session-requires-clause-kept : goal.of-session-requires-clause-kept
of-session-requires-clause-kept c =
    subst (λ (x : vm.ImageState). IsKept c.self.inside.modules c.self.inside.known.items x)
    (sym (same_image c.self.inside.image c.ready.new.code.items c.ready.new.runs.items c.into_parts-code.result.2.items (c.in-Err.ensures.code ∙ c.into_parts-code.ensures.code) (c.in-Err.ensures.flags ∙ c.into_parts-code.ensures.may_run) c.into_parts-code.ensures.cells))
    c.self.invariant.0

pub returns-in-Ok-clause-begun : goal.returns-in-Ok-clause-begun
returns-in-Ok-clause-begun c =
    c.begin.ensures
    ∙ ap (λ (xs : List ℤ). begun_in (session_of c.self.inside.modules xs) (Commands c.args.commands)) c.into_parts-code.ensures.cells
    ∙ ap (λ (s : Session). begun_in s (Commands c.args.commands)) c.self.view_is
