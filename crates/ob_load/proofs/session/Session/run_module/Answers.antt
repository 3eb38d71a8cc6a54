use Rattle.std.proofs.Common.{◌≡◌, ℕ, ℤ, List, ap, sym, ◌∙◌, subst, arith, length}
use Rattle.ob_types.specs.InterfaceTree.{InterfaceTree}
use Rattle.ob_mean.specs.Values.{Value}
use Rattle.ob_vm.specs.Images as vm
use Rattle.ob_session.specs.Session.{Session, Module, installed, name_of, place_of, with_module}
use Rattle.ob_image.specs.Stores.{loaded_cells, session_of}
use Rattle.ob_image.specs.Compiled.{Known}
use Rattle.ob_load.specs.declared.task.Task.TheVariants.{Body}
use Rattle.ob_load.specs.Kept.{AreCheckable, IsKept}
use Rattle.ob_load.specs.Known.{AreSaid}
use Rattle.ob_load.specs.MachineState.{begun_in}
use Rattle.ob_load.specs.Names.{NamesWithin}
use Rattle.ob_load.proofs.Said.{said_with}
use Rattle.ob_load.proofs.Loaded.{checkable_with, same_image, store_is, within_more, within_with}
use Rattle.ob_load.proofs.session.Session.run_module.Goals as goal

pub begin-requires-clause-checkable : goal.begin-requires-clause-checkable
begin-requires-clause-checkable c =
    subst (λ (ms : List Module). AreCheckable ms) (sym c.in-Ok-load.ensures.modules) (checkable_with c.self.inside.modules c.args.added c.self.invariant.0.checkable c.requires.solid c.requires.words)

pub begin-requires-clause-said : goal.begin-requires-clause-said
begin-requires-clause-said c =
    subst (λ (ms : List Module). AreSaid ms c.load.new.known.items) (sym c.in-Ok-load.ensures.modules)
    (subst (λ (ks : List Known). AreSaid (with_module c.self.inside.modules c.args.added) ks) (sym c.in-Ok-load.ensures.known)
    (said_with c.self.inside.modules c.self.inside.known.items c.args.added c.args.faces c.self.invariant.0.said c.requires.said))

pub of-session-requires-clause-kept : goal.of-session-requires-clause-kept
of-session-requires-clause-kept c =
    let i = c.self.inside.image in
    let same = same_image i c.load.new.code.items c.into_parts-parts.result.1.items c.into_parts-parts.result.2.items (c.in-Err-load.ensures.err.1.1 ∙ c.into_parts-parts.ensures.code) c.into_parts-parts.ensures.may_run c.into_parts-parts.ensures.cells in
    subst (λ (x : vm.ImageState). IsKept c.load.new.modules c.load.new.known.items x) (sym same)
    (subst (λ (ks : List Known). IsKept c.load.new.modules ks i) (sym c.in-Err-load.ensures.err.1.0)
    (subst (λ (ms : List Module). IsKept ms c.self.inside.known.items i) (sym c.in-Err-load.ensures.err.0) c.self.invariant.0))

pub of-session-requires-clause-named : goal.of-session-requires-clause-named
of-session-requires-clause-named c = subst (λ (ms : List Module). NamesWithin ms c.self.inside.longest) (sym c.in-Err-load.ensures.err.0) c.self.invariant.1

pub begin-requires-clause-named : goal.begin-requires-clause-named
begin-requires-clause-named c =
    let ms = c.self.inside.modules in
    let m = c.args.added in
    let longest = c.max-longest.result in
    let is = c.max-longest.ensures in
    let name = ap (λ (xs : List ℕ). length xs) (c.as_slice.ensures ∙ c.name.ensures ∙ ap (λ (i : InterfaceTree). i.name) c.interface.ensures) in
    subst (λ (x : List Module). NamesWithin x longest) (sym c.in-Ok-load.ensures.modules)
    (within_with ms m longest (within_more ms c.self.inside.longest longest (omega (arith, is)) c.self.invariant.1) (omega (arith, is, name)))

pub returns-in-Ok-load-clause-begun : goal.returns-in-Ok-load-clause-begun
returns-in-Ok-load-clause-begun c =
    let ms = c.self.inside.modules in
    let m = c.args.added in
    let old = c.self.inside.image.cells in
    let b = c.in-Ok-load.beginning in
    let new = with_module ms m in
    let cells = c.in-Ok-load.ensures.cells ∙ ap (loaded_cells ms m) (c.as_slice-2.ensures.value ∙ c.into_parts-parts.ensures.cells) in
    subst (λ (s : Session). c.begin.result ≡ begun_in (installed s m) (Body (place_of s.modules (name_of m)))) c.self.view_is
    (c.begin.ensures
    ∙ ap (λ (x : List Module). begun_in (session_of x b.cells.items) (Body b.number)) c.in-Ok-load.ensures.modules
    ∙ ap (λ (x : List ℤ). begun_in (session_of new x) (Body b.number)) cells
    ∙ ap (λ (n : ℕ). begun_in (session_of new (loaded_cells ms m old)) (Body n)) c.in-Ok-load.ensures.number
    ∙ ap (λ (v : Value). begun_in (let s : Session = record { modules = new; store = v } in s) (Body (place_of ms (name_of m)))) (sym (store_is ms c.self.inside.known.items c.self.inside.image.code m old c.self.invariant.0.compiled.each c.self.invariant.0.cells)))
