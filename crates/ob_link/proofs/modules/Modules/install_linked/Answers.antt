use Rattle.std.proofs.Common.{rules, ◌≡◌, ℕ, List, [], ◌∷◌, ◌++◌, Option, None, length, sym, ◌∙◌, ap, subst}
use Rattle.ob_types.specs.InterfaceTree.{InterfaceTree}
use Rattle.ob_check_scope.specs.Imports.{Modules, added, module_place}
use Rattle.ob_check_scope.specs.LoadedTree.{LoadedTree}
use Rattle.ob_session.specs.Session.{Module, find_module}
use Rattle.ob_link.specs.Exchange.{LinksBehind, without_last}
use Rattle.ob_link.specs.Faults.{fault_row}
use Rattle.ob_link.specs.Runs.{may_run}
use Rattle.ob_link.specs.Seen.{all_seen}
use Rattle.ob_link.proofs.Appended.{row_more, runs_more}
use Rattle.ob_link.proofs.Exchanged.{back_new, no_number, taken_new}
use Rattle.ob_link.proofs.Seen.{added_seen, unseen}
use Rattle.ob_link.proofs.modules.Modules.install_linked.Goals as goal

pub append-requires : goal.append-requires
append-requires c =
    no_number c.self.inside.table c.args.loaded.interface.name
    (subst (λ (ms : List Module). find_module ms c.args.loaded.interface.name ≡ None) (sym c.self.view_is) c.requires.apart.new)

pub push-requires : goal.push-requires
push-requires c =
    let ms = c.self.inside.table in
    let new = subst (λ (xs : List Module). find_module xs c.args.loaded.interface.name ≡ None) (sym c.self.view_is) c.requires.apart.new in
    ap (λ (seen : Modules). module_place seen c.in_ok-interface.interface.name) c.self.invariant.1
    ∙ ap (λ (i : InterfaceTree). module_place (all_seen ms) i.name) (c.in_ok-interface.ensures ∙ c.interface.ensures)
    ∙ unseen ms c.args.loaded.interface.name new

pub drop_last-requires : goal.drop_last-requires
drop_last-requires c =
    let ms = c.self.inside.table in
    let new = subst (λ (xs : List Module). find_module xs c.args.loaded.interface.name ≡ None) (sym c.self.view_is) c.requires.apart.new in
    record { before = ms; last = c.args.loaded; ends = c.in_ok-append.ensures.ok ∙ taken_new ms c.args.loaded new; new = new }

pub invariant_of-self-in-Err : goal.invariant_of-self-in-Err
invariant_of-self-in-Err c =
    let ms = c.self.inside.table in
    let new = subst (λ (xs : List Module). find_module xs c.args.loaded.interface.name ≡ None) (sym c.self.view_is) c.requires.apart.new in
    let back = c.drop_last.ensures ∙ ap without_last c.in_ok-append.ensures.ok ∙ back_new ms c.args.loaded new in (
      c.in_ok-reserve.ensures.items ∙ c.self.invariant.0 ∙ ap (λ (xs : List Module). fault_row xs (length xs)) (sym back),
      c.in-Err.ensures.err ∙ c.self.invariant.1 ∙ ap (λ (xs : List Module). all_seen xs) (sym back),
    )

pub returns-in-Err-clause-err : goal.returns-in-Err-clause-err
returns-in-Err-clause-err c =
    let ms = c.self.inside.table in
    let new = subst (λ (xs : List Module). find_module xs c.args.loaded.interface.name ≡ None) (sym c.self.view_is) c.requires.apart.new in
    c.drop_last.ensures ∙ ap without_last c.in_ok-append.ensures.ok ∙ back_new ms c.args.loaded new ∙ c.self.view_is

pub invariant_of-self-2 : goal.invariant_of-self-2
invariant_of-self-2 c =
    let ms = c.self.inside.table in
    let links = subst (λ (xs : List Module). LinksBehind xs c.args.loaded) (sym c.self.view_is) c.requires in
    let pushed : c.push-2.new.self.items ≡ c.self.inside.faults.items ++ None ∷ [] = search rules in
    let faults =
    pushed
    ∙ ap (λ (row : List (Option (List ℕ))). row ++ None ∷ []) c.self.invariant.0
    ∙ row_more ms c.args.loaded links
    ∙ ap (λ (xs : List Module). fault_row xs (length xs)) (sym c.in_ok-append.ensures.ok) in
    let seen =
    c.index_at-indexed.ensures ∙ c.in_default.ensures.ok
    ∙ ap (λ (all : Modules). let one : LoadedTree = record { interface = c.in_ok-interface.interface; reached = [] } in added all one) c.self.invariant.1
    ∙ ap (λ (i : InterfaceTree). let one : LoadedTree = record { interface = i; reached = [] } in added (all_seen ms) one) (c.in_ok-interface.ensures ∙ c.interface.ensures)
    ∙ added_seen ms c.args.loaded
    ∙ ap (λ (xs : List Module). all_seen xs) (sym c.in_ok-append.ensures.ok) in
    (faults, seen)

pub returns-clause-runs : goal.returns-clause-runs
returns-clause-runs c =
    let links = subst (λ (ms : List Module). LinksBehind ms c.args.loaded) (sym c.self.view_is) c.requires in
    c.in_ok-runs.ensures ∙ runs_more c.self.inside.table c.args.loaded links ∙ ap (λ (ms : List Module). may_run ms) (sym c.in_ok-append.ensures.ok)
