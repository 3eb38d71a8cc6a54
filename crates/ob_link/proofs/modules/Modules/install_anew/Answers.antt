use Rattle.std.proofs.Common.{rules, ◌≡◌, List, [], length, sym, ap, ap₂, ◌∙◌}
use Rattle.ob_types.specs.InterfaceTree.{InterfaceTree}
use Rattle.ob_check_scope.specs.Imports.{Modules, added}
use Rattle.ob_check_scope.specs.LoadedTree.{LoadedTree}
use Rattle.ob_session.specs.Session.{Module}
use Rattle.ob_link.specs.Exchange.{put_back}
use Rattle.ob_link.specs.Faults.{fault_row}
use Rattle.ob_link.specs.Seen.{all_seen}
use Rattle.ob_link.proofs.Exchanged.{goes_back}
use Rattle.ob_link.proofs.Seen.{added_seen}
use Rattle.ob_link.proofs.modules.Modules.install_anew.Goals as goal

pub invariant_of-self-in-Ok : goal.invariant_of-self-in-Ok
invariant_of-self-in-Ok c =
    let now = c.exchange.new.self in
    let faults : c.in-Ok.faults.items ≡ fault_row now (length now) = search rules in
    let seen =
    c.in-Ok.ensures.loaded
    ∙ ap (λ (all : Modules). let one : LoadedTree = record { interface = c.in_ok-interface.interface; reached = [] } in added all one) c.self.invariant.1
    ∙ ap (λ (i : InterfaceTree). let one : LoadedTree = record { interface = i; reached = [] } in added (all_seen c.self.inside.table) one) (c.in_ok-interface.ensures ∙ c.interface.ensures)
    ∙ added_seen c.self.inside.table c.args.loaded
    ∙ ap (λ (xs : List Module). all_seen xs) (sym c.in_ok-before.ensures.new) in
    (faults, seen)

pub invariant_of-self-in-Err : goal.invariant_of-self-in-Err
invariant_of-self-in-Err c =
    let back = c.restore.ensures ∙ ap₂ put_back c.in_ok-before.ensures.new c.in_ok-before.ensures.ok ∙ goes_back c.self.inside.table c.args.loaded in (
      c.self.invariant.0 ∙ ap (λ (ms : List Module). fault_row ms (length ms)) (sym back),
      c.in-Err.ensures.err ∙ c.self.invariant.1 ∙ ap (λ (ms : List Module). all_seen ms) (sym back),
    )

pub returns-clause-err : goal.returns-clause-err
returns-clause-err c =
    c.restore.ensures ∙ ap₂ put_back c.in_ok-before.ensures.new c.in_ok-before.ensures.ok ∙ goes_back c.self.inside.table c.args.loaded ∙ c.self.view_is
