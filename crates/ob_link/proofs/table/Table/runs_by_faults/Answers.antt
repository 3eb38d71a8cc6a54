use Rattle.std.proofs.Common.{rules, ◌≤◌, ℕ, List, Option, is_none, length, map, ◌∙◌, ap}
use Rattle.std.proofs.lemmas.List.{take_all}
use Rattle.ob_session.specs.Session.{Module, link_fault}
use Rattle.ob_link.specs.Faults.{next_row}
use Rattle.ob_link.proofs.Faults.{row_next}
use Rattle.ob_link.proofs.Runs.{flags_of}
use Rattle.ob_link.proofs.table.Table.runs_by_faults.Goals as goal

pub returns : goal.returns
returns c =
    let ms = c.args.self.now in
    let items = c.as_slice-fault-items.result.now in
    let ended : length items ≤ c.loop-fault.fault-index = search rules in
    c.loop-fault.invariant
    ∙ ap (map (λ (f : Option (List ℕ)). is_none f)) (take_all c.loop-fault.fault-index items ended ∙ c.as_slice-fault-items.ensures.value ∙ c.in_ok-faults.ensures ∙ ap (next_row ms) c.requires ∙ row_next ms (length ms))
    ∙ flags_of (λ (m : Module). link_fault c.args.self.now m.imports) c.args.self.now
