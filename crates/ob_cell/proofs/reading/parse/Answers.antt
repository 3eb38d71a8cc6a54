use Rattle.std.proofs.Common.{Err, inl, sym, subst}
use Rattle.ob_base.specs.declared.fault.Refused as base
use Rattle.ob_parse.specs.CellText.{FaultsBreak}
use Rattle.ob_parse.specs.Grammar.{AnswersTree}
use Rattle.ob_cell.specs.Oberon.{IsTreeOf, IsBroken}
use Rattle.ob_cell.proofs.reading.parse.Goals as goal

pub of-requires : goal.of-requires
unfolding IsTreeOf
of-requires c = (c.args.text.now, c.in-Ok.ensures.found)

pub returns-in-Ok-clause-found : goal.returns-in-Ok-clause-found
unfolding IsTreeOf
returns-in-Ok-clause-found c = subst (IsTreeOf c.args.text.now) (sym c.of.ensures) c.in-Ok.ensures.found

pub returns-in-Err-Fault-clause-faults : goal.returns-in-Err-Fault-clause-faults
unfolding IsBroken
returns-in-Err-Fault-clause-faults c =
    let breaks = subst (λ (r : base.Refused). FaultsBreak c.args.text.now (Err r)) c.in-Err-Fault.field-0-is c.in-Err-Fault.ensures.faults in
    λ session. (c.in-Err-Fault.fault.code, c.numbered.ensures, inl breaks)

pub returns-in-Err-Fault-clause-unread : goal.returns-in-Err-Fault-clause-unread
unfolding IsTreeOf
returns-in-Err-Fault-clause-unread c = λ tree is.
    subst (λ (r : base.Refused). AnswersTree tree (Err r)) c.in-Err-Fault.field-0-is (c.in-Err-Fault.ensures.only tree is)
