use Rattle.std.proofs.Common.{◌∙◌, ap, arith, inr, subst, sym}
use Rattle.jk_log.specs.declared.arrival.Arrival.{Arrival}
use Rattle.jk_log.specs.declared.arrival.Sort.{Sort}
use Rattle.jk_core.specs.Kept.{IsLineBy}
use Rattle.jk_core.specs.Needed.{handed_back}
use Rattle.jk_core.proofs.Arrivals.{line_for, marked_taken, same_back, there_new, took_few, took_stands, waits_marked, waits_stand}
use Rattle.jk_core.proofs.Turns.{not_err}
use Rattle.jk_core.proofs.taking.take_in.Goals as goal

pub mark_taken-requires-clause-stands : goal.mark_taken-requires-clause-stands
mark_taken-requires-clause-stands g c =
    took_stands g.L.Language.spoken g.met.L.Language.lawful g.L.Language.state c.in-Ok-status_of.status c.sort_of-sort.result c.args.arrival c.args.script.now.state c.reserve.new.self.state c.take.new.self.state c.args.desk.now c.sort_of-sort.ensures c.reserve.ensures.state c.in_ok-back.ensures.ok c.requires.kept c.requires.stands

pub mark_taken-requires-clause-line : goal.mark_taken-requires-clause-line
mark_taken-requires-clause-line g c =
    subst (λ (a : Arrival). IsLineBy c.sort_of-sort.result c.take.new.self.state.log a c.in-Ok.line) (sym (same_back g.L.Language.spoken g.met.L.Language.lawful _ c.args.arrival c.in-Some.arrival (sym c.in-Some.is ∙ c.in_ok-back.ensures.back)))
    (line_for g.L.Language.spoken g.met.L.Language.lawful c.in-Ok-status_of.status c.sort_of-sort.result c.args.arrival c.in-Ok.line c.reserve.new.self.state c.take.new.self.state c.sort_of-sort.ensures c.in_ok-back.ensures.ok c.in-Ok.ensures)

pub mark_taken-requires-clause-there : goal.mark_taken-requires-clause-there
mark_taken-requires-clause-there g c =
    there_new c.in-Ok-status_of.status c.args.arrival c.in-Some.arrival c.next_place-place.result c.reserve.new.self.state c.take.new.self.state c.in_ok-back.ensures.ok c.next_place-place.ensures.place
    (same_back g.L.Language.spoken g.met.L.Language.lawful _ c.args.arrival c.in-Some.arrival (sym c.in-Some.is ∙ c.in_ok-back.ensures.back))

pub mark_taken-requires-clause-room : goal.mark_taken-requires-clause-room
mark_taken-requires-clause-room g c =
    let room = not_err _ c.reserve.result (sym c.is_err.ensures.value ∙ c.if-is_err.false) c.reserve.ensures.room in
    let few = took_few c.in-Ok-status_of.status c.args.arrival c.args.script.now.state c.reserve.new.self.state c.take.new.self.state c.reserve.ensures.state c.in_ok-back.ensures.ok in
    omega (arith, room, few, c.waiting_len-more.ensures.count, c.take.ensures.room)

pub returns-clause-ok : goal.returns-clause-ok
returns-clause-ok g c =
    inr (
      sym c.ended.ensures ∙ c.if-ended.false,
      c.in-Ok-status_of.status,
      c.in-Ok-status_of.ensures,
      marked_taken g.L.Language.spoken g.met.L.Language.lawful c.in-Ok-status_of.status c.sort_of-sort.result c.args.arrival c.next_place-place.result c.in-Ok.line c.args.script.now.state c.reserve.new.self.state c.take.new.self.state c.mark_taken.new.script.state c.sort_of-sort.ensures c.reserve.ensures.state c.in_ok-back.ensures.ok c.next_place-place.ensures.place c.in-Ok.ensures c.mark_taken.ensures.marked,
    )

pub returns-in_default-back-clause-ok : goal.returns-in_default-back-clause-ok
returns-in_default-back-clause-ok g c =
    let waits = sym c.in_default-back.is ∙ c.in_ok-back.ensures.back ∙ ap (λ (s : Sort). handed_back s c.args.arrival) (sym c.sort_of-sort.ensures) in
    inr (
      sym c.ended.ensures ∙ c.if-ended.false,
      c.in-Ok-status_of.status,
      c.in-Ok-status_of.ensures,
      marked_taken g.L.Language.spoken g.met.L.Language.lawful c.in-Ok-status_of.status c.sort_of-sort.result c.args.arrival c.next_place-place.result c.in-Ok.line c.args.script.now.state c.reserve.new.self.state c.take.new.self.state c.take.new.self.state c.sort_of-sort.ensures c.reserve.ensures.state c.in_ok-back.ensures.ok c.next_place-place.ensures.place c.in-Ok.ensures
          (waits_marked g.L.Language.spoken g.met.L.Language.lawful c.sort_of-sort.result c.args.arrival c.next_place-place.result c.in-Ok.line c.take.new.self.state waits),
    )

pub returns-in_default-back-clause-stands : goal.returns-in_default-back-clause-stands
returns-in_default-back-clause-stands g c =
    let waits = sym c.in_default-back.is ∙ c.in_ok-back.ensures.back ∙ ap (λ (s : Sort). handed_back s c.args.arrival) (sym c.sort_of-sort.ensures) in
    waits_stand g.L.Language.spoken g.met.L.Language.lawful g.L.Language.state c.sort_of-sort.result c.args.arrival c.take.new.self.state c.args.desk.now waits
    (took_stands g.L.Language.spoken g.met.L.Language.lawful g.L.Language.state c.in-Ok-status_of.status c.sort_of-sort.result c.args.arrival c.args.script.now.state c.reserve.new.self.state c.take.new.self.state c.args.desk.now c.sort_of-sort.ensures c.reserve.ensures.state c.in_ok-back.ensures.ok c.requires.kept c.requires.stands)
