use Rattle.std.proofs.Common.{◌<◌, ◌++◌, ◌∷◌, [], List, Some, length, ap, sym, subst, ◌∙◌, arith, Bool}
use Rattle.std.specs.Prelude.{◌||◌}
use Rattle.jk_log.specs.declared.entry.Entry.{Entry}
use Rattle.jk_log.specs.declared.mark.Mark.{Mark}
use Rattle.jk_log.specs.declared.mark.Item.TheVariants.{Marked}
use Rattle.jk_log.specs.Leaving.{last_leave}
use Rattle.jk_log.specs.Log.{Log, arrivals, ended, ends}
use Rattle.jk_core.specs.Needed.{IsFor}
use Rattle.jk_core.specs.Pended.{arrival_of, cell_after, entries_for}
use Rattle.jk_core.specs.State.{ScriptState}
use Rattle.jk_core.proofs.Keeps.{some_same}
use Rattle.jk_core.proofs.Needed.{cell_added, entries_there, noted_as, there_added}
use Rattle.jk_core.proofs.script.Script.add.Goals as goal

pub invariant_of-self : goal.invariant_of-self
invariant_of-self g c =
    let log = c.self.inside.past.items in
    let for = subst (λ (s : ScriptState _). IsFor c.args.at s.state.log c.args.arrival) (sym c.self.view_is) c.requires.there in
    let mark = some_same _ _ c.in-Some.ensures in
    let room = c.push.ensures.room in
    let enough = c.self.invariant.room in
    let one = ap length c.and.ensures in
    let places = c.self.invariant.places in
    let small = c.self.invariant.small in
    let some = subst (λ (s : ScriptState _). 0 < s.room) (sym c.self.view_is) c.requires.room in
    record {
      places = omega (arith, one, places);
      small = omega arith;
      room = omega (arith, room, enough);
      there = there_added log _ (Marked (record { at = c.args.at; kind = c.args.kind })) c.self.inside.waiting.items c.self.inside.requests.items c.and.ensures c.self.invariant.there;
      cell = cell_added c.self.inside.pending.cell _ log _ c.args.at c.args.kind c.args.arrival c.self.invariant.cell for (c.push.ensures.cell ∙ ap (λ (m : Mark). cell_after m.kind c.args.arrival c.self.inside.pending.cell) mark) c.and.ensures;
      taken = c.self.invariant.taken ∙ sym (ap arrivals c.and.ensures);
      order = c.self.invariant.order;
      passed = c.self.invariant.passed;
      ended = c.ended_by-self-inside.ensures ∙ ap (λ (b : Bool). ends c.args.kind || b) c.self.invariant.ended ∙ sym (ap ended c.and.ensures);
      left = λ seat h. c.self.invariant.left seat h ∙ ap (λ (l : Log). Some (last_leave seat l)) (sym c.and.ensures);
    }

pub returns-clause-state : goal.returns-clause-state
returns-clause-state g c =
    let log = c.self.inside.past.items in
    let for = subst (λ (s : ScriptState _). IsFor c.args.at s.state.log c.args.arrival) (sym c.self.view_is) c.requires.there in
    let mark = some_same _ _ c.in-Some.ensures in
    let entries = c.push.ensures.entries ∙ ap (λ (m : Mark). c.self.inside.pending.entries ++ entries_for m.kind (arrival_of c.self.inside.pending.cell c.args.arrival) ∷ []) mark
    ∙ ap (λ (x : List Entry). c.self.inside.pending.entries ++ x ∷ []) (entries_there c.self.inside.pending.cell log c.self.invariant.cell c.args.at c.args.kind c.args.arrival for) in
    rw (← c.self.view_is) (noted_as log _ c.self.inside.pending.entries _ c.self.inside.waiting.items c.self.inside.given c.self.inside.ran _ c.args.at c.args.kind c.and.ensures entries c.ran_by-self-inside.ensures)
