use Rattle.std.proofs.Common.{◌∙◌, subst, sym}
use Rattle.jk_core.specs.State.{KernelState}
use Rattle.jk_core.specs.Needed.{RunsAt}
use Rattle.jk_core.proofs.Needed.{runs_begun, runs_flushed}
use Rattle.jk_core.proofs.Desks.{broken_as, broken_stands}
use Rattle.jk_core.proofs.start.end_broken.Goals as goal

pub returns-clause-stands : goal.returns-clause-stands
returns-clause-stands g c =
    broken_stands g.L.Language.spoken g.met.L.Language.lawful g.L.Language.state c.args.script.now.state _ c.args.desk.now c.args.at c.next_count-count.result c.args.session c.args.refusal c.requires.breaks c.next_count-count.ensures c.requires.session
    (broken_as c.args.script.now.state _ _ _ _ c.args.at c.next_count-count.result c.stops_at-stops.result c.from_string-text.result c.args.refusal c.next_count-count.ensures c.stops_at-stops.ensures (c.from_string-text.ensures ∙ c.new.ensures.bytes) c.note_of.ensures.state c.note.ensures.state c.note-2.ensures.state c.fail.ensures)

pub note-requires-clause-runs : goal.note-requires-clause-runs
note-requires-clause-runs g c =
    subst (λ (k : KernelState _). RunsAt c.args.at k.log) (sym c.note_of.ensures.state) (runs_begun c.args.at c.next_count-count.result c.args.script.now.state.log c.requires.breaks.request c.requires.breaks.there)

pub note-requires-2-clause-runs : goal.note-requires-2-clause-runs
note-requires-2-clause-runs g c =
    subst (λ (k : KernelState _). RunsAt c.args.at k.log) (sym c.note.ensures.state) (runs_flushed c.args.at 0 c.from_string-text.result c.note_of.new.self.state.log
    (subst (λ (k : KernelState _). RunsAt c.args.at k.log) (sym c.note_of.ensures.state) (runs_begun c.args.at c.next_count-count.result c.args.script.now.state.log c.requires.breaks.request c.requires.breaks.there)))
