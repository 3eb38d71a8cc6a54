use Rattle.std.proofs.Common.{◌≡◌, List, ℕ, ◌∙◌, ap, refl, subst, sym, None, Some, inl, inr}
use Rattle.std.specs.Prelude.{find}
use Rattle.jp_msg.specs.declared.message.Execute.{Execute}
use Rattle.jk_log.specs.Results.{IsResult}
use Rattle.jk_log.specs.Log.{Log, session, execute_at}
use Rattle.jk_core.specs.State.{KernelState, is_cell}
use Rattle.jk_core.specs.Steps.{IsBrokenAt, answering}
use Rattle.jk_language.specs.Beginning.{IsFresh}
use Rattle.jk_core.specs.Kept.{Opens}
use Rattle.jk_core.specs.declared.script.Task.TheVariants.{Cell}
use Rattle.jk_core.specs.declared.start.Opening.{Opening}
use Rattle.jk_core.specs.declared.start.Opening.TheVariants as opening
use Rattle.jk_core.proofs.Desks.{found_now, is_opened, is_popped, popped_first, popped_there, is_broken, broken_back, is_fresh, same_log, first_broken, first_begins, first_refused, refused_stands, same_count}
use Rattle.jk_core.proofs.Needed.{none_some}
use Rattle.jk_core.proofs.start.start.Goals as goal

pub end_broken-requires-clause-session : goal.end_broken-requires-clause-session
end_broken-requires-clause-session g c =
    let old = c.args.script.now.state in
    let k = answering old.waits old in
    let p = is_popped g.L.Language.spoken g.met.L.Language.lawful g.L.Language.state old c.reserve.new.self.state c.answer_queries.new.script.state _ c.requires.kept c.requires.idle c.reserve.ensures.state c.answer_queries.ensures.state c.pop_waiting.ensures.rest in
    let o = is_opened g.L.Language.spoken g.met.L.Language.lawful g.L.Language.state old _ c.in-Some.first.now c.in-Some-result.outcome c.args.session (opening.Broken c.in-Broken.session c.in-Broken.refusal) c.requires.kept c.requires.idle c.requires.session c.reserve.ensures.state c.in-Some.ensures (c.in-Cell.is ∙ ap (λ r. Cell r) c.in-Some-result.is)
    (subst (λ (o : Opening _ _). (text : List ℕ) → IsResult g.L.Language.spoken text c.in-Some-result.outcome → Opens g.L.Language.spoken g.L.Language.state c.args.session text c.in-Some-result.outcome o) c.in-Broken.is c.in-Ok.ensures.opened) in
    broken_back g.L.Language.spoken g.met.L.Language.lawful g.L.Language.state k c.in-Some.first.now c.in-Some-result.outcome c.in-Broken.session c.in-Broken.refusal o ∙ ap (session g.L.Language.spoken) (same_log k k _ refl p.same)

pub end_broken-requires-clause-breaks : goal.end_broken-requires-clause-breaks
end_broken-requires-clause-breaks g c =
    let old = c.args.script.now.state in
    let k = answering old.waits old in
    let p = is_popped g.L.Language.spoken g.met.L.Language.lawful g.L.Language.state old c.reserve.new.self.state c.answer_queries.new.script.state _ c.requires.kept c.requires.idle c.reserve.ensures.state c.answer_queries.ensures.state c.pop_waiting.ensures.rest in
    let o = is_opened g.L.Language.spoken g.met.L.Language.lawful g.L.Language.state old _ c.in-Some.first.now c.in-Some-result.outcome c.args.session (opening.Broken c.in-Broken.session c.in-Broken.refusal) c.requires.kept c.requires.idle c.requires.session c.reserve.ensures.state c.in-Some.ensures (c.in-Cell.is ∙ ap (λ r. Cell r) c.in-Some-result.is)
    (subst (λ (o : Opening _ _). (text : List ℕ) → IsResult g.L.Language.spoken text c.in-Some-result.outcome → Opens g.L.Language.spoken g.L.Language.state c.args.session text c.in-Some-result.outcome o) c.in-Broken.is c.in-Ok.ensures.opened) in
    subst (IsBrokenAt g.L.Language.spoken c.in-Some.first.now.at c.in-Broken.refusal) (same_log k k _ refl p.same) (is_broken g.L.Language.spoken g.met.L.Language.lawful g.L.Language.state k c.in-Some.first.now c.in-Some-result.outcome c.in-Broken.session c.in-Broken.refusal o)

pub end_broken-requires-clause-counted : goal.end_broken-requires-clause-counted
end_broken-requires-clause-counted g c =
    let old = c.args.script.now.state in
    let k = answering old.waits old in
    let p = is_popped g.L.Language.spoken g.met.L.Language.lawful g.L.Language.state old c.reserve.new.self.state c.answer_queries.new.script.state _ c.requires.kept c.requires.idle c.reserve.ensures.state c.answer_queries.ensures.state c.pop_waiting.ensures.rest in
    c.requires.counted ∙ sym p.counted

pub end_broken-requires-clause-few : goal.end_broken-requires-clause-few
end_broken-requires-clause-few g c =
    let old = c.args.script.now.state in
    let k = answering old.waits old in
    let p = is_popped g.L.Language.spoken g.met.L.Language.lawful g.L.Language.state old c.reserve.new.self.state c.answer_queries.new.script.state _ c.requires.kept c.requires.idle c.reserve.ensures.state c.answer_queries.ensures.state c.pop_waiting.ensures.rest in
    p.few

pub begin-requires-clause-counted : goal.begin-requires-clause-counted
begin-requires-clause-counted g c =
    let old = c.args.script.now.state in
    let k = answering old.waits old in
    let p = is_popped g.L.Language.spoken g.met.L.Language.lawful g.L.Language.state old c.reserve.new.self.state c.answer_queries.new.script.state _ c.requires.kept c.requires.idle c.reserve.ensures.state c.answer_queries.ensures.state c.pop_waiting.ensures.rest in
    c.requires.counted ∙ sym p.counted

pub begin-requires-clause-few : goal.begin-requires-clause-few
begin-requires-clause-few g c =
    let old = c.args.script.now.state in
    let k = answering old.waits old in
    let p = is_popped g.L.Language.spoken g.met.L.Language.lawful g.L.Language.state old c.reserve.new.self.state c.answer_queries.new.script.state _ c.requires.kept c.requires.idle c.reserve.ensures.state c.answer_queries.ensures.state c.pop_waiting.ensures.rest in
    p.few

pub begin-requires-clause-begins : goal.begin-requires-clause-begins
begin-requires-clause-begins g c =
    let old = c.args.script.now.state in
    let k = answering old.waits old in
    let p = is_popped g.L.Language.spoken g.met.L.Language.lawful g.L.Language.state old c.reserve.new.self.state c.answer_queries.new.script.state _ c.requires.kept c.requires.idle c.reserve.ensures.state c.answer_queries.ensures.state c.pop_waiting.ensures.rest in
    let o = is_opened g.L.Language.spoken g.met.L.Language.lawful g.L.Language.state old _ c.in-Some.first.now c.in-Some-result.outcome c.args.session (opening.Runs c.in-Runs.machine) c.requires.kept c.requires.idle c.requires.session c.reserve.ensures.state c.in-Some.ensures (c.in-Cell.is ∙ ap (λ r. Cell r) c.in-Some-result.is)
    (subst (λ (o : Opening _ _). (text : List ℕ) → IsResult g.L.Language.spoken text c.in-Some-result.outcome → Opens g.L.Language.spoken g.L.Language.state c.args.session text c.in-Some-result.outcome o) c.in-Runs.is c.in-Ok.ensures.opened) in
    subst (λ (log : Log). (e : Execute) × (execute_at c.in-Some.first.now.at log ≡ Some e) × IsFresh g.L.Language.spoken (session g.L.Language.spoken log) e.code (g.L.Language.state c.in-Runs.machine)) (same_log k k _ refl p.same) (is_fresh g.L.Language.spoken g.met.L.Language.lawful g.L.Language.state k c.in-Some.first.now c.in-Some-result.outcome c.in-Runs.machine o)

pub returns-in-Refused-clause-starts : goal.returns-in-Refused-clause-starts
returns-in-Refused-clause-starts g c =
    let old = c.args.script.now.state in
    let k = answering old.waits old in
    let p = is_popped g.L.Language.spoken g.met.L.Language.lawful g.L.Language.state old c.reserve.new.self.state c.answer_queries.new.script.state _ c.requires.kept c.requires.idle c.reserve.ensures.state c.answer_queries.ensures.state c.pop_waiting.ensures.rest in
    let w = found_now g.L.Language.spoken g.met.L.Language.lawful g.L.Language.state old c.in-Some.first.now (subst (λ (k : KernelState _). Some c.in-Some.first.now ≡ find (λ w. is_cell w.task) k.waits) c.reserve.ensures.state c.in-Some.ensures) in
    let o = is_opened g.L.Language.spoken g.met.L.Language.lawful g.L.Language.state old _ c.in-Some.first.now c.in-Some-result.outcome c.args.session (opening.Refused c.in-Refused.session) c.requires.kept c.requires.idle c.requires.session c.reserve.ensures.state c.in-Some.ensures (c.in-Cell.is ∙ ap (λ r. Cell r) c.in-Some-result.is)
    (subst (λ (o : Opening _ _). (text : List ℕ) → IsResult g.L.Language.spoken text c.in-Some-result.outcome → Opens g.L.Language.spoken g.L.Language.state c.args.session text c.in-Some-result.outcome o) c.in-Refused.is c.in-Ok.ensures.opened) in
    inr (inl (first_refused g.L.Language.spoken g.met.L.Language.lawful g.L.Language.state c.args.turns k k _ _ c.in-Some.first.now c.in-Some-result.outcome c.in-Refused.session c.args.desk.now.count refl w p.same (c.in-Cell.is ∙ ap (λ r. Cell r) c.in-Some-result.is) o (c.requires.counted ∙ sym (same_count g.L.Language.spoken g.met.L.Language.lawful g.L.Language.state old)) c.note_of.ensures.state))

pub returns-in-Refused-clause-stands : goal.returns-in-Refused-clause-stands
returns-in-Refused-clause-stands g c =
    let old = c.args.script.now.state in
    let k = answering old.waits old in
    let p = is_popped g.L.Language.spoken g.met.L.Language.lawful g.L.Language.state old c.reserve.new.self.state c.answer_queries.new.script.state _ c.requires.kept c.requires.idle c.reserve.ensures.state c.answer_queries.ensures.state c.pop_waiting.ensures.rest in
    let o = is_opened g.L.Language.spoken g.met.L.Language.lawful g.L.Language.state old _ c.in-Some.first.now c.in-Some-result.outcome c.args.session (opening.Refused c.in-Refused.session) c.requires.kept c.requires.idle c.requires.session c.reserve.ensures.state c.in-Some.ensures (c.in-Cell.is ∙ ap (λ r. Cell r) c.in-Some-result.is)
    (subst (λ (o : Opening _ _). (text : List ℕ) → IsResult g.L.Language.spoken text c.in-Some-result.outcome → Opens g.L.Language.spoken g.L.Language.state c.args.session text c.in-Some-result.outcome o) c.in-Refused.is c.in-Ok.ensures.opened) in
    refused_stands g.L.Language.spoken g.met.L.Language.lawful g.L.Language.state k k _ _ c.args.desk.now c.in-Some.first.now c.in-Some-result.outcome c.in-Refused.session c.args.desk.now.count refl p.same o p.idle (c.requires.counted ∙ sym (same_count g.L.Language.spoken g.met.L.Language.lawful g.L.Language.state old)) c.note_of.ensures.state

pub returns-in-Broken-clause-starts : goal.returns-in-Broken-clause-starts
returns-in-Broken-clause-starts g c =
    let old = c.args.script.now.state in
    let k = answering old.waits old in
    let p = is_popped g.L.Language.spoken g.met.L.Language.lawful g.L.Language.state old c.reserve.new.self.state c.answer_queries.new.script.state _ c.requires.kept c.requires.idle c.reserve.ensures.state c.answer_queries.ensures.state c.pop_waiting.ensures.rest in
    let w = found_now g.L.Language.spoken g.met.L.Language.lawful g.L.Language.state old c.in-Some.first.now (subst (λ (k : KernelState _). Some c.in-Some.first.now ≡ find (λ w. is_cell w.task) k.waits) c.reserve.ensures.state c.in-Some.ensures) in
    let o = is_opened g.L.Language.spoken g.met.L.Language.lawful g.L.Language.state old _ c.in-Some.first.now c.in-Some-result.outcome c.args.session (opening.Broken c.in-Broken.session c.in-Broken.refusal) c.requires.kept c.requires.idle c.requires.session c.reserve.ensures.state c.in-Some.ensures (c.in-Cell.is ∙ ap (λ r. Cell r) c.in-Some-result.is)
    (subst (λ (o : Opening _ _). (text : List ℕ) → IsResult g.L.Language.spoken text c.in-Some-result.outcome → Opens g.L.Language.spoken g.L.Language.state c.args.session text c.in-Some-result.outcome o) c.in-Broken.is c.in-Ok.ensures.opened) in
    inr (inl (first_broken g.L.Language.spoken g.met.L.Language.lawful g.L.Language.state c.args.turns k k _ _ c.in-Some.first.now c.in-Some-result.outcome c.in-Broken.session c.in-Broken.refusal refl w p.same (c.in-Cell.is ∙ ap (λ r. Cell r) c.in-Some-result.is) o c.end_broken.ensures.ended))

pub returns-in-Runs-clause-starts : goal.returns-in-Runs-clause-starts
returns-in-Runs-clause-starts g c =
    let old = c.args.script.now.state in
    let k = answering old.waits old in
    let p = is_popped g.L.Language.spoken g.met.L.Language.lawful g.L.Language.state old c.reserve.new.self.state c.answer_queries.new.script.state _ c.requires.kept c.requires.idle c.reserve.ensures.state c.answer_queries.ensures.state c.pop_waiting.ensures.rest in
    let w = found_now g.L.Language.spoken g.met.L.Language.lawful g.L.Language.state old c.in-Some.first.now (subst (λ (k : KernelState _). Some c.in-Some.first.now ≡ find (λ w. is_cell w.task) k.waits) c.reserve.ensures.state c.in-Some.ensures) in
    let o = is_opened g.L.Language.spoken g.met.L.Language.lawful g.L.Language.state old _ c.in-Some.first.now c.in-Some-result.outcome c.args.session (opening.Runs c.in-Runs.machine) c.requires.kept c.requires.idle c.requires.session c.reserve.ensures.state c.in-Some.ensures (c.in-Cell.is ∙ ap (λ r. Cell r) c.in-Some-result.is)
    (subst (λ (o : Opening _ _). (text : List ℕ) → IsResult g.L.Language.spoken text c.in-Some-result.outcome → Opens g.L.Language.spoken g.L.Language.state c.args.session text c.in-Some-result.outcome o) c.in-Runs.is c.in-Ok.ensures.opened) in
    inr (inl (first_begins g.L.Language.spoken g.met.L.Language.lawful g.L.Language.state c.args.turns k k _ c.begin.result _ c.in-Some.first.now c.in-Some-result.outcome c.in-Runs.machine refl w p.same (c.in-Cell.is ∙ ap (λ r. Cell r) c.in-Some-result.is) o c.begin.ensures.begins))

pub note_of-requires-clause-there : goal.note_of-requires-clause-there
note_of-requires-clause-there g c =
    let old = c.args.script.now.state in
    let one = popped_first g.L.Language.spoken g.met.L.Language.lawful g.L.Language.state old c.reserve.new.self.state c.answer_queries.new.script.state c.in-Some.first.now _ c.reserve.ensures.state c.answer_queries.ensures.state c.in-Some.ensures c.in-Some-pop_waiting.ensures.first in
    popped_there g.L.Language.spoken g.met.L.Language.lawful g.L.Language.state _ c.in-Some.first.now _ c.into_arrival-request.result one (c.in-Some-pop_waiting.ensures.there ∙ ap (λ a. Some a) (sym c.into_arrival-request.ensures))

pub end_broken-requires-clause-there : goal.end_broken-requires-clause-there
end_broken-requires-clause-there g c =
    let old = c.args.script.now.state in
    let one = popped_first g.L.Language.spoken g.met.L.Language.lawful g.L.Language.state old c.reserve.new.self.state c.answer_queries.new.script.state c.in-Some.first.now _ c.reserve.ensures.state c.answer_queries.ensures.state c.in-Some.ensures c.in-Some-pop_waiting.ensures.first in
    popped_there g.L.Language.spoken g.met.L.Language.lawful g.L.Language.state _ c.in-Some.first.now _ c.into_arrival-request.result one (c.in-Some-pop_waiting.ensures.there ∙ ap (λ a. Some a) (sym c.into_arrival-request.ensures))

pub begin-requires-clause-there : goal.begin-requires-clause-there
begin-requires-clause-there g c =
    let old = c.args.script.now.state in
    let one = popped_first g.L.Language.spoken g.met.L.Language.lawful g.L.Language.state old c.reserve.new.self.state c.answer_queries.new.script.state c.in-Some.first.now _ c.reserve.ensures.state c.answer_queries.ensures.state c.in-Some.ensures c.in-Some-pop_waiting.ensures.first in
    popped_there g.L.Language.spoken g.met.L.Language.lawful g.L.Language.state _ c.in-Some.first.now _ c.into_arrival-request.result one (c.in-Some-pop_waiting.ensures.there ∙ ap (λ a. Some a) (sym c.into_arrival-request.ensures))

pub unreachable-requires-in_default-pop_waiting : goal.unreachable-requires-in_default-pop_waiting
unreachable-requires-in_default-pop_waiting g c =
    let old = c.args.script.now.state in
    none_some c.in-Some.first.now _ (popped_first g.L.Language.spoken g.met.L.Language.lawful g.L.Language.state old c.reserve.new.self.state c.answer_queries.new.script.state c.in-Some.first.now None c.reserve.ensures.state c.answer_queries.ensures.state c.in-Some.ensures c.in_default-pop_waiting.ensures.first)
