use Rattle.std.proofs.Common.{[], ◌++◌, Err, refl, sym, ◌∙◌, subst, inl, append-nil}
use Rattle.std.specs.Io.KnownBytes.{Consumes}
use Rattle.std.proofs.KnownBytes.{Consumes-trans, Appends-nil}
use Rattle.std.proofs.lemmas.Result.{err_from_is_err_and}
use Rattle.js_http.specs.Requests.{Refuses, IsUnfinished}
use Rattle.js_http.proofs.AnswerLemmas.{answers-stream}
use Rattle.js_http.proofs.ServingLemmas.{unfinished}
use Rattle.js_http.proofs.serve.take_invited.Goals as goal

pub returns-in-Err-clause-stream : goal.returns-in-Err-clause-stream
returns-in-Err-clause-stream g c =
    let began = c.in-Err.ensures in
    answers-stream _ _ began.0 (Err c.in-Err.refusal) began.1 began.3

pub returns-in-Err-clause-taken : goal.returns-in-Err-clause-taken
returns-in-Err-clause-taken g c =
    let began = c.in-Err.ensures in
    let same = sym (append-nil began.0) in (
      began.0,
      [],
      [],
      subst (Consumes _ _) same began.1,
      inl refl,
      ([], [], Appends-nil _, refl, refl),
      subst (λ t. Refuses t c.in-Err.refusal) same began.3,
    )

pub returns-in_err-invite-clause-taken : goal.returns-in_err-invite-clause-taken
returns-in_err-invite-clause-taken g c =
    let p = err_from_is_err_and c.from_residual.result c.from_residual.ensures.1 in
    let began = c.in-Ok.ensures in
    let came = c.in-Ok.begun.received.items in
    let invited = c.in_err-invite.ensures in
    rw p.1 (
      came,
      [],
      invited.0,
      subst (Consumes _ _) (began.3.received ∙ sym (append-nil came)) began.1,
      invited.1,
      (invited.2.0, invited.2.1, invited.2.2, invited.2.3, tt),
      subst IsUnfinished (sym (append-nil came)) (unfinished came invited.3),
    )

pub returns-clause-stream : goal.returns-clause-stream
returns-clause-stream g c =
    let began = c.in-Ok.ensures in
    let came = c.in-Ok.begun.received.items in
    let more = c.finish_request.ensures in
    answers-stream _ _ (came ++ more.0) c.finish_request.result
    (Consumes-trans _ _ _ came more.0 (subst (Consumes _ _) began.3.received began.1) more.1) more.3

pub returns-clause-taken : goal.returns-clause-taken
returns-clause-taken g c =
    let began = c.in-Ok.ensures in
    let came = c.in-Ok.begun.received.items in
    let invited = c.in_ok-invite.ensures in
    let more = c.finish_request.ensures in (
      came,
      more.0,
      invited.0,
      Consumes-trans _ _ _ came more.0 (subst (Consumes _ _) began.3.received began.1) more.1,
      invited.1,
      (invited.2.0, invited.2.1, invited.2.2, invited.2.3, invited.2.4),
      more.3,
    )
