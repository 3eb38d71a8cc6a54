use Rattle.js_http.proofs.AnswerLemmas.{one_request, no_refusal, one_refusal}
use Rattle.js_http.proofs.request.one_request_law.Goals as goal

pub returns-clause-request : goal.returns-clause-request
returns-clause-request c = one_request

pub returns-clause-no_refusal : goal.returns-clause-no_refusal
returns-clause-no_refusal c = no_refusal

pub returns-clause-refusal : goal.returns-clause-refusal
returns-clause-refusal c = one_refusal
