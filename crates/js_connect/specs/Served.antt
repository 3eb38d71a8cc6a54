-- To be believed.
-- What is written for the request that stands on a stream.
use Rattle.std.specs.Prelude.{◌≡◌, ◌≢◌, ◌++◌, ℕ, List, Option, IfOk, IfSome, Result, Err}
use Rattle.std.specs.Io.KnownBytes.{Consumes}
use Rattle.std.specs.declared.io.Error.{Error}
use Rattle.js_http.specs.declared.refusal.HttpRefusal.{HttpRefusal}
use Rattle.js_http.specs.declared.refusal.HttpRefusal.TheVariants.{Ended}
use Rattle.js_http.specs.declared.request.Request.{Request}
use Rattle.js_http.specs.declared.response.Response.{Response}
use Rattle.js_http.specs.declared.serve.Served.{Served}
use Rattle.js_http.specs.declared.serve.Stream.{Stream}
use Rattle.js_http.specs.Expecting.{IsInterim}
use Rattle.js_http.specs.Requests.{Answers}
use Rattle.js_http.specs.Serving.{Replies, served_of}
use Rattle.js_http.specs.Writing.{WritesFront}

-- this response answers the request, whoever answers afterwards
abbrev pub AnswersSo : {A : Type 0} → (Request → Response → A → Type 0) → Request → Response → Type 0
AnswersSo {A} answers request response = (after : A) × answers request response after

module _ {I O A : Type 0} (remaining : I → Option (List ℕ)) (contents : O → Option (List ℕ)) (answers : Request → Response → A → Type 0) where
  -- One request was read of a stream, and what was written is the text of a response that answers it, or that of its refusal
  pub record IsServed (old new : Stream I O) (result : Result Served Error) : Type 0 where
    pub came : List ℕ
    pub more : List ℕ
    pub read : Result Request HttpRefusal
    pub interim : List ℕ
    pub text : List ℕ
    pub consumes : Consumes (remaining old.reader) (remaining new.reader) (came ++ more)
    pub is_read : Answers (came ++ more) read
    pub first : read ≢ Err Ended → IfSome (remaining old.reader) (λ input. Answers input read)
    pub invites : IsInterim came interim
    pub replies : Replies (AnswersSo answers) read text
    pub writes : WritesFront (contents old.writer) (contents new.writer) (interim ++ text) result
    pub served : IfOk result (λ s. s ≡ served_of read)
