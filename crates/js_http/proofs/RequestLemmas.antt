-- Requests at the front of what was read.
use Rattle.std.proofs.Common.{◌≡◌, ℕ, Bool, ◌-◌, ◌≤◌, List, ◌++◌, length, take, drop, Result, Ok, Err, arith, sym, ap, ◌∙◌, subst, inr, append_assoc}
use Rattle.std.proofs.lemmas.List.{take_all, length-drop}
use Rattle.httparse.specs.Grammar.{RequestHead, print_request}
use Rattle.js_http.specs.declared.refusal.HttpRefusal.{HttpRefusal}
use Rattle.js_http.specs.declared.refusal.HttpRefusal.TheVariants.{BadRequest, HeaderFieldsTooLarge, NotImplemented, LengthRequired, ContentTooLarge, Memory, Ended}
use Rattle.js_http.specs.declared.head.Head.{Head}
use Rattle.js_http.specs.Framing.{body_len}
use Rattle.js_http.specs.Heads.{BeginsWith, IsHeadAt, length_of}
use Rattle.js_http.specs.Methods.{needs_length}
use Rattle.js_http.specs.Reading.{HasBody, LacksBody}
use Rattle.js_http.specs.Requests.{Refuses, IsRequest}
use Rattle.js_http.proofs.FramingLemmas.{IsOfLength, body_len-refuses}

-- what was answered for the head's method and its lines
pub stated_is : (head : Head) (needs : Bool) (answer : Result ℕ HttpRefusal) → needs ≡ needs_length head.method
    → answer ≡ body_len needs head.headers → body_len (needs_length head.method) head.headers ≡ answer
stated_is head needs answer e f = sym (f ∙ ap (λ b. body_len b head.headers) e)

-- the rest of what received, as a slice of it
pub tail_is : (received items slice : List ℕ) (n : ℕ) → slice ≡ items → received ≡ items → take (length slice - n) (drop n slice) ≡ drop n received
tail_is received items slice n e f =
    take_all (length slice - n) (drop n slice) (omega (arith, length-drop n slice)) ∙ ap (drop n) (e ∙ sym f)

-- what received begins with the head, whatever comes after it
pub begins : (received more : List ℕ) (head : Head) (h : RequestHead) → IsHeadAt received head h → length received ≤ 16384
    → BeginsWith (received ++ more) h (drop head.len received ++ more)
begins received more head h at small = record {
  reads = (at.reads.0, ap (λ bytes. bytes ++ more) at.reads.1 ∙ append_assoc (print_request h) (drop head.len received) more);
  short = omega (arith, at.len, at.within);
  few = at.few;
}

pub length_of-head : (received : List ℕ) (head : Head) (h : RequestHead) → IsHeadAt received head h
    → length_of h ≡ body_len (needs_length head.method) head.headers
length_of-head received head h at = λ i. body_len (needs_length (sym at.method i)) (sym at.headers i)

-- the head is refused for what it says of its body
pub refused_by_length : (received : List ℕ) (head : Head) (h : RequestHead) (e : HttpRefusal) → IsHeadAt received head h → length received ≤ 16384
    → body_len (needs_length head.method) head.headers ≡ Err e → Refuses received e
refused_by_length received head h e at small is = refused e (body_len-refuses _ _ e is) is
  where
    begun : BeginsWith received h (drop head.len received)
    begun = record { reads = at.reads; short = omega (arith, at.len, at.within); few = at.few }

    refused : (e : HttpRefusal) → IsOfLength e → body_len (needs_length head.method) head.headers ≡ Err e → Refuses received e
    refused BadRequest of is = inr (h, drop head.len received, begun, length_of-head received head h at ∙ is)
    refused NotImplemented of is = (h, drop head.len received, begun, length_of-head received head h at ∙ is)
    refused LengthRequired of is = (h, drop head.len received, begun, length_of-head received head h at ∙ is)
    refused ContentTooLarge of is = (h, drop head.len received, begun, length_of-head received head h at ∙ is)
    refused HeaderFieldsTooLarge of is = absurd of
    refused Memory of is = absurd of
    refused Ended of is = absurd of

-- the head is whole and the body is not
pub refused_in_body : (received more start : List ℕ) (head : Head) (h : RequestHead) (len : ℕ) (e : HttpRefusal) → IsHeadAt received head h → length received ≤ 16384
    → body_len (needs_length head.method) head.headers ≡ Ok len → start ≡ drop head.len received → LacksBody start more len e → Refuses (received ++ more) e
refused_in_body received more start head h len Ended at small is from lacks =
    inr (h, drop head.len received ++ more, len, begins received more head h at small, length_of-head received head h at ∙ is, rw (← from) lacks)
refused_in_body received more start head h len Memory at small is from lacks = tt
refused_in_body received more start head h len BadRequest at small is from lacks = absurd lacks
refused_in_body received more start head h len HeaderFieldsTooLarge at small is from lacks = absurd lacks
refused_in_body received more start head h len NotImplemented at small is from lacks = absurd lacks
refused_in_body received more start head h len LengthRequired at small is from lacks = absurd lacks
refused_in_body received more start head h len ContentTooLarge at small is from lacks = absurd lacks

-- the request is whole
pub request_whole : (received more start body : List ℕ) (head : Head) (h : RequestHead) (len : ℕ) → IsHeadAt received head h → length received ≤ 16384
    → body_len (needs_length head.method) head.headers ≡ Ok len → start ≡ drop head.len received → HasBody start more len body
    → IsRequest (received ++ more) (record { method = head.method; target = head.target; headers = head.headers; body = body })
request_whole received more start body head h len at small is from has = (
  h,
  has.1,
  subst (BeginsWith (received ++ more) h) (ap (λ rest. rest ++ more) (sym from) ∙ has.2) (begins received more head h at small),
  length_of-head received head h at ∙ is ∙ ap (λ n. Ok n) (sym has.0),
  record { method = at.method; target = at.target; headers = at.headers },
)
