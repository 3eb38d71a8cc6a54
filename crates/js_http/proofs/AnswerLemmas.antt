-- What follows changes no answer, and bytes have one answer.
use Rattle.std.proofs.Common.{◌≡◌, ◌≢◌, ℕ, ◌+◌, ◌-◌, ◌≤◌, List, [], ◌∷◌, ◌++◌, length, take, Option, Some, None, Result, Ok, Err, arith, refl, sym, ap, ◌∙◌, subst, inl, inr, ◌⊎◌, append_assoc, append-nil, length-append}
use Rattle.std.specs.Prelude.{IfSome}
use Rattle.std.specs.Io.KnownBytes.{Consumes}
use Rattle.std.proofs.lemmas.List.{take-append-le}
use Rattle.std.proofs.Math.Seq.{take-append-add}
use Rattle.httparse.specs.Grammar.{RequestHead, ReadsRequest, print_request, HasNoRequest, MayBecomeRequest, NeverHasRequest}
use Rattle.httparse.proofs.GrammarLemmas.{request_unique}
use Rattle.js_http.specs.declared.refusal.HttpRefusal.{HttpRefusal}
use Rattle.js_http.specs.declared.refusal.HttpRefusal.TheVariants.{BadRequest, HeaderFieldsTooLarge, NotImplemented, LengthRequired, ContentTooLarge, Memory, Ended}
use Rattle.js_http.specs.declared.request.Request.{Request}
use Rattle.js_http.specs.Heads.{BeginsWith, IsTooLong, HasTooManyLines, length_of, lines_of}
use Rattle.js_http.specs.Methods.{method_of}
use Rattle.js_http.specs.Requests.{Answers, Refuses, IsRequest, BeginsRefused}

-- ---- what follows changes no answer

begins-append : (input more rest : List ℕ) (h : RequestHead) → BeginsWith input h rest → BeginsWith (input ++ more) h (rest ++ more)
begins-append input more rest h begun = record {
  reads = (begun.reads.0, ap (λ bytes. bytes ++ more) begun.reads.1 ∙ append_assoc (print_request h) rest more);
  short = begun.short;
  few = begun.few;
}

refused-append : (input more : List ℕ) (e : HttpRefusal) → BeginsRefused input e → BeginsRefused (input ++ more) e
refused-append input more e refused = (refused.0, refused.1 ++ more, begins-append input more refused.1 refused.0 refused.2, refused.3)

never-append : (input more : List ℕ) → NeverHasRequest input → NeverHasRequest (input ++ more)
never-append input more never after = subst HasNoRequest (sym (append_assoc input more after)) (never (more ++ after))

too_long-append : (input more : List ℕ) → IsTooLong input → IsTooLong (input ++ more)
too_long-append input more long =
    let same = sym (take-append-le 16384 input more long.long) in record {
      long = omega (arith, long.long, length-append input more);
      none = subst HasNoRequest same long.none;
      may_become = subst MayBecomeRequest same long.may_become;
    }

too_many-append : (input more : List ℕ) → HasTooManyLines input → HasTooManyLines (input ++ more)
too_many-append input more many =
    let there = many.0 in (
      (there.0, there.1 ++ more, ap (λ bytes. bytes ++ more) there.2 ∙ append_assoc there.0 there.1 more, there.3, there.4, there.5),
      λ after h rest reads. many.1 (more ++ after) h rest (subst (λ bytes. ReadsRequest bytes h rest) (append_assoc input more after) reads),
    )

pub answers-append : (taken more : List ℕ) (result : Result Request HttpRefusal) → result ≢ Err Ended → Answers taken result → Answers (taken ++ more) result
answers-append taken more (Ok r) open_ended is = (
  is.0,
  is.1 ++ more,
  subst (BeginsWith (taken ++ more) is.0) (append_assoc r.body is.1 more) (begins-append taken more (r.body ++ is.1) is.0 is.2),
  is.3,
  is.4,
)
answers-append taken more (Err BadRequest) open_ended (inl never) = inl (never-append taken more never)
answers-append taken more (Err BadRequest) open_ended (inr refused) = inr (refused-append taken more BadRequest refused)
answers-append taken more (Err HeaderFieldsTooLarge) open_ended (inl long) = inl (too_long-append taken more long)
answers-append taken more (Err HeaderFieldsTooLarge) open_ended (inr many) = inr (too_many-append taken more many)
answers-append taken more (Err NotImplemented) open_ended is = refused-append taken more NotImplemented is
answers-append taken more (Err LengthRequired) open_ended is = refused-append taken more LengthRequired is
answers-append taken more (Err ContentTooLarge) open_ended is = refused-append taken more ContentTooLarge is
answers-append taken more (Err Memory) open_ended is = tt
answers-append taken more (Err Ended) open_ended is = absurd (open_ended refl)

-- what answers the bytes taken answers all the bytes
pub answers-stream : (old new : Option (List ℕ)) (taken : List ℕ) (result : Result Request HttpRefusal) → Consumes old new taken → Answers taken result
    → result ≢ Err Ended → IfSome old (λ input. Answers input result)
answers-stream None new taken result received is open_ended = tt
answers-stream (Some input) None taken result received is open_ended = absurd received
answers-stream (Some input) (Some rest) taken result received is open_ended =
    subst (λ bytes. Answers bytes result) (sym received) (answers-append taken rest result open_ended is)

-- ---- bytes have one answer

same_head : (input r q : List ℕ) (h k : RequestHead) → BeginsWith input h r → BeginsWith input k q → (h ≡ k) × (r ≡ q)
same_head input r q h k x y = request_unique input h k r q x.reads y.reads

same_front : (xs ys cs ds : List ℕ) → length xs ≡ length ys → xs ++ cs ≡ ys ++ ds → xs ≡ ys
same_front [] [] cs ds len e = refl
same_front [] (y ∷ ys) cs ds len e = absurd (omega arith)
same_front (x ∷ xs) [] cs ds len e = absurd (omega arith)
same_front (x ∷ xs) (y ∷ ys) cs ds len e =
    let tails : xs ++ cs ≡ ys ++ ds = cc in
    let heads : x ≡ y = cc in
    let same = same_front xs ys cs ds (omega arith) tails in
    cc

pub one_request : (input : List ℕ) (r q : Request) → IsRequest input r → IsRequest input q → r ≡ q
one_request input r q x y =
    let heads = same_head input _ _ x.0 y.0 x.2 y.2 in
    let lengths : length r.body ≡ length q.body = cc (x.3, y.3, ap length_of heads.0) in
    let bodies = same_front r.body q.body x.1 y.1 lengths heads.1 in
    let methods = x.4.method ∙ ap (λ h. method_of h.method) heads.0 ∙ sym y.4.method in
    let targets = x.4.target ∙ ap (λ h. h.target) heads.0 ∙ sym y.4.target in
    let lines = x.4.headers ∙ ap (λ h. lines_of h.fields) heads.0 ∙ sym y.4.headers in
    λ i. record { method = methods i; target = targets i; headers = lines i; body = bodies i }

-- a whole head within the limits is there
not_without : (input rest : List ℕ) (h : RequestHead) → BeginsWith input h rest → HasNoRequest input → ⊥
not_without input rest h begun none = none h rest begun.reads

not_never : (input rest : List ℕ) (h : RequestHead) → BeginsWith input h rest → NeverHasRequest input → ⊥
not_never input rest h begun never = never [] h rest (subst (λ bytes. ReadsRequest bytes h rest) (sym (append-nil input)) begun.reads)

not_long : (input rest : List ℕ) (h : RequestHead) → BeginsWith input h rest → IsTooLong input → ⊥
not_long input rest h begun long =
    long.none h (take (16384 - length (print_request h)) rest)
    (begun.reads.0, ap (take 16384) begun.reads.1 ∙ take_past (print_request h) rest 16384 begun.short)
  where
    take_past : (xs ys : List ℕ) (n : ℕ) → length xs ≤ n → take n (xs ++ ys) ≡ xs ++ take (n - length xs) ys
    take_past xs ys n h =
        let split : n ≡ length xs + (n - length xs) = omega arith in
        ap (λ m. take m (xs ++ ys)) split ∙ take-append-add xs ys (n - length xs)

not_many : (input rest : List ℕ) (h : RequestHead) → BeginsWith input h rest → HasTooManyLines input → ⊥
not_many input rest h begun many =
    let more = many.1 [] h rest (subst (λ bytes. ReadsRequest bytes h rest) (sym (append-nil input)) begun.reads) in
    absurd (omega (arith, more, begun.few))

-- two answers by what the head says of its body are the same
same_length : (input r q : List ℕ) (h k : RequestHead) → BeginsWith input h r → BeginsWith input k q → length_of h ≡ length_of k
same_length input r q h k x y = ap length_of (same_head input r q h k x y).0

pub no_refusal : (input : List ℕ) (r : Request) (e : HttpRefusal) → IsRequest input r → Refuses input e → e ≡ Memory
no_refusal input r BadRequest x (inl never) = absurd (not_never input _ x.0 x.2 never)
no_refusal input r BadRequest x (inr y) = absurd (let same = same_length input _ _ x.0 y.0 x.2 y.2 in cc (x.3, y.3, same))
no_refusal input r HeaderFieldsTooLarge x (inl long) = absurd (not_long input _ x.0 x.2 long)
no_refusal input r HeaderFieldsTooLarge x (inr many) = absurd (not_many input _ x.0 x.2 many)
no_refusal input r NotImplemented x y = absurd (let same = same_length input _ _ x.0 y.0 x.2 y.2 in cc (x.3, y.3, same))
no_refusal input r LengthRequired x y = absurd (let same = same_length input _ _ x.0 y.0 x.2 y.2 in cc (x.3, y.3, same))
no_refusal input r ContentTooLarge x y = absurd (let same = same_length input _ _ x.0 y.0 x.2 y.2 in cc (x.3, y.3, same))
no_refusal input r Memory x y = refl
no_refusal input r Ended x (inl none) = absurd (not_without input _ x.0 x.2 none.none)
no_refusal input r Ended x (inr y) =
    let same = same_head input _ _ x.0 y.0 x.2 y.3 in
    let lengths : length r.body ≡ y.2 = cc (x.3, y.4, ap length_of same.0) in
    absurd (omega (arith, lengths, y.5, ap length same.1, length-append r.body x.1))

pub one_refusal : (input : List ℕ) (e f : HttpRefusal) → BeginsRefused input e → Refuses input f → (f ≡ e) ⊎ (f ≡ Memory)
one_refusal input e BadRequest x (inl never) = absurd (not_never input _ x.0 x.2 never)
one_refusal input e BadRequest x (inr y) = inl (let same = same_length input _ _ x.0 y.0 x.2 y.2 in cc (x.3, y.3, same))
one_refusal input e HeaderFieldsTooLarge x (inl long) = absurd (not_long input _ x.0 x.2 long)
one_refusal input e HeaderFieldsTooLarge x (inr many) = absurd (not_many input _ x.0 x.2 many)
one_refusal input e NotImplemented x y = inl (let same = same_length input _ _ x.0 y.0 x.2 y.2 in cc (x.3, y.3, same))
one_refusal input e LengthRequired x y = inl (let same = same_length input _ _ x.0 y.0 x.2 y.2 in cc (x.3, y.3, same))
one_refusal input e ContentTooLarge x y = inl (let same = same_length input _ _ x.0 y.0 x.2 y.2 in cc (x.3, y.3, same))
one_refusal input e Memory x y = inr refl
one_refusal input e Ended x (inl none) = absurd (not_without input _ x.0 x.2 none.none)
one_refusal input e Ended x (inr y) = absurd (let same = same_length input _ _ x.0 y.0 x.2 y.3 in cc (x.3, y.4, same))
