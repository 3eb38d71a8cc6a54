-- Heads at the front of what was read.
use Rattle.std.proofs.Common.{◌≡◌, ℕ, ◌+◌, ◌<◌, ◌≤◌, List, [], ◌∷◌, ◌++◌, length, take, drop, Option, Err, arith, refl, sym, ap, ◌∙◌, subst, inl, inr, ◌⊎◌, append-nil, length-append, length-take, take-append-drop}
use Rattle.std.proofs.KnownBytes.{Consumes-trans}
use Rattle.std.specs.Io.KnownBytes.{Consumes}
use Rattle.httparse.specs.Grammar.{Field, HasNoRequest, MayBecomeRequest}
use Rattle.httparse.specs.declared.spans.HeaderSpan.{HeaderSpan}
use Rattle.httparse.specs.Spans.{AreFieldsAt}
use Rattle.js_http.specs.declared.refusal.HttpRefusal.{HttpRefusal}
use Rattle.js_http.specs.declared.refusal.HttpRefusal.TheVariants.{BadRequest, HeaderFieldsTooLarge, NotImplemented, LengthRequired, ContentTooLarge, Memory, Ended}
use Rattle.js_http.specs.Heads.{IsTooLong}
use Rattle.js_http.specs.Reading.{ReadsSome, HasBody, LacksBody}
use Rattle.std.proofs.lemmas.List.{take_all, drop_all}
use Rattle.std.proofs.Math.ListN.{length-map}

-- no more fields than spans
pub few_fields : (buf : List ℕ) (spans : List HeaderSpan) (count : ℕ) (fields : List Field)
    → AreFieldsAt buf spans count fields → length spans ≤ 64 → length fields ≤ 64
few_fields buf spans count fields at room =
    let lengths : length (take count spans) ≡ length fields =
    simp length-map at (ap length at) in
    omega (arith, lengths, length-take count spans)

pub too_long : (bytes : List ℕ) → 16384 ≤ length bytes → length bytes ≤ 16384 → HasNoRequest bytes × MayBecomeRequest bytes → IsTooLong bytes
too_long bytes low high none =
    let all = sym (take_all 16384 bytes high) in
    record { long = low; none = subst HasNoRequest all none.0; may_become = subst MayBecomeRequest all none.1 }

-- no more is read where there is no memory
within_room : (old new received : List ℕ) (room : ℕ) (e : HttpRefusal) → ReadsSome old new room received (Err e) → length received ≤ room
within_room old new received room Ended reads = omega (arith, ap length reads.0)
within_room old new received room Memory reads = reads.0
within_room old new received room BadRequest reads = absurd reads
within_room old new received room HeaderFieldsTooLarge reads = absurd reads
within_room old new received room NotImplemented reads = absurd reads
within_room old new received room LengthRequired reads = absurd reads
within_room old new received room ContentTooLarge reads = absurd reads

pub head_unread : (a b c : Option (List ℕ)) (bytes new received : List ℕ) (room : ℕ) (e : HttpRefusal)
    → Consumes a b bytes → Consumes b c received → ReadsSome bytes new room received (Err e) → length bytes + room ≤ 16384
    → (taken : List ℕ) × Consumes a c taken × (length taken ≤ 16384) × Unit {0}
head_unread a b c bytes new received room e before now reads fits =
    (bytes ++ received, Consumes-trans a b c bytes received before now, omega (arith, length-append bytes received, within_room bytes new received room e reads), tt)

-- a body is not whole, and no more comes
pub body_stops : (a b c : Option (List ℕ)) (start received body new more : List ℕ) (len room : ℕ) (e : HttpRefusal)
    → Consumes a b received → body ≡ take len start ++ received → length body < len → length body + room ≤ len
    → Consumes b c more → ReadsSome body new room more (Err e)
    → (all : List ℕ) × Consumes a c all × (length all ≤ len) × LacksBody start all len e
body_stops a b c start received body new more len room Ended before is short fits now reads = (
  received ++ more,
  Consumes-trans a b c received more before now,
  omega (arith, length-append {A = ℕ}, ap length reads.0, ap length is),
  omega (arith, length-append {A = ℕ}, ap length reads.0, ap length is, length-take {A = ℕ}),
)
body_stops a b c start received body new more len room Memory before is short fits now reads = (
  received ++ more,
  Consumes-trans a b c received more before now,
  omega (arith, length-append {A = ℕ}, ap length is),
  tt,
)
body_stops a b c start received body new more len room BadRequest before is short fits now reads = absurd reads
body_stops a b c start received body new more len room HeaderFieldsTooLarge before is short fits now reads = absurd reads
body_stops a b c start received body new more len room NotImplemented before is short fits now reads = absurd reads
body_stops a b c start received body new more len room LengthRequired before is short fits now reads = absurd reads
body_stops a b c start received body new more len room ContentTooLarge before is short fits now reads = absurd reads

-- the body is whole
pub body_whole : (start received body : List ℕ) (len : ℕ) → body ≡ take len start ++ received → length body ≤ len → len ≤ length body
    → HasBody start received len body
body_whole start received body len is high low = (omega arith, drop len start, rest received (is_short received is) ∙ ap (λ front. front ++ drop len start) (sym is))
  where
    is_short : (received : List ℕ) → body ≡ take len start ++ received → (received ≡ []) ⊎ (length start ≤ len)
    is_short [] is = inl refl
    is_short (b ∷ bs) is = inr (omega (arith, ap length is, length-append (take len start) (b ∷ bs), length-take len start))

    rest : (received : List ℕ) → (received ≡ []) ⊎ (length start ≤ len) → start ++ received ≡ (take len start ++ received) ++ drop len start
    rest received (inl none) = ap (λ more. start ++ more) none ∙ append-nil start ∙ sym (take-append-drop len start)
        ∙ ap (λ more. more ++ drop len start) (sym (append-nil (take len start)) ∙ ap (λ more. take len start ++ more) (sym none))
    rest received (inr small) = ap (λ front. front ++ received) (sym (take_all len start small)) ∙ sym (append-nil (take len start ++ received))
        ∙ ap (λ more. (take len start ++ received) ++ more) (sym (drop_all len start small))
