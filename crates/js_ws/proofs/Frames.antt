-- Sending one entry after another.
use Rattle.std.proofs.Common.{◌≡◌, ℕ, ◌+◌, ◌<◌, ◌≤◌, List, length, take, get_or, arith, length-append, [], ◌∷◌, ◌++◌, Option, None, Some, refl, sym, ap, ◌∙◌, append_assoc, append-nil, length-take, subst}
use Rattle.std.proofs.lemmas.List.{take_more}
use Rattle.std.specs.Io.KnownBytes.{Appends}
use Rattle.tungstenite.specs.Socket.{Socket}
use Rattle.jk_log.specs.declared.entry.Entry.{Entry}
use Rattle.js_ws.specs.Frames.{Wrote, SentAll, frame_of, frames_of, Tells, EndsIn}
use Rattle.js_ws.specs.declared.names.Names.{Names}

frames_snoc : (names : Names) (date : List ℕ) (n : ℕ) (es : List Entry) (e : Entry)
    → frames_of names date n (es ++ e ∷ []) ≡ frames_of names date n es ++ frame_of names date (n + length es) e
frames_snoc names date n [] e = let k : n + 0 ≡ n = omega arith in rw (k, append-nil (frame_of names date n e)) refl
frames_snoc names date n (d ∷ es) e =
    let k : n + length (d ∷ es) ≡ (n + 1) + length es = omega arith in
    rw (frames_snoc names date (n + 1) es e, k) (sym (append_assoc (frame_of names date n d) (frames_of names date (n + 1) es) (frame_of names date ((n + 1) + length es) e)))

twice : (a b c : Option (List ℕ)) (xs ys : List ℕ) → Appends a b xs → Appends b c ys → Appends a c (xs ++ ys)
twice None b c xs ys h k = tt
twice (Some us) None c xs ys h k = absurd h
twice (Some us) (Some vs) None xs ys h k = absurd k
twice (Some us) (Some vs) (Some ws) xs ys h k = rw (k, h) (append_assoc us xs ys)

ends_after : (a b : Option (List ℕ)) (old bytes : List ℕ) → (known : (xs : List ℕ) × (a ≡ Some xs)) → Appends a b (old ++ bytes) → EndsIn b bytes
ends_after None b old bytes (xs, is) h = absurd (cc is)
ends_after (Some xs) None old bytes known h = absurd h
ends_after (Some xs) (Some ys) old bytes known h = (xs ++ old, ap Some (h ∙ sym (append_assoc xs old bytes)))

module _ {S : Type 0} where
  pub sent_snoc : (contents : S → Option (List ℕ)) (names : Names) (date : List ℕ) (n k : ℕ) (old mid new : Socket S) (es : List Entry) (e : Entry)
      → SentAll contents names date n old mid es → k ≡ n + length es → Wrote contents mid new (frame_of names date k e)
      → SentAll contents names date n old new (es ++ e ∷ [])
  sent_snoc contents names date n k old mid new [] e same is wrote =
      let same_n : k ≡ n = omega arith in rw (append-nil (frame_of names date n e)) (rw (same_n, same) at wrote)
  sent_snoc contents names date n k old mid new (d ∷ es) e sent is wrote =
      let first = rw (sent.1, is) at wrote.0 in
      let both = twice (contents old.stream) (contents mid.stream) (contents new.stream) _ _ sent.0 first in
      (rw (frames_snoc names date n (d ∷ es) e, sym (append_assoc old.output (frames_of names date n (d ∷ es)) (frame_of names date (n + length (d ∷ es)) e))) both, wrote.1, wrote.2 ∙ sent.2)

  -- one more of the entries was sent
  pub sent_next : (contents : S → Option (List ℕ)) (names now : Names) (date : List ℕ) (n k count : ℕ) (old mid new : Socket S) (es : List Entry) (e : Entry)
      → count < length es → e ≡ get_or es count e → now ≡ names → k ≡ n + count
      → SentAll contents names date n old mid (take count es) → Wrote contents mid new (frame_of now date k e)
      → SentAll contents names date n old new (take (count + 1) es)
  sent_next contents names now date n k count old mid new es e low is same at sent wrote =
      let next : take (count + 1) es ≡ take count es ++ e ∷ [] = take_more es count e low ∙ ap (λ (x : Entry). take count es ++ x ∷ []) (sym is) in
      let size : k ≡ n + length (take count es) = omega (arith, at, length-take count es) in
      let more : SentAll contents names date n old new (take count es ++ e ∷ []) =
      sent_snoc contents names date n k old mid new (take count es) e sent size (subst (λ (x : Names). Wrote contents mid new (frame_of x date k e)) same wrote) in
      subst (SentAll contents names date n old new) (sym next) more

  -- the same under equal names and numbers
  pub sent_as : (contents : S → Option (List ℕ)) (names now : Names) (date : List ℕ) (n k : ℕ) (old new : Socket S) (es : List Entry)
      → now ≡ names → k ≡ n → SentAll contents now date k old new es → SentAll contents names date n old new es
  sent_as contents names now date n k old new es same at sent =
      subst (λ (i : ℕ). SentAll contents names date i old new es) at (subst (λ (x : Names). SentAll contents x date k old new es) same sent)

  -- what a stream that tells its bytes holds ends with the frames that were sent
  pub ends_sent : (contents : S → Option (List ℕ)) (names : Names) (date : List ℕ) (n : ℕ) (old new : Socket S) (es : List Entry)
      → Tells contents → SentAll contents names date n old new es → EndsIn (contents new.stream) (frames_of names date n es)
  ends_sent contents names date n old new [] tells h = let k = tells new.stream in (k.0, rw k.1 (ap Some (sym (append-nil k.0))))
  ends_sent contents names date n old new (e ∷ es) tells h =
      ends_after (contents old.stream) (contents new.stream) old.output (frames_of names date n (e ∷ es)) (tells old.stream) h.0
