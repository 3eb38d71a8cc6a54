-- A path, a segment at a time.
use Rattle.std.proofs.Common.{◌≡◌, ℕ, ◌+◌, ◌-◌, ◌<◌, ◌≤◌, ◌==◌, Bool, true, false, not, cond, suc, List, [], ◌∷◌, ◌++◌, length, take, drop, map, arith, refl, sym, ap, ◌∙◌, append_assoc, length-drop}
use Rattle.std.specs.List.{slice_split, onto_first, position_or_len}
use Rattle.std.proofs.lemmas.List.{take_all, drop-drop}
use Rattle.std.proofs.lemmas.List.Splits.{slice_split_first}
use Rattle.percent_encoding.specs.Percent.{percent_decode}
use Rattle.js_http.specs.Targets.{segments_of}

-- where nothing passes, the list is the one part
one_part : (p : ℕ → Bool) (xs : List ℕ) → position_or_len p xs ≡ length xs → slice_split p xs ≡ xs ∷ []
one_part p [] none = refl
one_part p (x ∷ xs) none =
    elim (p x) as (λ b. cond (not b) (1 + position_or_len p xs) 0 ≡ suc (length xs) → cond b ([] ∷ slice_split p xs) (onto_first x (slice_split p xs)) ≡ (x ∷ xs) ∷ []) [
      | true ↦ λ e. absurd (omega (arith, e))
      | false ↦ λ e. ap (onto_first x) (one_part p xs (omega (arith, e)))
    ] none

-- the segments so far, with the last one
pub segments_end : (done : List (List ℕ)) (rest segment behind path : List ℕ) (n : ℕ)
    → n ≡ position_or_len (λ byte. byte == 47) rest → n ≤ length rest → segment ≡ take n rest → behind ≡ drop n rest → length behind ≡ 0
    → done ++ segments_of rest ≡ segments_of path → done ++ percent_decode segment ∷ [] ≡ segments_of path
segments_end done rest segment behind path n at within is left none so =
    let whole : n ≡ length rest = omega (arith, within, length-drop n rest, ap length left, none) in
    ap (λ piece. done ++ percent_decode piece ∷ []) (is ∙ take_all n rest (omega (arith, whole)))
    ∙ ap (λ parts. done ++ map percent_decode parts) (sym (one_part (λ byte. byte == 47) rest (sym at ∙ whole))) ∙ so

-- the segments so far, with one more
pub segments_more : (done : List (List ℕ)) (rest segment behind path : List ℕ) (n : ℕ)
    → n ≡ position_or_len (λ byte. byte == 47) rest → segment ≡ take n rest → behind ≡ drop n rest → 0 < length behind
    → done ++ segments_of rest ≡ segments_of path
    → (done ++ percent_decode segment ∷ []) ++ segments_of (take (length behind - 1) (drop 1 behind)) ≡ segments_of path
segments_more done rest segment behind path n at is left some so =
    let within : n < length rest = omega (arith, length-drop n rest, ap length left, some) in
    let after : take (length behind - 1) (drop 1 behind) ≡ drop (n + 1) rest =
    take_all (length behind - 1) (drop 1 behind) (omega (arith, length-drop 1 behind)) ∙ ap (drop 1) left ∙ drop-drop 1 n rest in
    append_assoc done (percent_decode segment ∷ []) (segments_of (take (length behind - 1) (drop 1 behind)))
    ∙ ap (λ more. done ++ percent_decode segment ∷ segments_of more) after
    ∙ ap (λ piece. done ++ percent_decode piece ∷ segments_of (drop (n + 1) rest)) is
    ∙ ap (λ k. done ++ percent_decode (take k rest) ∷ segments_of (drop (k + 1) rest)) at
    ∙ ap (λ parts. done ++ map percent_decode parts) (sym (slice_split_first (λ byte. byte == 47) rest 0 (omega (arith, at, within)))) ∙ so
