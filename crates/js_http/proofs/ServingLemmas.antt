-- One request and its response, a step at a time.
use Rattle.std.proofs.Common.{◌≡◌, ℕ, List, [], ◌++◌, Option, Result, Ok, Err, sym, ap, subst, ◌∙◌, append_assoc, append-nil, inr}
use Rattle.std.specs.Prelude.{⊤, MatchResult}
use Rattle.std.specs.Io.KnownBytes.{Appends}
use Rattle.std.proofs.KnownBytes.{Appends-trans}
use Rattle.js_http.specs.Expecting.{AwaitsContinue}
use Rattle.js_http.specs.Requests.{IsUnfinished}

-- what is known anyhow is known at a fault
pub known_at_err : {A E : Type 0} {P : Type 0} (r : Result A E) → P → MatchResult r (λ _. ⊤) (λ _. P)
known_at_err (Ok _) p = tt
known_at_err (Err _) p = p

-- who waits to be told that the body may come has not sent it
pub unfinished : (input : List ℕ) → AwaitsContinue input → IsUnfinished input
unfinished input (h, rest, len, begun, stated, short, asks) = inr (h, rest, len, begun, stated, short)

-- a text was written, and then a front of another
pub front_after : (a b c : Option (List ℕ)) (before text front rest more left : List ℕ)
    → Appends a b front → before ≡ front ++ rest → rest ≡ [] → Appends b c more → text ≡ more ++ left
    → Appends a c (before ++ more) × (before ++ text ≡ (before ++ more) ++ left)
front_after a b c before text front rest more left first is none second are = (
  Appends-trans a b c before more (subst (Appends a b) whole first) second,
  ap (λ t. before ++ t) are ∙ sym (append_assoc before more left),
)
  where
    whole : front ≡ before
    whole = sym (is ∙ ap (λ t. front ++ t) none ∙ append-nil front)

-- a text of which a front was written is a beginning of what was to follow it
pub front_of_more : (before text front rest : List ℕ) → before ≡ front ++ rest → before ++ text ≡ front ++ (rest ++ text)
front_of_more before text front rest is = ap (λ t. t ++ text) is ∙ append_assoc front rest text
