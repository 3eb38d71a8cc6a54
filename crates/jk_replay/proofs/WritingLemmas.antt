-- Fronts of texts, a part at a time.
use Rattle.std.proofs.Common.{◌≡◌, ℕ, ◌-◌, List, ◌++◌, length, take, drop, Option, arith, sym, ap, ◌∙◌, append_assoc, take-append-drop, length-drop}
use Rattle.std.specs.Io.KnownBytes.{Appends}
use Rattle.std.proofs.KnownBytes.{Appends-trans}
use Rattle.std.proofs.lemmas.List.{take_all}

-- a write took the first count bytes of the rest
pub rest_more : (a b c : Option (List ℕ)) (bytes front rest : List ℕ) (count : ℕ)
    → Appends a b front → bytes ≡ front ++ rest → Appends b c (take count rest)
    → (longer : List ℕ) × Appends a c longer × (bytes ≡ longer ++ take (length rest - count) (drop count rest))
rest_more a b c bytes front rest count before is now = (
  front ++ take count rest,
  Appends-trans a b c front (take count rest) before now,
  is ∙ ap (λ more. front ++ more) (sym (take-append-drop count rest)) ∙ sym (append_assoc front (take count rest) (drop count rest))
      ∙ ap (λ more. (front ++ take count rest) ++ more)
      (sym (take_all (length rest - count) (drop count rest) (omega (arith, length-drop count rest)))),
)
