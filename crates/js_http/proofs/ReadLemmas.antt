-- What one read adds to the bytes that are held.
use Rattle.std.proofs.Common.{◌≡◌, ℕ, ◌+◌, ◌≤◌, List, ◌++◌, length, take, arith, ap, ◌∙◌, append_assoc}
use Rattle.std.proofs.lemmas.List.{take-take, take_all, take-append-le}
use Rattle.std.proofs.Math.Seq.{take-append-add}

-- the bytes held, made longer for the read and cut after the count that it gave
pub read_adds : (old more buf after tail : List ℕ) (held count grown room : ℕ) → held ≡ length old → held ≤ grown → count ≤ length buf → held + count ≤ room
    → take (held + count) (take room ((take held (take grown old ++ more) ++ (buf ++ after)) ++ tail)) ≡ old ++ take count buf
read_adds old more buf after tail held count grown room is short given fits =
    let kept : take held (take grown old ++ more) ≡ old =
    ap (λ xs. take held (xs ++ more)) (take_all grown old (omega arith)) ∙ take-append-le held old more (omega arith) ∙ take_all held old (omega arith) in
    take-take (held + count) room _ fits
    ∙ ap (λ xs. take (held + count) ((xs ++ (buf ++ after)) ++ tail)) kept
    ∙ ap (take (held + count)) (append_assoc old (buf ++ after) tail)
    ∙ ap (λ n. take (n + count) (old ++ ((buf ++ after) ++ tail))) is
    ∙ take-append-add old ((buf ++ after) ++ tail) count
    ∙ ap (λ xs. old ++ take count xs) (append_assoc buf after tail)
    ∙ ap (λ xs. old ++ xs) (take-append-le count buf (after ++ tail) given)
