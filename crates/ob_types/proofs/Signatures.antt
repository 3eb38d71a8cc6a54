-- Signatures are the same where their types are, and what else there is of them.
use Rattle.std.proofs.Common.{◌≡◌, ◌&&◌, Bool, true, false, List, [], ◌∷◌, refl}
use Rattle.ob_types.specs.declared.exports.FormalKind.{FormalKind}
use Rattle.ob_types.specs.declared.exports.FormalKind.TheVariants as formal
use Rattle.ob_types.specs.declared.exports.Formal.{Formal}
use Rattle.ob_types.specs.declared.exports.Signature.{Signature}
use Rattle.ob_types.specs.Numbered.{types_of, same_kind, passed_alike}
use Rattle.ob_types.proofs.Numbering.{heads, tails}

first_holds : (a b : Bool) → (a && b) ≡ true → a ≡ true
first_holds true b h = refl
first_holds false b h = absurd (let k : false ≡ true = h in cc)

second_holds : (a b : Bool) → (a && b) ≡ true → b ≡ true
second_holds true b h = h
second_holds false b h = absurd (let k : false ≡ true = h in cc)

kind_true : (a b : FormalKind) → same_kind a b ≡ true → a ≡ b
kind_true formal.Value formal.Value h = refl
kind_true formal.Variable formal.Variable h = refl
kind_true formal.Value formal.Variable h = absurd (let k : false ≡ true = h in cc)
kind_true formal.Variable formal.Value h = absurd (let k : false ≡ true = h in cc)

formals_same : (fs gs : List Formal) → passed_alike fs gs ≡ true → types_of fs ≡ types_of gs → fs ≡ gs
formals_same [] [] h e = refl
formals_same [] (g ∷ gs) h e = absurd (let k : false ≡ true = h in cc)
formals_same (f ∷ fs) [] h e = absurd (let k : false ≡ true = h in cc)
formals_same (f ∷ fs) (g ∷ gs) h e =
    let kind = kind_true f.kind g.kind (first_holds (same_kind f.kind g.kind) (passed_alike fs gs) h) in
    let of = heads _ _ _ _ e in
    let rest = formals_same fs gs (second_holds (same_kind f.kind g.kind) (passed_alike fs gs) h) (tails _ _ _ _ e) in
    λ i. record { kind = kind i; of = of i } ∷ rest i

pub signature_same : (s t : Signature) → passed_alike s.formals t.formals ≡ true → s.result ≡ t.result → types_of s.formals ≡ types_of t.formals → s ≡ t
signature_same s t h r e =
    let formals = formals_same s.formals t.formals h e in
    λ i. record { formals = formals i; result = r i }
