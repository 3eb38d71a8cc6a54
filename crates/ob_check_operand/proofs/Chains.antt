-- What is found in a record or its bases, a step from a base at a time.
use Rattle.std.proofs.Common.{◌≡◌, ℕ, List, Bool, false, Option, Some, None, Result, Ok, Err, IfOk, cond, refl, sym, ap, ◌∙◌}
use Rattle.ob_types.specs.declared.structure.ObType.{ObType, out-ObType}
use Rattle.ob_types.specs.Types.{same, chain, base_of}
use Rattle.ob_types.proofs.Equations.{chain_from, chain_step}
use Rattle.ob_mean.specs.declared.expression.Designator.{Designator}
use Rattle.ob_mean.specs.declared.expression.Designator.TheVariants as designator
use Rattle.ob_check_operand.specs.Selecting.{FoundField, own_layer, nearest, field_along, part_along, part_as}

-- a field of a base
abbrev pub field_from_base : Option ObType → List ℕ → Designator → Option FoundField
field_from_base None name d = None
field_from_base (Some b) name d = field_along (chain b) name (designator.Field d 0)

found_there : (o : Option ObType) (name : List ℕ) (d : Designator) → field_along (chain_from o) name (designator.Field d 0) ≡ field_from_base o name d
found_there None name d = refl
found_there (Some b) name d = refl

pub field_step : (t : ObType) (name : List ℕ) (d : Designator) → field_along (chain t) name d ≡ nearest d (own_layer (out-ObType t) name) (field_from_base (base_of t) name d)
field_step t name d = ap (λ ts. field_along ts name d) (chain_step t) ∙ ap (nearest d (own_layer (out-ObType t) name)) (found_there (base_of t) name d)

-- where the record itself has none of that name
pub field_by_base : (t b : ObType) (name : List ℕ) (d e : Designator) → own_layer (out-ObType t) name ≡ None → base_of t ≡ Some b → e ≡ d → field_along (chain b) name (designator.Field e 0) ≡ field_along (chain t) name d
field_by_base t b name d e own base same_place =
    ap (λ x. field_along (chain b) name (designator.Field x 0)) same_place
    ∙ sym (
    field_step t name d
    ∙ ap (λ o. nearest d o (field_from_base (base_of t) name d)) own
    ∙ ap (λ o. field_from_base o name d) base)

-- a part that is a base or in one
abbrev pub part_from_base : ObType → Option ObType → Designator → Option Designator
part_from_base to None d = None
part_from_base to (Some b) d = part_as to b (designator.Field d 0)

part_there : (to : ObType) (o : Option ObType) (d : Designator) → part_along to (chain_from o) (designator.Field d 0) ≡ part_from_base to o d
part_there to None d = refl
part_there to (Some b) d = refl

pub part_step : (to t : ObType) (d : Designator) → part_as to t d ≡ cond (same to t) (Some d) (part_from_base to (base_of t) d)
part_step to t d = ap (λ ts. part_along to ts d) (chain_step t) ∙ ap (cond (same to t) (Some d)) (part_there to (base_of t) d)

-- where the variable itself is of another type
pub part_by_base : (to t b : ObType) (d e : Designator) → same to t ≡ false → base_of t ≡ Some b → e ≡ d → part_as to b (designator.Field e 0) ≡ part_as to t d
part_by_base to t b d e apart base same_place =
    ap (λ x. part_as to b (designator.Field x 0)) same_place
    ∙ sym (
    part_step to t d
    ∙ ap (λ x. cond x (Some d) (part_from_base to (base_of t) d)) apart
    ∙ ap (λ o. part_from_base to o d) base)

-- an answer that is known to be one value is known to be another that equals it
pub answer_as : {A B E : Type 0} (r : Result A E) (f : A → B) (x y : B) → x ≡ y → IfOk r (λ a. f a ≡ x) → IfOk r (λ a. f a ≡ y)
answer_as (Ok a) f x y e h = h ∙ e
answer_as (Err z) f x y e h = tt
