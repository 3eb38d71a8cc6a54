-- The parts of a type are smaller than it.
use Rattle.std.proofs.Common.{◌≡◌, ◌<◌, ◌≤◌, ◌+◌, ◌*◌, ℕ, suc, List, [], ◌∷◌, length, get_or, arith, ap, refl}
use denote.Param.Weighed.{most, at_most}
use Rattle.ob_types.specs.declared.form.Field.TheDeep.{size-Field}
use Rattle.ob_types.specs.declared.structure.Field.{Field}
use Rattle.ob_types.specs.declared.structure.ObType.{ObType}
use Rattle.ob_types.specs.declared.structure.ObType.TheVariants.{Array, Open}
use Rattle.ob_types.specs.declared.structure.RecordType.{RecordType, out-RecordType}
use Rattle.ob_types.specs.Sizes.{size_of, record_size, sizes_in, size_array, size_open, size_record}

pub array_size : (n : ℕ) (e : ObType) → size_of (Array n e) ≡ suc (size_of e)
array_size = size_array

pub open_size : (e : ObType) → size_of (Open e) ≡ suc (size_of e)
open_size = size_open

pub fields_size : (r : RecordType) → record_size r ≡ suc (sizes_in (out-RecordType r).fields)
fields_size = size_record

largest_in : (fs : List Field) → most (λ f. size-Field f) fs ≤ 2 * (sizes_in fs + 1)
largest_in [] = omega arith
largest_in (f ∷ fs) = let e : size-Field f ≡ 2 * (suc (size_of f.of) + 1) + 0 = refl in omega (arith, largest_in fs, e)

-- the largest of the fields that a record has is smaller than it
pub fields_fall : (r : RecordType) (fs : List Field) → fs ≡ (out-RecordType r).fields → most (λ f. size-Field f) fs < 2 * (record_size r + 1)
fields_fall r fs e = omega (arith, largest_in (out-RecordType r).fields, size_record r, ap (λ l. most (λ f. size-Field f) l) e)

-- what a field has is smaller than the largest of the fields
pub field_falls : (fs : List Field) (k : ℕ) (f : Field) (of : ObType) → k < length fs → f ≡ get_or fs k f → of ≡ f.of → 2 * (suc (size_of of) + 1) ≤ most (λ x. size-Field x) fs
field_falls fs k f of lt is e =
    let own : size-Field f ≡ 2 * (suc (size_of f.of) + 1) + 0 = refl in
    omega (arith, at_most (λ x. size-Field x) fs k f lt, ap (λ x. size-Field x) is, own, ap size_of e)
