-- How large a type is, written out: more than its parts.
use Rattle.std.specs.Prelude.{◌≡◌, ℕ, suc, ◌+◌, ◌≤◌, List, [], ◌∷◌}
use Rattle.std.proofs.Common.{arith, ap, sym, ◌∙◌, refl}
use Rattle.ob_types.specs.declared.structure.Field.{Field}
use Rattle.ob_types.specs.declared.structure.ObType.{ObType, end_of-ObType, more_of-ObType}
use Rattle.ob_types.specs.declared.structure.ObType.TheBlock.{Row_of-Field, end_of-Field, more_of-Field, items-the_row-Field, items_shown-the_row-Field-1}
use Rattle.ob_types.specs.declared.structure.ObType.TheVariants.{Basic, Array, Open, Record, Array', Open'}
use Rattle.ob_types.specs.declared.structure.RecordType.{RecordType, RecordType', out-RecordType, roll-RecordType, out-roll-RecordType}
use denote.Param.Weighed.{most}

abbrev mutual
  pub size_of : ObType → ℕ
  size_of (Basic b) = 1
  size_of (Array' n p (more_of-ObType element end_of-ObType)) = suc (size_of element)
  size_of (Open' p (more_of-ObType element end_of-ObType)) = suc (size_of element)
  size_of (Record r) = suc (record_size r)

  pub record_size : RecordType → ℕ
  record_size (RecordType' name k fields) = suc (row_size fields)

  pub row_size : {k : _} → Row_of-Field k → ℕ
  row_size end_of-Field = 0
  row_size (more_of-Field name exported of rest) = suc (size_of of) + row_size rest

-- the same of fields
abbrev pub sizes_in : List Field → ℕ
sizes_in [] = 0
sizes_in (f ∷ fs) = suc (size_of f.of) + sizes_in fs

pub size_array : (n : ℕ) (e : ObType) → size_of (Array n e) ≡ suc (size_of e)
unfolding Rattle.ob_types.specs.declared.structure.ObType.TheBlock.hidden-the_row-ObType-0 denote.Hole.Carrier.hidden
size_array n e = refl

pub size_open : (e : ObType) → size_of (Open e) ≡ suc (size_of e)
unfolding Rattle.ob_types.specs.declared.structure.ObType.TheBlock.hidden-the_row-ObType-0 denote.Hole.Carrier.hidden
size_open e = refl

row_sizes : (k : _) (row : Row_of-Field k) → row_size row ≡ sizes_in (items-the_row-Field k row)
row_sizes k end_of-Field = refl
row_sizes k (more_of-Field name exported of rest) = ap (λ n. suc (size_of of) + n) (row_sizes _ rest)

pub size_record : (r : RecordType) → record_size r ≡ suc (sizes_in (out-RecordType r).fields)
unfolding out-RecordType denote.Hole.Carrier.out
size_record (RecordType' name k fields) = ap suc (row_sizes _ fields ∙ ap sizes_in (sym (items_shown-the_row-Field-1 k fields)))

pub size_rolled : (r : _) → record_size (roll-RecordType r) ≡ suc (sizes_in r.fields)
size_rolled r = size_record (roll-RecordType r) ∙ ap (λ x. suc (sizes_in x.fields)) (out-roll-RecordType r)

pub most_fields : (fs : List Field) → most (λ f. suc (size_of f.of) + 1) fs ≤ suc (sizes_in fs)
most_fields [] = omega arith
most_fields (f ∷ fs) = omega (arith, most_fields fs)
