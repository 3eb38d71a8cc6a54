-- What is known of a record by its name and its fields is so of the type.
use Rattle.std.proofs.Common.{◌≡◌, ◌+◌, List, max, ap, sym, subst, ◌∙◌}
use Rattle.std.specs.Prelude.{◌&&◌}
use Rattle.ob_types.specs.declared.structure.Field.{Field}
use Rattle.ob_types.specs.declared.structure.RecordName.{RecordName}
use Rattle.ob_types.specs.declared.structure.ObType.TheVariants.{Record}
use Rattle.ob_types.specs.declared.structure.RecordType.{out-RecordType, roll-RecordType, out-roll-RecordType}
use Rattle.ob_types.specs.Types.{cells, cells_in, levels, levels_in}
use Rattle.ob_types.specs.Declarable.{is_plain, are_words, plain_fields}
use Rattle.ob_types.specs.declared.form.Ends.{Ends}
use Rattle.ob_types.specs.Spelling.{AreEnds}
use Rattle.ob_types.proofs.Equations.{cells_record, levels_record}
use Rattle.ob_types.proofs.DeclarableForms.{plain_record}

pub cells_rolled : (r : _) → cells (Record (roll-RecordType r)) ≡ max 1 (cells_in r.fields)
cells_rolled r = cells_record (roll-RecordType r) ∙ ap (λ x. max 1 (cells_in x.fields)) (out-roll-RecordType r)

pub levels_rolled : (r : _) → levels (Record (roll-RecordType r)) ≡ levels_in r.fields + 1
levels_rolled r = levels_record (roll-RecordType r) ∙ ap (λ x. levels_in x.fields + 1) (out-roll-RecordType r)

pub plain_rolled : (r : _) → is_plain (Record (roll-RecordType r)) ≡ (are_words r.name && plain_fields r.fields)
plain_rolled r = plain_record (roll-RecordType r) ∙ ap (λ x. are_words x.name && plain_fields x.fields) (out-roll-RecordType r)

pub ends_rolled : (name : RecordName) (fields : List Field) (ends : Ends) → AreEnds ends fields → AreEnds ends (out-RecordType (roll-RecordType (record { name = name; fields = fields }))).fields
ends_rolled name fields ends h = subst (λ fs. AreEnds ends fs) (sym (ap (λ x. x.fields) (out-roll-RecordType (record { name = name; fields = fields })))) h

pub parts_rolled : (r : _) → out-RecordType (roll-RecordType r) ≡ r
parts_rolled r = out-roll-RecordType r
