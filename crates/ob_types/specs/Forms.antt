-- Types as the program has them: by their form, and what is known of a record.
use Rattle.std.specs.Prelude.{◌≡◌, ℕ, ◌+◌, ◌&&◌, min, max, List, [], ◌∷◌, Vec, Option, Some, None, IfSome, if◌then◌else◌}
use Rattle.std.specs.Str.{bytes_eq}
use Rattle.std.specs.declared.hash.FoldHasher.{FoldHasher}
use Rattle.std.specs.declared.hash.BuildHasherDefault.{BuildHasherDefault}
use Rattle.std.specs.declared.alloc.Global.{Global}
use Rattle.std.specs.HashMap.{get_by, HashMap}
use Rattle.ob_types.specs.declared.structure.Field.{Field}
use Rattle.ob_types.specs.declared.structure.ObType.{ObType}
use Rattle.ob_types.specs.declared.structure.ObType.TheOpen.{ObType-F}
use Rattle.ob_types.specs.declared.structure.RecordType.{RecordType}
use Rattle.ob_types.specs.declared.structure.ObType.TheVariants.{Basic, Array, Open, Record}
use Rattle.ob_types.specs.declared.structure.RecordName.{RecordName}
use Rattle.ob_types.specs.declared.form.Facts.{Facts}
use Rattle.ob_types.specs.declared.form.Form.{Form}
use Rattle.ob_types.specs.declared.form.Form.TheVariants as form
use Rattle.ob_types.specs.Types.{cells_in, levels_in}
use Rattle.ob_types.specs.Declarable.{are_words, plain_fields}
use Rattle.ob_types.specs.Spelling.{record_spelled, AreEnds}

-- the type of a form
abbrev pub type_of : Form → ObType
type_of (form.Basic b) = Basic b
type_of (form.Array n e) = Array n e
type_of (form.Open e) = Open e
type_of (form.Record r) = Record r

-- the same as its outermost layer
abbrev pub layer_of : Form → ObType-F ObType Field RecordType
layer_of (form.Basic b) = ObType-F.Basic b
layer_of (form.Array n e) = ObType-F.Array n e
layer_of (form.Open e) = ObType-F.Open e
layer_of (form.Record r) = ObType-F.Record r

-- the first place of a field of a name, counted from a number
abbrev pub place_from : ℕ → List Field → List ℕ → Option ℕ
place_from n [] name = None
place_from n (f ∷ fs) name = if bytes_eq f.name name then Some n else place_from (n + 1) fs name

-- the map has that of each name, where the fields are counted from this number
abbrev pub IsIndexFrom : ℕ → HashMap (Vec ℕ Global) ℕ (BuildHasherDefault FoldHasher) → List Field → Type 0
IsIndexFrom n places fields = (name : List ℕ) → get_by (λ k. bytes_eq name k.items) places ≡ place_from n fields name

-- what is known of a record of this name with these fields
abbrev pub AreFacts : Facts → RecordName → List Field → Type 0
AreFacts facts name fields =
    (facts.cells ≡ min (max 1 (cells_in fields)) 4294967295)
    × (facts.levels ≡ min (levels_in fields + 1) 4294967295)
    × (facts.plain ≡ (are_words name && plain_fields fields))
    × (facts.spelling.items ≡ record_spelled name fields)
    × AreEnds facts.ends fields
    × IfSome facts.places (λ p. IsIndexFrom 0 p fields)
