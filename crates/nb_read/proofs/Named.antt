-- Fields that are names.
use Rattle.std.proofs.Common.{◌≡◌, ℕ, List, true, codes, Some, option_and_then, ap, ◌∙◌}
use Rattle.std.specs.Str.{bytes_eq}
use Rattle.serde_json.specs.Data.{Data}
use Rattle.serde_json.specs.Find.{get, as_str}
use Rattle.json_form.specs.Forms.{Has}
use Rattle.nb_doc.specs.Documents.{IsKept}
use Rattle.nb_doc.specs.Fields.{is_kept}
use Rattle.nb_doc.proofs.Among.{same_if}

pub has_named : (key : List ℕ) (d : Data) (kind name : List ℕ) → option_and_then as_str (get key d) ≡ Some kind → bytes_eq kind name ≡ true → Has as_str key d name
has_named key d kind name h e = h ∙ ap Some (same_if kind name e)

pub kept_is : (d : Data) (kind : List ℕ) → option_and_then as_str (get (codes "output_type") d) ≡ Some kind → is_kept kind ≡ true → IsKept d
kept_is d kind h e = record { kind = kind; has_kind = h; kept = e }
