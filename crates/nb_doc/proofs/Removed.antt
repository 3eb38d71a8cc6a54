-- What is taken out of an object is what the object has.
use Rattle.std.proofs.Common.{◌≡◌, ℕ, List, Option, Some, None, false, option_map, string_bytes, String, refl, sym, ap, ◌∙◌, IfSome}
use Rattle.std.specs.BTreeMap.{BTreeMap, get_by_text}
use Rattle.std.specs.declared.alloc.Global.{Global}
use Rattle.serde_json.specs.Data.{Data}
use Rattle.serde_json.specs.Find.{get}
use Rattle.serde_json.specs.View.{view}
use Rattle.serde_json.specs.Written.{has_float}
use Rattle.serde_json.specs.declared.value.Value.{Value, Object}
use Rattle.serde_json.proofs.Views.{view-Object, view-lookup}
use Rattle.json_form.proofs.WholeParts.{get-whole}

pub taken_is : (v : Value) (m : BTreeMap (String Global) Value) (k : List ℕ) (o : Option Value) → v ≡ Object m → o ≡ get_by_text m k → option_map view o ≡ get k (view v)
taken_is v m k o is found = ap (option_map view) found ∙ view-lookup k m.entries ∙ sym (ap (get k) (ap view is ∙ view-Object m))

pub taken_whole : (v : Value) (k : List ℕ) (o : Option Value) → has_float (view v) ≡ false → option_map view o ≡ get k (view v) → IfSome o (λ x. has_float (view x) ≡ false)
taken_whole v k None w h = tt
taken_whole v k (Some x) w h = get-whole k (view v) (view x) w (sym h)
