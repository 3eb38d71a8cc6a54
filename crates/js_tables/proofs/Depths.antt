-- What is read of a body nests no deeper than JSON is read.
use Rattle.std.proofs.Common.{◌≡◌, ◌≤◌, ℕ, List, Bool, true, false, Option, Some, None, Result, Ok, Err, refl, sym, subst, arith}
use Rattle.serde_json.proofs.Nesting.{depth-read}
use Rattle.serde_json.specs.Data.{Data, depth}
use Rattle.serde_json.specs.Read.{max_depth, read}
use Rattle.json_form.specs.Forms.{text_has_float, if_whole, whole_json, empty_object}

whole_shallow : (float : Bool) (o : Option Data) (text : List ℕ) (d : Data) → read text ≡ o → if_whole float o ≡ Ok d → depth d ≤ max_depth
whole_shallow float None text d e h = cc
whole_shallow true (Some x) text d e h = cc
whole_shallow false (Some x) text d e h = let same : x ≡ d = cc in subst (λ y. depth y ≤ max_depth) same (depth-read text x e)

pub text_shallow : (text : List ℕ) (d : Data) → whole_json text ≡ Ok d → depth d ≤ max_depth
unfolding whole_json
text_shallow text d h = whole_shallow (text_has_float text) (read text) text d refl h

braces_shallow : depth empty_object ≤ max_depth
braces_shallow = omega arith

pub object_shallow : (d : Data) → d ≡ empty_object → depth d ≤ max_depth
object_shallow d e = subst (λ x. depth x ≤ max_depth) (sym e) braces_shallow
