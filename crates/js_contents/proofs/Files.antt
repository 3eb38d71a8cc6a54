-- The form of a file, by whether its bytes are text.
use Rattle.std.proofs.Common.{◌≡◌, ℕ, Bool, true, false, List, refl, ap, ◌∙◌}
use Rattle.std.specs.Prelude.{if◌then◌else◌, codes}
use Rattle.std.specs.Str.{IsUtf8, is_utf8}
use Rattle.base64.specs.Engines.{standard}
use Rattle.base64.specs.GeneralPurpose.{encode_of}
use Rattle.serde_json.specs.Data.{Data}
use Rattle.js_tables.specs.declared.forms.About.{About}
use Rattle.js_tables.proofs.Giving.{is_text, is_no_text}
use Rattle.js_contents.specs.Forms.{text_form, file_form}

first_of_two : (b : Bool) (x y : Data) → b ≡ true → x ≡ (if b then x else y)
first_of_two true x y e = refl
first_of_two false x y e = cc

second_of_two : (b : Bool) (x y : Data) → b ≡ false → y ≡ (if b then x else y)
second_of_two true x y e = cc
second_of_two false x y e = refl

pub as_text : (about : About) (bs text : List ℕ) → text ≡ bs → IsUtf8 bs → text_form about text (codes "text") (codes "text/plain") ≡ file_form about bs
as_text about bs text e h =
    ap (λ t. text_form about t (codes "text") (codes "text/plain")) e
    ∙ first_of_two (is_utf8 bs) (text_form about bs (codes "text") (codes "text/plain")) (text_form about (encode_of standard bs) (codes "base64") (codes "application/octet-stream")) (is_text bs h)

pub as_bytes : (about : About) (bs text : List ℕ) → text ≡ encode_of standard bs → ¬ (IsUtf8 bs) → text_form about text (codes "base64") (codes "application/octet-stream") ≡ file_form about bs
as_bytes about bs text e h =
    ap (λ t. text_form about t (codes "base64") (codes "application/octet-stream")) e
    ∙ second_of_two (is_utf8 bs) (text_form about bs (codes "text") (codes "text/plain")) (text_form about (encode_of standard bs) (codes "base64") (codes "application/octet-stream")) (is_no_text bs h)
