-- The body of a request that was read.
use Rattle.std.proofs.Common.{◌≡◌, ◌<◌, ℕ, List, length, false, Some, Result, Ok, Err, IfOk}
use Rattle.std.specs.Str.{IsUtf8}
use Rattle.serde_json.specs.Data.{Data}
use Rattle.serde_json.specs.Read.{read}
use Rattle.json_form.specs.Forms.{text_has_float}
use Rattle.nb_read.specs.declared.puts.BookPut.{BookPut}
use Rattle.nb_read.specs.declared.unread.Unread.{Unread}
use Rattle.nb_read.specs.Puts.{IsBookPut, IsBookValue}

pub text_put : (text : List ℕ) (d : Data) (r : Result BookPut Unread) → 0 < length text → IsUtf8 text → read text ≡ Some d → text_has_float text ≡ false
    → IfOk r (λ p. IsBookValue d p.notebook p.last_modified) → IfOk r (λ p. IsBookPut text p.notebook p.last_modified)
text_put text d (Ok p) some utf8 reads whole h = record { filled = some; utf8 = utf8; value = d; reads = reads; whole = whole; put = h }
text_put text d (Err e) some utf8 reads whole h = tt
