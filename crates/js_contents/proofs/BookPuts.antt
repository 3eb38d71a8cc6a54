-- The body of a PUT that was read with no JSON value of it.
use Rattle.std.proofs.Common.{◌≡◌, ◌<◌, ℕ, List, [], ◌∷◌, length, codes, true, false, if◌then◌else◌, Option, Some, None, option_and_then, Result, Ok, Err, refl, sym, ap, ap₂, ◌∙◌, subst, arith}
use Rattle.std.proofs.lemmas.Str.{is_utf8-from_IsUtf8}
use Rattle.serde_json.specs.Data.{Data, null, boolean, number, string, array, object}
use Rattle.serde_json.specs.Find.{get, as_str}
use Rattle.serde_json.specs.Read.{read}
use Rattle.json_form.specs.Forms.{Has, present, given, needed, of_kind, object_of, if_whole, whole_json}
use Rattle.nb_doc.specs.declared.notebook.Notebook.{Notebook}
use Rattle.nb_doc.specs.Reading as reading
use Rattle.nb_doc.specs.TextForms.{IsNotebook}
use Rattle.nb_doc.proofs.Law.{notebook_only}
use Rattle.nb_read.specs.Puts.{dated, IsBookValue, IsBookPut}
use Rattle.js_http.specs.declared.response.ErrorStatus.TheVariants.{BadRequest}
use Rattle.js_tables.specs.Bodies.{if_text, given_text_in, text_in, only_object, text_json, text_body, body_of}
use Rattle.js_tables.specs.Plans.{◌>>=◌, or_bad}
use Rattle.js_contents.specs.declared.put.PutBody.{PutBody}
use Rattle.js_contents.specs.declared.put.Putting.TheVariants.{Notebook as Book}
use Rattle.js_contents.specs.Notebooks.{or_unreadable}
use Rattle.js_contents.specs.Puts.{or_missing, content_in, as_notebook, notebook_putting, putting_of, putting_in, put_body_in, put_body}

-- what has a field is an object
is_object : (k : List ℕ) (d e : Data) → get k d ≡ Some e → object_of d ≡ Some d
is_object k null e h = cc
is_object k (boolean b) e h = cc
is_object k (number n) e h = cc
is_object k (string s) e h = cc
is_object k (array ds) e h = cc
is_object k (object ms) e h = refl

is_present : (k : List ℕ) (d e : Data) → get k d ≡ Some e → present d ≡ Some d
is_present k null e h = cc
is_present k (boolean b) e h = cc
is_present k (number n) e h = cc
is_present k (string s) e h = cc
is_present k (array ds) e h = cc
is_present k (object ms) e h = refl

-- a field that is of a kind is there
there : {A : Type 0} (kind : Data → Option A) (o : Option Data) (x : A) → option_and_then kind o ≡ Some x → (e : Data) × (o ≡ Some e)
there kind None x h = cc
there kind (Some e) x h = (e, refl)

text_given : (o : Option Data) (s : List ℕ) → option_and_then as_str o ≡ Some s → or_bad (needed as_str (option_and_then present o)) ≡ Ok s
text_given None s h = cc
text_given (Some null) s h = cc
text_given (Some (boolean b)) s h = cc
text_given (Some (number n)) s h = cc
text_given (Some (string t)) s h = let same : t ≡ s = cc in ap Ok same
text_given (Some (array ds)) s h = cc
text_given (Some (object ms)) s h = cc

date_given : (o : Option Data) (date : Option (List ℕ)) → dated o ≡ Some date → if_text o ≡ Ok date
date_given None date h = let same : ◌≡◌ {A = Option (List ℕ)} None date = cc in ap Ok same
date_given (Some null) date h = cc
date_given (Some (boolean b)) date h = cc
date_given (Some (number n)) date h = cc
date_given (Some (string t)) date h = let same : Some t ≡ date = cc in ap Ok same
date_given (Some (array ds)) date h = cc
date_given (Some (object ms)) date h = cc

abbrev put_by : Notebook → Option (List ℕ) → PutBody
put_by n date = record { putting = Book n; last_modified = date }

content_is : (d : Data) (n : Notebook) (date : Option (List ℕ)) (v : IsBookValue d n date) → content_in d ≡ Ok v.content
unfolding given
content_is d n date v =
    let major = there _ (get (codes "nbformat") v.content) _ v.notebook.version in
    ap (λ o. or_missing (option_and_then present o)) v.has_content ∙ ap or_missing (is_present (codes "nbformat") v.content major.0 major.1)

book_is : (d : Data) (n : Notebook) (date : Option (List ℕ)) → IsBookValue d n date → notebook_putting d ≡ Ok (Book n)
book_is d n date v =
    ap (λ r. r >>= λ c. (or_unreadable (reading.notebook_of c) >>= as_notebook)) (content_is d n date v)
    ∙ ap (λ r. or_unreadable r >>= as_notebook) (notebook_only v.content n v.notebook)

value_put : (d : Data) (n : Notebook) (date : Option (List ℕ)) → IsBookValue d n date → put_body_in d ≡ Ok (put_by n date)
unfolding given
value_put d n date v =
    let kind : text_in (codes "type") d ≡ Ok (codes "notebook") = text_given (get (codes "type") d) (codes "notebook") v.kind in
    let puts : putting_in d ≡ Ok (Book n) = ap (λ r. r >>= λ k. putting_of k d) kind ∙ book_is d n date v in
    ap (λ r. r >>= λ a. (putting_in d >>= λ p. Ok (record { putting = p; last_modified = a }))) (date_given (given (codes "last_modified") d) date v.date_is)
    ∙ ap (λ r. r >>= λ p. Ok (record { putting = p; last_modified = date })) puts

text_is : (text : List ℕ) (n : Notebook) (date : Option (List ℕ)) (p : IsBookPut text n date) → text_body text ≡ Ok p.value
unfolding whole_json
text_is text n date p =
    let kind = there as_str (get (codes "type") p.value) _ p.put.kind in
    ap (λ r. or_bad (if_whole r (read text)) >>= only_object) p.whole
    ∙ ap (λ o. or_bad (if_whole false o) >>= only_object) p.reads
    ∙ ap (λ o. or_bad (of_kind o)) (is_object (codes "type") p.value kind.0 kind.1)

-- what such a body says that is put
pub book_put_is : (text : List ℕ) (n : Notebook) (date : Option (List ℕ)) → IsBookPut text n date → put_body text ≡ Ok (put_by n date)
book_put_is [] n date p = absurd (omega (arith, p.filled))
book_put_is (b ∷ bs) n date p =
    ap (λ t. (if t then text_body (b ∷ bs) else Err BadRequest) >>= put_body_in) (is_utf8-from_IsUtf8 (b ∷ bs) p.utf8)
    ∙ ap (λ r. r >>= put_body_in) (text_is (b ∷ bs) n date p)
    ∙ value_put p.value n date p.put

pub book_body_is : (text : List ℕ) (n : Notebook) (date : Option (List ℕ)) (b : PutBody) → IsBookPut text n date → b.putting ≡ Book n → b.last_modified ≡ date → put_body text ≡ Ok b
book_body_is text n date b p putting modified =
    let same : put_by n date ≡ b = ap₂ (λ x y. let r : PutBody = record { putting = x; last_modified = y } in r) (sym putting) (sym modified) in
    book_put_is text n date p ∙ ap Ok same
