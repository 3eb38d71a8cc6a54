-- Streams that are joined one after another.
use Rattle.std.proofs.Common.{◌≡◌, ℕ, List, [], ◌∷◌, ◌++◌, map, Bool, true, false, cond, Option, Some, None, Result, Ok, Err, IfOk, refl, sym, ap, ap₂, ◌∙◌, append_assoc}
use Rattle.std.specs.Str.{bytes_eq}
use Rattle.std.specs.declared.alloc.AllocError.{AllocError}
use Rattle.serde_json.specs.Data.{Data}
use Rattle.nb_doc.specs.declared.notebook.Output.{Output}
use Rattle.nb_doc.specs.declared.notebook.Output.TheVariants as output
use Rattle.nb_doc.specs.Writing.{join_onto, joined, output_form, stream_form, error_form}
use Rattle.nb_doc.specs.declared.output_row.OpenStream.{OpenStream}
use Rattle.nb_doc.specs.declared.output_row.OutputRow.{OutputRow}
use Rattle.nb_doc.specs.OutputRow.{forms, opened, row_forms, open_forms, closed_forms}
use Rattle.nb_doc.proofs.Among.{same_itself, same_if}

-- two streams of one name are one
once : (a s t : List ℕ) (os : List Output) → join_onto (output.Stream a s) (join_onto (output.Stream a t) os) ≡ join_onto (output.Stream a (s ++ t)) os
once a s t [] = ap (λ b. cond b (output.Stream a (s ++ t) ∷ []) (output.Stream a s ∷ output.Stream a t ∷ [])) (same_itself a)
once a s t (output.Stream c u ∷ os) = go (bytes_eq a c) refl
  where
    go : (b : Bool) → bytes_eq a c ≡ b → join_onto (output.Stream a s) (cond b (output.Stream a (t ++ u) ∷ os) (output.Stream a t ∷ output.Stream c u ∷ os)) ≡ cond b (output.Stream a ((s ++ t) ++ u) ∷ os) (output.Stream a (s ++ t) ∷ output.Stream c u ∷ os)
    go true h = ap (λ b. cond b (output.Stream a (s ++ (t ++ u)) ∷ os) (output.Stream a s ∷ output.Stream a (t ++ u) ∷ os)) (same_itself a) ∙ ap (λ r. output.Stream a r ∷ os) (sym (append_assoc s t u))
    go false h = ap (λ b. cond b (output.Stream a (s ++ t) ∷ output.Stream c u ∷ os) (output.Stream a s ∷ output.Stream a t ∷ output.Stream c u ∷ os)) (same_itself a)
once a s t (output.Error e v l ∷ os) = ap (λ b. cond b (output.Stream a (s ++ t) ∷ output.Error e v l ∷ os) (output.Stream a s ∷ output.Stream a t ∷ output.Error e v l ∷ os)) (same_itself a)
once a s t (output.Kept d ∷ os) = ap (λ b. cond b (output.Stream a (s ++ t) ∷ output.Kept d ∷ os) (output.Stream a s ∷ output.Stream a t ∷ output.Kept d ∷ os)) (same_itself a)

pub joined-same : (a b s t : List ℕ) (os : List Output) → bytes_eq a b ≡ true → joined (output.Stream a s ∷ output.Stream b t ∷ os) ≡ joined (output.Stream a (s ++ t) ∷ os)
unfolding joined
joined-same a b s t os h = ap (λ c. join_onto (output.Stream a s) (join_onto (output.Stream c t) (joined os))) (sym (same_if a b h)) ∙ once a s t (joined os)

-- streams of two names stay two
apart : (a b s t : List ℕ) (os : List Output) → bytes_eq a b ≡ false → join_onto (output.Stream a s) (join_onto (output.Stream b t) os) ≡ output.Stream a s ∷ join_onto (output.Stream b t) os
apart a b s t [] h = ap (λ c. cond c (output.Stream a (s ++ t) ∷ []) (output.Stream a s ∷ output.Stream b t ∷ [])) h
apart a b s t (output.Stream c u ∷ os) h = go (bytes_eq b c)
  where
    go : (x : Bool) → join_onto (output.Stream a s) (cond x (output.Stream b (t ++ u) ∷ os) (output.Stream b t ∷ output.Stream c u ∷ os)) ≡ output.Stream a s ∷ cond x (output.Stream b (t ++ u) ∷ os) (output.Stream b t ∷ output.Stream c u ∷ os)
    go true = ap (λ y. cond y (output.Stream a (s ++ (t ++ u)) ∷ os) (output.Stream a s ∷ output.Stream b (t ++ u) ∷ os)) h
    go false = ap (λ y. cond y (output.Stream a (s ++ t) ∷ output.Stream c u ∷ os) (output.Stream a s ∷ output.Stream b t ∷ output.Stream c u ∷ os)) h
apart a b s t (output.Error e v l ∷ os) h = ap (λ c. cond c (output.Stream a (s ++ t) ∷ output.Error e v l ∷ os) (output.Stream a s ∷ output.Stream b t ∷ output.Error e v l ∷ os)) h
apart a b s t (output.Kept d ∷ os) h = ap (λ c. cond c (output.Stream a (s ++ t) ∷ output.Kept d ∷ os) (output.Stream a s ∷ output.Stream b t ∷ output.Kept d ∷ os)) h

pub joined-apart : (a b s t : List ℕ) (os : List Output) → bytes_eq a b ≡ false → joined (output.Stream a s ∷ output.Stream b t ∷ os) ≡ output.Stream a s ∷ joined (output.Stream b t ∷ os)
unfolding joined
joined-apart a b s t os h = apart a b s t (joined os) h

-- ---- a row that goes on

-- the open stream goes on
pub grows : (row : OutputRow) (s : OpenStream) (name text : List ℕ) (rest : List Output) → row.open ≡ Some s → bytes_eq s.name name ≡ true
    → row.written ++ forms (output.Stream s.name (s.text ++ text) ∷ rest) ≡ row_forms row (output.Stream name text ∷ rest)
grows row s name text rest is same =
    ap (λ os. row.written ++ map output_form os) (sym (joined-same s.name name s.text text rest same))
    ∙ ap (λ o. row.written ++ forms (opened o (output.Stream name text ∷ rest))) (sym is)

-- the open stream ends, and another begins
pub goes_on : (row : OutputRow) (s : OpenStream) (name text : List ℕ) (rest : List Output) → row.open ≡ Some s → bytes_eq s.name name ≡ false
    → (row.written ++ stream_form s.name s.text ∷ []) ++ forms (output.Stream name text ∷ rest) ≡ row_forms row (output.Stream name text ∷ rest)
unfolding output_form
goes_on row s name text rest is other =
    append_assoc row.written (stream_form s.name s.text ∷ []) (forms (output.Stream name text ∷ rest))
    ∙ ap (λ os. row.written ++ map output_form os) (sym (joined-apart s.name name s.text text rest other))
    ∙ ap (λ o. row.written ++ forms (opened o (output.Stream name text ∷ rest))) (sym is)

error_in : (written : List Data) (o : Option OpenStream) (e v : List ℕ) (t : List (List ℕ)) (rest : List Output)
    → (written ++ open_forms o) ++ error_form e v t ∷ forms rest ≡ written ++ forms (opened o (output.Error e v t ∷ rest))
unfolding joined output_form
error_in written None e v t rest = append_assoc written [] (error_form e v t ∷ forms rest)
error_in written (Some s) e v t rest = append_assoc written (stream_form s.name s.text ∷ []) (error_form e v t ∷ forms rest)

kept_in : (written : List Data) (o : Option OpenStream) (d : Data) (rest : List Output) → (written ++ open_forms o) ++ d ∷ forms rest ≡ written ++ forms (opened o (output.Kept d ∷ rest))
unfolding joined output_form
kept_in written None d rest = append_assoc written [] (d ∷ forms rest)
kept_in written (Some s) d rest = append_assoc written (stream_form s.name s.text ∷ []) (d ∷ forms rest)

-- another output stands for itself
pub with_error : (row : OutputRow) (e v : List ℕ) (t : List (List ℕ)) (d : Data) (o : Output) → o ≡ output.Error e v t → d ≡ error_form e v t → (r : Result OutputRow AllocError)
    → IfOk r (λ now. (rest : List Output) → row_forms now rest ≡ closed_forms row ++ d ∷ forms rest) → IfOk r (λ now. (rest : List Output) → row_forms now rest ≡ row_forms row (o ∷ rest))
with_error row e v t d o is form (Err f) h = tt
with_error row e v t d o is form (Ok now) h =
    λ rest. h rest ∙ ap (λ x. closed_forms row ++ x ∷ forms rest) form ∙ error_in row.written row.open e v t rest ∙ ap (λ x. row_forms row (x ∷ rest)) (sym is)

pub with_kept : (row : OutputRow) (d : Data) (o : Output) → o ≡ output.Kept d → (r : Result OutputRow AllocError)
    → IfOk r (λ now. (rest : List Output) → row_forms now rest ≡ closed_forms row ++ d ∷ forms rest) → IfOk r (λ now. (rest : List Output) → row_forms now rest ≡ row_forms row (o ∷ rest))
with_kept row d o is (Err f) h = tt
with_kept row d o is (Ok now) h = λ rest. h rest ∙ kept_in row.written row.open d rest ∙ ap (λ x. row_forms row (x ∷ rest)) (sym is)

begun_is : (row : OutputRow) (s : OpenStream) (name text : List ℕ) → row.open ≡ Some s → bytes_eq s.name name ≡ false → (now : OutputRow) → now.written ≡ row.written ++ stream_form s.name s.text ∷ []
    → now.open ≡ Some (record { name = name; text = text }) → (rest : List Output) → row_forms now rest ≡ row_forms row (output.Stream name text ∷ rest)
begun_is row s name text is other now written open_is rest =
    ap₂ (λ w o. w ++ forms (opened o rest)) written open_is ∙ goes_on row s name text rest is other

pub begun_after : (row : OutputRow) (s : OpenStream) (name text : List ℕ) (w : List Data) → row.open ≡ Some s → bytes_eq s.name name ≡ false → w ≡ row.written ++ stream_form s.name s.text ∷ []
    → (r : Result OutputRow AllocError) → IfOk r (λ now. now.written ≡ w) → IfOk r (λ now. now.open ≡ Some (record { name = name; text = text }))
    → IfOk r (λ now. (rest : List Output) → row_forms now rest ≡ row_forms row (output.Stream name text ∷ rest))
begun_after row s name text w is other all (Err f) h k = tt
begun_after row s name text w is other all (Ok now) h k = begun_is row s name text is other now (h ∙ all) k

in_all : (o : Option OpenStream) → forms (opened o []) ≡ open_forms o
unfolding joined output_form
in_all None = refl
in_all (Some s) = refl

pub closes : (row : OutputRow) → row_forms row [] ≡ closed_forms row
closes row = ap (λ ds. row.written ++ ds) (in_all row.open)
