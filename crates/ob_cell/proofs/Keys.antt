-- The key of a module whose names are words says its face.
use Rattle.std.proofs.Common.{◌≡◌, ℕ, zero, suc, ◌+◌, ◌*◌, ◌/◌, ◌%◌, ◌<◌, ◌≤◌, ◌^◌, ℤ, pos, negsuc, Bool, true, false, cond, List, [], ◌∷◌, ◌++◌, Option, Some, None, is_some, refl, sym, ap, ◌∙◌, subst, arith, append_assoc}
use Rattle.std.specs.Prelude.{codes, encode_utf8, nat_le, nat_lt, ◌==◌, ◌&&◌}
use Rattle.std.specs.List.{list_all}
use Rattle.std.specs.Char.{digit_value, is_ascii_alphanumeric}
use Rattle.std.specs.Fmt.{decimal, signed_decimal, digits, digits_onto, digit_glyph}
use Rattle.std.specs.Str.Parse.{AllDigits, digits_value_after}
use Rattle.std.proofs.lemmas.Bool.Decides.{nat_tests}
use Rattle.std.proofs.lemmas.Fmt.{decimal_is_IsNumeral}
use Rattle.std.proofs.lemmas.Str.{encode_ascii}
use Rattle.std.proofs.lemmas.Str.Parse.{digit_from_value}
use Rattle.ob_types.specs.declared.exports.Constant.{Constant}
use Rattle.ob_types.specs.declared.exports.Constant.TheVariants as constant
use Rattle.ob_types.specs.declared.exports.Exported.{Exported}
use Rattle.ob_types.specs.declared.exports.Formal.{Formal}
use Rattle.ob_types.specs.declared.exports.FormalKind.{FormalKind}
use Rattle.ob_types.specs.declared.exports.FormalKind.TheVariants as kind
use Rattle.ob_types.specs.declared.exports.Object.{Object}
use Rattle.ob_types.specs.declared.exports.Object.TheVariants as object
use Rattle.ob_types.specs.declared.exports.Signature.{Signature}
use Rattle.ob_types.specs.declared.structure.Basic.{Basic}
use Rattle.ob_types.specs.declared.structure.Basic.TheVariants as basic
use Rattle.ob_types.specs.declared.structure.ObType.{ObType, end_of-ObType, more_of-ObType}
use Rattle.ob_types.specs.declared.structure.ObType.TheBlock.{Row_of-Field, end_of-Field, more_of-Field}
use Rattle.ob_types.specs.declared.structure.ObType.TheVariants.{Basic as OfBasic, Array', Open', Record}
use Rattle.ob_types.specs.declared.structure.RecordName.{RecordName}
use Rattle.ob_types.specs.declared.structure.RecordType.{RecordType'}
use Rattle.ob_types.specs.InterfaceText.{name_text, basic_text, enclosing_text, record_name_text, mark_text, label_text, type_text, fields_text, hex_digit, hex_text, constant_text, kind_text, formals_text, result_text, signature_text, object_text, exports_text, interface_text}
use Rattle.ob_types.specs.InterfaceTree.{InterfaceTree}
use Rattle.ob_types.specs.Types.{max_cells}
use Rattle.ob_mean.specs.declared.face.Face.{Face}
use Rattle.ob_mean.specs.declared.face.Heading.{Heading}
use Rattle.ob_mean.specs.declared.module.Parameter.{Parameter}
use Rattle.ob_mean.specs.declared.shape.Shape.{Shape}
use Rattle.ob_mean.specs.declared.shape.Shape.TheVariants as shape
use Rattle.ob_check_kinds.specs.Shapes.{shape_of, shapes_of, parameter_of, parameters_of}
use Rattle.ob_types.specs.Declarable.{is_word, are_words, is_labelled, is_plain, are_plain}
use Rattle.ob_check_laws.specs.Agreeing.{SaysTypes}
use Rattle.ob_check_laws.specs.Fitting.{variable_shape, variable_shapes, procedure_heading, procedure_headings, heading_of, face_of_interface}
use Rattle.ob_load.specs.Said.{Read, BasicType, OpenType, ArrayType, RecordType, read_shape, read_parameter, Around, OfArray, OfOpen, OfField, OfVariable, OfTypeName, OfFormal, At, Line, Rest, Word, Name, Procedure, Formals, Formal as FormalAt, Result, Type', Length, RecordName as RecordNameAt, Fields, FieldName, Field, Variable, behind, in_field, field_begins, next, added, read, Reader, no_face, face_said, shape_at, shape_said}
use Rattle.ob_load.specs.Words.{IsWord, AreWords, RecordWords, TypeWords, RowWords, FormalWords, ObjectWords, ExportWords, InterfaceWords}

-- ---- texts one after the other

read_join : (xs ys : List ℕ) (r : Reader) → read (xs ++ ys) r ≡ read ys (read xs r)
read_join [] ys r = refl
read_join (x ∷ xs) ys r = read_join xs ys (next x r.0, added x r.0 r.1)

abbrev at : At → Face → Reader
at a f = (a, f)

-- one text leads somewhere, and the next goes on from there
seq : (xs ys : List ℕ) (r s t : Reader) → read xs r ≡ s → read ys s ≡ t → read (xs ++ ys) r ≡ t
seq xs ys r s t e g = read_join xs ys r ∙ ap (read ys) e ∙ g

-- ---- characters that a reader passes

-- none of a text is this character
abbrev pub Without : ℕ → List ℕ → Type 0
Without c [] = Unit {0}
Without c (x ∷ xs) = ((x == c) ≡ false) × Without c xs

without_join : (c : ℕ) (xs ys : List ℕ) → Without c xs → Without c ys → Without c (xs ++ ys)
without_join c [] ys h g = g
without_join c (x ∷ xs) ys h g = (h.0, without_join c xs ys h.1 g)

first_holds : (a b : Bool) → (a && b) ≡ true → a ≡ true
first_holds true b h = refl
first_holds false b h = absurd (let n : false ≡ true = h in cc)

second_holds : (a b : Bool) → (a && b) ≡ true → b ≡ true
second_holds true b h = h
second_holds false b h = absurd (let n : false ≡ true = h in cc)

-- a letter or a digit is one of these ranges
letter : (c : ℕ) → is_ascii_alphanumeric c ≡ true → (48 ≤ c) × (c ≤ 122)
letter c h = (grind (arith, nat_tests, h), grind (arith, nat_tests, h))

-- no letter and no digit is one of the characters between names
apart : (k c : ℕ) → is_ascii_alphanumeric k ≡ false → is_ascii_alphanumeric c ≡ true → (c == k) ≡ false
apart k c h g = by (c == k) refl
  where
    by : (b : Bool) → (c == k) ≡ b → (c == k) ≡ false
    by true e =
        let same : c ≡ k = grind (arith, nat_tests, e) in
        absurd (let n : true ≡ false = sym g ∙ ap is_ascii_alphanumeric same ∙ h in cc)
    by false e = e

pub word_without : (k : ℕ) → is_ascii_alphanumeric k ≡ false → (xs : List ℕ) → IsWord xs → Without k xs
word_without k h [] g = tt
word_without k h (x ∷ xs) g = (apart k x h (first_holds _ _ g), word_without k h xs (second_holds _ _ g))

either_same : {A : Type 0} (b : Bool) (x : A) → cond b x x ≡ x
either_same true x = refl
either_same false x = refl

same_reader : (a b : At) (f g : Face) → a ≡ b → f ≡ g → at a f ≡ at b g
same_reader a b f g e h = cc

-- a reader stays where it is up to this character
pass : (k : ℕ) (a : At) → ((c : ℕ) → (c == k) ≡ false → next c a ≡ a) → ((c : ℕ) (f : Face) → added c a f ≡ f) → (xs : List ℕ) → Without k xs → (f : Face) → read xs (a, f) ≡ (a, f)
pass k a stays adds [] h f = refl
pass k a stays adds (x ∷ xs) h f =
    ap (read xs) (same_reader (next x a) a (added x a f) f (stays x h.0) (adds x f)) ∙ pass k a stays adds xs h.1 f

to_line_end : (xs : List ℕ) → Without 10 xs → (f : Face) → read xs (Rest, f) ≡ (Rest, f)
to_line_end = pass 10 Rest (λ c e. ap (λ b. cond b Line Rest) e) (λ c f. either_same (c == 10) f)

to_name : (a : Around) (xs : List ℕ) → Without 32 xs → (f : Face) → read xs (Word a, f) ≡ (Word a, f)
to_name a = pass 32 (Word a) (λ c e. ap (λ b. cond b (Name a) (Word a)) e) (λ c f. either_same (c == 10) f)

past_name : (a : Around) (xs : List ℕ) → Without 32 xs → (f : Face) → read xs (Name a, f) ≡ (Name a, f)
past_name a = pass 32 (Name a) (λ c e. ap (λ b. cond b (Type' (a ∷ [])) (Name a)) e) (λ c f. either_same (c == 10) f)

to_formals : (xs : List ℕ) → Without 40 xs → (f : Face) → read xs (Procedure, f) ≡ (Procedure, f)
to_formals = pass 40 Procedure (λ c e. ap (λ b. cond b (Formals []) Procedure) e) (λ c f. either_same (c == 10) f)

to_fields : (around : List Around) (xs : List ℕ) → Without 40 xs → (f : Face) → read xs (RecordNameAt around, f) ≡ (RecordNameAt around, f)
to_fields around = pass 40 (RecordNameAt around) (λ c e. ap (λ b. cond b (Fields [] around) (RecordNameAt around)) e) (λ c f. either_same (c == 10) f)

in_name : (ss : List Shape) (around : List Around) (xs : List ℕ) → Without 58 xs → (f : Face) → read xs (FieldName ss around, f) ≡ (FieldName ss around, f)
in_name ss around =
    pass 58 (FieldName ss around) (λ c e. ap (λ b. cond b (Type' (OfField ss ∷ around)) (FieldName ss around)) e) (λ c f. either_same (c == 10) f)

-- ---- names

letters_small : (c : ℕ) → is_ascii_alphanumeric c ≡ true → c < 128
letters_small c h = grind (arith, nat_tests, h)

one_byte : (c : ℕ) → c < 128 → encode_utf8 c ≡ c ∷ []
one_byte c lt = encode_ascii c lt

pub name_is : (xs : List ℕ) → IsWord xs → name_text xs ≡ xs
name_is [] h = refl
name_is (x ∷ xs) h =
    ap (λ l. l ++ name_text xs) (one_byte x (letters_small x (first_holds _ _ h))) ∙ ap (λ l. x ∷ l) (name_is xs (second_holds _ _ h))

name_without : (k : ℕ) → is_ascii_alphanumeric k ≡ false → (xs : List ℕ) → IsWord xs → Without k (name_text xs)
name_without k h xs g = subst (Without k) (sym (name_is xs g)) (word_without k h xs g)

-- ---- numbers

digit_apart : (k c : ℕ) → k < 48 → digit_value c < 10 → (c == k) ≡ false
digit_apart k c lt d = let r = digit_from_value c d in grind (arith, nat_tests, r, lt)

digits_read : (around : List Around) (ds : List ℕ) (n : ℕ) (f : Face) → AllDigits 10 ds → read ds (Length n around, f) ≡ (Length (digits_value_after 10 n ds) around, f)
digits_read around [] n f h = refl
digits_read around (d ∷ ds) n f h =
    ap (read ds) (same_reader (next d (Length n around)) (Length (n * 10 + digit_value d) around) (added d (Length n around) f) f
    (ap (λ b. cond b (Type' (OfArray n ∷ around)) (Length (n * 10 + digit_value d) around)) (digit_apart 32 d (omega arith) h.0)) (either_same (d == 10) f))
    ∙ digits_read around ds (n * 10 + digit_value d) f h.1

length_read : (around : List Around) (n : ℕ) (f : Face) → n < 2 ^ 64 → read (decimal n) (Length 0 around, f) ≡ (Length n around, f)
length_read around n f small =
    let k = decimal_is_IsNumeral n small in
    digits_read around (decimal n) 0 f k.0.1 ∙ ap (λ m. at (Length m around) f) k.1

glyph_apart : (k d : ℕ) → k < 48 → (digit_glyph false d == k) ≡ false
glyph_apart k d lt = by (nat_lt d 10) refl
  where
    by : (b : Bool) → nat_lt d 10 ≡ b → (cond b (48 + d) (87 + d) == k) ≡ false
    by true e = grind (arith, nat_tests, lt)
    by false e = grind (arith, nat_tests, lt)

onto_without : (k : ℕ) → k < 48 → (i n : ℕ) (acc : List ℕ) → Without k acc → Without k (digits_onto i 10 false n acc)
onto_without k lt zero n acc h = h
onto_without k lt (suc i) n acc h = by (n / 10 == 0) (glyph_apart k (n % 10) lt, h) (onto_without k lt i (n / 10) (digit_glyph false (n % 10) ∷ acc) (glyph_apart k (n % 10) lt, h))
  where
    by : (b : Bool) → Without k (digit_glyph false (n % 10) ∷ acc) → Without k (digits_onto i 10 false (n / 10) (digit_glyph false (n % 10) ∷ acc)) → Without k (cond b (digit_glyph false (n % 10) ∷ acc) (digits_onto i 10 false (n / 10) (digit_glyph false (n % 10) ∷ acc)))
    by true x y = x
    by false x y = y

decimal_without : (k n : ℕ) → k < 48 → Without k (decimal n)
unfolding digits
decimal_without k n lt = onto_without k lt 64 n [] tt

-- ---- types

abbrev pub read_of : ObType → Read
read_of (OfBasic b) = BasicType
read_of (Array' n p (more_of-ObType element end_of-ObType)) = ArrayType (shape.Array n (shape_of element))
read_of (Open' p (more_of-ObType element end_of-ObType)) = OpenType (shape_of element)
read_of (Record (RecordType' name k fields)) = RecordType (shape.Record (shapes_of fields))

shape_is : (t : ObType) → read_shape (read_of t) ≡ shape_of t
shape_is (OfBasic b) = refl
shape_is (Array' n p (more_of-ObType element end_of-ObType)) = refl
shape_is (Open' p (more_of-ObType element end_of-ObType)) = refl
shape_is (Record (RecordType' name k fields)) = refl

basic_read : (b : Basic) (around : List Around) (f : Face) → read (basic_text b) (Type' around, f) ≡ (behind BasicType around, f)
basic_read basic.Integer around f = refl
basic_read basic.Boolean around f = refl
basic_read basic.Char around f = refl
basic_read basic.Byte around f = refl

dot : Without 40 (codes ".")
dot = (refl, tt)

enclosing_without : (ps : List (List ℕ)) → AreWords ps → Without 40 (enclosing_text ps)
enclosing_without [] h = tt
enclosing_without (p ∷ ps) h =
    without_join 40 (name_text p ++ codes ".") (enclosing_text ps) (without_join 40 (name_text p) (codes ".") (name_without 40 refl p h.0) dot) (enclosing_without ps h.1)

record_without : (r : RecordName) → RecordWords r → Without 40 (record_name_text r)
unfolding record_name_text
record_without r h =
    let a = without_join 40 (name_text r.module_name) (codes ".") (name_without 40 refl r.module_name h.home) dot in
    let b = without_join 40 (name_text r.module_name ++ codes ".") (enclosing_text r.enclosing) a (enclosing_without r.enclosing h.enclosing) in
    let c = without_join 40 (name_text r.module_name ++ codes "." ++ enclosing_text r.enclosing) (name_text r.declared) b (name_without 40 refl r.declared h.declared) in
    let d = without_join 40 (name_text r.module_name ++ codes "." ++ enclosing_text r.enclosing ++ name_text r.declared) (codes ".") c dot in
    without_join 40 (name_text r.module_name ++ codes "." ++ enclosing_text r.enclosing ++ name_text r.declared ++ codes ".") (decimal r.before) d (decimal_without 40 r.before (omega arith))

-- what stands before the type of a field: its name with its mark, up to the colon, or the sign of a base
marked : (exported : Bool) (ss : List Shape) (around : List Around) (f : Face) → read (mark_text exported) (FieldName ss around, f) ≡ (FieldName ss around, f)
marked true ss around f = refl
marked false ss around f = refl

name_first : (x : ℕ) (ss : List Shape) (around : List Around) (f : Face) → is_ascii_alphanumeric x ≡ true → at (next x (Fields ss around)) (added x (Fields ss around) f) ≡ at (FieldName ss around) f
name_first x ss around f word = same_reader (next x (Fields ss around)) (FieldName ss around) (added x (Fields ss around) f) f
    (ap (λ b. cond b (behind (RecordType (shape.Record ss)) around) (field_begins x ss around)) (apart 41 x refl word)
    ∙ ap (λ b. cond b (Type' (OfField ss ∷ around)) (in_field x ss around)) (apart 94 x refl word)
    ∙ ap (λ b. cond b (Type' (OfField ss ∷ around)) (FieldName ss around)) (apart 58 x refl word))
    (either_same (x == 10) f)

field_name_read : (x : ℕ) (xs : List ℕ) → IsWord (x ∷ xs) → (exported : Bool) (ss : List Shape) (around : List Around) (f : Face) → read (x ∷ xs ++ mark_text exported ++ codes ":") (Fields ss around, f) ≡ (Type' (OfField ss ∷ around), f)
field_name_read x xs h exported ss around f =
    let word = first_holds (is_ascii_alphanumeric x) _ h in
    let rest = second_holds (is_ascii_alphanumeric x) _ h in
    ap (read (xs ++ mark_text exported ++ codes ":")) (name_first x ss around f word)
    ∙ seq (xs ++ mark_text exported) (codes ":") (at (FieldName ss around) f) (at (FieldName ss around) f) (at (Type' (OfField ss ∷ around)) f)
    (seq xs (mark_text exported) (at (FieldName ss around) f) (at (FieldName ss around) f) (at (FieldName ss around) f) (in_name ss around xs (word_without 58 refl xs rest) f) (marked exported ss around f))
    refl

label_read : (name : List ℕ) → IsWord name → (exported : Bool) (ss : List Shape) (around : List Around) (f : Face) → read (label_text name exported) (Fields ss around, f) ≡ (Type' (OfField ss ∷ around), f)
label_read [] h exported ss around f = refl
label_read (x ∷ xs) h exported ss around f =
    ap (λ ys. read (ys ++ mark_text exported ++ codes ":") (Fields ss around, f)) (name_is (x ∷ xs) h) ∙ field_name_read x xs h exported ss around f

no_more : {A : Type 0} (xs : List A) → xs ++ [] ≡ xs
no_more [] = refl
no_more (x ∷ xs) = ap (λ l. x ∷ l) (no_more xs)

mutual
  type_read : (t : ObType) → TypeWords t → (around : List Around) (f : Face) → read (type_text t) (Type' around, f) ≡ (behind (read_of t) around, f)
  type_read (OfBasic b) h around f = basic_read b around f
  type_read (Array' n p (more_of-ObType element end_of-ObType)) h around f =
      seq (codes "A" ++ decimal n ++ codes " ") (type_text element) (at (Type' around) f) (at (Type' (OfArray n ∷ around)) f) (at (behind (ArrayType (shape.Array n (shape_of element))) around) f)
      (seq (codes "A" ++ decimal n) (codes " ") (at (Type' around) f) (at (Length n around) f) (at (Type' (OfArray n ∷ around)) f)
      (seq (codes "A") (decimal n) (at (Type' around) f) (at (Length 0 around) f) (at (Length n around) f) refl (length_read around n f h.0))
      refl)
      (type_read element h.1 (OfArray n ∷ around) f ∙ ap (λ s. at (behind (ArrayType (shape.Array n s)) around) f) (shape_is element))
  type_read (Open' p (more_of-ObType element end_of-ObType)) h around f =
      type_read element h (OfOpen ∷ around) f ∙ ap (λ s. at (behind (OpenType s) around) f) (shape_is element)
  type_read (Record (RecordType' name k fields)) h around f =
      seq (codes "R" ++ record_name_text name ++ codes "(" ++ fields_text fields) (codes ")") (at (Type' around) f) (at (Fields (shapes_of fields) around) f) (at (behind (RecordType (shape.Record (shapes_of fields))) around) f)
      (seq (codes "R" ++ record_name_text name ++ codes "(") (fields_text fields) (at (Type' around) f) (at (Fields [] around) f) (at (Fields (shapes_of fields) around) f)
      (seq (codes "R" ++ record_name_text name) (codes "(") (at (Type' around) f) (at (RecordNameAt around) f) (at (Fields [] around) f)
      (seq (codes "R") (record_name_text name) (at (Type' around) f) (at (RecordNameAt around) f) (at (RecordNameAt around) f) refl (to_fields around (record_name_text name) (record_without name h.0) f))
      refl)
      (fields_read fields h.1 [] around f))
      refl

  fields_read : {k : _} (fields : Row_of-Field k) → RowWords fields → (ss : List Shape) (around : List Around) (f : Face) → read (fields_text fields) (Fields ss around, f) ≡ (Fields (ss ++ shapes_of fields) around, f)
  fields_read end_of-Field h ss around f = ap (λ xs. at (Fields xs around) f) (sym (no_more ss))
  fields_read (more_of-Field name exported of rest) h ss around f =
      seq (label_text name exported ++ type_text of ++ codes ";") (fields_text rest) (at (Fields ss around) f) (at (Fields (ss ++ shape_of of ∷ []) around) f) (at (Fields (ss ++ shape_of of ∷ shapes_of rest) around) f)
      (seq (label_text name exported ++ type_text of) (codes ";") (at (Fields ss around) f) (at (Field (ss ++ shape_of of ∷ []) around) f) (at (Fields (ss ++ shape_of of ∷ []) around) f)
      (seq (label_text name exported) (type_text of) (at (Fields ss around) f) (at (Type' (OfField ss ∷ around)) f) (at (Field (ss ++ shape_of of ∷ []) around) f)
      (label_read name h.0 exported ss around f)
      (type_read of h.1 (OfField ss ∷ around) f ∙ ap (λ s. at (Field (ss ++ s ∷ []) around) f) (shape_is of)))
      refl)
      (fields_read rest h.2 (ss ++ shape_of of ∷ []) around f ∙ ap (λ xs. at (Fields xs around) f) (append_assoc ss (shape_of of ∷ []) (shapes_of rest)))

-- ---- parameters

abbrev is_variable : FormalKind → Bool
is_variable kind.Value = false
is_variable kind.Variable = true

parameter_is : (k : FormalKind) (t : ObType) → read_parameter (is_variable k) (read_of t) ≡ parameter_of k t
parameter_is kind.Value (OfBasic b) = refl
parameter_is kind.Variable (OfBasic b) = refl
parameter_is kind.Value (Array' n p (more_of-ObType element end_of-ObType)) = refl
parameter_is kind.Variable (Array' n p (more_of-ObType element end_of-ObType)) = refl
parameter_is kind.Value (Open' p (more_of-ObType element end_of-ObType)) = refl
parameter_is kind.Variable (Open' p (more_of-ObType element end_of-ObType)) = refl
parameter_is kind.Value (Record (RecordType' name k fields)) = refl
parameter_is kind.Variable (Record (RecordType' name k fields)) = refl

kind_read : (k : FormalKind) (ps : List Parameter) (f : Face) → read (kind_text k) (Formals ps, f) ≡ (Type' (OfFormal (is_variable k) ps ∷ []), f)
kind_read kind.Value ps f = refl
kind_read kind.Variable ps f = refl

formals_read : (fs : List Formal) → FormalWords fs → (ps : List Parameter) (f : Face) → read (formals_text fs) (Formals ps, f) ≡ (Formals (ps ++ parameters_of fs), f)
formals_read [] h ps f = ap (λ xs. at (Formals xs) f) (sym (no_more ps))
formals_read (x ∷ fs) h ps f =
    let p = parameter_of x.kind x.of in
    seq (kind_text x.kind ++ type_text x.of ++ codes ";") (formals_text fs) (at (Formals ps) f) (at (Formals (ps ++ p ∷ [])) f) (at (Formals (ps ++ p ∷ parameters_of fs)) f)
    (seq (kind_text x.kind ++ type_text x.of) (codes ";") (at (Formals ps) f) (at (FormalAt (ps ++ p ∷ [])) f) (at (Formals (ps ++ p ∷ [])) f)
    (seq (kind_text x.kind) (type_text x.of) (at (Formals ps) f) (at (Type' (OfFormal (is_variable x.kind) ps ∷ [])) f) (at (FormalAt (ps ++ p ∷ [])) f)
    (kind_read x.kind ps f)
    (type_read x.of h.0 (OfFormal (is_variable x.kind) ps ∷ []) f ∙ ap (λ y. at (FormalAt (ps ++ y ∷ [])) f) (parameter_is x.kind x.of)))
    refl)
    (formals_read fs h.1 (ps ++ p ∷ []) f ∙ ap (λ xs. at (Formals xs) f) (append_assoc ps (p ∷ []) (parameters_of fs)))

result_read : (r : Option Basic) (ps : List Parameter) (f : Face) → read (result_text r) (Result ps false, f) ≡ (Result ps (is_some r), f)
result_read None ps f = refl
result_read (Some basic.Integer) ps f = refl
result_read (Some basic.Boolean) ps f = refl
result_read (Some basic.Char) ps f = refl
result_read (Some basic.Byte) ps f = refl

signature_read : (s : Signature) → FormalWords s.formals → (f : Face) → read (signature_text s) (Procedure, f) ≡ (Result (parameters_of s.formals) (is_some s.result), f)
signature_read s h f =
    seq (codes "(" ++ formals_text s.formals ++ codes ")") (result_text s.result) (at Procedure f) (at (Result (parameters_of s.formals) false) f) (at (Result (parameters_of s.formals) (is_some s.result)) f)
    (seq (codes "(" ++ formals_text s.formals) (codes ")") (at Procedure f) (at (Formals (parameters_of s.formals)) f) (at (Result (parameters_of s.formals) false) f)
    (formals_read s.formals h [] f)
    refl)
    (result_read s.result (parameters_of s.formals) f)

-- ---- constants

signed_without : (z : ℤ) → Without 10 (signed_decimal z)
signed_without (pos n) = decimal_without 10 n (omega arith)
signed_without (negsuc n) = (refl, decimal_without 10 (suc n) (omega arith))

hex_apart : (d : ℕ) → (hex_digit d == 10) ≡ false
hex_apart d = by (nat_lt d 10) refl
  where
    by : (b : Bool) → nat_lt d 10 ≡ b → (cond b (d + 48) (d + 87) == 10) ≡ false
    by true e = grind (arith, nat_tests)
    by false e = grind (arith, nat_tests)

hex_without : (xs : List ℕ) → Without 10 (hex_text xs)
hex_without [] = tt
hex_without (x ∷ xs) = (hex_apart (x / 16), (hex_apart (x % 16), hex_without xs))

constant_without : (c : Constant) → Without 10 (constant_text c)
constant_without (constant.Integer z) = without_join 10 (codes "I ") (signed_decimal z) (refl, (refl, tt)) (signed_without z)
constant_without (constant.Boolean true) = (refl, (refl, (refl, tt)))
constant_without (constant.Boolean false) = (refl, (refl, (refl, tt)))
constant_without (constant.Char c) = without_join 10 (codes "C ") (decimal c) (refl, (refl, tt)) (decimal_without 10 c (omega arith))
constant_without (constant.Text s) = without_join 10 (codes "S ") (hex_text s) (refl, (refl, tt)) (hex_without s)

-- ---- what is exported

abbrev with_object : Object → Face → Face
with_object (object.Constant c) f = f
with_object (object.TypeName t) f = f
with_object (object.Variable t) f = record { variables = f.variables ++ shape_of t ∷ []; procedures = f.procedures }
with_object (object.Procedure s) f = record { variables = f.variables; procedures = f.procedures ++ heading_of s ∷ [] }

-- the first word of a line, and the name after it
word_name : (a : Around) (name : List ℕ) → IsWord name → (f : Face) → read (name_text name ++ codes " ") (Name a, f) ≡ (Type' (a ∷ []), f)
word_name a name h f = seq (name_text name) (codes " ") (at (Name a) f) (at (Name a) f) (at (Type' (a ∷ [])) f) (past_name a (name_text name) (name_without 32 refl name h) f) refl

object_read : (name : List ℕ) (o : Object) → IsWord name → ObjectWords o → (f : Face) → read (object_text name o ++ codes "\n") (Line, f) ≡ (Line, with_object o f)
object_read name (object.Constant c) h g f =
    seq (object_text name (object.Constant c)) (codes "\n") (at Line f) (at Rest f) (at Line f)
    (seq (codes "const " ++ name_text name ++ codes " ") (constant_text c) (at Line f) (at Rest f) (at Rest f)
    (seq (codes "const " ++ name_text name) (codes " ") (at Line f) (at Rest f) (at Rest f)
    (seq (codes "const ") (name_text name) (at Line f) (at Rest f) (at Rest f) refl (to_line_end (name_text name) (name_without 10 refl name h) f))
    refl)
    (to_line_end (constant_text c) (constant_without c) f))
    refl
object_read name (object.TypeName t) h g f =
    seq (object_text name (object.TypeName t)) (codes "\n") (at Line f) (at Rest f) (at Line f)
    (seq (codes "type " ++ name_text name ++ codes " ") (type_text t) (at Line f) (at (Type' (OfTypeName ∷ [])) f) (at Rest f)
    (seq (codes "type " ++ name_text name) (codes " ") (at Line f) (at (Name OfTypeName) f) (at (Type' (OfTypeName ∷ [])) f)
    (seq (codes "type ") (name_text name) (at Line f) (at (Name OfTypeName) f) (at (Name OfTypeName) f) refl (past_name OfTypeName (name_text name) (name_without 32 refl name h) f))
    refl)
    (type_read t g (OfTypeName ∷ []) f))
    refl
object_read name (object.Variable t) h g f =
    seq (object_text name (object.Variable t)) (codes "\n") (at Line f) (at (Variable (shape_of t)) f) (at Line (with_object (object.Variable t) f))
    (seq (codes "var " ++ name_text name ++ codes " ") (type_text t) (at Line f) (at (Type' (OfVariable ∷ [])) f) (at (Variable (shape_of t)) f)
    (seq (codes "var " ++ name_text name) (codes " ") (at Line f) (at (Name OfVariable) f) (at (Type' (OfVariable ∷ [])) f)
    (seq (codes "var ") (name_text name) (at Line f) (at (Name OfVariable) f) (at (Name OfVariable) f) refl (past_name OfVariable (name_text name) (name_without 32 refl name h) f))
    refl)
    (type_read t g (OfVariable ∷ []) f ∙ ap (λ s. at (Variable s) f) (shape_is t)))
    refl
object_read name (object.Procedure s) h g f =
    seq (object_text name (object.Procedure s)) (codes "\n") (at Line f) (at (Result (parameters_of s.formals) (is_some s.result)) f) (at Line (with_object (object.Procedure s) f))
    (seq (codes "proc " ++ name_text name) (signature_text s) (at Line f) (at Procedure f) (at (Result (parameters_of s.formals) (is_some s.result)) f)
    (seq (codes "proc ") (name_text name) (at Line f) (at Procedure f) (at Procedure f) refl (to_formals (name_text name) (name_without 40 refl name h) f))
    (signature_read s g f))
    refl

abbrev with_exports : List Exported → Face → Face
with_exports [] f = f
with_exports (e ∷ es) f = with_exports es (with_object e.object f)

exports_read : (es : List Exported) → ExportWords es → (f : Face) → read (exports_text es) (Line, f) ≡ (Line, with_exports es f)
exports_read [] h f = refl
exports_read (e ∷ es) h f =
    seq (object_text e.name e.object ++ codes "\n") (exports_text es) (at Line f) (at Line (with_object e.object f)) (at Line (with_exports es (with_object e.object f)))
    (object_read e.name e.object h.0 h.1 f) (exports_read es h.2 (with_object e.object f))

abbrev face : List Shape → List Heading → Face
face vs ps = record { variables = vs; procedures = ps }

exports_face : (es : List Exported) (f : Face) → with_exports es f ≡ face (f.variables ++ variable_shapes es) (f.procedures ++ procedure_headings es)
exports_face [] f = ap (λ vs. face vs f.procedures) (sym (no_more f.variables)) ∙ ap (λ ps. face (f.variables ++ []) ps) (sym (no_more f.procedures))
exports_face (e ∷ es) f = by e.object (exports_face es (with_object e.object f))
  where
    by : (o : Object) → with_exports es (with_object o f) ≡ face ((with_object o f).variables ++ variable_shapes es) ((with_object o f).procedures ++ procedure_headings es) → with_exports es (with_object o f) ≡ face (f.variables ++ (variable_shape o ++ variable_shapes es)) (f.procedures ++ (procedure_heading o ++ procedure_headings es))
    by (object.Constant c) h = h
    by (object.TypeName t) h = h
    by (object.Variable t) h = h ∙ ap (λ vs. face vs (f.procedures ++ procedure_headings es)) (append_assoc f.variables (shape_of t ∷ []) (variable_shapes es))
    by (object.Procedure s) h = h ∙ ap (λ ps. face (f.variables ++ variable_shapes es) ps) (append_assoc f.procedures (heading_of s ∷ []) (procedure_headings es))

pub key_says : (i : InterfaceTree) → InterfaceWords i → face_said (interface_text i) ≡ face_of_interface i
unfolding face_said interface_text
key_says i h =
    ap (λ (r : Reader). r.1)
    (seq (codes "module " ++ name_text i.name ++ codes "\n") (exports_text i.exports) (at Line no_face) (at Line no_face) (at Line (with_exports i.exports no_face))
    (seq (codes "module " ++ name_text i.name) (codes "\n") (at Line no_face) (at Rest no_face) (at Line no_face)
    (seq (codes "module ") (name_text i.name) (at Line no_face) (at Rest no_face) (at Rest no_face) refl (to_line_end (name_text i.name) (name_without 10 refl i.name h.name) no_face))
    refl)
    (exports_read i.exports h.exports no_face))
    ∙ exports_face i.exports no_face

-- ---- what the name of a type says

all_plain : (names : List (List ℕ)) → list_all is_word names ≡ true → AreWords names
all_plain [] h = tt
all_plain (n ∷ ns) h = (first_holds (is_word n) (list_all is_word ns) h, all_plain ns (second_holds (is_word n) (list_all is_word ns) h))

record_plain : (r : RecordName) → are_words r ≡ true → RecordWords r
record_plain r h =
    let both = first_holds (is_word r.module_name && list_all is_word r.enclosing) (is_word r.declared) h in
    record {
      home = first_holds (is_word r.module_name) (list_all is_word r.enclosing) both;
      enclosing = all_plain r.enclosing (second_holds (is_word r.module_name) (list_all is_word r.enclosing) both);
      declared = second_holds (is_word r.module_name && list_all is_word r.enclosing) (is_word r.declared) h;
    }

label_plain : (name : List ℕ) (of : ObType) → is_labelled name of ≡ true → IsWord name
label_plain [] of h = refl
label_plain (c ∷ cs) of h = h

short : (n : ℕ) → nat_le n max_cells ≡ true → n < 2 ^ 64
short n h = grind (arith, nat_tests, h)

mutual
  type_plain : (t : ObType) → is_plain t ≡ true → TypeWords t
  type_plain (OfBasic b) h = tt
  type_plain (Array' n p (more_of-ObType e end_of-ObType)) h = (
    short n (second_holds (nat_le 1 n) (nat_le n max_cells) (first_holds (nat_le 1 n && nat_le n max_cells) (is_plain e) h)),
    type_plain e (second_holds (nat_le 1 n && nat_le n max_cells) (is_plain e) h),
  )
  type_plain (Open' p (more_of-ObType e end_of-ObType)) h = type_plain e h
  type_plain (Record (RecordType' name k fields)) h =
      (record_plain name (first_holds (are_words name) (are_plain fields) h), row_plain fields (second_holds (are_words name) (are_plain fields) h))

  row_plain : {k : _} (fields : Row_of-Field k) → are_plain fields ≡ true → RowWords fields
  row_plain end_of-Field h = tt
  row_plain (more_of-Field name exported of rest) h =
      let both = first_holds (is_labelled name of && is_plain of) (are_plain rest) h in (
        label_plain name of (first_holds (is_labelled name of) (is_plain of) both),
        type_plain of (second_holds (is_labelled name of) (is_plain of) both),
        row_plain rest (second_holds (is_labelled name of && is_plain of) (are_plain rest) h),
      )

pub names_say : SaysTypes shape_said
unfolding shape_said
names_say t h = ap (λ (r : Reader). shape_at r.0) (type_read t (type_plain t h) (OfVariable ∷ []) no_face) ∙ shape_is t
