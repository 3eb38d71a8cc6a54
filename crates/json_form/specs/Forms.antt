-- To be believed.
-- What a form reads: a value, or the fault that comes first.
use Rattle.std.specs.Prelude.{◌≡◌, ◌⊎◌, ℕ, ℤ, List, [], ◌∷◌, ◌++◌, Bool, Option, false, Some, None, Result, Ok, Err, if◌then◌else◌, option_and_then, option_map, unwrap_or}
use Rattle.std.specs.List.{list_any}
use Rattle.std.specs.Borrow.{Bor}
use Rattle.json.specs.Layout.{pretty}
use Rattle.json.specs.Lex.{tokens}
use Rattle.json.specs.Token.{Token}
use Rattle.json.specs.Tree.{json_tokens}
use Rattle.serde_json.specs.Data.{Num, Data, null, boolean, number, string, array, object, Items, no_items, item, no_members}
use Rattle.serde_json.specs.Find.{get, as_str, as_bool, is_float, as_number, as_integer, as_array, as_object}
use Rattle.serde_json.specs.Read.{number_of, read}
use Rattle.serde_json.specs.View.{view}
use Rattle.serde_json.specs.declared.value.Value.{Value}
use Rattle.serde_json.specs.Written.{outline}
use Rattle.json_form.specs.declared.fault.Fault.{Fault}
use Rattle.json_form.specs.declared.fault.Fault.TheVariants.{NotJson, Missing, WrongKind, NotWhole}
use Rattle.json_form.specs.declared.fault.Bad.{Bad}
use Rattle.json_form.specs.declared.fault.Bad.TheVariants as bad

-- one step after another, up to the first fault
infixl 10 ◌>>=◌
abbrev pub ◌>>=◌ : {A B : Type 0} → Result A Fault → (A → Result B Fault) → Result B Fault
(Ok x) >>= f = f x
(Err e) >>= f = Err e

-- What a function returned is what the form reads, unless memory ran out.
abbrev pub Fails : {X : Type 0} → Bad → Result X Fault → Type 0
Fails (bad.Fault f) form = form ≡ Err f
Fails bad.Memory form = Unit {0}

abbrev pub Gives : {X : Type 0} → Result X Bad → Result X Fault → Type 0
Gives (Ok x) form = form ≡ Ok x
Gives (Err e) form = Fails e form

abbrev pub empty_object : Data
empty_object = object no_members

-- ---- the numbers of a text

-- A number that is no integer of 64 bits is a float: it has a fraction or an exponent, is `-0`, or is too large.
abbrev pub number_is_float : Option Num → Bool
number_is_float n = unwrap_or (option_map is_float n) false

unfoldable pub text_is_float : List ℕ → Bool
text_is_float s = number_is_float (number_of s)

abbrev pub token_is_float : Token → Bool
token_is_float Token.begin_object = false
token_is_float Token.end_object = false
token_is_float Token.begin_array = false
token_is_float Token.end_array = false
token_is_float (Token.key s) = false
token_is_float (Token.string s) = false
token_is_float (Token.number s) = text_is_float s
token_is_float (Token.boolean b) = false
token_is_float Token.null = false
token_is_float Token.bad = false

-- Each number that stands in the text counts, also one that a later equal key drops.
unfoldable pub text_has_float : List ℕ → Bool
text_has_float text = list_any token_is_float (tokens text)

-- a value that has been read, if the numbers of its text are whole
abbrev pub if_whole : Bool → Option Data → Result Data Fault
if_whole float None = Err NotJson
if_whole float (Some d) = if float then Err NotWhole else Ok d

-- the value of a text
unfoldable pub whole_json : List ℕ → Result Data Fault
whole_json text = if_whole (text_has_float text) (read text)

-- ---- the fields of an object

-- a field of a kind
abbrev pub of_kind : {A : Type 0} → Option A → Result A Fault
of_kind None = Err WrongKind
of_kind (Some x) = Ok x

-- a field that has no default
abbrev pub needed : {A : Type 0} → (Data → Option A) → Option Data → Result A Fault
needed kind None = Err Missing
needed kind (Some d) = of_kind (kind d)

-- a field that has one
abbrev pub optional : {A : Type 0} → A → (Data → Option A) → Option Data → Result A Fault
optional default kind None = Ok default
optional default kind (Some d) = of_kind (kind d)

abbrev pub whole_of : Data → Option ℤ
whole_of d = option_and_then as_integer (as_number d)

abbrev pub object_of : Data → Option Data
object_of d = option_map (λ _. d) (as_object d)

abbrev pub if_no_items : Items → Option (Unit {0})
if_no_items no_items = Some tt
if_no_items (item d ds) = None

abbrev pub no_items_of : Data → Option (Unit {0})
no_items_of d = option_and_then if_no_items (as_array d)

-- what a field holds, where `null` says as much as a field that is missing
abbrev pub present : Data → Option Data
present null = None
present (boolean b) = Some (boolean b)
present (number n) = Some (number n)
present (string s) = Some (string s)
present (array ds) = Some (array ds)
present (object ms) = Some (object ms)

unfoldable pub given : List ℕ → Data → Option Data
given key d = option_and_then present (get key d)

-- the data of a field that may be missing
abbrev pub data_in : Option (Bor Value) → Option Data
data_in field = option_map (λ v. view v.now) field

unfoldable pub text_at : List ℕ → Data → Result (List ℕ) Fault
text_at key d = needed as_str (get key d)

unfoldable pub text_or : List ℕ → List ℕ → Data → Result (List ℕ) Fault
text_or default key d = optional default as_str (get key d)

unfoldable pub boolean_or : Bool → List ℕ → Data → Result Bool Fault
boolean_or default key d = optional default as_bool (get key d)

unfoldable pub whole_or : ℤ → List ℕ → Data → Result ℤ Fault
whole_or default key d = optional default whole_of (get key d)

unfoldable pub object_at : List ℕ → Data → Result Data Fault
object_at key d = needed object_of (get key d)

unfoldable pub object_or_empty : List ℕ → Data → Result Data Fault
object_or_empty key d = optional empty_object object_of (get key d)

-- nothing, or an empty list
unfoldable pub no_items_at : List ℕ → Data → Result (Unit {0}) Fault
no_items_at key d = optional tt no_items_of (get key d)

-- what a function returned, seen by view
abbrev pub seen : {X Y : Type 0} → (X → Y) → Result X Fault → Result Y Fault
seen view (Ok x) = Ok (view x)
seen view (Err e) = Err e

-- ---- the same as facts, with no word on faults

-- the field is there, and is this of its kind
abbrev pub Has : {A : Type 0} → (Data → Option A) → List ℕ → Data → A → Type 0
Has kind key d x = option_and_then kind (get key d) ≡ Some x

-- that, or the field is missing and this is its default
abbrev pub HasOr : {A : Type 0} → A → (Data → Option A) → List ℕ → Data → A → Type 0
HasOr default kind key d x = Has kind key d x ⊎ ((get key d ≡ None) × (x ≡ default))

-- ---- lists

-- each item in order, up to the first fault
abbrev pub each : {A : Type 0} → (Data → Result A Fault) → Items → Result (List A) Fault
each form no_items = Ok []
each form (item d ds) = form d >>= λ x. (each form ds >>= λ xs. Ok (x ∷ xs))

-- texts, one after another
abbrev pub joined_items : Items → Result (List ℕ) Fault
joined_items no_items = Ok []
joined_items (item d ds) = of_kind (as_str d) >>= λ s. (joined_items ds >>= λ rest. Ok (s ++ rest))

-- a text, or a list of texts that are joined
unfoldable pub joined_of : Data → Result (List ℕ) Fault
joined_of null = Err WrongKind
joined_of (boolean b) = Err WrongKind
joined_of (number n) = Err WrongKind
joined_of (string s) = Ok s
joined_of (array ds) = joined_items ds
joined_of (object ms) = Err WrongKind

unfoldable pub joined_at : List ℕ → Data → Result (List ℕ) Fault
joined_at key d = needed (λ e. Some e) (get key d) >>= joined_of

-- what stands before what is left
abbrev pub with_front : {A : Type 0} → List A → Result (List A) Fault → Result (List A) Fault
with_front front rest = rest >>= λ xs. Ok (front ++ xs)

-- ---- the text on lines, two blanks for each level
unfoldable pub pretty_text : Data → List ℕ
pretty_text d = pretty (json_tokens (outline d))
