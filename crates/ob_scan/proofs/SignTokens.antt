-- A sign is read exactly.
use Rattle.std.proofs.Common.{◌≡◌, ℕ, zero, suc, ◌≤◌, Bool, true, false, cond, nat_le, ◌||◌, List, [], ◌∷◌, ◌++◌, length, take, drop, Option, Some, None, Ok, Err, refl, sym, ap, ◌∙◌, arith}
use Rattle.std.specs.Borrow.{Bor}
use Rattle.std.proofs.lemmas.List.{take_at, drop_at, take-append-drop, length-append, length-take-le}
use Rattle.ob_base.specs.declared.fault.Code.{Code}
use Rattle.ob_base.specs.declared.fault.Refused.{Refused}
use Rattle.ob_scan.specs.declared.token.Kind.TheVariants as kinds
use Rattle.ob_scan.specs.declared.token.Symbol.{Symbol}
use Rattle.ob_scan.specs.declared.token.Symbol.TheVariants as s
use Rattle.ob_scan.specs.Exactly.{Exactly, IsFault, IsScanCode}
use Rattle.ob_scan.specs.Spelling.{spelling, symbol_of, front_symbol}
use Rattle.ob_scan.specs.Tokens.{Sign, begins_letter}
use Rattle.ob_scan.proofs.Spellings.{one_spelling, found, find_self}
use Rattle.ob_scan.proofs.WordTokens.{refuses}

abbrev short : List ℕ → Bool
short [] = false
short (x ∷ []) = true
short (x ∷ y ∷ []) = true
short (x ∷ y ∷ z ∷ xs) = false

-- what is no word has one character or two
word_or_short : (symbol : Symbol) → (begins_letter (spelling symbol) || short (spelling symbol)) ≡ true
word_or_short s.Array = refl
word_or_short _ = refl

some_by : (front : List ℕ) → (begins_letter front || short front) ≡ true → 1 ≤ length front
some_by [] e = absurd cc
some_by (x ∷ xs) e = omega arith

pub spelled : (symbol : Symbol) → 1 ≤ length (spelling symbol)
spelled symbol = some_by (spelling symbol) (word_or_short symbol)

abbrev pub OneOrTwo : List ℕ → Type 0
OneOrTwo front = (1 ≤ length front) × (length front ≤ 2)

short_is : (front : List ℕ) → short front ≡ true → OneOrTwo front
short_is [] e = absurd cc
short_is (x ∷ []) e = (omega arith, omega arith)
short_is (x ∷ y ∷ []) e = (omega arith, omega arith)
short_is (x ∷ y ∷ z ∷ xs) e = absurd cc

sign_by : (front after text : List ℕ) → (begins_letter front || short front) ≡ true → text ≡ front ++ after → begins_letter text ≡ false → OneOrTwo front
sign_by [] after text e whole no_letter = absurd cc
sign_by (x ∷ xs) after text e whole no_letter =
    let plain : begins_letter (x ∷ xs) ≡ false = ap begins_letter (sym whole) ∙ no_letter in
    short_is (x ∷ xs) (ap (λ b. b || short (x ∷ xs)) (sym plain) ∙ e)

pub one_or_two : (symbol : Symbol) (after text : List ℕ) → text ≡ spelling symbol ++ after → begins_letter text ≡ false → OneOrTwo (spelling symbol)
one_or_two symbol after text whole no_letter = sign_by (spelling symbol) after text (word_or_short symbol) whole no_letter

-- ---- what stands in front

enough_by : (b : Bool) (x : Option Symbol) (symbol : Symbol) → cond b x None ≡ Some symbol → (b ≡ true) × (x ≡ Some symbol)
enough_by true x symbol e = (refl, e)
enough_by false x symbol e = absurd cc

pub front_found : (count : ℕ) (text : List ℕ) (symbol : Symbol) → front_symbol count text ≡ Some symbol → spelling symbol ≡ take count text
front_found count text symbol e = found symbol (take count text) (enough_by (nat_le count (length text)) (symbol_of (take count text)) symbol e).1

stands_front : (count : ℕ) (text after : List ℕ) (symbol : Symbol) → text ≡ spelling symbol ++ after → length (spelling symbol) ≡ count → front_symbol count text ≡ Some symbol
stands_front count text after symbol whole long =
    let enough : count ≤ length text = omega (arith, ap length whole, length-append (spelling symbol) after) in
    let test : nat_le count (length text) ≡ true = search (arith, enough) in
    let same : take count text ≡ spelling symbol = ap (take count) whole ∙ take_at (spelling symbol) after count long in
    ap (λ b. cond b (symbol_of (take count text)) None) test ∙ ap symbol_of same ∙ find_self symbol

-- the symbol that is found in front, where none is longer
pub sign_made : (count : ℕ) (text : List ℕ) (symbol : Symbol) (rest : List ℕ) → front_symbol count text ≡ Some symbol → count ≤ length text → rest ≡ drop count text
    → ((other : Symbol) (after : List ℕ) → text ≡ spelling other ++ after → length (spelling other) ≤ count) → Sign text (kinds.Symbol symbol) rest
sign_made count text symbol rest e enough is none_longer =
    let by_front = front_found count text symbol e in
    let long : length (spelling symbol) ≡ count = ap length by_front ∙ length-take-le count text enough in
    let whole : text ≡ spelling symbol ++ rest = sym (take-append-drop count text) ∙ ap (λ a. a ++ drop count text) (sym by_front) ∙ ap (λ b. spelling symbol ++ b) (sym is) in
    record { symbol = symbol; kind_of = refl; whole = whole; longest = λ other after h. omega (arith, none_longer other after h) }

sign_at : (count : ℕ) (text : List ℕ) (symbol : Symbol) (rest : Bor (List ℕ)) → count ≤ length text → front_symbol count text ≡ Some symbol → rest.now ≡ drop count text
    → ((other : Symbol) (after : List ℕ) → text ≡ spelling other ++ after → length (spelling other) ≤ count) → Exactly (Sign text) (Ok (record { kind = kinds.Symbol symbol; rest = rest }))
unfolding sign_made
sign_at count text symbol rest enough e is none_longer =
    let made = sign_made count text symbol rest.now e enough is none_longer in
    let by_front = front_found count text symbol e in
    let long : length (spelling symbol) ≡ count = ap length by_front ∙ length-take-le count text enough in (
      made,
      λ k r g.
          let same_length : length (spelling g.symbol) ≡ count = omega (arith, none_longer g.symbol r g.whole, g.longest symbol rest.now made.whole) in
          let same_text : spelling g.symbol ≡ spelling symbol = sym (take_at (spelling g.symbol) r count same_length) ∙ ap (take count) (sym g.whole) ∙ sym by_front in
          let same : g.symbol ≡ symbol = one_spelling g.symbol symbol same_text in
          (g.kind_of ∙ ap kinds.Symbol same, sym (drop_at (spelling g.symbol) r count same_length) ∙ ap (drop count) (sym g.whole) ∙ sym is),
    )

pub sign_of_two : (text : List ℕ) (symbol : Symbol) (rest : Bor (List ℕ)) → begins_letter text ≡ false → 2 ≤ length text → front_symbol 2 text ≡ Some symbol → rest.now ≡ drop 2 text → Exactly (Sign text) (Ok (record { kind = kinds.Symbol symbol; rest = rest }))
sign_of_two text symbol rest no_letter enough e is = sign_at 2 text symbol rest enough e is (λ other after h. (one_or_two other after text h no_letter).1)

by_length : (n : ℕ) → 1 ≤ n → n ≤ 2 → (n ≡ 2 → ⊥) → n ≡ 1
by_length zero a b not_two = absurd (omega arith)
by_length (suc zero) a b not_two = refl
by_length (suc (suc zero)) a b not_two = absurd (not_two refl)
by_length (suc (suc (suc n))) a b not_two = absurd (omega arith)

pub is_one : (text after : List ℕ) (other : Symbol) → begins_letter text ≡ false → front_symbol 2 text ≡ None → text ≡ spelling other ++ after → length (spelling other) ≡ 1
is_one text after other no_letter none h =
    let b = one_or_two other after text h no_letter in
    let not_two : length (spelling other) ≡ 2 → ⊥ = λ two. let e : None ≡ Some other = sym none ∙ stands_front 2 text after other h two in cc in
    by_length (length (spelling other)) b.0 b.1 not_two

pub sign_of_one : (text : List ℕ) (symbol : Symbol) (rest : Bor (List ℕ)) → begins_letter text ≡ false → front_symbol 2 text ≡ None → 1 ≤ length text → front_symbol 1 text ≡ Some symbol → rest.now ≡ drop 1 text → Exactly (Sign text) (Ok (record { kind = kinds.Symbol symbol; rest = rest }))
sign_of_one text symbol rest no_letter none enough e is = sign_at 1 text symbol rest enough e is (λ other after h. omega (arith, is_one text after other no_letter none h))

pub sign_refused : (text : List ℕ) (code : Code) (r : Refused) → begins_letter text ≡ false → front_symbol 2 text ≡ None → front_symbol 1 text ≡ None → IsFault code r → IsScanCode code → Exactly (Sign text) (Err r)
sign_refused text code r no_letter none_two none_one fault ok =
    refuses (Sign text) code r fault ok (λ k t g. let e : None ≡ Some g.symbol = sym none_one ∙ stands_front 1 text t g.symbol g.whole (is_one text t g.symbol no_letter none_two g.whole) in cc)
