-- The function finds the token in front of a text exactly where one stands there.
use Rattle.std.proofs.Common.{◌≡◌, ℕ, zero, suc, ◌<◌, ◌≤◌, ◌^◌, Bool, true, false, cond, nat_le, nat_lt, ◌&&◌, List, [], ◌∷◌, length, take, drop, Option, Some, None, pos, refl, sym, ap, subst, ◌∙◌, arith}
use Rattle.std.specs.List.{list_all}
use Rattle.std.specs.Char.{is_ascii_digit}
use Rattle.std.specs.Option.{option_map}
use Rattle.std.proofs.lemmas.Bool.{leb-true, leb-false, ltb-true}
use Rattle.std.proofs.lemmas.List.{length-drop}
use Rattle.ob_base.specs.declared.fault.Code.{Code}
use Rattle.ob_base.specs.declared.fault.Code.TheVariants as codes
use Rattle.ob_base.specs.declared.fault.Refused.{Refused}
use Rattle.ob_base.specs.declared.fault.Refused.TheVariants as refused
use Rattle.ob_scan.specs.declared.class.Alphabet.TheVariants as alphabets
use Rattle.ob_scan.specs.declared.class.Class.{Class}
use Rattle.ob_scan.specs.declared.class.Class.TheVariants as classes
use Rattle.ob_scan.specs.declared.class.Suffix.{Suffix}
use Rattle.ob_scan.specs.declared.class.Suffix.TheVariants as suffixes
use Rattle.ob_scan.specs.declared.token.Kind.{Kind}
use Rattle.ob_scan.specs.declared.token.Kind.TheVariants as kinds
use Rattle.ob_scan.specs.declared.token.Symbol.{Symbol}
use Rattle.ob_scan.specs.Spelling.{symbol_of, front_symbol}
use Rattle.ob_scan.specs.Tokens.{IsRun, Word, Sign, Number, NumberKind, NumberEnds, StringOf, Quoted, closed, char, has, value_of, wrapped, one_period, suffix_of, next_char, begins_quote, begins_letter, class_at, Stands, StandsAs}
use Rattle.ob_scan.specs.TokensOf.{Front, Characters, run_of, behind_run, word_as, word_of, number_end, number_as, number_of, with_char, char_then, quoted_of, string_of, sign_as, front_as, front_of}
use Rattle.ob_scan.proofs.NumberTokens.{number_back}
use Rattle.ob_scan.proofs.Shorter.{no_letter, next_shorter}
use Rattle.ob_scan.proofs.SignTokens.{sign_made, one_or_two, is_one, sign_refused}
use Rattle.ob_scan.proofs.Spellings.{found, not_found}
use Rattle.ob_scan.proofs.StringTokens.{one_char, quoted, stuck}
use Rattle.ob_scan.proofs.WordTokens.{word_refused}

-- what stands in front, or that nothing does
abbrev pub Reads : (Kind → List ℕ → Type 0) → Option Front → Type 0
Reads p None = (kind : Kind) (rest : List ℕ) → p kind rest → ⊥
Reads p (Some front) = p front.kind front.rest

where_true : (p : Kind → List ℕ → Type 0) (b : Bool) (x : Option Front) → (b ≡ true → Reads p x) → (b ≡ false → (kind : Kind) (rest : List ℕ) → p kind rest → ⊥) → Reads p (cond b x None)
where_true p true x holds fails = holds refl
where_true p false x holds fails = fails refl

where_false : (p : Kind → List ℕ → Type 0) (b : Bool) (x : Option Front) → (b ≡ true → (kind : Kind) (rest : List ℕ) → p kind rest → ⊥) → (b ≡ false → Reads p x) → Reads p (cond b None x)
where_false p true x holds fails = holds refl
where_false p false x holds fails = fails refl

true_not_false : (b : Bool) → b ≡ true → b ≡ false → ⊥
true_not_false b e f = let h : true ≡ false = sym e ∙ f in cc

and_true : (a b : Bool) → (a && b) ≡ true → (a ≡ true) × (b ≡ true)
and_true true true e = (refl, refl)
and_true true false e = absurd cc
and_true false b e = absurd cc

below : (m n : ℕ) → m < n → nat_lt m n ≡ true
below m n h = search (arith, h)

-- a fault, whose place nobody asks for
abbrev fault : Code → Refused
fault code = refused.Fault (record { code = code; line = 0; column = 0; at_end = false })

-- ---- runs

run_by : (test : ℕ → Bool) (c : ℕ) (cs run rest : List ℕ) (b : Bool) → test c ≡ b → IsRun test run cs rest → IsRun test (cond b (c ∷ run) []) (c ∷ cs) (cond b rest (c ∷ cs))
run_by test c cs run rest true e h = record { whole = ap (λ t. c ∷ t) h.whole; each = ap (λ b. b && list_all test run) e ∙ h.each; stops = h.stops }
run_by test c cs run rest false e h = record { whole = refl; each = refl; stops = e }

pub run_is : (test : ℕ → Bool) (text : List ℕ) → IsRun test (run_of test text) text (behind_run test text)
run_is test [] = record { whole = refl; each = refl; stops = tt }
run_is test (c ∷ cs) = run_by test c cs (run_of test cs) (behind_run test cs) (test c) refl (run_is test cs)

-- ---- words

module _ (text run rest : List ℕ) (is : IsRun (has alphabets.Word) run text rest) where
  word_reads_as : (x : Option Symbol) → symbol_of run ≡ x → Reads (Word text) (word_as x run rest)
  word_reads_as (Some symbol) e = record { run = run; longest = is; kind_of = found symbol run e }
  word_reads_as None e =
      where_true (Word text) (nat_le (length run) 64) (Some (record { kind = kinds.Ident run; rest = rest }))
      (λ short. record { run = run; longest = is; kind_of = (refl, leb-true (length run) 64 short, λ symbol h. not_found symbol run e h) })
      (λ long. (word_refused text run rest codes.Number (fault codes.Number) is e (leb-false (length run) 64 long) refl tt).1)

word_reads : (text : List ℕ) → Reads (Word text) (word_of text)
word_reads text = let run = run_of (has alphabets.Word) text in
    word_reads_as text run (behind_run (has alphabets.Word) text) (run_is (has alphabets.Word) text) (symbol_of run) refl

-- ---- numbers

number_end_reads : (suffix : Suffix) (run middle rest : List ℕ) (kind : Kind) → NumberKind suffix run middle kind rest → ((k : Kind) (r : List ℕ) → NumberKind suffix run middle k r → r ≡ rest) → Reads (NumberEnds suffix run middle) (number_end kind rest)
number_end_reads suffix run middle rest kind is one =
    where_false (NumberEnds suffix run middle) (one_period rest) (Some (record { kind = kind; rest = rest }))
    (λ period k r h. true_not_false (one_period rest) period (ap one_period (sym (one k r h.0)) ∙ h.1))
    (λ no_period. (is, no_period))

number_reads_as : (suffix : Suffix) (run middle : List ℕ) → Reads (NumberEnds suffix run middle) (number_as suffix run middle)
number_reads_as suffixes.Plain run middle =
    where_true (NumberEnds suffixes.Plain run middle) (list_all is_ascii_digit run && nat_lt (value_of 10 run) (2 ^ 31)) (number_end (kinds.Integer (pos (value_of 10 run))) middle)
    (λ e. let b = and_true (list_all is_ascii_digit run) (nat_lt (value_of 10 run) (2 ^ 31)) e in
    number_end_reads suffixes.Plain run middle middle (kinds.Integer (pos (value_of 10 run))) (refl, refl, b.0, ltb-true (value_of 10 run) (2 ^ 31) b.1) (λ k r h. h.1))
    (λ e k r h. true_not_false (list_all is_ascii_digit run && nat_lt (value_of 10 run) (2 ^ 31)) (ap (λ b. b && nat_lt (value_of 10 run) (2 ^ 31)) h.0.2 ∙ below (value_of 10 run) (2 ^ 31) h.0.3) e)
number_reads_as suffixes.Hexadecimal run middle =
    where_true (NumberEnds suffixes.Hexadecimal run middle) (nat_lt (value_of 16 run) (2 ^ 32)) (number_end (kinds.Integer (wrapped (value_of 16 run))) (drop 1 middle))
    (λ e. number_end_reads suffixes.Hexadecimal run middle (drop 1 middle) (kinds.Integer (wrapped (value_of 16 run))) (refl, refl, ltb-true (value_of 16 run) (2 ^ 32) e) (λ k r h. h.1))
    (λ e k r h. true_not_false (nat_lt (value_of 16 run) (2 ^ 32)) (below (value_of 16 run) (2 ^ 32) h.0.2) e)
number_reads_as suffixes.Character run middle =
    where_true (NumberEnds suffixes.Character run middle) (nat_lt (value_of 16 run) 256) (number_end (kinds.Text (value_of 16 run ∷ [])) (drop 1 middle))
    (λ e. number_end_reads suffixes.Character run middle (drop 1 middle) (kinds.Text (value_of 16 run ∷ [])) (refl, refl, ltb-true (value_of 16 run) 256 e) (λ k r h. h.1))
    (λ e k r h. true_not_false (nat_lt (value_of 16 run) 256) (below (value_of 16 run) 256 h.0.2) e)

module _ (text run middle : List ℕ) (is : IsRun (has alphabets.Number) run text middle) where
  number_with : (x : Option Front) → Reads (NumberEnds (suffix_of middle) run middle) x → Reads (Number text) x
  number_with None none = λ k r h. none k r (number_back text run middle (suffix_of middle) k r is refl h)
  number_with (Some front) h = record { run = run; middle = middle; longest = is; ends = h }

number_reads : (text : List ℕ) → Reads (Number text) (number_of text)
number_reads text =
    let run = run_of (has alphabets.Number) text in
    let middle = behind_run (has alphabets.Number) text in
    number_with text run middle (run_is (has alphabets.Number) text) (number_as (suffix_of middle) run middle) (number_reads_as (suffix_of middle) run middle)

-- ---- strings

abbrev ReadsQuoted : List ℕ → Option Characters → Type 0
ReadsQuoted text None = (chars rest : List ℕ) → Quoted text chars rest → ⊥
ReadsQuoted text (Some s) = Quoted text s.chars s.rest

char_before : (text after : List ℕ) (c : ℕ) (x : Option Characters) → next_char text ≡ Some (c, after) → ReadsQuoted after x → ReadsQuoted text (with_char c x)
char_before text after c None e none = λ chars rest q. let h = one_char c text after chars rest e q in none h.0 rest h.2
char_before text after c (Some s) e q = char e q

module _ (n : ℕ) (text : List ℕ) (more : (after : List ℕ) → length after ≤ n → ReadsQuoted after (quoted_of n after)) (fits : length text ≤ suc n) where
  chars_by : (x : Option (ℕ × List ℕ)) → next_char text ≡ x → begins_quote text ≡ false → ReadsQuoted text (char_then (quoted_of n) x)
  chars_by None e no_quote = λ chars rest q. stuck text chars rest e no_quote q
  chars_by (Some found) e no_quote = char_before text found.1 found.0 (quoted_of n found.1) e (more found.1 (omega (arith, next_shorter text found.0 found.1 e)))

  quote_by : (b : Bool) → begins_quote text ≡ b → ReadsQuoted text (cond b (Some (record { chars = []; rest = drop 1 text })) (char_then (quoted_of n) (next_char text)))
  quote_by true e = subst (λ t. Quoted t [] (drop 1 text)) (sym (quoted text e)) closed
  quote_by false e = chars_by (next_char text) refl e

quoted_reads : (n : ℕ) (text : List ℕ) → length text ≤ n → ReadsQuoted text (quoted_of n text)
quoted_reads zero [] fits = λ chars rest q. stuck [] chars rest refl refl q
quoted_reads zero (c ∷ text) fits = absurd (omega arith)
quoted_reads (suc n) text fits = quote_by n text (quoted_reads n) fits (begins_quote text) refl

string_with : (text : List ℕ) (x : Option Characters) → ReadsQuoted (drop 1 text) x → Reads (StringOf text) (option_map (λ (s : Characters). record { kind = kinds.Text s.chars; rest = s.rest }) x)
string_with text None none = λ k r h. none h.chars r h.quoted
string_with text (Some s) q = record { chars = s.chars; kind_of = refl; quoted = q }

string_reads : (text : List ℕ) → Reads (StringOf text) (string_of text)
string_reads text = string_with text (quoted_of (length text) (drop 1 text)) (quoted_reads (length text) (drop 1 text) (omega (arith, length-drop 1 text)))

-- ---- signs

enough_by : (b : Bool) (x : Option Symbol) (symbol : Symbol) → cond b x None ≡ Some symbol → b ≡ true
enough_by true x symbol e = refl
enough_by false x symbol e = absurd cc

front_enough : (count : ℕ) (text : List ℕ) (symbol : Symbol) → front_symbol count text ≡ Some symbol → count ≤ length text
front_enough count text symbol e = leb-true count (length text) (enough_by (nat_le count (length text)) (symbol_of (take count text)) symbol e)

module _ (text : List ℕ) (plain : begins_letter text ≡ false) where
  sign_of_one_reads : (y : Option Symbol) → front_symbol 2 text ≡ None → front_symbol 1 text ≡ y → Reads (Sign text) (sign_as y (drop 1 text) None)
  sign_of_one_reads None two one = (sign_refused text codes.Character (fault codes.Character) plain two one refl tt).1
  sign_of_one_reads (Some symbol) two one =
      sign_made 1 text symbol (drop 1 text) one (front_enough 1 text symbol one) refl (λ other after h. omega (arith, is_one text after other plain two h))

  sign_reads_by : (x : Option Symbol) → front_symbol 2 text ≡ x → Reads (Sign text) (sign_as x (drop 2 text) (sign_as (front_symbol 1 text) (drop 1 text) None))
  sign_reads_by None two = sign_of_one_reads (front_symbol 1 text) two refl
  sign_reads_by (Some symbol) two =
      sign_made 2 text symbol (drop 2 text) two (front_enough 2 text symbol two) refl (λ other after h. (one_or_two other after text h plain).1)

-- ---- any token

reads_by : (class : Option Class) (text : List ℕ) → class_at text ≡ class → Reads (StandsAs class text) (front_as class text)
reads_by None text e = λ k r h. h
reads_by (Some classes.Letter) text e = word_reads text
reads_by (Some classes.Digit) text e = number_reads text
reads_by (Some classes.Quote) text e = string_reads text
reads_by (Some classes.Other) text e = sign_reads_by text (no_letter text e) (front_symbol 2 text) refl

pub front_reads : (text : List ℕ) → Reads (Stands text) (front_of text)
unfolding front_of
front_reads text = reads_by (class_at text) text refl
