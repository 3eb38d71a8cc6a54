-- Two records that are spelled alike have one name, and fields that are alike; and where these end with the same records, they are
-- equal.
use Rattle.std.proofs.Common.{◌≡◌, ◌<◌, ◌≤◌, ◌+◌, ◌*◌, ◌/◌, ◌%◌, ◌⊎◌, inl, inr, ℕ, zero, suc, nat_lt, ◌==◌, drop, Bool, true, false, List, [], ◌∷◌, ◌++◌, Option, Some, None, refl, ap, sym, ◌∙◌, arith, append_assoc, ltb-false}
use Rattle.std.specs.Prelude.{if◌then◌else◌}
use Rattle.std.proofs.lemmas.Bool.{eqb-true}
use Rattle.ob_types.specs.declared.structure.Field.{Field}
use Rattle.ob_types.specs.declared.structure.Basic.{Basic}
use Rattle.ob_types.specs.declared.structure.Basic.TheVariants as basic
use Rattle.ob_types.specs.declared.structure.RecordName.{RecordName}
use Rattle.ob_types.specs.declared.structure.ObType.{ObType, end_of-ObType, more_of-ObType}
use Rattle.ob_types.specs.declared.structure.ObType.TheVariants.{Basic as OfBasic, Array, Open, Array', Open', Record}
use Rattle.ob_types.specs.declared.structure.RecordType.{RecordType}
use Rattle.ob_types.specs.Spelling.{letter, letters, number_spelled, basic_number, enclosing_spelled, name_spelled, mark, shared, type_spelled, fields_spelled, record_spelled, end_in, Alike, AreAlike}

-- ---- words in front of a list

abbrev enclosing_onto : List (List ℕ) → List ℕ → List ℕ
enclosing_onto [] r = 0 ∷ r
enclosing_onto (p ∷ ps) r = 1 ∷ (letters p ++ (2 ∷ enclosing_onto ps r))

abbrev name_onto : RecordName → List ℕ → List ℕ
name_onto n r = letters n.module_name ++ (3 ∷ enclosing_onto n.enclosing (letters n.declared ++ (4 ∷ (number_spelled n.before ++ r))))

abbrev type_onto : ObType → List ℕ → List ℕ
type_onto (OfBasic b) r = basic_number b ∷ r
type_onto (Array' n p (more_of-ObType element end_of-ObType)) r = 4 ∷ (number_spelled n ++ type_onto element r)
type_onto (Open' p (more_of-ObType element end_of-ObType)) r = 5 ∷ type_onto element r
type_onto (Record x) r = 6 ∷ r

abbrev first_of : List ℕ → Field → ℕ
first_of p f = 16 + 2 * shared 100 p f.name + mark f.exported

abbrev rest_of : List ℕ → Field → List ℕ
rest_of p f = letters (drop (shared 100 p f.name) f.name)

abbrev fields_onto : List ℕ → List Field → List ℕ → List ℕ
fields_onto p [] r = 10 ∷ r
fields_onto p (f ∷ fs) r = first_of p f ∷ (rest_of p f ++ type_onto f.of (fields_onto f.name fs r))

enclosing_is : (ps : List (List ℕ)) (r : List ℕ) → enclosing_spelled ps ++ r ≡ enclosing_onto ps r
enclosing_is [] r = refl
enclosing_is (p ∷ ps) r = append_assoc (1 ∷ letters p) (2 ∷ enclosing_spelled ps) r ∙ ap (λ l. 1 ∷ (letters p ++ (2 ∷ l))) (enclosing_is ps r)

name_is : (n : RecordName) (r : List ℕ) → name_spelled n ++ r ≡ name_onto n r
name_is n r =
    append_assoc (letters n.module_name ++ (3 ∷ enclosing_spelled n.enclosing) ++ letters n.declared) (4 ∷ number_spelled n.before) r
    ∙ append_assoc (letters n.module_name ++ (3 ∷ enclosing_spelled n.enclosing)) (letters n.declared) ((4 ∷ number_spelled n.before) ++ r)
    ∙ append_assoc (letters n.module_name) (3 ∷ enclosing_spelled n.enclosing) (letters n.declared ++ ((4 ∷ number_spelled n.before) ++ r))
    ∙ ap (λ l. letters n.module_name ++ (3 ∷ l)) (enclosing_is n.enclosing (letters n.declared ++ ((4 ∷ number_spelled n.before) ++ r)))

type_is : (t : ObType) (r : List ℕ) → type_spelled t ++ r ≡ type_onto t r
type_is (OfBasic b) r = refl
type_is (Array' n p (more_of-ObType element end_of-ObType)) r = ap (λ l. 4 ∷ (number_spelled n ++ l)) (type_is element r)
type_is (Open' p (more_of-ObType element end_of-ObType)) r = ap (λ l. 5 ∷ l) (type_is element r)
type_is (Record x) r = refl

fields_are : (p : List ℕ) (fs : List Field) (r : List ℕ) → fields_spelled p fs ++ r ≡ fields_onto p fs r
fields_are p [] r = refl
fields_are p (f ∷ fs) r =
    append_assoc (first_of p f ∷ (rest_of p f ++ type_spelled f.of)) (fields_spelled f.name fs) r
    ∙ ap (λ l. first_of p f ∷ l) (append_assoc (rest_of p f) (type_spelled f.of) (fields_spelled f.name fs ++ r))
    ∙ ap (λ l. first_of p f ∷ (rest_of p f ++ l)) (ap (λ l. type_spelled f.of ++ l) (fields_are f.name fs r) ∙ type_is f.of (fields_onto f.name fs r))

-- ---- what stands in front is told apart

heads : (x y : ℕ) (r s : List ℕ) → x ∷ r ≡ y ∷ s → x ≡ y
heads x y r s h = cc

tails : (x y : ℕ) (r s : List ℕ) → x ∷ r ≡ y ∷ s → r ≡ s
tails x y r s h = cc

letter_low : (c : ℕ) → nat_lt c 16 ≡ true → letter c ≡ 11 ∷ c ∷ []
letter_low c e = ap (λ b. if b then 11 ∷ c ∷ [] else c ∷ []) e

letter_high : (c : ℕ) → nat_lt c 16 ≡ false → letter c ≡ c ∷ []
letter_high c e = ap (λ b. if b then 11 ∷ c ∷ [] else c ∷ []) e

-- one of both forms
abbrev LetterIs : ℕ → Type 0
LetterIs c = (letter c ≡ 11 ∷ c ∷ []) ⊎ ((16 ≤ c) × (letter c ≡ c ∷ []))

letter_by : (c : ℕ) (b : Bool) → nat_lt c 16 ≡ b → LetterIs c
letter_by c true e = inl (letter_low c e)
letter_by c false e = inr (ltb-false c 16 e, letter_high c e)

letter_is : (c : ℕ) → LetterIs c
letter_is c = letter_by c (nat_lt c 16) refl

letter_apart_by : (c d : ℕ) (r s : List ℕ) → letter c ++ r ≡ letter d ++ s → LetterIs c → LetterIs d → (c ≡ d) × (r ≡ s)
letter_apart_by c d r s h (inl e) (inl f) =
    let k = tails 11 11 (c ∷ r) (d ∷ s) (sym (ap (λ l. l ++ r) e) ∙ h ∙ ap (λ l. l ++ s) f) in
    (heads c d r s k, tails c d r s k)
letter_apart_by c d r s h (inl e) (inr f) =
    absurd (omega (arith, f.0, heads 11 d (c ∷ r) s (sym (ap (λ l. l ++ r) e) ∙ h ∙ ap (λ l. l ++ s) f.1)))
letter_apart_by c d r s h (inr e) (inl f) =
    absurd (omega (arith, e.0, heads c 11 r (d ∷ s) (sym (ap (λ l. l ++ r) e.1) ∙ h ∙ ap (λ l. l ++ s) f)))
letter_apart_by c d r s h (inr e) (inr f) =
    let k = sym (ap (λ l. l ++ r) e.1) ∙ h ∙ ap (λ l. l ++ s) f.1 in
    (heads c d r s k, tails c d r s k)

letter_apart : (c d : ℕ) (r s : List ℕ) → letter c ++ r ≡ letter d ++ s → (c ≡ d) × (r ≡ s)
letter_apart c d r s h = letter_apart_by c d r s h (letter_is c) (letter_is d)

-- no letter begins with a mark
letter_mark_by : (c x : ℕ) (r s : List ℕ) → x < 11 → letter c ++ r ≡ x ∷ s → LetterIs c → ⊥
letter_mark_by c x r s l h (inl e) = omega (arith, l, heads 11 x (c ∷ r) s (sym (ap (λ l. l ++ r) e) ∙ h))
letter_mark_by c x r s l h (inr e) = omega (arith, l, e.0, heads c x r s (sym (ap (λ l. l ++ r) e.1) ∙ h))

letter_mark : (c x : ℕ) (r s : List ℕ) → x < 11 → letter c ++ r ≡ x ∷ s → ⊥
letter_mark c x r s l h = letter_mark_by c x r s l h (letter_is c)

letters_apart : (a b : List ℕ) (x y : ℕ) (r s : List ℕ) → x < 11 → y < 11 → letters a ++ (x ∷ r) ≡ letters b ++ (y ∷ s) → (a ≡ b) × (x ≡ y) × (r ≡ s)
letters_apart [] [] x y r s lx ly h = (refl, heads x y r s h, tails x y r s h)
letters_apart [] (d ∷ ds) x y r s lx ly h =
    absurd (letter_mark d x (letters ds ++ (y ∷ s)) r lx (sym (append_assoc (letter d) (letters ds) (y ∷ s)) ∙ sym h))
letters_apart (c ∷ cs) [] x y r s lx ly h =
    absurd (letter_mark c y (letters cs ++ (x ∷ r)) s ly (sym (append_assoc (letter c) (letters cs) (x ∷ r)) ∙ h))
letters_apart (c ∷ cs) (d ∷ ds) x y r s lx ly h =
    let one = letter_apart c d (letters cs ++ (x ∷ r)) (letters ds ++ (y ∷ s))
    (sym (append_assoc (letter c) (letters cs) (x ∷ r)) ∙ h ∙ append_assoc (letter d) (letters ds) (y ∷ s)) in
    let k = letters_apart cs ds x y r s lx ly one.1 in
    ((λ i. one.0 i ∷ k.0 i), k.1, k.2)

enclosing_apart : (xs ys : List (List ℕ)) (r s : List ℕ) → enclosing_onto xs r ≡ enclosing_onto ys s → (xs ≡ ys) × (r ≡ s)
enclosing_apart [] [] r s h = (refl, tails 0 0 r s h)
enclosing_apart [] (q ∷ qs) r s h = absurd (omega (arith, heads 0 1 r (letters q ++ (2 ∷ enclosing_onto qs s)) h))
enclosing_apart (p ∷ ps) [] r s h = absurd (omega (arith, heads 1 0 (letters p ++ (2 ∷ enclosing_onto ps r)) s h))
enclosing_apart (p ∷ ps) (q ∷ qs) r s h =
    let k = letters_apart p q 2 2 (enclosing_onto ps r) (enclosing_onto qs s) (omega arith) (omega arith) (tails 1 1 (letters p ++ (2 ∷ enclosing_onto ps r)) (letters q ++ (2 ∷ enclosing_onto qs s)) h) in
    let m = enclosing_apart ps qs r s k.2 in
    ((λ i. k.0 i ∷ m.0 i), m.1)

rejoin : (n m : ℕ) → n % 256 ≡ m % 256 → n / 256 ≡ m / 256 → n ≡ m
rejoin n m e f = omega (arith, e, f)

number_apart : (n m : ℕ) (r s : List ℕ) → number_spelled n ++ r ≡ number_spelled m ++ s → (n ≡ m) × (r ≡ s)
number_apart n m r s h =
    let t = tails _ _ _ _ h in
    let u = tails _ _ _ _ t in
    let v = tails _ _ _ _ u in
    let third = rejoin (n / 256 / 256) (m / 256 / 256) (heads _ _ _ _ u) (heads _ _ _ _ v) in
    let second = rejoin (n / 256) (m / 256) (heads _ _ _ _ t) third in
    (rejoin n m (heads _ _ _ _ h) second, tails _ _ _ _ v)

name_apart : (x y : RecordName) (r s : List ℕ) → name_onto x r ≡ name_onto y s → (x ≡ y) × (r ≡ s)
name_apart x y r s h =
    let after : RecordName → List ℕ → List ℕ = λ n l. letters n.declared ++ (4 ∷ (number_spelled n.before ++ l)) in
    let a = letters_apart x.module_name y.module_name 3 3 (enclosing_onto x.enclosing (after x r)) (enclosing_onto y.enclosing (after y s)) (omega arith) (omega arith) h in
    let b = enclosing_apart x.enclosing y.enclosing (after x r) (after y s) a.2 in
    let c = letters_apart x.declared y.declared 4 4 (number_spelled x.before ++ r) (number_spelled y.before ++ s) (omega arith) (omega arith) b.1 in
    let n = number_apart x.before y.before r s c.2 in
    ((λ i. record { module_name = a.0 i; enclosing = b.0 i; declared = c.0 i; before = n.0 i }), n.1)

abbrev basic_of : ℕ → Basic
basic_of zero = basic.Integer
basic_of (suc zero) = basic.Boolean
basic_of (suc (suc zero)) = basic.Char
basic_of (suc (suc (suc n))) = basic.Byte

basic_back : (b : Basic) → basic_of (basic_number b) ≡ b
basic_back basic.Integer = refl
basic_back basic.Boolean = refl
basic_back basic.Char = refl
basic_back basic.Byte = refl

basic_low : (b : Basic) → basic_number b < 4
basic_low basic.Integer = omega arith
basic_low basic.Boolean = omega arith
basic_low basic.Char = omega arith
basic_low basic.Byte = omega arith

basic_apart : (b c : Basic) → basic_number b ≡ basic_number c → b ≡ c
basic_apart b c e = sym (basic_back b) ∙ ap basic_of e ∙ basic_back c

marks_apart : (c d : ℕ) (m n : Bool) → 16 + 2 * c + mark m ≡ 16 + 2 * d + mark n → (c ≡ d) × (m ≡ n)
marks_apart c d true true e = (omega (arith, e), refl)
marks_apart c d false false e = (omega (arith, e), refl)
marks_apart c d true false e = absurd (omega (arith, e))
marks_apart c d false true e = absurd (omega (arith, e))

-- ---- names that have as much in common with one, and the same rest

abbrev Rests : ℕ → ℕ → List ℕ → List ℕ → Type 0
Rests m n a b = (m ≡ n) → drop m a ≡ drop n b → a ≡ b

same_by : (x y z : ℕ) (b c : Bool) (m n : ℕ) (us vs : List ℕ) → (x == y) ≡ b → (x == z) ≡ c → Rests m n us vs → (if b then suc m else zero) ≡ (if c then suc n else zero) → drop (if b then suc m else zero) (y ∷ us) ≡ drop (if c then suc n else zero) (z ∷ vs) → y ∷ us ≡ z ∷ vs
same_by x y z true true m n us vs e f go i h =
    let one : y ≡ z = sym (eqb-true x y e) ∙ eqb-true x z f in
    let rest : us ≡ vs = go (omega (arith, i)) h in
    λ j. one j ∷ rest j
same_by x y z true false m n us vs e f go i h = absurd (omega (arith, i))
same_by x y z false true m n us vs e f go i h = absurd (omega (arith, i))
same_by x y z false false m n us vs e f go i h = h

none_by : (x z : ℕ) (c : Bool) (n : ℕ) (vs : List ℕ) → (x == z) ≡ c → zero ≡ (if c then suc n else zero) → [] ≡ drop (if c then suc n else zero) (z ∷ vs) → [] ≡ z ∷ vs
none_by x z true n vs f i h = absurd (omega (arith, i))
none_by x z false n vs f i h = h

same_name : (n : ℕ) (p a b : List ℕ) → shared n p a ≡ shared n p b → drop (shared n p a) a ≡ drop (shared n p b) b → a ≡ b
same_name zero p a b i h = h
same_name (suc n) [] a b i h = h
same_name (suc n) (x ∷ p) [] [] i h = refl
same_name (suc n) (x ∷ p) [] (z ∷ b) i h = none_by x z (x == z) (shared n p b) b refl i h
same_name (suc n) (x ∷ p) (y ∷ a) [] i h = sym (none_by x y (x == y) (shared n p a) a refl (sym i) (sym h))
same_name (suc n) (x ∷ p) (y ∷ a) (z ∷ b) i h =
    same_by x y z (x == y) (x == z) (shared n p a) (shared n p b) a b refl refl (same_name n p a b) i h

-- ---- types

abbrev head_of : ObType → ℕ
head_of (OfBasic b) = basic_number b
head_of (Array' n p (more_of-ObType element end_of-ObType)) = 4
head_of (Open' p (more_of-ObType element end_of-ObType)) = 5
head_of (Record x) = 6

abbrev behind_head : ObType → List ℕ → List ℕ
behind_head (OfBasic b) r = r
behind_head (Array' n p (more_of-ObType element end_of-ObType)) r = number_spelled n ++ type_onto element r
behind_head (Open' p (more_of-ObType element end_of-ObType)) r = type_onto element r
behind_head (Record x) r = r

head_is : (t : ObType) (r : List ℕ) → type_onto t r ≡ head_of t ∷ behind_head t r
head_is (OfBasic b) r = refl
head_is (Array' n p (more_of-ObType element end_of-ObType)) r = refl
head_is (Open' p (more_of-ObType element end_of-ObType)) r = refl
head_is (Record x) r = refl

head_low : (t : ObType) → head_of t < 11
head_low (OfBasic b) = omega (arith, basic_low b)
head_low (Array' n p (more_of-ObType element end_of-ObType)) = omega arith
head_low (Open' p (more_of-ObType element end_of-ObType)) = omega arith
head_low (Record x) = omega arith

type_apart : (a b : ObType) (r s : List ℕ) → type_onto a r ≡ type_onto b s → Alike a b × (r ≡ s)
type_apart (OfBasic b) (OfBasic c) r s h = (basic_apart b c (heads _ _ _ _ h), tails _ _ _ _ h)
type_apart (OfBasic b) (Array' m q (more_of-ObType y end_of-ObType)) r s h = absurd (omega (arith, basic_low b, heads _ _ _ _ h))
type_apart (OfBasic b) (Open' q (more_of-ObType y end_of-ObType)) r s h = absurd (omega (arith, basic_low b, heads _ _ _ _ h))
type_apart (OfBasic b) (Record y) r s h = absurd (omega (arith, basic_low b, heads _ _ _ _ h))
type_apart (Array' n p (more_of-ObType x end_of-ObType)) (OfBasic c) r s h = absurd (omega (arith, basic_low c, heads _ _ _ _ h))
type_apart (Array' n p (more_of-ObType x end_of-ObType)) (Array' m q (more_of-ObType y end_of-ObType)) r s h =
    let l = number_apart n m (type_onto x r) (type_onto y s) (tails _ _ _ _ h) in
    let k = type_apart x y r s l.1 in
    ((l.0, k.0), k.1)
type_apart (Array' n p (more_of-ObType x end_of-ObType)) (Open' q (more_of-ObType y end_of-ObType)) r s h = absurd (omega (arith, heads 4 5 _ _ h))
type_apart (Array' n p (more_of-ObType x end_of-ObType)) (Record y) r s h = absurd (omega (arith, heads 4 6 _ _ h))
type_apart (Open' p (more_of-ObType x end_of-ObType)) (OfBasic c) r s h = absurd (omega (arith, basic_low c, heads _ _ _ _ h))
type_apart (Open' p (more_of-ObType x end_of-ObType)) (Array' m q (more_of-ObType y end_of-ObType)) r s h = absurd (omega (arith, heads 5 4 _ _ h))
type_apart (Open' p (more_of-ObType x end_of-ObType)) (Open' q (more_of-ObType y end_of-ObType)) r s h = type_apart x y r s (tails _ _ _ _ h)
type_apart (Open' p (more_of-ObType x end_of-ObType)) (Record y) r s h = absurd (omega (arith, heads 5 6 _ _ h))
type_apart (Record x) (OfBasic c) r s h = absurd (omega (arith, basic_low c, heads _ _ _ _ h))
type_apart (Record x) (Array' m q (more_of-ObType y end_of-ObType)) r s h = absurd (omega (arith, heads 6 4 _ _ h))
type_apart (Record x) (Open' q (more_of-ObType y end_of-ObType)) r s h = absurd (omega (arith, heads 6 5 _ _ h))
type_apart (Record x) (Record y) r s h = (tt, tails _ _ _ _ h)

fields_apart : (p : List ℕ) (xs ys : List Field) (r s : List ℕ) → fields_onto p xs r ≡ fields_onto p ys s → AreAlike xs ys × (r ≡ s)
fields_apart p [] [] r s h = (tt, tails _ _ _ _ h)
fields_apart p [] (y ∷ ys) r s h = absurd (omega (arith, heads 10 (first_of p y) _ _ h))
fields_apart p (x ∷ xs) [] r s h = absurd (omega (arith, heads (first_of p x) 10 _ _ h))
fields_apart p (x ∷ xs) (y ∷ ys) r s h =
    let m = marks_apart (shared 100 p x.name) (shared 100 p y.name) x.exported y.exported (heads (first_of p x) (first_of p y) _ _ h) in
    let l = letters_apart (drop (shared 100 p x.name) x.name) (drop (shared 100 p y.name) y.name) (head_of x.of) (head_of y.of)
    (behind_head x.of (fields_onto x.name xs r)) (behind_head y.of (fields_onto y.name ys s)) (head_low x.of) (head_low y.of)
    (ap (λ l. rest_of p x ++ l) (sym (head_is x.of (fields_onto x.name xs r))) ∙ tails (first_of p x) (first_of p y) _ _ h ∙ ap (λ l. rest_of p y ++ l) (head_is y.of (fields_onto y.name ys s))) in
    let name = same_name 100 p x.name y.name m.0 l.0 in
    let t = type_apart x.of y.of (fields_onto x.name xs r) (fields_onto y.name ys s)
    (head_is x.of (fields_onto x.name xs r) ∙ (λ i. l.1 i ∷ l.2 i) ∙ sym (head_is y.of (fields_onto y.name ys s))) in
    let n = fields_apart x.name xs ys r s (t.1 ∙ ap (λ q. fields_onto q ys s) (sym name)) in
    ((name, m.1, t.0, n.0), n.1)

pub record_apart : (x y : RecordName) (xs ys : List Field) → record_spelled x xs ≡ record_spelled y ys → (x ≡ y) × AreAlike xs ys
record_apart x y xs ys h =
    let shown : (n : RecordName) (fs : List Field) → record_spelled n fs ++ [] ≡ name_onto n (fields_onto [] fs []) =
    λ n fs. append_assoc (name_spelled n) (fields_spelled [] fs) [] ∙ ap (λ l. name_spelled n ++ l) (fields_are [] fs []) ∙ name_is n (fields_onto [] fs []) in
    let a = name_apart x y (fields_onto [] xs []) (fields_onto [] ys []) (sym (shown x xs) ∙ ap (λ l. l ++ []) h ∙ shown y ys) in
    (a.0, (fields_apart [] xs ys [] [] a.1).0)

-- ---- types that are alike, and end with one record

abbrev record_in : RecordType → Option RecordType → RecordType
record_in r None = r
record_in r (Some s) = s

mutual
  unfolding Rattle.ob_types.specs.declared.structure.ObType.TheBlock.hidden-the_row-ObType-0 denote.Hole.Carrier.hidden

  pub whole : (a b : ObType) → Alike a b → end_in a ≡ end_in b → a ≡ b
  whole (OfBasic b) (OfBasic c) h e = ap OfBasic h
  whole (OfBasic b) (Array' m q (more_of-ObType y end_of-ObType)) h e = absurd h
  whole (OfBasic b) (Open' q (more_of-ObType y end_of-ObType)) h e = absurd h
  whole (OfBasic b) (Record y) h e = absurd h
  whole (Array' n p (more_of-ObType x end_of-ObType)) (OfBasic c) h e = absurd h
  whole (Array' n p (more_of-ObType x end_of-ObType)) (Array' m q (more_of-ObType y end_of-ObType)) h e =
      let k = whole x y h.1 e in λ i. Array (h.0 i) (k i)
  whole (Array' n p (more_of-ObType x end_of-ObType)) (Open' q (more_of-ObType y end_of-ObType)) h e = absurd h
  whole (Array' n p (more_of-ObType x end_of-ObType)) (Record y) h e = absurd h
  whole (Open' p (more_of-ObType x end_of-ObType)) (OfBasic c) h e = absurd h
  whole (Open' p (more_of-ObType x end_of-ObType)) (Array' m q (more_of-ObType y end_of-ObType)) h e = absurd h
  whole (Open' p (more_of-ObType x end_of-ObType)) (Open' q (more_of-ObType y end_of-ObType)) h e = ap Open (whole x y h e)
  whole (Open' p (more_of-ObType x end_of-ObType)) (Record y) h e = absurd h
  whole (Record x) (OfBasic c) h e = absurd h
  whole (Record x) (Array' m q (more_of-ObType y end_of-ObType)) h e = absurd h
  whole (Record x) (Open' q (more_of-ObType y end_of-ObType)) h e = absurd h
  whole (Record x) (Record y) h e = ap (λ o. Record (record_in x o)) e
