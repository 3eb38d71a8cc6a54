-- A reader is exact for a phrase: what it reads is spelled so, and what is spelled so is read, where what follows can't belong to it.
use Rattle.std.proofs.Common.{◌≡◌, ℕ, zero, suc, ◌<◌, ◌≤◌, List, [], ◌∷◌, length, Option, Some, None, Ok, Err, refl, sym, ap, subst, ◌∙◌, arith}
use Rattle.ob_base.specs.declared.fault.Code.{Code}
use Rattle.ob_scan.specs.declared.token.Token.{Token}
use Rattle.ob_tree.specs.Phrase.{Phrase, each, maybe}
use Rattle.ob_parse_expression.specs.Reading.{Outcome, Reader, and_then, ◌>>=◌, pure, refuse, with_first, goes_on, many_after, many_from, many, where_some, not_there}

-- what may follow a value
abbrev pub Follow : Type 0 → Type 1
Follow A = A → List Token → Type 0

abbrev pub Anything : {A : Type 0} → Follow A
Anything x rest = Unit {0}

pub record Exact {A : Type 0} (p : A → Phrase) (r : Reader A) (F : Follow A) : Type 0 where
  pub sound : (x : A) (tokens rest : List Token) → r tokens ≡ Ok (x, rest) → p x tokens rest
  pub complete : (x : A) (tokens rest : List Token) → p x tokens rest → F x rest → r tokens ≡ Ok (x, rest)
  pub shorter : (x : A) (tokens rest : List Token) → p x tokens rest → length rest ≤ length tokens

abbrev pub answer : {A : Type 0} → A → List Token → Outcome A
answer x rest = Ok (x, rest)

pub answers : {A : Type 0} (x y : A) (s t : List Token) → answer x s ≡ answer y t → (x ≡ y) × (s ≡ t)
answers {A} x y s t e = let both : (x, s) ≡ (y, t) = cc in (ap (λ (p : A × List Token). p.0) both, ap (λ (p : A × List Token). p.1) both)

pub same_answer : {A : Type 0} (x y : A) (s t : List Token) → x ≡ y → s ≡ t → answer x s ≡ answer y t
same_answer x y s t e f = cc

-- ---- one after the other

-- p of some a, and then q of that a
abbrev pub Seq : {A C : Type 0} → (A → Phrase) → (A → C → Phrase) → C → Phrase
Seq {A} p q c tokens rest = (a : A) × (middle : List Token) × p a tokens middle × q a c middle rest

pub and_then_ok : {A C : Type 0} (o : Outcome A) (s : A → Reader C) (c : C) (rest : List Token) → and_then o s ≡ Ok (c, rest) → (a : A) × (middle : List Token) × (o ≡ answer a middle) × (s a middle ≡ Ok (c, rest))
and_then_ok (Ok p) s c rest e = (p.0, p.1, refl, e)
and_then_ok (Err d) s c rest e = absurd cc

pub exact_seq : {A C : Type 0} {p : A → Phrase} {r : Reader A} {F : Follow A} {q : A → C → Phrase} {s : A → Reader C} {G : Follow C}
    → Exact p r F → ((a : A) → Exact (q a) (s a) G) → ((a : A) (c : C) (middle rest : List Token) → q a c middle rest → G c rest → F a middle) → Exact (Seq p q) (r >>= s) G
exact_seq {p} {r} {F} {q} {s} {G} first second meets = record {
  sound = λ c tokens rest e. let b = and_then_ok (r tokens) s c rest e in (b.0, b.1, first.sound b.0 tokens b.1 b.2, (second b.0).sound c b.1 rest b.3);
  complete = λ c tokens rest h follows. ap (λ o. and_then o s) (first.complete h.0 tokens h.1 h.2 (meets h.0 c h.1 rest h.3 follows)) ∙ (second h.0).complete c h.1 rest h.3 follows;
  shorter = λ c tokens rest h. omega (arith, first.shorter h.0 tokens h.1 h.2, (second h.0).shorter c h.1 rest h.3);
}

abbrev pub Is : {A : Type 0} → A → A → Phrase
Is x c tokens rest = (c ≡ x) × (tokens ≡ rest)

pub exact_pure : {A : Type 0} {F : Follow A} (x : A) → Exact (Is x) (pure x) F
exact_pure x = record {
  sound = λ c tokens rest e. let b = answers x c tokens rest e in (sym b.0, b.1);
  complete = λ c tokens rest h follows. same_answer x c tokens rest (sym h.0) h.1;
  shorter = λ c tokens rest h. omega (arith, ap length h.1);
}

-- the same reader, for a phrase that says the same
pub exact_as : {A : Type 0} {p q : A → Phrase} {r : Reader A} {F : Follow A} → Exact p r F → ((x : A) (tokens rest : List Token) → p x tokens rest → q x tokens rest) → ((x : A) (tokens rest : List Token) → q x tokens rest → p x tokens rest) → Exact q r F
exact_as e there back = record {
  sound = λ x tokens rest h. there x tokens rest (e.sound x tokens rest h);
  complete = λ x tokens rest h. e.complete x tokens rest (back x tokens rest h);
  shorter = λ x tokens rest h. e.shorter x tokens rest (back x tokens rest h);
}

-- where more may follow than is asked
pub exact_where : {A : Type 0} {p : A → Phrase} {r : Reader A} {F G : Follow A} → Exact p r F → ((x : A) (tokens rest : List Token) → p x tokens rest → G x rest → F x rest) → Exact p r G
exact_where e weaker = record {
  sound = e.sound;
  complete = λ x tokens rest h follows. e.complete x tokens rest h (weaker x tokens rest h follows);
  shorter = e.shorter;
}

abbrev pub Never : {A : Type 0} → A → Phrase
Never x tokens rest = ⊥

pub exact_refuse : {A : Type 0} {F : Follow A} (c : Code) → Exact {A = A} Never (refuse c) F
exact_refuse c = record {
  sound = λ x tokens rest e. absurd cc;
  complete = λ x tokens rest h follows. absurd h;
  shorter = λ x tokens rest h. absurd h;
}

-- ---- options: nothing is there, or what may follow it does

abbrev pub IsAbsent : {A : Type 0} → Reader (Option A) → List Token → Type 0
IsAbsent r tokens = r tokens ≡ Ok (None, tokens)

abbrev pub OrAbsent : {A : Type 0} → Reader (Option A) → Follow A → Follow (Option A)
OrAbsent r F None rest = IsAbsent r rest
OrAbsent r F (Some x) rest = F x rest

-- ---- repetition

pub record Repeats {A : Type 0} (p : A → Phrase) (step : Reader (Option A)) (Inside Outside : List Token → Type 0) : Type 0 where
  pub exact : Exact (maybe p) step (OrAbsent step (λ x. Inside))
  pub begins : (x : A) (tokens rest : List Token) → p x tokens rest → Inside tokens
  pub takes : (x : A) (tokens rest : List Token) → p x tokens rest → length rest < length tokens
  pub absent : (tokens : List Token) → Outside tokens → IsAbsent step tokens
  pub inside : (tokens : List Token) → Outside tokens → Inside tokens

module _ {A : Type 0} (p : A → Phrase) (step : Reader (Option A)) (Inside Outside : List Token → Type 0) (e : Repeats p step Inside Outside) where
  with_first_sound : (x : A) (o : Outcome (List A)) (xs : List A) (tokens middle rest : List Token) → ((ys : List A) → o ≡ answer ys rest → each p ys middle rest) → p x tokens middle → with_first x o ≡ answer xs rest → each p xs tokens rest
  with_first_sound x (Ok q) xs tokens middle rest more first h =
      let b = answers (x ∷ q.0) xs q.1 rest h in
      subst (λ ys. each p ys tokens rest) b.0 (middle, first, more q.0 (same_answer q.0 q.0 q.1 rest refl b.1))
  with_first_sound x (Err c) xs tokens middle rest more first h = absurd cc

  goes_on_sound : (n : ℕ) (o : Option A) (xs : List A) (tokens middle rest : List Token) → ((ys : List A) → many_from step n middle ≡ answer ys rest → each p ys middle rest) → maybe p o tokens middle → goes_on o middle (many_from step n) ≡ answer xs rest → each p xs tokens rest
  goes_on_sound n None xs tokens middle rest more first h =
      let b = answers [] xs middle rest h in
      subst (λ ys. each p ys tokens rest) b.0 (first ∙ b.1)
  goes_on_sound n (Some x) xs tokens middle rest more first h = with_first_sound x (many_from step n middle) xs tokens middle rest more first h

  after_sound : (n : ℕ) (o : Outcome (Option A)) (xs : List A) (tokens rest : List Token) → ((ys : List A) (middle : List Token) → many_from step n middle ≡ answer ys rest → each p ys middle rest) → step tokens ≡ o → many_after o (many_from step n) ≡ answer xs rest → each p xs tokens rest
  after_sound n (Ok q) xs tokens rest more read h = goes_on_sound n q.0 xs tokens q.1 rest (λ ys. more ys q.1) (e.exact.sound q.0 tokens q.1 read) h
  after_sound n (Err c) xs tokens rest more read h = absurd cc

  many_sound : (n : ℕ) (xs : List A) (tokens rest : List Token) → many_from step n tokens ≡ answer xs rest → each p xs tokens rest
  unfolding many_from
  many_sound zero xs tokens rest h = absurd cc
  many_sound (suc n) xs tokens rest h = after_sound n (step tokens) xs tokens rest (λ ys middle. many_sound n ys middle rest) refl h

  each_inside : (xs : List A) (tokens rest : List Token) → each p xs tokens rest → Outside rest → Inside tokens
  each_inside [] tokens rest h out = subst Inside (sym h) (e.inside rest out)
  each_inside (x ∷ xs) tokens rest h out = e.begins x tokens h.0 h.1

  many_complete : (n : ℕ) (xs : List A) (tokens rest : List Token) → each p xs tokens rest → Outside rest → length tokens < n → many_from step n tokens ≡ answer xs rest
  unfolding many_from
  many_complete zero xs tokens rest h out enough = absurd (omega arith)
  many_complete (suc n) [] tokens rest h out enough =
      let absent : step tokens ≡ answer None tokens = e.absent tokens (subst Outside (sym h) out) in
      ap (λ o. many_after o (many_from step n)) absent ∙ same_answer [] [] tokens rest refl h
  many_complete (suc n) (x ∷ xs) tokens rest h out enough =
      let first : step tokens ≡ answer (Some x) h.0 = e.exact.complete (Some x) tokens h.0 h.1 (each_inside xs h.0 rest h.2 out) in
      let others = many_complete n xs h.0 rest h.2 out (omega (arith, e.takes x tokens h.0 h.1)) in
      ap (λ o. many_after o (many_from step n)) first ∙ ap (with_first x) others

  each_shorter : (xs : List A) (tokens rest : List Token) → each p xs tokens rest → length rest ≤ length tokens
  each_shorter [] tokens rest h = omega (arith, ap length h)
  each_shorter (x ∷ xs) tokens rest h = omega (arith, e.takes x tokens h.0 h.1, each_shorter xs h.0 rest h.2)

  many_exact : Exact (each p) (many step) (λ xs. Outside)
  unfolding many
  many_exact = record {
    sound = λ xs tokens rest h. many_sound (suc (length tokens)) xs tokens rest h;
    complete = λ xs tokens rest h out. many_complete (suc (length tokens)) xs tokens rest h out (omega arith);
    shorter = each_shorter;
  }

pub exact_many : {A : Type 0} {p : A → Phrase} {step : Reader (Option A)} {Inside Outside : List Token → Type 0} → Repeats p step Inside Outside → Exact (each p) (many step) (λ xs. Outside)
exact_many {p} {step} {Inside} {Outside} e = many_exact p step Inside Outside e

pub each_follows : {A : Type 0} {p : A → Phrase} {step : Reader (Option A)} {Inside Outside : List Token → Type 0} → Repeats p step Inside Outside → (xs : List A) (tokens rest : List Token) → each p xs tokens rest → Outside rest → Inside tokens
each_follows {p} {step} {Inside} {Outside} e = each_inside p step Inside Outside e

-- ---- a layer of a tree that is rolled up

abbrev pub Made : {X L : Type 0} → (X → L) → L → X → Phrase
Made out layer x tokens rest = (out x ≡ layer) × (tokens ≡ rest)

pub exact_made : {X L : Type 0} {F : Follow X} (out : X → L) (roll : L → X) → ((l : L) → out (roll l) ≡ l) → ((x : X) → roll (out x) ≡ x) → (l : L) → Exact (Made out l) (pure (roll l)) F
exact_made out roll out_roll roll_out l = record {
  sound = λ x tokens rest e. let b = answers (roll l) x tokens rest e in (ap out (sym b.0) ∙ out_roll l, b.1);
  complete = λ x tokens rest h follows. same_answer (roll l) x tokens rest (ap roll (sym h.0) ∙ roll_out x) h.1;
  shorter = λ x tokens rest h. omega (arith, ap length h.1);
}

-- ---- choices

abbrev pub Either : {A C : Type 0} → (C → Phrase) → (A → C → Phrase) → Option A → C → Phrase
Either none some None = none
Either none some (Some a) = some a

pub exact_either : {A C : Type 0} {pn : C → Phrase} {ps : A → C → Phrase} {rn : Reader C} {rs : A → Reader C} {F : Follow C} → Exact pn rn F → ((a : A) → Exact (ps a) (rs a) F) → (o : Option A) → Exact (Either pn ps o) (not_there o rn rs) F
exact_either none some None = none
exact_either none some (Some a) = some a

or_absent : {A : Type 0} (p : A → Phrase) (r : Reader (Option A)) (F : Follow (Option A)) → Exact (maybe p) r F → (x : Option A) (tokens rest : List Token) → maybe p x tokens rest → OrAbsent r (λ y. F (Some y)) x rest → r tokens ≡ Ok (x, rest)
or_absent p r F e None tokens rest h follows = ap r h ∙ follows
or_absent p r F e (Some x) tokens rest h follows = e.complete (Some x) tokens rest h follows

pub exact_or_absent : {A : Type 0} {p : A → Phrase} {r : Reader (Option A)} {F : Follow (Option A)} → Exact (maybe p) r F → Exact (maybe p) r (OrAbsent r (λ x. F (Some x)))
exact_or_absent {p} {r} {F} e = record {
  sound = e.sound;
  complete = or_absent p r F e;
  shorter = e.shorter;
}

module _ {A C : Type 0} (p : A → Phrase) (r : Reader (Option A)) (q : A → C → Phrase) (f : A → Reader C) (G : Follow C) (first : Exact (maybe p) r (OrAbsent r Anything)) (second : (a : A) → Exact (q a) (f a) G) where
  where_sound : (o : Option A) (x : Option C) (tokens middle rest : List Token) → maybe p o tokens middle → where_some f o middle ≡ answer x rest → maybe (Seq p q) x tokens rest
  where_sound None x tokens middle rest h e =
      let b = answers None x middle rest e in
      subst (λ y. maybe (Seq p q) y tokens rest) b.0 (h ∙ b.1)
  where_sound (Some a) x tokens middle rest h e =
      let b = and_then_ok (f a middle) (λ c. pure (Some c)) x rest e in
      let d = answers (Some b.0) x b.1 rest b.3 in
      subst (λ y. maybe (Seq p q) y tokens rest) d.0 (a, middle, h, (second a).sound b.0 middle rest (b.2 ∙ same_answer b.0 b.0 b.1 rest refl d.1))

  where_complete : (x : Option C) (tokens rest : List Token) → maybe (Seq p q) x tokens rest → OrAbsent (r >>= where_some f) G x rest → and_then (r tokens) (where_some f) ≡ answer x rest
  where_complete None tokens rest h follows = ap (λ ts. and_then (r ts) (where_some f)) h ∙ follows
  where_complete (Some c) tokens rest h follows =
      ap (λ o. and_then o (where_some f)) (first.complete (Some h.0) tokens h.1 h.2 tt) ∙ ap (λ o. and_then o (λ y. pure (Some y))) ((second h.0).complete c h.1 rest h.3 follows)

  where_shorter : (x : Option C) (tokens rest : List Token) → maybe (Seq p q) x tokens rest → length rest ≤ length tokens
  where_shorter None tokens rest h = omega (arith, ap length h)
  where_shorter (Some c) tokens rest h = omega (arith, first.shorter (Some h.0) tokens h.1 h.2, (second h.0).shorter c h.1 rest h.3)

-- an option that begins with what shows that it is there
pub exact_where_some : {A C : Type 0} {p : A → Phrase} {r : Reader (Option A)} {q : A → C → Phrase} {f : A → Reader C} {G : Follow C}
    → Exact (maybe p) r (OrAbsent r Anything) → ((a : A) → Exact (q a) (f a) G) → Exact (maybe (Seq p q)) (r >>= where_some f) (OrAbsent (r >>= where_some f) G)
exact_where_some {p} {r} {q} {f} {G} first second = record {
  sound = λ x tokens rest e. let b = and_then_ok (r tokens) (where_some f) x rest e in where_sound p r q f G first second b.0 x tokens b.1 rest (first.sound b.0 tokens b.1 b.2) b.3;
  complete = where_complete p r q f G first second;
  shorter = where_shorter p r q f G first second;
}

maybe_goes : {A : Type 0} (p q : A → Phrase) → ((x : A) (tokens rest : List Token) → p x tokens rest → q x tokens rest) → (x : Option A) (tokens rest : List Token) → maybe p x tokens rest → maybe q x tokens rest
maybe_goes p q f None tokens rest h = h
maybe_goes p q f (Some x) tokens rest h = f x tokens rest h

pub exact_maybe_as : {A : Type 0} {p q : A → Phrase} {r : Reader (Option A)} {F : Follow (Option A)} → Exact (maybe p) r F → ((x : A) (tokens rest : List Token) → p x tokens rest → q x tokens rest) → ((x : A) (tokens rest : List Token) → q x tokens rest → p x tokens rest) → Exact (maybe q) r F
exact_maybe_as {p} {q} {r} {F} e there back = exact_as e (maybe_goes p q there) (maybe_goes q p back)

-- an option that isn't there is not read
pub absent_where : {A C : Type 0} (r : Reader (Option A)) (f : A → Reader C) (tokens : List Token) → IsAbsent r tokens → IsAbsent (r >>= where_some f) tokens
absent_where r f tokens h = ap (λ o. and_then o (where_some f)) h

-- what stands before a last step that reads nothing
pub before_made : {X L : Type 0} (E : List Token → Type 0) (out : X → L) (l : L) (x : X) (middle rest : List Token) → Made out l x middle rest → E rest → E middle
before_made E out l x middle rest h g = subst E (sym h.1) g

pub before_pure : {A : Type 0} (E : List Token → Type 0) (x c : A) (middle rest : List Token) → Is x c middle rest → E rest → E middle
before_pure E x c middle rest h g = subst E (sym h.1) g

-- ---- a value made in an option

abbrev pub MadeSome : {X L : Type 0} → (X → L) → L → Option X → Phrase
MadeSome out layer None tokens rest = ⊥
MadeSome out layer (Some x) tokens rest = (out x ≡ layer) × (tokens ≡ rest)

some_is : {A : Type 0} (x y : A) → Some x ≡ Some y → x ≡ y
some_is x y e = cc

made_some_sound : {X L : Type 0} (out : X → L) (roll : L → X) (out_roll : (l : L) → out (roll l) ≡ l) (l : L) (x : Option X) (tokens rest : List Token) → Some (roll l) ≡ x → tokens ≡ rest → MadeSome out l x tokens rest
made_some_sound out roll out_roll l None tokens rest e f = absurd cc
made_some_sound out roll out_roll l (Some x) tokens rest e f = (ap out (sym (some_is (roll l) x e)) ∙ out_roll l, f)

made_some_complete : {X L : Type 0} (out : X → L) (roll : L → X) (roll_out : (x : X) → roll (out x) ≡ x) (l : L) (x : Option X) (tokens rest : List Token) → MadeSome out l x tokens rest → answer (Some (roll l)) tokens ≡ answer x rest
made_some_complete out roll roll_out l None tokens rest h = absurd h
made_some_complete out roll roll_out l (Some x) tokens rest h = same_answer (Some (roll l)) (Some x) tokens rest (ap Some (ap roll (sym h.0) ∙ roll_out x)) h.1

made_some_shorter : {X L : Type 0} (out : X → L) (l : L) (x : Option X) (tokens rest : List Token) → MadeSome out l x tokens rest → length rest ≤ length tokens
made_some_shorter out l None tokens rest h = absurd h
made_some_shorter out l (Some x) tokens rest h = omega (arith, ap length h.1)

pub exact_made_some : {X L : Type 0} {F : Follow (Option X)} (out : X → L) (roll : L → X) → ((l : L) → out (roll l) ≡ l) → ((x : X) → roll (out x) ≡ x) → (l : L) → Exact (MadeSome out l) (pure (Some (roll l))) F
exact_made_some out roll out_roll roll_out l = record {
  sound = λ x tokens rest e. let b = answers (Some (roll l)) x tokens rest e in made_some_sound out roll out_roll l x tokens rest b.0 b.1;
  complete = λ x tokens rest h follows. made_some_complete out roll roll_out l x tokens rest h;
  shorter = made_some_shorter out l;
}

-- ---- what holds where repetition stops

module _ {A : Type 0} (step : Reader (Option A)) (Q : List Token → Type 0) (stops : (tokens middle : List Token) → step tokens ≡ Ok (None, middle) → Q middle) where
  with_first_ok : (x : A) (o : Outcome (List A)) (xs : List A) (rest : List Token) → with_first x o ≡ answer xs rest → (ys : List A) × (o ≡ answer ys rest)
  with_first_ok x (Ok q) xs rest h = let b = answers (x ∷ q.0) xs q.1 rest h in (q.0, same_answer q.0 q.0 q.1 rest refl b.1)
  with_first_ok x (Err c) xs rest h = absurd cc

  goes_on_stops : (n : ℕ) (o : Option A) (xs : List A) (tokens middle rest : List Token) → ((ys : List A) → many_from step n middle ≡ answer ys rest → Q rest) → step tokens ≡ Ok (o, middle) → goes_on o middle (many_from step n) ≡ answer xs rest → Q rest
  goes_on_stops n None xs tokens middle rest more read h = let b = answers [] xs middle rest h in subst Q b.1 (stops tokens middle read)
  goes_on_stops n (Some x) xs tokens middle rest more read h = let b = with_first_ok x (many_from step n middle) xs rest h in more b.0 b.1

  after_stops : (n : ℕ) (o : Outcome (Option A)) (xs : List A) (tokens rest : List Token) → ((ys : List A) (middle : List Token) → many_from step n middle ≡ answer ys rest → Q rest) → step tokens ≡ o → many_after o (many_from step n) ≡ answer xs rest → Q rest
  after_stops n (Ok q) xs tokens rest more read h = goes_on_stops n q.0 xs tokens q.1 rest (λ ys. more ys q.1) read h
  after_stops n (Err c) xs tokens rest more read h = absurd cc

  pub many_from_stops : (n : ℕ) (xs : List A) (tokens rest : List Token) → many_from step n tokens ≡ answer xs rest → Q rest
  unfolding many_from
  many_from_stops zero xs tokens rest h = absurd cc
  many_from_stops (suc n) xs tokens rest h = after_stops n (step tokens) xs tokens rest (λ ys middle. many_from_stops n ys middle rest) refl h

pub many_stops : {A : Type 0} (step : Reader (Option A)) (Q : List Token → Type 0) → ((tokens middle : List Token) → step tokens ≡ Ok (None, middle) → Q middle) → (xs : List A) (tokens rest : List Token) → many step tokens ≡ answer xs rest → Q rest
unfolding many
many_stops step Q stops xs tokens rest h = many_from_stops step Q stops (suc (length tokens)) xs tokens rest h
