-- Cells run, one more at a time.
use Rattle.std.proofs.Common.{◌≡◌, ℕ, ◌+◌, ◌<◌, ◌≤◌, List, [], ◌∷◌, ◌++◌, length, drop, get_or, Bool, true, false, ◌&&◌, ◌||◌, refl, sym, ◌∙◌, ap, subst, append_assoc, append-nil}
use Rattle.std.specs.List.{list_any}
use Rattle.std.proofs.lemmas.Bool.{true≢false}
use Rattle.std.proofs.lemmas.List.{at_drop_more, drop_all}
use Rattle.jk_log.specs.declared.arrival.Arrival.{Arrival}
use Rattle.jk_log.specs.declared.entry.Entry.{Entry}
use Rattle.nb_run.specs.declared.cells.Code.{Code}
use Rattle.nb_run.specs.Runs.{AreInputs, IsSentFor, AreRun, Either, is_done}

pub inputs_more : (xs ys : List Arrival) → AreInputs xs → AreInputs ys → AreInputs (xs ++ ys)
inputs_more [] ys h g = g
inputs_more (x ∷ xs) ys (one, rest) g = (one, inputs_more xs ys rest g)

pub sent_more : (c : Code) (xs ys : List Arrival) → IsSentFor c xs → AreInputs ys → IsSentFor c (xs ++ ys)
sent_more c [] ys h g = absurd h
sent_more c (x ∷ xs) ys (one, rest) g = (one, inputs_more xs ys rest g)

pub any_more : (xs ys : List Entry) → list_any is_done (xs ++ ys) ≡ (list_any is_done xs || list_any is_done ys)
any_more [] ys = refl
any_more (x ∷ xs) ys = by (is_done x) (any_more xs ys)
  where
    by : (b : Bool) → list_any is_done (xs ++ ys) ≡ (list_any is_done xs || list_any is_done ys)
        → (b || list_any is_done (xs ++ ys)) ≡ ((b || list_any is_done xs) || list_any is_done ys)
    by true e = refl
    by false e = e

pub done_more : (xs ys : List Entry) (before now done : Bool) → before ≡ list_any is_done xs → now ≡ list_any is_done ys → done ≡ (before || now) → done ≡ list_any is_done (xs ++ ys)
done_more xs ys before now done h g e =
    e ∙ ap (λ b. b || now) h ∙ ap (λ b. list_any is_done xs || b) g ∙ sym (any_more xs ys)

-- what was sent and shown for the first cells, and whether they ended well, whatever comes of the others
abbrev pub RunsOn : Bool → List Code → ℕ → List Arrival → List Entry → Bool → Type 0
RunsOn all cs i sent told ok = (s : List Arrival) (t : List Entry) (o : Bool) → AreRun all (drop i cs) s t o → AreRun all cs (sent ++ s) (told ++ t) (ok && o)

pub runs_first : (all : Bool) (cs : List Code) → RunsOn all cs 0 [] [] true
runs_first all cs s t o h = h

and_assoc : (a b c : Bool) → (a && b) && c ≡ a && (b && c)
and_assoc true b c = refl
and_assoc false b c = refl

either_first : (P Q : Type 0) (b : Bool) → b ≡ true → P → Either b P Q
either_first P Q true e p = p
either_first P Q false e p = absurd (true≢false (sym e))

either_second : (P Q : Type 0) (b : Bool) → b ≡ false → Q → Either b P Q
either_second P Q true e q = absurd (true≢false e)
either_second P Q false e q = q

-- what comes after a cell
abbrev GoOn : Bool → List Code → List Arrival → List Entry → Bool → Bool → Type 0
GoOn all cs rest later went ok = (others : Bool) × AreRun all cs rest later others × (ok ≡ (went && others))

abbrev End : List Arrival → List Entry → Bool → Type 0
End rest later ok = (rest ≡ []) × (later ≡ []) × (ok ≡ false)

module _ (all : Bool) (cs : List Code) (i : ℕ) (c : Code) (sent first : List Arrival) (told shown : List Entry) (ok : Bool) where
  next : i < length cs → c ≡ get_or cs i c → (s : List Arrival) (t : List Entry) (o : Bool) → AreRun all (c ∷ drop (i + 1) cs) s t o → AreRun all (drop i cs) s t o
  next lt is s t o h =
      subst (λ (l : List Code). AreRun all l s t o)
      (ap (λ (x : Code). x ∷ drop (i + 1) cs) is ∙ sym (at_drop_more (λ (l : List Code). l) cs i c lt)) h

  -- one cell more
  pub runs_more : i < length cs → c ≡ get_or cs i c → RunsOn all cs i sent told ok → IsSentFor c first → (all || list_any is_done shown) ≡ true
      → RunsOn all cs (i + 1) (sent ++ first) (told ++ shown) (ok && list_any is_done shown)
  runs_more lt is before asked on s t o h =
      subst (λ (b : Bool). AreRun all cs ((sent ++ first) ++ s) ((told ++ shown) ++ t) b) (sym (and_assoc ok (list_any is_done shown) o))
      (subst (λ (l : List Arrival). AreRun all cs l ((told ++ shown) ++ t) (ok && (list_any is_done shown && o))) (sym (append_assoc sent first s))
      (subst (λ (l : List Entry). AreRun all cs (sent ++ (first ++ s)) l (ok && (list_any is_done shown && o))) (sym (append_assoc told shown t))
      (before (first ++ s) (shown ++ t) (list_any is_done shown && o)
      (next lt is (first ++ s) (shown ++ t) (list_any is_done shown && o)
      (first, s, shown, t, refl, refl, asked, either_first (GoOn all (drop (i + 1) cs) s t (list_any is_done shown) (list_any is_done shown && o)) (End s t (list_any is_done shown && o)) _ on (o, h, refl))))))

  and_false : (b : Bool) → b && false ≡ false
  and_false true = refl
  and_false false = refl

  -- the last cell
  pub runs_stop : i < length cs → c ≡ get_or cs i c → RunsOn all cs i sent told ok → IsSentFor c first → (all || list_any is_done shown) ≡ false
      → AreRun all cs (sent ++ first) (told ++ shown) false
  runs_stop lt is before asked off =
      subst (λ (b : Bool). AreRun all cs (sent ++ first) (told ++ shown) b) (and_false ok)
      (before first shown false
      (next lt is first shown false
      (first, [], shown, [], sym (append-nil first), sym (append-nil shown), asked, either_second (GoOn all (drop (i + 1) cs) [] [] (list_any is_done shown) false) (End [] [] false) _ off (refl, refl, refl))))

and_true : (b : Bool) → b && true ≡ b
and_true true = refl
and_true false = refl

-- all cells
pub runs_end : (all : Bool) (cs : List Code) (i : ℕ) (sent : List Arrival) (told : List Entry) (ok : Bool) → length cs ≤ i → RunsOn all cs i sent told ok → AreRun all cs sent told ok
runs_end all cs i sent told ok over before =
    subst (λ (b : Bool). AreRun all cs sent told b) (and_true ok)
    (subst (λ (l : List Arrival). AreRun all cs l told (ok && true)) (append-nil sent)
    (subst (λ (l : List Entry). AreRun all cs (sent ++ []) l (ok && true)) (append-nil told)
    (before [] [] true (subst (λ (l : List Code). AreRun all l [] [] true) (sym (drop_all i cs over)) (refl, refl, refl)))))
