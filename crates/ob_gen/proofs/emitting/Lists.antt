-- Code that grows piece by piece, and jumps that are written later.
use Rattle.std.proofs.Common.{◌≡◌, ℕ, zero, suc, ◌+◌, ◌-◌, ◌<◌, ◌≤◌, pos, List, [], ◌∷◌, ◌++◌, length, drop, get_or, refl, sym, ap, ◌∙◌, subst, arith, append_assoc, append-nil, length-append}
use Rattle.std.specs.Prelude.{slice_set, All}
use Rattle.std.proofs.lemmas.List.{drop_more}
use Rattle.std.proofs.lemmas.List.Elements.{All-cons}
use Rattle.std.proofs.Math.Seq.{set-append_seam}
use Rattle.ob_mean.specs.declared.expression.TypedExpr.{TypedExpr}
use Rattle.ob_mean.specs.WellFormed.{Names}
use Rattle.ob_code.specs.declared.instr.Instr.TheVariants as instr
use Rattle.ob_code.specs.declared.instr.Line.{Line}
use Rattle.ob_gen.specs.Code.{line, or_code, expr_code}
use Rattle.ob_gen.specs.Emitted.{every_list, either_list, leading, holed, holes, filled, sides, closed, side}

-- one piece more
pub grown : (c c' p q b : List Line) → c' ≡ c ++ p → c ++ (p ++ q) ≡ b → c' ++ q ≡ b
grown c c' p q b e h = ap (λ x. x ++ q) e ∙ append_assoc c p q ∙ h

-- the next of what is left
pub left_more : {A : Type 0} {B : Type 0} (F : List A → B) (xs : List A) (i : ℕ) (x : A) → i < length xs → x ≡ get_or xs i x → F (drop i xs) ≡ F (x ∷ drop (i + 1) xs)
left_more F xs i x lt e = ap F (drop_more xs i x lt) ∙ ap (λ y. F (y ∷ drop (i + 1) xs)) (sym e)

drop_past : {A : Type 0} (xs : List A) (i : ℕ) → length xs ≤ i → drop i xs ≡ []
drop_past [] zero le = refl
drop_past [] (suc i) le = refl
drop_past (x ∷ xs) zero le = absurd (omega (arith, le))
drop_past (x ∷ xs) (suc i) le = drop_past xs i (omega (arith, le))

-- at the end of a loop nothing is left
pub code_done : {A : Type 0} (F : List A → List Line) (xs : List A) (i : ℕ) (base c0 c last : List Line) → F [] ≡ [] → length xs ≤ i → c0 ++ F (drop i xs) ≡ base ++ F xs → c ≡ c0 ++ last → c ≡ base ++ (F xs ++ last)
code_done F xs i base c0 c last e le h g =
    let d : c0 ≡ base ++ F xs = sym (append-nil c0) ∙ ap (λ l. c0 ++ l) (sym e ∙ ap F (sym (drop_past xs i le))) ∙ h in
    g ∙ ap (λ l. l ++ last) d ∙ append_assoc base (F xs) last

pub code_all : {A : Type 0} (F : List A → List Line) (xs : List A) (i : ℕ) (base c0 : List Line) → F [] ≡ [] → length xs ≤ i → c0 ++ F (drop i xs) ≡ base ++ F xs → c0 ≡ base ++ F xs
code_all F xs i base c0 e le h = sym (append-nil c0) ∙ ap (λ l. c0 ++ l) (sym e ∙ ap F (sym (drop_past xs i le))) ∙ h

pub ends_done : {A : Type 0} (n0 n : ℕ) (f : A → List Line) (xs : List A) (i : ℕ) (base : List Line) (e0 e : List ℕ) → length xs ≤ i → e0 ++ holes n0 f (drop i xs) ≡ holes n f xs → n ≡ length base → e ≡ e0 → e ≡ holes (length base) f xs
ends_done n0 n f xs i base e0 e le h m g =
    g ∙ sym (append-nil e0) ∙ ap (λ l. e0 ++ holes n0 f l) (sym (drop_past xs i le)) ∙ h ∙ ap (λ k. holes k f xs) m

-- a piece and an instruction, and two pieces and an instruction
pub one_more : (base a c : List Line) (i : Line) → c ≡ base ++ a → c ++ i ∷ [] ≡ base ++ (a ++ i ∷ [])
one_more base a c i e = ap (λ l. l ++ i ∷ []) e ∙ append_assoc base a (i ∷ [])

pub two_more : (base a b c d : List Line) (i : Line) → c ≡ base ++ a → d ≡ c ++ b → d ++ i ∷ [] ≡ base ++ (a ++ (b ++ i ∷ []))
two_more base a b c d i e f = ap (λ l. l ++ i ∷ []) f ∙ append_assoc c b (i ∷ []) ∙ ap (λ l. l ++ (b ++ i ∷ [])) e ∙ append_assoc base a (b ++ i ∷ [])

-- ---- jumps to the end

holed-length : {A : Type 0} (h k : ℕ) (f : A → List Line) (xs : List A) (last : List Line) → length (leading h k f xs last) ≡ length (holed h k f xs ++ last)
holed-length h k f [] last = refl
holed-length h k f (x ∷ xs) last =
    let e = holed-length h k f xs last in
    let a = length-append (f x) (line h k (instr.Skip (length (leading h k f xs last))) ∷ leading h k f xs last) in
    let b = length-append (f x) (line h k (instr.Skip 0) ∷ holed h k f xs) in
    let c = length-append (f x ++ (line h k (instr.Skip 0) ∷ holed h k f xs)) last in
    let d = length-append (holed h k f xs) last in
    omega (arith, a, b, c, d, e)

fills_from : {A : Type 0} (h k : ℕ) (f : A → List Line) (xs : List A) (base last : List Line) (at : ℕ) → at ≡ length base → filled h k (base ++ (holed h k f xs ++ last)) (holes at f xs) ≡ base ++ leading h k f xs last
fills_from h k f [] base last at e = refl
fills_from h k f (x ∷ xs) base last at e =
    let hole = line h k (instr.Skip 0) in
    let rest = holed h k f xs ++ last in
    let n = at + length (f x) in
    let whole = base ++ (holed h k f (x ∷ xs) ++ last) in
    let i = line h k (instr.Skip (length whole - n - 1)) in
    let j = line h k (instr.Skip (length (leading h k f xs last))) in
    let shaped : whole ≡ (base ++ f x) ++ hole ∷ rest = ap (λ l. base ++ l) (append_assoc (f x) (hole ∷ holed h k f xs) last) ∙ sym (append_assoc base (f x) (hole ∷ rest)) in
    let n_is : n ≡ length (base ++ f x) = omega (arith, e, length-append base (f x)) in
    let far : length whole - n - 1 ≡ length (leading h k f xs last) =
    let l = ap length shaped in
    let m = length-append (base ++ f x) (hole ∷ rest) in
    omega (arith, l, m, n_is, holed-length h k f xs last) in
    let next : n + 1 ≡ length ((base ++ f x) ++ j ∷ []) = omega (arith, n_is, length-append (base ++ f x) (j ∷ [])) in
    ap (λ m. filled h k (slice_set whole n (line h k (instr.Skip m))) (holes (n + 1) f xs)) far
    ∙ ap (λ l. filled h k (slice_set l n j) (holes (n + 1) f xs)) shaped
    ∙ ap (λ m. filled h k (slice_set ((base ++ f x) ++ hole ∷ rest) m j) (holes (n + 1) f xs)) n_is
    ∙ ap (λ l. filled h k l (holes (n + 1) f xs)) (set-append_seam (base ++ f x) hole rest j ∙ sym (append_assoc (base ++ f x) (j ∷ []) rest))
    ∙ fills_from h k f xs ((base ++ f x) ++ j ∷ []) last (n + 1) next
    ∙ append_assoc (base ++ f x) (j ∷ []) (leading h k f xs last)
    ∙ append_assoc base (f x) (j ∷ leading h k f xs last)

-- the code with its jumps written
pub fills : {A : Type 0} (h k : ℕ) (f : A → List Line) (xs : List A) (base last code : List Line) (ends : List ℕ) → code ≡ base ++ (holed h k f xs ++ last) → ends ≡ holes (length base) f xs → filled h k code ends ≡ base ++ leading h k f xs last
fills h k f xs base last code ends e m =
    ap (λ l. filled h k l ends) e ∙ ap (λ es. filled h k (base ++ (holed h k f xs ++ last)) es) m ∙ fills_from h k f xs base last (length base) refl

none_of : (P : ℕ → Type 0) → All P []
none_of P k d lt = absurd (omega (arith, lt))

holes_below : {A : Type 0} (h k : ℕ) (f : A → List Line) (xs : List A) (at most : ℕ) → at + length (holed h k f xs) ≤ most → All (λ e. e < most) (holes at f xs)
holes_below h k f [] at most le = none_of (λ e. e < most)
holes_below h k f (x ∷ xs) at most le =
    let a = length-append (f x) (line h k (instr.Skip 0) ∷ holed h k f xs) in
    let lt : at + length (f x) < most = omega (arith, le, a) in
    All-cons (λ e. e < most) _ _ lt (holes_below h k f xs (at + length (f x) + 1) most (omega (arith, le, a)))

pub fillable : {A : Type 0} (h k : ℕ) (f : A → List Line) (xs : List A) (base last code : List Line) (ends : List ℕ) → code ≡ base ++ (holed h k f xs ++ last) → ends ≡ holes (length base) f xs → All (λ e. e < length code) ends
fillable h k f xs base last code ends e m =
    let l = ap length e in
    let a = length-append base (holed h k f xs ++ last) in
    let b = length-append (holed h k f xs) last in
    subst (λ es. All (λ e. e < length code) es) (sym m) (holes_below h k f xs (length base) (length code) (omega (arith, l, a, b)))

-- ---- OR

pub either_leads : (names : Names) (h k : ℕ) (es : List TypedExpr) → leading (h + 1) k (side names h k) es (line h k (instr.Push (pos 0)) ∷ []) ≡ either_list names h k es
either_leads names h k [] = refl
either_leads names h k (e ∷ es) =
    let x = expr_code names h k e in
    let i = line (h + 1) k (instr.SkipIfZero 2) in
    let j = line h k (instr.Push (pos 1)) in
    let r = leading (h + 1) k (side names h k) es (line h k (instr.Push (pos 0)) ∷ []) in
    append_assoc x (i ∷ (j ∷ [])) (line (h + 1) k (instr.Skip (length r)) ∷ r)
    ∙ ap (λ b. or_code h k x b) (either_leads names h k es)

-- ---- `&`

sides_below : {A : Type 0} (h k : ℕ) (f : A → List Line) (xs : List A) (at most : ℕ) → at + length (sides h k f xs) ≤ most → All (λ e. e < most) (holes at f xs)
sides_below h k f [] at most le = none_of (λ e. e < most)
sides_below h k f (x ∷ xs) at most le =
    let a = length-append (f x) (line (h + 1) k (instr.SkipIfZero 0) ∷ sides h k f xs) in
    let lt : at + length (f x) < most = omega (arith, le, a) in
    All-cons (λ e. e < most) _ _ lt (sides_below h k f xs (at + length (f x) + 1) most (omega (arith, le, a)))

pub closable : {A : Type 0} (h k : ℕ) (f : A → List Line) (xs : List A) (base last code : List Line) (ends : List ℕ) → code ≡ base ++ (sides h k f xs ++ last) → ends ≡ holes (length base) f xs → All (λ e. e < length code) ends
closable h k f xs base last code ends e m =
    let l = ap length e in
    let a = length-append base (sides h k f xs ++ last) in
    let b = length-append (sides h k f xs) last in
    subst (λ es. All (λ e. e < length code) es) (sym m) (sides_below h k f xs (length base) (length code) (omega (arith, l, a, b)))

closes_from : (names : Names) (h k : ℕ) (es : List TypedExpr) (base : List Line) (at : ℕ) → at ≡ length base → closed h k (base ++ (sides h k (expr_code names h k) es ++ line h k (instr.Push (pos 1)) ∷ [])) (holes at (expr_code names h k) es) ≡ base ++ every_list names h k es
closes_from names h k [] base at e = refl
closes_from names h k (x ∷ es) base at e =
    let fx = expr_code names h k x in
    let last = line h k (instr.Push (pos 1)) ∷ [] in
    let hole = line (h + 1) k (instr.SkipIfZero 0) in
    let behind = line (h + 1) k (instr.Skip 1) ∷ (line h k (instr.Push (pos 0)) ∷ []) in
    let r = every_list names h k es in
    let n = at + length fx in
    let whole = base ++ (sides h k (expr_code names h k) (x ∷ es) ++ last) in
    let front = (base ++ fx) ++ hole ∷ [] in
    let code = closed h k whole (holes (n + 1) (expr_code names h k) es) in
    let j = line (h + 1) k (instr.SkipIfZero (length r + 1)) in
    let shaped : whole ≡ front ++ (sides h k (expr_code names h k) es ++ last) =
    ap (λ l. base ++ l) (append_assoc fx (hole ∷ sides h k (expr_code names h k) es) last) ∙ sym (append_assoc base fx (hole ∷ (sides h k (expr_code names h k) es ++ last)))
    ∙ sym (append_assoc (base ++ fx) (hole ∷ []) (sides h k (expr_code names h k) es ++ last)) in
    let n_is : n ≡ length (base ++ fx) = omega (arith, e, length-append base fx) in
    let next : n + 1 ≡ length front = omega (arith, n_is, length-append (base ++ fx) (hole ∷ [])) in
    let code_is : code ≡ (base ++ fx) ++ hole ∷ r =
    ap (λ l. closed h k l (holes (n + 1) (expr_code names h k) es)) shaped ∙ closes_from names h k es front (n + 1) next ∙ append_assoc (base ++ fx) (hole ∷ []) r in
    let far : length code - n ≡ length r + 1 = let l = ap length code_is in let m = length-append (base ++ fx) (hole ∷ r) in omega (arith, l, m, n_is) in
    ap (λ m. slice_set code n (line (h + 1) k (instr.SkipIfZero m)) ++ behind) far
    ∙ ap (λ l. slice_set l n j ++ behind) code_is
    ∙ ap (λ m. slice_set ((base ++ fx) ++ hole ∷ r) m j ++ behind) n_is
    ∙ ap (λ l. l ++ behind) (set-append_seam (base ++ fx) hole r j)
    ∙ append_assoc (base ++ fx) (j ∷ r) behind
    ∙ append_assoc base fx (j ∷ (r ++ behind))

pub closes : (names : Names) (h k : ℕ) (es : List TypedExpr) (base code : List Line) (ends : List ℕ) → code ≡ base ++ (sides h k (expr_code names h k) es ++ line h k (instr.Push (pos 1)) ∷ []) → ends ≡ holes (length base) (expr_code names h k) es → closed h k code ends ≡ base ++ every_list names h k es
closes names h k es base code ends e m =
    ap (λ l. closed h k l ends) e ∙ ap (λ x. closed h k (base ++ (sides h k (expr_code names h k) es ++ line h k (instr.Push (pos 1)) ∷ [])) x) m ∙ closes_from names h k es base (length base) refl
