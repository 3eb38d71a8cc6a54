-- Code that leads from what is known of the operands before it to what is known after it.
use Rattle.std.proofs.Common.{◌≡◌, ℕ, zero, suc, ◌+◌, ◌-◌, ◌≤◌, List, [], ◌∷◌, ◌++◌, length, Option, Some, None, Bool, true, false, refl, sym, ap, ◌∙◌, subst, arith, length-append}
use Rattle.std.specs.Prelude.{slice_get, nat_eq, if◌then◌else◌}
use Rattle.std.proofs.lemmas.Option.{slice_get_past}
use Rattle.std.proofs.lemmas.Bool.Decides.{nat_tests}
use Rattle.ob_mean.specs.declared.statement.LabelRange.{LabelRange}
use Rattle.ob_mean.specs.declared.operator.UnaryOperator.TheVariants.{Not}
use Rattle.ob_code.specs.declared.kinds.Kind.{Kind}
use Rattle.ob_code.specs.declared.kinds.Kind.TheVariants.{Number, UpTo, Inside, Guarded as InRecord, Absent}
use Rattle.ob_code.specs.declared.kinds.Known.{Known}
use Rattle.ob_code.specs.declared.instr.Instr.TheVariants as instr
use Rattle.ob_code.specs.declared.instr.Line.{Line}
use Rattle.ob_code.specs.declared.instr.Procedure.{Procedure}
use Rattle.ob_code.specs.declared.instr.CodeModule.{CodeModule}
use Rattle.ob_code.specs.Kinds.{Kinds, Rows, Covers, CoverAll, results_kinds, nothing, Arrives, known_of, known_at, Keeps, HasKinds}
use Rattle.ob_gen.specs.Code.{line, Guarded, first_code, bodies_code, guards_code, loop_code, repeat_code, labels_code, arm_code}
use Rattle.ob_gen.proofs.machine.Reaches.{HasAt, has_front, has_back, has_all}

-- one operand more
abbrev pub push : Kind → Known → Known
push k x = record { operands = k ∷ x.operands; names = x.names }

-- one number is there
abbrev pub number : Known
number = push Number nothing

-- a result of a call on top
abbrev pub with_results : Bool → Known → Known
with_results gives x = record { operands = results_kinds gives ++ x.operands; names = x.names }

-- ---- covering

covers_self : (k : Kind) → Covers k k
covers_self Number = tt
covers_self (UpTo most) = omega arith
covers_self (Inside x size most) = (refl, refl, omega arith)
covers_self (InRecord x cells most) = (refl, omega arith, omega arith)
covers_self Absent = tt

covers_trans : (a b c : Kind) → Covers a b → Covers b c → Covers a c
covers_trans Number b c x y = tt
covers_trans (UpTo n) Number c x y = absurd x
covers_trans (UpTo n) (UpTo k) Number x y = absurd y
covers_trans (UpTo n) (UpTo k) (UpTo j) x y = omega (arith, x, y)
covers_trans (UpTo n) (UpTo k) (Inside p q r) x y = absurd y
covers_trans (UpTo n) (UpTo k) (InRecord p q r) x y = absurd y
covers_trans (UpTo n) (UpTo k) Absent x y = tt
covers_trans (UpTo n) (Inside p q r) c x y = absurd x
covers_trans (UpTo n) (InRecord p q r) c x y = absurd x
covers_trans (UpTo n) Absent Number x y = absurd y
covers_trans (UpTo n) Absent (UpTo j) x y = absurd y
covers_trans (UpTo n) Absent (Inside p q r) x y = absurd y
covers_trans (UpTo n) Absent (InRecord p q r) x y = absurd y
covers_trans (UpTo n) Absent Absent x y = tt
covers_trans (Inside d e f) Number c x y = absurd x
covers_trans (Inside d e f) (UpTo k) c x y = absurd x
covers_trans (Inside d e f) (Inside g h i) Number x y = absurd y
covers_trans (Inside d e f) (Inside g h i) (UpTo k) x y = absurd y
covers_trans (Inside d e f) (Inside g h i) (Inside p q r) x y = (y.0 ∙ x.0, y.1 ∙ x.1, omega (arith, x.2, y.2))
covers_trans (Inside d e f) (Inside g h i) (InRecord p q r) x y = absurd y
covers_trans (Inside d e f) (Inside g h i) Absent x y = tt
covers_trans (Inside d e f) (InRecord g h i) c x y = absurd x
covers_trans (Inside d e f) Absent Number x y = absurd y
covers_trans (Inside d e f) Absent (UpTo k) x y = absurd y
covers_trans (Inside d e f) Absent (Inside p q r) x y = absurd y
covers_trans (Inside d e f) Absent (InRecord p q r) x y = absurd y
covers_trans (Inside d e f) Absent Absent x y = tt
covers_trans (InRecord d e f) Number c x y = absurd x
covers_trans (InRecord d e f) (UpTo k) c x y = absurd x
covers_trans (InRecord d e f) (Inside g h i) c x y = absurd x
covers_trans (InRecord d e f) (InRecord g h i) Number x y = absurd y
covers_trans (InRecord d e f) (InRecord g h i) (UpTo k) x y = absurd y
covers_trans (InRecord d e f) (InRecord g h i) (Inside p q r) x y = absurd y
covers_trans (InRecord d e f) (InRecord g h i) (InRecord p q r) x y = (y.0 ∙ x.0, omega (arith, x.1, y.1), omega (arith, x.2, y.2))
covers_trans (InRecord d e f) (InRecord g h i) Absent x y = tt
covers_trans (InRecord d e f) Absent Number x y = absurd y
covers_trans (InRecord d e f) Absent (UpTo k) x y = absurd y
covers_trans (InRecord d e f) Absent (Inside p q r) x y = absurd y
covers_trans (InRecord d e f) Absent (InRecord p q r) x y = absurd y
covers_trans (InRecord d e f) Absent Absent x y = tt
covers_trans Absent Number c x y = absurd x
covers_trans Absent (UpTo k) c x y = absurd x
covers_trans Absent (Inside p q r) c x y = absurd x
covers_trans Absent (InRecord p q r) c x y = absurd x
covers_trans Absent Absent c x y = y

pub cover_self : (ks : Kinds) → CoverAll ks ks
cover_self [] = tt
cover_self (k ∷ ks) = (covers_self k, cover_self ks)

cover_trans : (a b c : Kinds) → CoverAll a b → CoverAll b c → CoverAll a c
cover_trans [] [] [] x y = tt
cover_trans [] [] (k ∷ ks) x y = absurd y
cover_trans [] (k ∷ ks) c x y = absurd x
cover_trans (a ∷ ks) [] c x y = absurd x
cover_trans (a ∷ ks) (b ∷ js) [] x y = absurd y
cover_trans (a ∷ ks) (b ∷ js) (c ∷ is) x y = (covers_trans a b c x.0 y.0, cover_trans ks js is x.1 y.1)

-- no more is known, and of the same names
abbrev pub CoverKnown : Known → Known → Type 0
CoverKnown x y = CoverAll x.operands y.operands × (x.names ≡ y.names)

pub cover_known : (x : Known) → CoverKnown x x
cover_known x = (cover_self x.operands, refl)

-- a place that takes in so much takes in less
pub arrives_at : (o : Option Known) (x y : Known) → CoverKnown x y → Arrives o x → Arrives o y
arrives_at None x y c h = absurd h.0
arrives_at (Some es) x y c h = (cover_trans es.operands x.operands y.operands h.0 c.0, h.1 ∙ c.1)

-- ---- rows

abbrev pub RowsAt : Rows → ℕ → List Known → Type 0
RowsAt rows pc [] = Unit {0}
RowsAt rows pc (k ∷ ks) = (rows pc ≡ k) × RowsAt rows (pc + 1) ks

pub rows_front : (rows : Rows) (pc : ℕ) (a b : List Known) → RowsAt rows pc (a ++ b) → RowsAt rows pc a
rows_front rows pc [] b h = tt
rows_front rows pc (k ∷ a) b h = (h.0, rows_front rows (pc + 1) a b h.1)

-- after as many rows as there are lines
pub rows_back : (rows : Rows) (pc n : ℕ) (a b : List Known) → length a ≡ n → RowsAt rows pc (a ++ b) → RowsAt rows (pc + n) b
rows_back rows pc n [] b e h = let same : pc ≡ pc + n = omega (arith, e) in subst (λ p. RowsAt rows p b) same h
rows_back rows pc n (k ∷ a) b e h =
    let len : length a ≡ n - 1 = omega (arith, e) in
    let same : pc + 1 + (n - 1) ≡ pc + n = omega (arith, e) in
    subst (λ p. RowsAt rows p b) same (rows_back rows (pc + 1) (n - 1) a b len h.1)

-- rows that are kept in a list
abbrev pub listed : List Known → Rows
listed [] place = nothing
listed (k ∷ ks) zero = k
listed (k ∷ ks) (suc place) = listed ks place

rows_after : (k : Known) (ks : List Known) (pc : ℕ) (js : List Known) → RowsAt (listed ks) pc js → RowsAt (listed (k ∷ ks)) (suc pc) js
rows_after k ks pc [] h = tt
rows_after k ks pc (j ∷ js) h =
    let same : suc (pc + 1) ≡ suc pc + 1 = omega arith in
    (h.0, subst (λ p. RowsAt (listed (k ∷ ks)) p js) same (rows_after k ks (pc + 1) js h.1))

pub rows_whole : (ks : List Known) → RowsAt (listed ks) 0 ks
rows_whole [] = tt
rows_whole (k ∷ ks) =
    let same : suc 0 ≡ 0 + 1 = omega arith in
    (refl, subst (λ p. RowsAt (listed (k ∷ ks)) p ks) same (rows_after k ks 0 ks (rows_whole ks)))

module _ (m : CodeModule) (f : Procedure) where
  abbrev lines : List Line
  lines = f.lines.items

  abbrev pub At : Rows → ℕ → Option Known
  At rows pc = known_at f rows pc

  -- these lines keep what is known before each
  abbrev pub AllKeep : Rows → ℕ → List Line → Type 0
  AllKeep rows pc [] = Unit {0}
  AllKeep rows pc (l ∷ ls) = Keeps m f rows pc (rows pc) l.instr × AllKeep rows (pc + 1) ls

  pub all_joined : (rows : Rows) (pc : ℕ) (a b : List Line) → AllKeep rows pc a → AllKeep rows (pc + length a) b → AllKeep rows pc (a ++ b)
  all_joined rows pc [] b fa fb = let e : pc + 0 ≡ pc = omega arith in subst (λ p. AllKeep rows p b) e fb
  all_joined rows pc (l ∷ a) b fa fb =
      let e : pc + length (l ∷ a) ≡ pc + 1 + length a = omega arith in
      (fa.0, all_joined rows (pc + 1) a b fa.1 (subst (λ p. AllKeep rows p b) e fb))

  -- a line before which so much is known takes that in
  pub here : (rows : Rows) (pc : ℕ) (l : Line) (k : Known) → slice_get lines pc ≡ Some l → rows pc ≡ k → Arrives (At rows pc) k
  here rows pc l k e same =
      subst (λ o. Arrives (known_of o (rows pc) f.entry.is_function pc (length lines)) k) (sym e)
      (subst (λ r. CoverKnown r k) (sym same) (cover_known k))

  -- wherever this code stands, with these rows, and the place after it takes in y, the place before it takes in x, and each
  -- line keeps its row
  abbrev pub With : List Known → List Line → Known → Known → Type 0
  With ks c x y = (rows : Rows) (pc : ℕ) → HasAt lines pc c → RowsAt rows pc ks → Arrives (At rows (pc + length c)) y → Arrives (At rows pc) x × AllKeep rows pc c

  -- there are such rows
  abbrev pub Tells : List Line → Known → Known → Type 0
  Tells c x y = (ks : List Known) × (length ks ≡ length c) × With ks c x y

  pub tells_none : (x : Known) → Tells [] x x
  tells_none x = ([], refl, λ rows pc has at end. (let same : pc + 0 ≡ pc = omega arith in subst (λ p. Arrives (At rows p) x) same end, tt))

  pub tells_join : (a b : List Line) (x y z : Known) → Tells a x y → Tells b y z → Tells (a ++ b) x z
  tells_join a b x y z ta tb = (
    ta.0 ++ tb.0,
    omega (arith, ta.1, tb.1, length-append ta.0 tb.0, length-append a b),
    λ rows pc has at end.
        let len : pc + length (a ++ b) ≡ pc + length a + length b = omega (arith, length-append a b) in
        let rb = tb.2 rows (pc + length a) (has_back lines pc a b has) (rows_back rows pc (length a) ta.0 tb.0 ta.1 at) (subst (λ p. Arrives (At rows p) z) len end) in
        let ra = ta.2 rows pc (has_front lines pc a b has) (rows_front rows pc ta.0 tb.0 at) rb.0 in
        (ra.0, all_joined rows pc a b ra.1 rb.1),
  )

  -- less is known before it, or more is asked after it
  pub tells_more : (c : List Line) (x y z : Known) → CoverKnown z y → Tells c x y → Tells c x z
  tells_more c x y z covers t = (t.0, t.1, λ rows pc has at end. t.2 rows pc has at (arrives_at (At rows (pc + length c)) z y covers end))

  pub tells_one : (l : Line) (x y : Known) → ((rows : Rows) (pc : ℕ) → slice_get lines pc ≡ Some l → Arrives (At rows (pc + 1)) y → Keeps m f rows pc x l.instr) → Tells (l ∷ []) x y
  tells_one l x y fit = (
    x ∷ [],
    refl,
    λ rows pc has at end.
        let last : pc + length (l ∷ []) ≡ pc + 1 = omega arith in
        (here rows pc l x has.0 at.0, (subst (λ k. Keeps m f rows pc k l.instr) (sym at.0) (fit rows pc has.0 (subst (λ p. Arrives (At rows p) y) last end)), tt)),
  )

  -- a number decides between two pieces that lead to the same
  pub tells_choice : (h k : ℕ) (j : ℕ) (i : ℕ) (x z : Known) (b c : List Line) → Tells b x z → Tells c x z → Tells (line h k (instr.SkipIfZero (length b + 1)) ∷ (b ++ (line j i (instr.Skip (length c)) ∷ c))) (push Number x) z
  tells_choice h k j i x z b c tb tc = (
    push Number x ∷ (tb.0 ++ (z ∷ tc.0)),
    omega (arith, tb.1, tc.1, length-append tb.0 (z ∷ tc.0), length-append b (line j i (instr.Skip (length c)) ∷ c)),
    λ rows pc has at end.
        let skip = line j i (instr.Skip (length c)) in
        let hs = has_back lines (pc + 1) b (skip ∷ c) has.1 in
        let rs = rows_back rows (pc + 1) (length b) tb.0 (z ∷ tc.0) tb.1 at.1 in
        let len : pc + length (line h k (instr.SkipIfZero (length b + 1)) ∷ (b ++ (skip ∷ c))) ≡ pc + 1 + length b + 1 + length c = omega (arith, length-append b (skip ∷ c)) in
        let stop = subst (λ p. Arrives (At rows p) z) len end in
        let rc = tc.2 rows (pc + 1 + length b + 1) hs.1 rs.1 stop in
        let at_skip = here rows (pc + 1 + length b) skip z hs.0 rs.0 in
        let rb = tb.2 rows (pc + 1) (has_front lines (pc + 1) b (skip ∷ c) has.1) (rows_front rows (pc + 1) tb.0 (z ∷ tc.0) at.1) at_skip in
        let far : pc + 1 + length b + 1 ≡ pc + 1 + (length b + 1) = omega arith in (
          here rows pc _ (push Number x) has.0 at.0,
          (
            subst (λ r. Keeps m f rows pc r (instr.SkipIfZero (length b + 1))) (sym at.0) (omega arith, tt, (rb.0, subst (λ p. Arrives (At rows p) x) far rc.0)),
            all_joined rows (pc + 1) b (skip ∷ c) rb.1 (subst (λ r. Keeps m f rows (pc + 1 + length b) r (instr.Skip (length c))) (sym rs.0) (omega arith, tt, stop), rc.1),
          ),
        ),
  )

  -- ---- guards and bodies

  abbrev pub AllTell : List Guarded → Type 0
  AllTell [] = Unit {0}
  AllTell (b ∷ bs) = Tells b.guard nothing number × Tells b.body nothing nothing × AllTell bs

  pub first_tells : (bs : List Guarded) (rest : List Line) → AllTell bs → Tells rest nothing nothing → Tells (first_code bs rest) nothing nothing
  first_tells [] rest all h = h
  first_tells (b ∷ bs) rest all h =
      tells_join b.guard _ nothing number nothing all.0 (tells_choice 1 0 0 0 nothing nothing b.body (first_code bs rest) all.1 (first_tells bs rest all.2 h))

  abbrev body_rows : (bs : List Guarded) → AllTell bs → List Known
  body_rows [] all = []
  body_rows (b ∷ bs) all = all.1.0 ++ (nothing ∷ body_rows bs all.2)

  abbrev guard_rows : (bs : List Guarded) → AllTell bs → List Known
  guard_rows [] all = []
  guard_rows (b ∷ bs) all = all.0.0 ++ (number ∷ guard_rows bs all.2)

  bodies_count : (bs : List Guarded) (all : AllTell bs) → length (body_rows bs all) ≡ length (bodies_code bs)
  bodies_count [] all = refl
  bodies_count (b ∷ bs) all =
      let rest = bodies_count bs all.2 in
      omega (arith, rest, all.1.1, length-append all.1.0 (nothing ∷ body_rows bs all.2), length-append b.body (line 0 0 (instr.Skip (length (bodies_code bs))) ∷ bodies_code bs))

  guards_count : (bs : List Guarded) (all : AllTell bs) (far : ℕ) → length (guard_rows bs all) ≡ length (guards_code far bs)
  guards_count [] all far = refl
  guards_count (b ∷ bs) all far =
      let rest = guards_count bs all.2 (far + length b.guard - length b.body) in
      omega (arith, rest, all.0.1, length-append all.0.0 (number ∷ guard_rows bs all.2), length-append b.guard (line 1 0 (instr.EnterBack (far + length b.guard)) ∷ guards_code (far + length b.guard - length b.body) bs))

  bodies_start : (bs : List Guarded) (all : AllTell bs) (rows : Rows) (pc : ℕ) → HasAt lines pc (bodies_code bs) → RowsAt rows pc (body_rows bs all) → Arrives (At rows (pc + length (bodies_code bs))) nothing → Arrives (At rows pc) nothing
  bodies_start [] all rows pc has at e = let same : pc + 0 ≡ pc = omega arith in subst (λ p. Arrives (At rows p) nothing) same e
  bodies_start (b ∷ bs) all rows pc has at e =
      let hs = has_back lines pc b.body _ has in
      let rs = rows_back rows pc (length b.body) all.1.0 _ all.1.1 at in
      (all.1.2 rows pc (has_front lines pc b.body _ has) (rows_front rows pc all.1.0 _ at) (here rows (pc + length b.body) _ nothing hs.0 rs.0)).0

  bodies_keep : (bs : List Guarded) (all : AllTell bs) (rows : Rows) (pc : ℕ) → HasAt lines pc (bodies_code bs) → RowsAt rows pc (body_rows bs all) → Arrives (At rows (pc + length (bodies_code bs))) nothing → AllKeep rows pc (bodies_code bs)
  bodies_keep [] all rows pc has at e = tt
  bodies_keep (b ∷ bs) all rows pc has at e =
      let skip = line 0 0 (instr.Skip (length (bodies_code bs))) in
      let hs = has_back lines pc b.body (skip ∷ bodies_code bs) has in
      let rs = rows_back rows pc (length b.body) all.1.0 (nothing ∷ body_rows bs all.2) all.1.1 at in
      let len : pc + length (b.body ++ (skip ∷ bodies_code bs)) ≡ pc + length b.body + 1 + length (bodies_code bs) = omega (arith, length-append b.body (skip ∷ bodies_code bs)) in
      let end = subst (λ p. Arrives (At rows p) nothing) len e in
      let body = all.1.2 rows pc (has_front lines pc b.body _ has) (rows_front rows pc all.1.0 _ at) (here rows (pc + length b.body) skip nothing hs.0 rs.0) in
      all_joined rows pc b.body (skip ∷ bodies_code bs) body.1
      (subst (λ r. Keeps m f rows (pc + length b.body) r skip.instr) (sym rs.0) (omega arith, tt, end), bodies_keep bs all.2 rows (pc + length b.body + 1) hs.1 rs.1 end)

  guards_start : (bs : List Guarded) (all : AllTell bs) (far : ℕ) (rows : Rows) (pc : ℕ) → HasAt lines pc (guards_code far bs) → RowsAt rows pc (guard_rows bs all) → Arrives (At rows (pc + length (guards_code far bs))) nothing → Arrives (At rows pc) nothing
  guards_start [] all far rows pc has at e = let same : pc + 0 ≡ pc = omega arith in subst (λ p. Arrives (At rows p) nothing) same e
  guards_start (b ∷ bs) all far rows pc has at e =
      let hs = has_back lines pc b.guard _ has in
      let rs = rows_back rows pc (length b.guard) all.0.0 _ all.0.1 at in
      (all.0.2 rows pc (has_front lines pc b.guard _ has) (rows_front rows pc all.0.0 _ at) (here rows (pc + length b.guard) _ number hs.0 rs.0)).0

  -- the bodies begin at base, the guards so far after
  guards_keep : (bs : List Guarded) (all : AllTell bs) (far base : ℕ) (rows : Rows) (pc : ℕ) → pc ≡ base + far → length (bodies_code bs) ≤ far → HasAt lines base (bodies_code bs) → RowsAt rows base (body_rows bs all) → Arrives (At rows (base + length (bodies_code bs))) nothing → HasAt lines pc (guards_code far bs) → RowsAt rows pc (guard_rows bs all) → Arrives (At rows (pc + length (guards_code far bs))) nothing → AllKeep rows pc (guards_code far bs)
  guards_keep [] all far base rows pc same le bodies below mid has at e = tt
  guards_keep (b ∷ bs) all far base rows pc same le bodies below mid has at e =
      let skip = line 0 0 (instr.Skip (length (bodies_code bs))) in
      let back = line 1 0 (instr.EnterBack (far + length b.guard)) in
      let rest = guards_code (far + length b.guard - length b.body) bs in
      let hs = has_back lines pc b.guard (back ∷ rest) has in
      let rs = rows_back rows pc (length b.guard) all.0.0 (number ∷ guard_rows bs all.2) all.0.1 at in
      let hb = has_back lines base b.body (skip ∷ bodies_code bs) bodies in
      let rb = rows_back rows base (length b.body) all.1.0 (nothing ∷ body_rows bs all.2) all.1.1 below in
      let sum = length-append b.body (skip ∷ bodies_code bs) in
      let len : pc + length (b.guard ++ (back ∷ rest)) ≡ pc + length b.guard + 1 + length rest = omega (arith, length-append b.guard (back ∷ rest)) in
      let end = subst (λ p. Arrives (At rows p) nothing) len e in
      let len' : base + length (b.body ++ (skip ∷ bodies_code bs)) ≡ base + length b.body + 1 + length (bodies_code bs) = omega (arith, sum) in
      let mid' = subst (λ p. Arrives (At rows p) nothing) len' mid in
      let next = guards_start bs all.2 (far + length b.guard - length b.body) rows (pc + length b.guard + 1) hs.1 rs.1 end in
      let begin = bodies_start (b ∷ bs) all rows base bodies below mid in
      let there : base ≡ pc + length b.guard - (far + length b.guard) = omega (arith, same) in
      let guard = all.0.2 rows pc (has_front lines pc b.guard _ has) (rows_front rows pc all.0.0 _ at) (here rows (pc + length b.guard) back number hs.0 rs.0) in
      all_joined rows pc b.guard (back ∷ rest) guard.1 (
        subst (λ r. Keeps m f rows (pc + length b.guard) r back.instr) (sym rs.0) (omega arith, tt, (next, subst (λ p. Arrives (At rows p) nothing) there begin)),
        guards_keep bs all.2 (far + length b.guard - length b.body) (base + length b.body + 1) rows (pc + length b.guard + 1) (omega (arith, same, le, sum)) (omega (arith, le, sum)) hb.1 rb.1 mid' hs.1 rs.1 end,
      )

  pub loop_tells : (bs : List Guarded) → AllTell bs → Tells (loop_code bs) nothing nothing
  loop_tells bs all =
      let cb = bodies_code bs in
      let cg = guards_code (length cb) bs in
      let ra = body_rows bs all in
      let rg = guard_rows bs all in
      let na = bodies_count bs all in
      let ng = guards_count bs all (length cb) in (
        nothing ∷ (ra ++ rg),
        omega (arith, na, ng, length-append ra rg, length-append cb cg),
        λ rows pc has at e.
            let hb = has_front lines (pc + 1) cb cg has.1 in
            let hg = has_back lines (pc + 1) cb cg has.1 in
            let wb = rows_front rows (pc + 1) ra rg at.1 in
            let wg = rows_back rows (pc + 1) (length cb) ra rg na at.1 in
            let len : pc + length (loop_code bs) ≡ pc + 1 + length cb + length cg = omega (arith, length-append cb cg) in
            let end = subst (λ p. Arrives (At rows p) nothing) len e in
            let mid = guards_start bs all (length cb) rows (pc + 1 + length cb) hg wg end in (
              here rows pc _ nothing has.0 at.0,
              (
                subst (λ r. Keeps m f rows pc r (instr.Skip (length cb))) (sym at.0) (omega arith, tt, mid),
                all_joined rows (pc + 1) cb cg (bodies_keep bs all rows (pc + 1) hb wb mid) (guards_keep bs all (length cb) (pc + 1) rows (pc + 1 + length cb) refl (omega arith) hb wb mid hg wg end),
              ),
            ),
      )

  pub repeat_tells : (body until : List Line) → Tells body nothing nothing → Tells until nothing number → Tells (repeat_code body until) nothing nothing
  repeat_tells body until tb tu =
      let not = line 1 0 (instr.Unary Not 0) in
      let back = line 1 0 (instr.EnterBack (length body + length until + 1)) in
      let tail = not ∷ (back ∷ []) in
      let last : List Known = number ∷ (number ∷ []) in (
        nothing ∷ (tb.0 ++ (tu.0 ++ last)),
        omega (arith, tb.1, tu.1, length-append tb.0 (tu.0 ++ last), length-append tu.0 last, length-append body (until ++ tail), length-append until tail),
        λ rows pc has at e.
            let hu = has_back lines (pc + 1) body (until ++ tail) has.1 in
            let ht = has_back lines (pc + 1 + length body) until tail hu in
            let wu = rows_back rows (pc + 1) (length body) tb.0 (tu.0 ++ last) tb.1 at.1 in
            let wt = rows_back rows (pc + 1 + length body) (length until) tu.0 last tu.1 wu in
            let len : pc + length (repeat_code body until) ≡ pc + 1 + length body + length until + 1 + 1 = omega (arith, length-append body (until ++ tail), length-append until tail) in
            let end = subst (λ p. Arrives (At rows p) nothing) len e in
            let at_not = here rows (pc + 1 + length body + length until) not number ht.0 wt.0 in
            let at_back = here rows (pc + 1 + length body + length until + 1) back number ht.1.0 wt.1.0 in
            let ru = tu.2 rows (pc + 1 + length body) (has_front lines (pc + 1 + length body) until tail hu) (rows_front rows (pc + 1 + length body) tu.0 last wu) at_not in
            let rb = tb.2 rows (pc + 1) (has_front lines (pc + 1) body (until ++ tail) has.1) (rows_front rows (pc + 1) tb.0 (tu.0 ++ last) at.1) ru.0 in
            let there : pc + 1 ≡ pc + 1 + length body + length until + 1 - (length body + length until + 1) = omega arith in (
              here rows pc _ nothing has.0 at.0,
              (
                subst (λ r. Keeps m f rows pc r instr.Enter) (sym at.0) (omega arith, tt, rb.0),
                all_joined rows (pc + 1) body (until ++ tail) rb.1 (all_joined rows (pc + 1 + length body) until tail ru.1 (
                  subst (λ r. Keeps m f rows (pc + 1 + length body + length until) r not.instr) (sym wt.0) (omega arith, tt, at_back),
                  (subst (λ r. Keeps m f rows (pc + 1 + length body + length until + 1) r back.instr) (sym wt.1.0) (omega arith, tt, (end, subst (λ p. Arrives (At rows p) nothing) there rb.0)), tt),
                )),
              ),
            ),
      )

  -- ---- CASE

  abbrev label_rows : List LabelRange → List Known
  label_rows [] = []
  label_rows (r ∷ rs) = number ∷ label_rows rs

  labels_length : (ls : List LabelRange) → length (labels_code ls) ≡ length ls
  labels_length [] = refl
  labels_length (r ∷ rs) = let e = labels_length rs in omega (arith, e)

  label_rows_length : (ls : List LabelRange) → length (label_rows ls) ≡ length (labels_code ls)
  label_rows_length [] = refl
  label_rows_length (r ∷ rs) = let e = label_rows_length rs in omega (arith, e)

  labels_start : (ls : List LabelRange) (rows : Rows) (pc : ℕ) → HasAt lines pc (labels_code ls) → RowsAt rows pc (label_rows ls) → Arrives (At rows (pc + length (labels_code ls))) number → Arrives (At rows pc) number
  labels_start [] rows pc has at e = let same : pc + 0 ≡ pc = omega arith in subst (λ p. Arrives (At rows p) number) same e
  labels_start (r ∷ rs) rows pc has at e = here rows pc _ number has.0 at.0

  labels_keep : (ls : List LabelRange) (rows : Rows) (pc : ℕ) → HasAt lines pc (labels_code ls) → RowsAt rows pc (label_rows ls) → Arrives (At rows (pc + length (labels_code ls))) number → Arrives (At rows (pc + length (labels_code ls) + 1)) number → AllKeep rows pc (labels_code ls)
  labels_keep [] rows pc has at e there = tt
  labels_keep (r ∷ rs) rows pc has at e there =
      let count = labels_length rs in
      let next : pc + length (labels_code (r ∷ rs)) ≡ pc + 1 + length (labels_code rs) = omega arith in
      let e' = subst (λ p. Arrives (At rows p) number) next e in
      let past : pc + length (labels_code (r ∷ rs)) + 1 ≡ pc + 1 + (length rs + 1) = omega (arith, count) in
      let later : pc + length (labels_code (r ∷ rs)) + 1 ≡ pc + 1 + length (labels_code rs) + 1 = omega arith in (
        subst (λ k. Keeps m f rows pc k (instr.SkipIfWithin r.first r.last (length rs + 1))) (sym at.0)
            (omega arith, tt, (labels_start rs rows (pc + 1) has.1 at.1 e', subst (λ p. Arrives (At rows p) number) past there)),
        labels_keep rs rows (pc + 1) has.1 at.1 e' (subst (λ p. Arrives (At rows p) number) later there),
      )

  pub arm_tells : (ls : List LabelRange) (body rest : List Line) → Tells body nothing nothing → Tells rest number nothing → Tells (arm_code ls body rest) number nothing
  arm_tells ls body rest tb tr =
      let cl = labels_code ls in
      let skip = line 0 0 (instr.Skip (length rest)) in
      let drop = line 1 0 instr.Drop in
      let past = line 1 0 (instr.Skip (length body + 2)) in
      let tail = past ∷ (drop ∷ (body ++ (skip ∷ rest))) in
      let others : List Known = number ∷ (number ∷ (tb.0 ++ (nothing ∷ tr.0))) in
      let nl = label_rows_length ls in (
        label_rows ls ++ others,
        omega (arith, nl, tb.1, tr.1, length-append (label_rows ls) others, length-append tb.0 (nothing ∷ tr.0), length-append cl tail, length-append body (skip ∷ rest)),
        λ rows pc has at e.
            let p = pc + length cl in
            let ht = has_back lines pc cl tail has in
            let wt = rows_back rows pc (length cl) (label_rows ls) others nl at in
            let hr = has_back lines (p + 1 + 1) body (skip ∷ rest) ht.1.1 in
            let wr = rows_back rows (p + 1 + 1) (length body) tb.0 (nothing ∷ tr.0) tb.1 wt.1.1 in
            let len : pc + length (cl ++ tail) ≡ p + 1 + 1 + length body + 1 + length rest = omega (arith, length-append cl tail, length-append body (skip ∷ rest)) in
            let end = subst (λ q. Arrives (At rows q) nothing) len e in
            let rr = tr.2 rows (p + 1 + 1 + length body + 1) hr.1 wr.1 end in
            let at_skip = here rows (p + 1 + 1 + length body) skip nothing hr.0 wr.0 in
            let rb = tb.2 rows (p + 1 + 1) (has_front lines (p + 1 + 1) body (skip ∷ rest) ht.1.1) (rows_front rows (p + 1 + 1) tb.0 (nothing ∷ tr.0) wt.1.1) at_skip in
            let at_past = here rows p past number ht.0 wt.0 in
            let at_drop = here rows (p + 1) drop number ht.1.0 wt.1.0 in
            let far : p + 1 + 1 + length body + 1 ≡ p + 1 + (length body + 2) = omega arith in
            let hl = has_front lines pc cl tail has in
            let wl = rows_front rows pc (label_rows ls) others at in (
              labels_start ls rows pc hl wl at_past,
              all_joined rows pc cl tail (labels_keep ls rows pc hl wl at_past at_drop) (
                subst (λ k. Keeps m f rows p k past.instr) (sym wt.0) (omega arith, tt, subst (λ q. Arrives (At rows q) number) far rr.0),
                (
                  subst (λ k. Keeps m f rows (p + 1) k instr.Drop) (sym wt.1.0) (omega arith, tt, rb.0),
                  all_joined rows (p + 1 + 1) body (skip ∷ rest) rb.1 (subst (λ k. Keeps m f rows (p + 1 + 1 + length body) k skip.instr) (sym wr.0) (omega arith, tt, end), rr.1),
                ),
              ),
            ),
      )

  -- ---- all lines

  keep_at : (rows : Rows) (pc k : ℕ) (c : List Line) (l : Line) → AllKeep rows pc c → slice_get c k ≡ Some l → Keeps m f rows (pc + k) (rows (pc + k)) l.instr
  keep_at rows pc k [] l all e = absurd (let x : None ≡ Some l = e in cc)
  keep_at rows pc zero (x ∷ c) l all e =
      let same : x ≡ l = cc in
      let at : pc ≡ pc + 0 = omega arith in
      subst (λ p. Keeps m f rows p (rows p) l.instr) at (subst (λ (y : Line). Keeps m f rows pc (rows pc) y.instr) same all.0)
  keep_at rows pc (suc k) (x ∷ c) l all e =
      let at : pc + 1 + k ≡ pc + suc k = omega arith in
      subst (λ p. Keeps m f rows p (rows p) l.instr) at (keep_at rows (pc + 1) k c l all.1 e)

  abbrev pub result : Known
  result = with_results f.entry.is_function nothing

  ends : (rows : Rows) → Arrives (At rows (length lines)) result
  ends rows =
      let itself : nat_eq (length lines) (length lines) ≡ true = grind (arith, nat_tests) in
      let past = ap (λ o. known_of o (rows (length lines)) f.entry.is_function (length lines) (length lines)) (slice_get_past lines (length lines) (omega arith)) in
      let last = ap (λ b. if b then Some ended else None) itself in
      subst (λ o. Arrives o result) (sym (past ∙ last)) (covered f.entry.is_function)
    where
      ended : Known
      ended = record { operands = results_kinds f.entry.is_function; names = [] }

      covered : (b : Bool) → CoverKnown (record { operands = results_kinds b; names = [] }) (with_results b nothing)
      covered true = ((tt, tt), refl)
      covered false = (tt, refl)

  pub whole_tells : length f.entry.kinds ≡ f.entry.names → Tells lines nothing result → HasKinds m f
  whole_tells counted t =
      let rows = listed t.0 in
      let zero_on : length lines ≡ 0 + length lines = omega arith in
      let r = t.2 rows 0 (has_all lines []) (rows_whole t.0) (subst (λ p. Arrives (At rows p) result) zero_on (ends rows)) in
      record {
        counted = counted;
        rows = rows;
        opens = r.0;
        each = λ place l e. let here : 0 + place ≡ place = omega arith in subst (λ p. Keeps m f rows p (rows p) l.instr) here (keep_at rows 0 place lines l r.1 e);
      }
