-- Code that leads from one height to another.
use Rattle.std.proofs.Common.{◌≡◌, ℕ, zero, suc, ◌+◌, ◌-◌, ◌≤◌, List, [], ◌∷◌, ◌++◌, length, Option, Some, None, refl, ap, ◌∙◌, subst, arith, length-append, true}
use Rattle.std.specs.Prelude.{slice_get, nat_eq, if◌then◌else◌}
use Rattle.std.proofs.lemmas.Option.{slice_get_past}
use Rattle.std.proofs.lemmas.Bool.Decides.{nat_tests}
use Rattle.ob_mean.specs.declared.statement.LabelRange.{LabelRange}
use Rattle.ob_mean.specs.declared.operator.UnaryOperator.TheVariants.{Not}
use Rattle.ob_code.specs.declared.instr.Instr.TheVariants as instr
use Rattle.ob_code.specs.declared.instr.Line.{Line}
use Rattle.ob_code.specs.declared.instr.Height.{Height}
use Rattle.ob_code.specs.declared.instr.Procedure.{Procedure}
use Rattle.ob_code.specs.declared.instr.CodeModule.{CodeModule}
use Rattle.ob_code.specs.Valid.{height, results, height_of, height_at, Fits, LinesFit}
use Rattle.ob_gen.specs.Code.{line, Guarded, first_code, bodies_code, guards_code, loop_code, repeat_code, labels_code, arm_code}
use Rattle.ob_gen.proofs.machine.Reaches.{HasAt, has_front, has_back, has_all}

-- all operands and names are gone
abbrev pub none : Height
none = height 0 0

-- one operand is there
abbrev pub one : Height
one = height 1 0

module _ (m : CodeModule) (f : Procedure) (lines : List Line) where
  abbrev pub at : ℕ → Option Height
  at pc = height_at f.entry.is_function lines pc

  -- these lines, which stand from this place on, fit
  abbrev pub AllFit : ℕ → List Line → Type 0
  AllFit pc [] = Unit {0}
  AllFit pc (l ∷ ls) = Fits m f lines pc l.operands l.names l.instr × AllFit (pc + 1) ls

  pub join : (pc : ℕ) (a b : List Line) → AllFit pc a → AllFit (pc + length a) b → AllFit pc (a ++ b)
  join pc [] b fa fb = let e : pc + 0 ≡ pc = omega arith in subst (λ p. AllFit p b) e fb
  join pc (l ∷ a) b fa fb =
      let e : pc + length (l ∷ a) ≡ pc + 1 + length a = omega arith in
      (fa.0, join (pc + 1) a b fa.1 (subst (λ p. AllFit p b) e fb))

  -- the height before a line that stands there
  pub height_here : (pc : ℕ) (l : Line) → slice_get lines pc ≡ Some l → at pc ≡ Some (height l.operands l.names)
  height_here pc l e = ap (λ o. height_of o f.entry.is_function pc (length lines)) e

  -- wherever this code stands, and this height is expected after it, the other is before it, and its lines fit
  abbrev pub Flows : List Line → Height → Height → Type 0
  Flows c x y = (pc : ℕ) → HasAt lines pc c → at (pc + length c) ≡ Some y → (at pc ≡ Some x) × AllFit pc c

  pub flows_none : (x : Height) → Flows [] x x
  flows_none x pc has e = let here : pc + 0 ≡ pc = omega arith in (subst (λ p. at p ≡ Some x) here e, tt)

  pub flows_join : (a b : List Line) (x y z : Height) → Flows a x y → Flows b y z → Flows (a ++ b) x z
  flows_join a b x y z fa fb pc has e =
      let len : pc + length (a ++ b) ≡ pc + length a + length b = omega (arith, length-append a b) in
      let rb = fb (pc + length a) (has_back lines pc a b has) (subst (λ p. at p ≡ Some z) len e) in
      let ra = fa pc (has_front lines pc a b has) rb.0 in
      (ra.0, join pc a b ra.1 rb.1)

  pub flows_to : (c : List Line) (x y z : Height) → y ≡ z → Flows c x y → Flows c x z
  flows_to c x y z e h = subst (λ w. Flows c x w) e h

  pub flows_one : (l : Line) (x y : Height) → height l.operands l.names ≡ x → ((pc : ℕ) → slice_get lines pc ≡ Some l → at (pc + 1) ≡ Some y → Fits m f lines pc l.operands l.names l.instr) → Flows (l ∷ []) x y
  flows_one l x y same fit pc has e =
      let here : pc + length (l ∷ []) ≡ pc + 1 = omega arith in
      (height_here pc l has.0 ∙ ap Some same, (fit pc has.0 (subst (λ p. at p ≡ Some y) here e), tt))

  -- a line and code after it
  pub flows_then : (l : Line) (c : List Line) (x y z : Height) → height l.operands l.names ≡ x → ((pc : ℕ) → slice_get lines pc ≡ Some l → at (pc + 1) ≡ Some y → Fits m f lines pc l.operands l.names l.instr) → Flows c y z → Flows (l ∷ c) x z
  flows_then l c x y z same fit h = flows_join (l ∷ []) c x y z (flows_one l x y same fit) h

  -- another number of operands that is the same
  pub becomes : (pc h h' k : ℕ) → h ≡ h' → at pc ≡ Some (height h k) → at pc ≡ Some (height h' k)
  becomes pc h h' k same e = e ∙ ap (λ x. Some (height x k)) same

  -- a number decides between two pieces that lead to one height
  pub flows_choice : (h k : ℕ) (z : Height) (b c : List Line) → Flows b (height h k) z → Flows c (height h k) z → Flows (line (h + 1) k (instr.SkipIfZero (length b + 1)) ∷ (b ++ (line z.operands z.names (instr.Skip (length c)) ∷ c))) (height (h + 1) k) z
  flows_choice h k z b c fb fc pc has e =
      let skip = line z.operands z.names (instr.Skip (length c)) in
      let hs = has_back lines (pc + 1) b (skip ∷ c) has.1 in
      let len : pc + length (line (h + 1) k (instr.SkipIfZero (length b + 1)) ∷ (b ++ (skip ∷ c))) ≡ pc + 1 + length b + 1 + length c = omega (arith, length-append b (skip ∷ c)) in
      let end : at (pc + 1 + length b + 1 + length c) ≡ Some z = subst (λ p. at p ≡ Some z) len e in
      let rc = fc (pc + 1 + length b + 1) hs.1 end in
      let rb = fb (pc + 1) (has_front lines (pc + 1) b (skip ∷ c) has.1) (height_here (pc + 1 + length b) skip hs.0) in
      let far : pc + 1 + length b + 1 ≡ pc + 1 + (length b + 1) = omega arith in
      let less : h ≡ h + 1 - 1 = omega arith in (
        height_here pc _ has.0,
        (
          (omega arith, becomes (pc + 1) h (h + 1 - 1) k less rb.0, becomes (pc + 1 + (length b + 1)) h (h + 1 - 1) k less (subst (λ p. at p ≡ Some (height h k)) far rc.0)),
          join (pc + 1) b (skip ∷ c) rb.1 (end, rc.1),
        ),
      )

  -- ---- guards and bodies

  abbrev pub AllFlow : List Guarded → Type 0
  AllFlow [] = Unit {0}
  AllFlow (b ∷ bs) = Flows b.guard none one × Flows b.body none none × AllFlow bs

  pub first_flows : (bs : List Guarded) (rest : List Line) → AllFlow bs → Flows rest none none → Flows (first_code bs rest) none none
  first_flows [] rest all h = h
  first_flows (b ∷ bs) rest all h =
      flows_join b.guard _ none one none all.0 (flows_choice 0 0 none b.body (first_code bs rest) all.1 (first_flows bs rest all.2 h))

  bodies_start : (bs : List Guarded) (pc : ℕ) → AllFlow bs → HasAt lines pc (bodies_code bs) → at (pc + length (bodies_code bs)) ≡ Some none → at pc ≡ Some none
  bodies_start [] pc all has e = let here : pc + 0 ≡ pc = omega arith in subst (λ p. at p ≡ Some none) here e
  bodies_start (b ∷ bs) pc all has e =
      let hs = has_back lines pc b.body _ has in
      (all.1 pc (has_front lines pc b.body _ has) (height_here (pc + length b.body) _ hs.0)).0

  bodies_fit : (bs : List Guarded) (pc : ℕ) → AllFlow bs → HasAt lines pc (bodies_code bs) → at (pc + length (bodies_code bs)) ≡ Some none → AllFit pc (bodies_code bs)
  bodies_fit [] pc all has e = tt
  bodies_fit (b ∷ bs) pc all has e =
      let skip = line 0 0 (instr.Skip (length (bodies_code bs))) in
      let hs = has_back lines pc b.body (skip ∷ bodies_code bs) has in
      let len : pc + length (b.body ++ (skip ∷ bodies_code bs)) ≡ pc + length b.body + 1 + length (bodies_code bs) = omega (arith, length-append b.body (skip ∷ bodies_code bs)) in
      let end = subst (λ p. at p ≡ Some none) len e in
      join pc b.body (skip ∷ bodies_code bs) (all.1 pc (has_front lines pc b.body _ has) (height_here (pc + length b.body) skip hs.0)).1
      (end, bodies_fit bs (pc + length b.body + 1) all.2 hs.1 end)

  guards_start : (bs : List Guarded) (far pc : ℕ) → AllFlow bs → HasAt lines pc (guards_code far bs) → at (pc + length (guards_code far bs)) ≡ Some none → at pc ≡ Some none
  guards_start [] far pc all has e = let here : pc + 0 ≡ pc = omega arith in subst (λ p. at p ≡ Some none) here e
  guards_start (b ∷ bs) far pc all has e =
      let hs = has_back lines pc b.guard _ has in
      (all.0 pc (has_front lines pc b.guard _ has) (height_here (pc + length b.guard) _ hs.0)).0

  -- the bodies begin at base, the guards so far after
  guards_fit : (bs : List Guarded) (far base pc : ℕ) → AllFlow bs → pc ≡ base + far → length (bodies_code bs) ≤ far → HasAt lines base (bodies_code bs) → at (base + length (bodies_code bs)) ≡ Some none → HasAt lines pc (guards_code far bs) → at (pc + length (guards_code far bs)) ≡ Some none → AllFit pc (guards_code far bs)
  guards_fit [] far base pc all same le bodies mid has e = tt
  guards_fit (b ∷ bs) far base pc all same le bodies mid has e =
      let skip = line 0 0 (instr.Skip (length (bodies_code bs))) in
      let back = line 1 0 (instr.EnterBack (far + length b.guard)) in
      let rest = guards_code (far + length b.guard - length b.body) bs in
      let hs = has_back lines pc b.guard (back ∷ rest) has in
      let hb = has_back lines base b.body (skip ∷ bodies_code bs) bodies in
      let sum = length-append b.body (skip ∷ bodies_code bs) in
      let len : pc + length (b.guard ++ (back ∷ rest)) ≡ pc + length b.guard + 1 + length rest = omega (arith, length-append b.guard (back ∷ rest)) in
      let end = subst (λ p. at p ≡ Some none) len e in
      let len' : base + length (b.body ++ (skip ∷ bodies_code bs)) ≡ base + length b.body + 1 + length (bodies_code bs) = omega (arith, sum) in
      let mid' = subst (λ p. at p ≡ Some none) len' mid in
      let next = guards_start bs (far + length b.guard - length b.body) (pc + length b.guard + 1) all.2 hs.1 end in
      let begin = bodies_start (b ∷ bs) base all bodies mid in
      let there : base ≡ pc + length b.guard - (far + length b.guard) = omega (arith, same) in
      join pc b.guard (back ∷ rest) (all.0 pc (has_front lines pc b.guard _ has) (height_here (pc + length b.guard) back hs.0)).1 (
        (omega arith, omega (arith, same), next, subst (λ p. at p ≡ Some none) there begin),
        guards_fit bs (far + length b.guard - length b.body) (base + length b.body + 1) (pc + length b.guard + 1) all.2 (omega (arith, same, le, sum)) (omega (arith, le, sum)) hb.1 mid' hs.1 end,
      )

  pub loop_flows : (bs : List Guarded) → AllFlow bs → Flows (loop_code bs) none none
  loop_flows bs all pc has e =
      let cb = bodies_code bs in
      let cg = guards_code (length cb) bs in
      let hb = has_front lines (pc + 1) cb cg has.1 in
      let hg = has_back lines (pc + 1) cb cg has.1 in
      let len : pc + length (loop_code bs) ≡ pc + 1 + length cb + length cg = omega (arith, length-append cb cg) in
      let end = subst (λ p. at p ≡ Some none) len e in
      let mid = guards_start bs (length cb) (pc + 1 + length cb) all hg end in (
        height_here pc _ has.0,
        (mid, join (pc + 1) cb cg (bodies_fit bs (pc + 1) all hb mid) (guards_fit bs (length cb) (pc + 1) (pc + 1 + length cb) all refl (omega arith) hb mid hg end)),
      )

  pub repeat_flows : (body until : List Line) → Flows body none none → Flows until none one → Flows (repeat_code body until) none none
  repeat_flows body until fb fu pc has e =
      let not = line 1 0 (instr.Unary Not 0) in
      let back = line 1 0 (instr.EnterBack (length body + length until + 1)) in
      let tail = not ∷ (back ∷ []) in
      let hu = has_back lines (pc + 1) body (until ++ tail) has.1 in
      let ht = has_back lines (pc + 1 + length body) until tail hu in
      let len : pc + length (repeat_code body until) ≡ pc + 1 + length body + length until + 1 + 1 = omega (arith, length-append body (until ++ tail), length-append until tail) in
      let end = subst (λ p. at p ≡ Some none) len e in
      let at_not = height_here (pc + 1 + length body + length until) not ht.0 in
      let at_back = height_here (pc + 1 + length body + length until + 1) back ht.1.0 in
      let ru = fu (pc + 1 + length body) (has_front lines (pc + 1 + length body) until tail hu) at_not in
      let rb = fb (pc + 1) (has_front lines (pc + 1) body (until ++ tail) has.1) ru.0 in
      let there : pc + 1 ≡ pc + 1 + length body + length until + 1 - (length body + length until + 1) = omega arith in (
        height_here pc _ has.0,
        (
          rb.0,
          join (pc + 1) body (until ++ tail) rb.1 (join (pc + 1 + length body) until tail ru.1
              ((omega arith, at_back), ((omega arith, omega arith, end, subst (λ p. at p ≡ Some none) there rb.0), tt))),
        ),
      )

  -- ---- CASE

  labels_length : (ls : List LabelRange) → length (labels_code ls) ≡ length ls
  labels_length [] = refl
  labels_length (r ∷ rs) = let e = labels_length rs in omega (arith, e)

  labels_start : (ls : List LabelRange) (pc : ℕ) → HasAt lines pc (labels_code ls) → at (pc + length (labels_code ls)) ≡ Some one → at pc ≡ Some one
  labels_start [] pc has e = let here : pc + 0 ≡ pc = omega arith in subst (λ p. at p ≡ Some one) here e
  labels_start (r ∷ rs) pc has e = height_here pc _ has.0

  labels_fit : (ls : List LabelRange) (pc : ℕ) → HasAt lines pc (labels_code ls) → at (pc + length (labels_code ls)) ≡ Some one → at (pc + length (labels_code ls) + 1) ≡ Some one → AllFit pc (labels_code ls)
  labels_fit [] pc has e there = tt
  labels_fit (r ∷ rs) pc has e there =
      let count = labels_length rs in
      let here : pc + length (labels_code (r ∷ rs)) ≡ pc + 1 + length (labels_code rs) = omega arith in
      let e' = subst (λ p. at p ≡ Some one) here e in
      let past : pc + length (labels_code (r ∷ rs)) + 1 ≡ pc + 1 + (length rs + 1) = omega (arith, count) in
      let later : pc + length (labels_code (r ∷ rs)) + 1 ≡ pc + 1 + length (labels_code rs) + 1 = omega arith in (
        (omega arith, labels_start rs (pc + 1) has.1 e', subst (λ p. at p ≡ Some one) past there),
        labels_fit rs (pc + 1) has.1 e' (subst (λ p. at p ≡ Some one) later there),
      )

  pub arm_flows : (ls : List LabelRange) (body rest : List Line) → Flows body none none → Flows rest one none → Flows (arm_code ls body rest) one none
  arm_flows ls body rest fb fr pc has e =
      let cl = labels_code ls in
      let skip = line 0 0 (instr.Skip (length rest)) in
      let drop = line 1 0 instr.Drop in
      let past = line 1 0 (instr.Skip (length body + 2)) in
      let tail = past ∷ (drop ∷ (body ++ (skip ∷ rest))) in
      let p = pc + length cl in
      let ht = has_back lines pc cl tail has in
      let hr = has_back lines (p + 1 + 1) body (skip ∷ rest) ht.1.1 in
      let len : pc + length (cl ++ tail) ≡ p + 1 + 1 + length body + 1 + length rest = omega (arith, length-append cl tail, length-append body (skip ∷ rest)) in
      let end = subst (λ q. at q ≡ Some none) len e in
      let rr = fr (p + 1 + 1 + length body + 1) hr.1 end in
      let rb = fb (p + 1 + 1) (has_front lines (p + 1 + 1) body (skip ∷ rest) ht.1.1) (height_here (p + 1 + 1 + length body) skip hr.0) in
      let at_past = height_here p past ht.0 in
      let at_drop = height_here (p + 1) drop ht.1.0 in
      let far : p + 1 + 1 + length body + 1 ≡ p + 1 + (length body + 2) = omega arith in
      let hl = has_front lines pc cl tail has in (
        labels_start ls pc hl at_past,
        join pc cl tail (labels_fit ls pc hl at_past at_drop)
            (subst (λ q. at q ≡ Some one) far rr.0, ((omega arith, rb.0), join (p + 1 + 1) body (skip ∷ rest) rb.1 (end, rr.1))),
      )

  -- ---- all lines

  fit_at : (pc k : ℕ) (c : List Line) (l : Line) → AllFit pc c → slice_get c k ≡ Some l → Fits m f lines (pc + k) l.operands l.names l.instr
  fit_at pc k [] l all e = absurd (let x : None ≡ Some l = e in cc)
  fit_at pc zero (x ∷ c) l all e =
      let same : x ≡ l = cc in
      let here : pc ≡ pc + 0 = omega arith in
      subst (λ p. Fits m f lines p l.operands l.names l.instr) here (subst (λ (y : Line). Fits m f lines pc y.operands y.names y.instr) same all.0)
  fit_at pc (suc k) (x ∷ c) l all e =
      let here : pc + 1 + k ≡ pc + suc k = omega arith in
      subst (λ p. Fits m f lines p l.operands l.names l.instr) here (fit_at (pc + 1) k c l all.1 e)

  height_end : at (length lines) ≡ Some (height (results f.entry.is_function) 0)
  height_end =
      let itself : nat_eq (length lines) (length lines) ≡ true = grind (arith, nat_tests) in
      ap (λ o. height_of o f.entry.is_function (length lines) (length lines)) (slice_get_past lines (length lines) (omega arith))
      ∙ ap (λ b. if b then Some (height (results f.entry.is_function) 0) else None) itself

  pub whole_fits : Flows lines none (height (results f.entry.is_function) 0) → LinesFit m f lines
  whole_fits h =
      let zero_on : length lines ≡ 0 + length lines = omega arith in
      let r = h 0 (has_all lines []) (subst (λ p. at p ≡ Some (height (results f.entry.is_function) 0)) zero_on height_end) in
      record {
        opens = r.0;
        each = λ place l e. let here : 0 + place ≡ place = omega arith in subst (λ p. Fits m f lines p l.operands l.names l.instr) here (fit_at 0 place lines l r.1 e);
      }
