-- What runs keep: turns and lines never come back, what is written stays and grows by turns alone, and what was written
-- before makes no difference.
use Rattle.std.proofs.Common.{◌≡◌, ℕ, zero, suc, ◌+◌, ◌*◌, ◌≤◌, ℤ, pos, negsuc, ◌+ℤ◌, List, [], ◌∷◌, ◌++◌, length, Bool, true, false, Option, Some, None, refl, sym, ap, ◌∙◌, subst, arith, append_assoc, append-nil}
use Rattle.std.specs.Prelude.{slice_get, nat_lt, cond}
use Rattle.ob_inout.specs.declared.answer.Answer.{Answer}
use Rattle.ob_inout.specs.declared.answer.Answer.TheVariants as answer
use Rattle.ob_inout.specs.Reading.{Line as InputLine, Input, Reading, read_string, read_name}
use Rattle.ob_inout.specs.Writing.{int_text, char_text, string_text, line_end}
use Rattle.ob_mean.specs.declared.expression.Callee.{Callee}
use Rattle.ob_mean.specs.declared.operator.Relation.{Relation}
use Rattle.ob_mean.specs.declared.outcome.Outcome.{Outcome}
use Rattle.ob_mean.specs.declared.outcome.Outcome.TheVariants.{Ended, Trapped, Stopped, NeedsLine}
use Rattle.ob_mean.specs.declared.outcome.TrapKind.{TrapKind}
use Rattle.ob_mean.specs.declared.outcome.TurnKind.{TurnKind}
use Rattle.ob_mean.specs.declared.outcome.TurnKind.TheVariants as kind
use Rattle.ob_mean.specs.Texts.{character, before_zero}
use Rattle.ob_mean.specs.Arithmetic.{Computed, Gives, Faults, wrap, truth, apply, apply_one, texts_relate}
use Rattle.ob_mean.specs.Runs.{Supply, supply, choose}
use Rattle.ob_mean.specs.Input.{mapped}
use Rattle.ob_mean.specs.Programs.{max_depth}
use Rattle.ob_code.specs.declared.instr.Root.{Root}
use Rattle.ob_code.specs.declared.instr.Root.TheVariants.{OfModule, OfImport, OfCall, Named}
use Rattle.ob_code.specs.declared.instr.Length.{Length}
use Rattle.ob_code.specs.declared.instr.Length.TheVariants.{Elements, OfName}
use Rattle.ob_code.specs.declared.instr.Target.{Target}
use Rattle.ob_code.specs.declared.instr.Target.TheVariants as target
use Rattle.ob_code.specs.declared.instr.Instr.{Instr}
use Rattle.ob_code.specs.declared.instr.Instr.TheVariants.{Push, Drop, PushDone, Unary, Operate, Load, Store, LoadAt, StoreAt, AdjustAt, AddOffset, Index, TakeLength, Copy, StoreText, RelateTexts, NamePlace, NameArray, NameRecord, NameAgain, Test, Guard, Skip, SkipIfZero, SkipIfWithin, Enter, EnterBack, Trap, Assert, Invoke, OpenInput, CallInput, Read, AskLine, TakeLine, OpenOutput, PutChar, PutText, PutInt, PutLine}
use Rattle.ob_code.specs.declared.instr.Line.{Line}
use Rattle.ob_code.specs.declared.instr.Procedure.{Procedure}
use Rattle.ob_code.specs.declared.instr.Frame.{Frame}
use Rattle.ob_mean.specs.RecordTypes.{extends, cells_of}
use Rattle.ob_code.specs.Machine.{Code, Config, Effect, Moves, Turns, Reads, Fails, Finishes, Misses, procedure_in, lines_of, go, on, with_names, untold, name_at, type_of, object, elements, within, at_cells, overwritten, put, with_buffer, text_cells, characters_at, on_top, on_two, operated, indexed, stored_text, target_of, number_of, found, invoked, returned, found_in, target_object, kept, perform, act, effect, Point, Going, Standing, Lost, take_effect, after, Comes}
use Rattle.ob_code.proofs.machine.Runs.{stays, goes_on, moves, takes_turn, has_no_turn, takes_line, has_no_line, finishes, fails, after-standing, after-lost}

abbrev standing_supply : Point → Supply → Supply
standing_supply (Going n c) d = d
standing_supply (Standing why n c) d = n
standing_supply Lost d = d

abbrev standing_config : Point → Config → Config
standing_config (Going n c) d = d
standing_config (Standing why n c) d = c
standing_config Lost d = d

abbrev standing_why : Point → Outcome → Outcome
standing_why (Going n c) d = d
standing_why (Standing why n c) d = why
standing_why Lost d = d

-- ---- what a step writes

abbrev Writes : Config → Effect → Type 0
Writes c (Moves c') = c'.memory.written ≡ c.memory.written
Writes c (Turns kind c') = (rest : List ℕ) × (c.memory.written ++ rest ≡ c'.memory.written)
Writes c (Reads f) = (line : InputLine) → (f line).memory.written ≡ c.memory.written
Writes c (Fails kind line) = Unit {0}
Writes c Finishes = Unit {0}
Writes c Misses = Unit {0}

module _ (code : Code) (c : Config) where
  on_top_writes : (xs : List ℤ) (f : ℤ → List ℤ → Effect) → ((v : ℤ) (rest : List ℤ) → Writes c (f v rest)) → Writes c (on_top xs f)
  on_top_writes [] f h = tt
  on_top_writes (v ∷ rest) f h = h v rest

  on_two_writes : (xs : List ℤ) (f : ℤ → ℤ → List ℤ → Effect) → ((v w : ℤ) (rest : List ℤ) → Writes c (f v w rest)) → Writes c (on_two xs f)
  on_two_writes [] f h = tt
  on_two_writes (y ∷ []) f h = tt
  on_two_writes (y ∷ (x ∷ rest)) f h = h x y rest

  choose_writes : (v : ℤ) (a b : Effect) → Writes c a → Writes c b → Writes c (choose v a b)
  choose_writes (pos zero) a b ha hb = ha
  choose_writes (pos (suc n)) a b ha hb = hb
  choose_writes (negsuc n) a b ha hb = hb

  operated_writes : (o : Computed) (line : ℕ) (f : ℤ → Config) → ((v : ℤ) → (f v).memory.written ≡ c.memory.written) → Writes c (operated o line f)
  operated_writes (Gives v) line f h = h v
  operated_writes (Faults kind) line f h = tt

  at_cells_writes : (o : Option ℕ) (f : ℕ → Effect) → ((a : ℕ) → Writes c (f a)) → Writes c (at_cells o f)
  at_cells_writes None f h = tt
  at_cells_writes (Some a) f h = h a

  cond_writes : (b : Bool) (x y : Effect) → Writes c x → Writes c y → Writes c (cond b x y)
  cond_writes true x y hx hy = hx
  cond_writes false x y hx hy = hy

  indexed_writes : (k i : ℤ) (n size line : ℕ) (f : ℤ → Config) → ((v : ℤ) → (f v).memory.written ≡ c.memory.written) → Writes c (indexed k i n size line f)
  indexed_writes k (pos i) n size line f h = cond_writes (nat_lt i n) _ _ (h (wrap (k +ℤ pos (i * size)))) tt
  indexed_writes k (negsuc i) n size line f h = tt

  kept_writes : (t : Target) (a : Answer (List ℤ)) (input : Input) (k : ℤ) (rest : List ℤ) → Writes c (kept code t a input k rest c)
  kept_writes t (answer.Value row) input k rest = at_cells_writes (within (target_object code c t) k (length row)) _ (λ a. refl)
  kept_writes t answer.Failed input k rest = refl
  kept_writes t answer.NeedsLine input k rest = refl

  found_writes : (o : Option Procedure) (home p : ℕ) → Writes c (found o home p c)
  found_writes None home p = tt
  found_writes (Some f) home p = ([], append-nil c.memory.written)

  invoked_writes : (b : Bool) (g : Callee) (line : ℕ) → Writes c (invoked b code g line c)
  invoked_writes true g line = found_writes (procedure_in (slice_get code (target_of code c.at.home g)) (number_of code c.at.home g)) (target_of code c.at.home g) (number_of code c.at.home g)
  invoked_writes false g line = tt

  returned_writes : (fs : List Frame) → Writes c (returned fs c)
  returned_writes [] = tt
  returned_writes (f ∷ fs) = refl

  perform_writes : (i : Instr) → Writes c (perform code i c)
  perform_writes (Push v) = refl
  perform_writes Drop = on_top_writes c.stack _ (λ v rest. refl)
  perform_writes PushDone = refl
  perform_writes (Unary op line) = on_top_writes c.stack _ (λ x rest. operated_writes (apply_one op x) line _ (λ v. refl))
  perform_writes (Operate op line) = on_two_writes c.stack _ (λ x y rest. operated_writes (apply op x y) line _ (λ v. refl))
  perform_writes (Load r) = at_cells_writes (within (object code c r) (pos 0) 1) _ (λ a. refl)
  perform_writes (Store r) = on_top_writes c.stack _ (λ v rest. at_cells_writes (within (object code c r) (pos 0) 1) _ (λ a. refl))
  perform_writes (LoadAt r) = on_top_writes c.stack _ (λ k rest. at_cells_writes (within (object code c r) k 1) _ (λ a. refl))
  perform_writes (StoreAt r) = on_two_writes c.stack _ (λ k v rest. at_cells_writes (within (object code c r) k 1) _ (λ a. refl))
  perform_writes (AdjustAt kind r) = on_two_writes c.stack _ (λ k v rest. at_cells_writes (within (object code c r) k 1) _ (λ a. refl))
  perform_writes (AddOffset n) = on_top_writes c.stack _ (λ k rest. refl)
  perform_writes (Index n size line) = on_two_writes c.stack _ (λ k i rest. indexed_writes k i (elements c n) size line _ (λ v. refl))
  perform_writes (TakeLength n) = on_top_writes c.stack _ (λ k rest. refl)
  perform_writes (Copy t s n) = on_two_writes c.stack _ (λ k j rest. at_cells_writes (within (object code c t) k n) _ (λ a. at_cells_writes (within (object code c s) j n) _ (λ b. refl)))
  perform_writes (StoreText s text line) = on_top_writes c.stack _ (λ k rest. at_cells_writes (within (object code c s.root) k (elements c s.length)) _ (λ a. cond_writes (nat_lt (length text) (elements c s.length)) _ _ refl tt))
  perform_writes (RelateTexts r s t) = on_two_writes c.stack _ (λ k j rest. at_cells_writes (within (object code c s.root) k (elements c s.length)) _ (λ a. at_cells_writes (within (object code c t.root) j (elements c t.length)) _ (λ b. refl)))
  perform_writes (NamePlace r n) = on_top_writes c.stack _ (λ k rest. at_cells_writes (within (object code c r) k n) _ (λ a. refl))
  perform_writes (NameArray r n size) = on_top_writes c.stack _ (λ k rest. at_cells_writes (within (object code c r) k (elements c n * size)) _ (λ a. refl))
  perform_writes (NameRecord r type n) = on_top_writes c.stack _ (λ k rest. at_cells_writes (within (object code c r) k (cells_of type)) _ (λ a. refl))
  perform_writes (NameAgain x n) = on_top_writes c.stack _ (λ k rest. refl)
  perform_writes (Test x type) = on_top_writes c.stack _ (λ k rest. refl)
  perform_writes (Guard x type kind line) = cond_writes (extends (type_of code (name_at c x)) type) _ _ refl tt
  perform_writes (Skip n) = refl
  perform_writes (SkipIfZero n) = on_top_writes c.stack _ (λ v rest. choose_writes v _ _ refl refl)
  perform_writes (SkipIfWithin low high n) = on_top_writes c.stack _ (λ v rest. refl)
  perform_writes Enter = ([], append-nil c.memory.written)
  perform_writes (EnterBack n) = on_top_writes c.stack _ (λ v rest. choose_writes v _ _ refl ([], append-nil c.memory.written))
  perform_writes (Trap kind line) = tt
  perform_writes (Assert line) = on_top_writes c.stack _ (λ v rest. choose_writes v _ _ tt refl)
  perform_writes (Invoke g line) = invoked_writes (nat_lt (length c.frames) max_depth) g line
  perform_writes OpenInput = ([], append-nil c.memory.written)
  perform_writes CallInput = ([], append-nil c.memory.written)
  perform_writes (Read t) = on_top_writes c.stack _ (λ k rest. kept_writes t (found_in c t c.memory.input).answer (found_in c t c.memory.input).input k rest)
  perform_writes AskLine = ([], append-nil c.memory.written)
  perform_writes TakeLine = λ line. refl
  perform_writes OpenOutput = ([], append-nil c.memory.written)
  perform_writes PutChar = on_top_writes c.stack _ (λ v rest. (char_text (character v), refl))
  perform_writes (PutText s) = on_top_writes c.stack _ (λ k rest. at_cells_writes (within (object code c s.root) k (elements c s.length)) _ (λ a. (string_text (characters_at c.memory a (elements c s.length)), refl)))
  perform_writes PutInt = on_two_writes c.stack _ (λ v width rest. (int_text v width, refl))
  perform_writes PutLine = (line_end, refl)

  act_writes : (o : Option Line) → Writes c (act code o c)
  act_writes None = returned_writes c.frames
  act_writes (Some l) = perform_writes l.instr

step_writes : (code : Code) (c : Config) (x : Effect) → effect code c ≡ x → Writes c x
step_writes code c x e = subst (Writes c) e (act_writes code c (slice_get (lines_of code c.at.home c.at.procedure) c.at.place))

-- ---- runs that come to stand: what holds where they stand, and before each step, holds at their beginning

pub record Inductive (code : Code) (why : Outcome) (l : Supply) (d : Config) (P : ℕ → List InputLine → Config → Type 0) : Type 0 where
  pub move : (t : ℕ) (ls : List InputLine) (c c' : Config) → effect code c ≡ Moves c' → P t ls c' → P t ls c
  pub turn : (t : ℕ) (ls : List InputLine) (kind : TurnKind) (c c' : Config) → effect code c ≡ Turns kind c' → P t ls c' → P (suc t) ls c
  pub line : (t : ℕ) (line : InputLine) (ls : List InputLine) (f : InputLine → Config) (c : Config) → effect code c ≡ Reads f → P t ls (f line) → P t (line ∷ ls) c
  pub stop : (ls : List InputLine) (kind : TurnKind) (c' : Config) → effect code d ≡ Turns kind c' → why ≡ Stopped kind → l ≡ supply 0 ls → P 0 ls d
  pub ask : (t : ℕ) (f : InputLine → Config) → effect code d ≡ Reads f → why ≡ NeedsLine → l ≡ supply t [] → P t [] d
  pub trap : (t : ℕ) (ls : List InputLine) (kind : TrapKind) (line : ℕ) → effect code d ≡ Fails kind line → why ≡ Trapped kind d.at.home line → l ≡ supply t ls → P t ls d
  pub end : (t : ℕ) (ls : List InputLine) → effect code d ≡ Finishes → why ≡ Ended → l ≡ supply t ls → P t ls d

module _ (code : Code) (why : Outcome) (l : Supply) (d : Config) (P : ℕ → List InputLine → Config → Type 0) (i : Inductive code why l d P) where
  -- a run that stands is where it comes to
  at_stand : (m t : ℕ) (ls : List InputLine) (c : Config) (why' : Outcome) (x : Effect) → effect code c ≡ x → after code m (Standing why' (supply t ls) c) ≡ Standing why l d
      → ((z : Config) → effect code z ≡ x → why ≡ why' → l ≡ supply t ls → z ≡ d → P t ls z) → P t ls c
  at_stand m t ls c why' x e stood here =
      let s = sym (after-standing code m why' (supply t ls) c) ∙ stood in
      here c e (sym (ap (λ p. standing_why p why) s)) (sym (ap (λ p. standing_supply p l) s)) (ap (λ p. standing_config p c) s)

  from_step : (m : ℕ) → ((t : ℕ) (ls : List InputLine) (c : Config) → after code m (Going (supply t ls) c) ≡ Standing why l d → P t ls c) → (t : ℕ) (ls : List InputLine) (c : Config) (x : Effect) → effect code c ≡ x → after code m (take_effect x (supply t ls) c) ≡ Standing why l d → P t ls c
  from_step m before t ls c (Moves c') x e = i.move t ls c c' x (before t ls c' e)
  from_step m before zero ls c (Turns kind c') x e = at_stand m 0 ls c (Stopped kind) (Turns kind c') x e (λ z x' w s same.
      subst (P 0 ls) (sym same) (i.stop ls kind c' (subst (λ y. effect code y ≡ Turns kind c') same x') w s))
  from_step m before (suc t) ls c (Turns kind c') x e = i.turn t ls kind c c' x (before t ls c' e)
  from_step m before t [] c (Reads f) x e = at_stand m t [] c NeedsLine (Reads f) x e (λ z x' w s same.
      subst (P t []) (sym same) (i.ask t f (subst (λ y. effect code y ≡ Reads f) same x') w s))
  from_step m before t (line ∷ ls) c (Reads f) x e = i.line t line ls f c x (before t ls (f line) e)
  from_step m before t ls c (Fails kind line) x e = at_stand m t ls c (Trapped kind c.at.home line) (Fails kind line) x e (λ z x' w s same.
      subst (P t ls) (sym same) (i.trap t ls kind line (subst (λ y. effect code y ≡ Fails kind line) same x') (w ∙ trapped_home m t ls c kind line e) s))
    where
      trapped_home : (m t : ℕ) (ls : List InputLine) (c : Config) (kind : TrapKind) (line : ℕ) → after code m (Standing (Trapped kind c.at.home line) (supply t ls) c) ≡ Standing why l d → Trapped kind c.at.home line ≡ Trapped kind d.at.home line
      trapped_home m t ls c kind line stood =
          let s = sym (after-standing code m (Trapped kind c.at.home line) (supply t ls) c) ∙ stood in
          ap (λ (z : Config). Trapped kind z.at.home line) (ap (λ p. standing_config p c) s)
  from_step m before t ls c Finishes x e = at_stand m t ls c Ended Finishes x e (λ z x' w s same.
      subst (P t ls) (sym same) (i.end t ls (subst (λ y. effect code y ≡ Finishes) same x') w s))
  from_step m before t ls c Misses x e = absurd (let y : Lost ≡ Standing why l d = sym (after-lost code m) ∙ e in cc)

  from : (m t : ℕ) (ls : List InputLine) (c : Config) → after code m (Going (supply t ls) c) ≡ Standing why l d → P t ls c
  unfolding after
  from zero t ls c e = absurd (let x : Going (supply t ls) c ≡ Standing why l d = e in cc)
  from (suc m) t ls c e = from_step m (from m) t ls c (effect code c) refl e

  pub by_steps : (n : Supply) (c : Config) → Comes code (Going n c) (Standing why l d) → P n.turns n.lines c
  by_steps n c x = from x.steps n.turns n.lines c x.there

module _ (code : Code) where
  turns_of : (l k : Supply) → l ≡ k → l.turns ≡ k.turns
  turns_of l k e = ap (λ (s : Supply). s.turns) e

  lines_left : (l k : Supply) → l ≡ k → l.lines ≡ k.lines
  lines_left l k e = ap (λ (s : Supply). s.lines) e

  -- a run that stands came there on its way
  pub stood : (n : Supply) (c : Config) (why : Outcome) (l : Supply) (d : Config) → Comes code (Going n c) (Standing why l d) → Comes code (Going n c) (Going l d)
  stood n c why l d x = by_steps code why l d (λ t ls c. Comes code (Going (supply t ls) c) (Going l d)) (record {
    move = λ t ls c c' e h. goes_on code _ _ _ (moves code (supply t ls) c c' e) h;
    turn = λ t ls kind c c' e h. goes_on code _ _ _ (takes_turn code t ls kind c c' e) h;
    line = λ t line ls f c e h. goes_on code _ _ _ (takes_line code t line ls f c e) h;
    stop = λ ls kind c' e why left. subst (λ k. Comes code (Going (supply 0 ls) d) (Going k d)) (sym left) (stays code (Going (supply 0 ls) d));
    ask = λ t f e why left. subst (λ k. Comes code (Going (supply t []) d) (Going k d)) (sym left) (stays code (Going (supply t []) d));
    trap = λ t ls kind line e why left. subst (λ k. Comes code (Going (supply t ls) d) (Going k d)) (sym left) (stays code (Going (supply t ls) d));
    end = λ t ls e why left. subst (λ k. Comes code (Going (supply t ls) d) (Going k d)) (sym left) (stays code (Going (supply t ls) d));
  }) n c x

  -- no turn comes back
  pub fewer : (n : Supply) (c : Config) (why : Outcome) (l : Supply) (d : Config) → Comes code (Going n c) (Standing why l d) → l.turns ≤ n.turns
  fewer n c why l d x = by_steps code why l d (λ t ls c. l.turns ≤ t) (record {
    move = λ t ls c c' e h. h;
    turn = λ t ls kind c c' e h. omega (arith, h);
    line = λ t line ls f c e h. h;
    stop = λ ls kind c' e why left. let f = turns_of _ _ left in omega (arith, f);
    ask = λ t f e why left. let f = turns_of _ _ left in omega (arith, f);
    trap = λ t ls kind line e why left. let f = turns_of _ _ left in omega (arith, f);
    end = λ t ls e why left. let f = turns_of _ _ left in omega (arith, f);
  }) n c x

  -- lines are used from the front
  pub lines_used : (n : Supply) (c : Config) (why : Outcome) (l : Supply) (d : Config) → Comes code (Going n c) (Standing why l d) → (used : List InputLine) × (used ++ l.lines ≡ n.lines)
  lines_used n c why l d x = by_steps code why l d (λ t ls c. (used : List InputLine) × (used ++ l.lines ≡ ls)) (record {
    move = λ t ls c c' e h. h;
    turn = λ t ls kind c c' e h. h;
    line = λ t line ls f c e h. (line ∷ h.0, ap (λ xs. line ∷ xs) h.1);
    stop = λ ls kind c' e why left. ([], lines_left _ _ left);
    ask = λ t f e why left. ([], lines_left _ _ left);
    trap = λ t ls kind line e why left. ([], lines_left _ _ left);
    end = λ t ls e why left. ([], lines_left _ _ left);
  }) n c x

  -- a run that is stopped has used up its turns
  pub stops_at_none : (n : Supply) (c : Config) (kind : TurnKind) (l : Supply) (d : Config) → Comes code (Going n c) (Standing (Stopped kind) l d) → l.turns ≡ 0
  stops_at_none n c kind l d x = by_steps code (Stopped kind) l d (λ t ls c. l.turns ≡ 0) (record {
    move = λ t ls c c' e h. h;
    turn = λ t ls kind c c' e h. h;
    line = λ t line ls f c e h. h;
    stop = λ ls kind c' e why left. turns_of _ _ left;
    ask = λ t f e why left. absurd (cc);
    trap = λ t ls kind line e why left. absurd (cc);
    end = λ t ls e why left. absurd (cc);
  }) n c x

  -- a run that needs a line has used up those that were given
  pub asks_at_none : (n : Supply) (c : Config) (l : Supply) (d : Config) → Comes code (Going n c) (Standing NeedsLine l d) → l.lines ≡ []
  asks_at_none n c l d x = by_steps code NeedsLine l d (λ t ls c. l.lines ≡ []) (record {
    move = λ t ls c c' e h. h;
    turn = λ t ls kind c c' e h. h;
    line = λ t line ls f c e h. h;
    stop = λ ls kind c' e why left. absurd (cc);
    ask = λ t f e why left. lines_left _ _ left;
    trap = λ t ls kind line e why left. absurd (cc);
    end = λ t ls e why left. absurd (cc);
  }) n c x

  -- what is written goes on
  pub writes_on : (n : Supply) (c : Config) (why : Outcome) (l : Supply) (d : Config) → Comes code (Going n c) (Standing why l d) → (rest : List ℕ) × (c.memory.written ++ rest ≡ d.memory.written)
  writes_on n c why l d x = by_steps code why l d (λ t ls c. (rest : List ℕ) × (c.memory.written ++ rest ≡ d.memory.written)) (record {
    move = λ t ls c c' e h. (h.0, ap (λ w. w ++ h.0) (sym (step_writes code c (Moves c') e)) ∙ h.1);
    turn = λ t ls kind c c' e h. let w = step_writes code c (Turns kind c') e in (w.0 ++ h.0, sym (append_assoc c.memory.written w.0 h.0) ∙ ap (λ x. x ++ h.0) w.1 ∙ h.1);
    line = λ t line ls f c e h. (h.0, ap (λ w. w ++ h.0) (sym (step_writes code c (Reads f) e line)) ∙ h.1);
    stop = λ ls kind c' e why left. ([], append-nil d.memory.written);
    ask = λ t f e why left. ([], append-nil d.memory.written);
    trap = λ t ls kind line e why left. ([], append-nil d.memory.written);
    end = λ t ls e why left. ([], append-nil d.memory.written);
  }) n c x

  -- without a turn nothing is written
  pub writes_none : (ls : List InputLine) (c : Config) (why : Outcome) (l : Supply) (d : Config) → Comes code (Going (supply 0 ls) c) (Standing why l d) → d.memory.written ≡ c.memory.written
  writes_none ls c why l d x = by_steps code why l d (λ t ls c. t ≡ 0 → d.memory.written ≡ c.memory.written) (record {
    move = λ t ls c c' e h z. h z ∙ step_writes code c (Moves c') e;
    turn = λ t ls kind c c' e h z. absurd (omega (arith, z));
    line = λ t line ls f c e h z. h z ∙ step_writes code c (Reads f) e line;
    stop = λ ls kind c' e why left z. refl;
    ask = λ t f e why left z. refl;
    trap = λ t ls kind line e why left z. refl;
    end = λ t ls e why left z. refl;
  }) (supply 0 ls) c x refl

  abbrev Sooner : ℕ → Outcome → Supply → Config → ℕ → List InputLine → Config → Type 0
  Sooner b why l d t ls c = (b ≤ t) × ((k : ℕ) → t ≡ k + b → Comes code (Going (supply k ls) c) (Standing why (supply 0 l.lines) d))

  turn_sooner : (b : ℕ) (why : Outcome) (l : Supply) (d : Config) (t : ℕ) (ls : List InputLine) (kind : TurnKind) (c c' : Config) → effect code c ≡ Turns kind c' → b ≤ t → ((k : ℕ) → t ≡ k + b → Comes code (Going (supply k ls) c') (Standing why (supply 0 l.lines) d)) → (k : ℕ) → suc t ≡ k + b → Comes code (Going (supply k ls) c) (Standing why (supply 0 l.lines) d)
  turn_sooner b why l d t ls kind c c' e le h zero z = absurd (omega (arith, le, z))
  turn_sooner b why l d t ls kind c c' e le h (suc k) z = goes_on code _ _ _ (takes_turn code k ls kind c c' e) (h k (omega (arith, z)))

  -- where it stands with b turns left, it stands without them
  stand_sooner : (b : ℕ) (why why' : Outcome) (l : Supply) (d : Config) (t : ℕ) (ls : List InputLine) → l.turns ≡ b → why ≡ why' → l ≡ supply t ls → Comes code (Going (supply 0 ls) d) (Standing why' (supply 0 ls) d) → Sooner b why l d t ls d
  stand_sooner b why why' l d t ls left reason same there =
      let f = turns_of _ _ same in
      let g = lines_left _ _ same in (
        omega (arith, f, left),
        λ k z.
            let none : k ≡ 0 = omega (arith, z, f, left) in
            subst (λ n. Comes code (Going (supply n ls) d) (Standing why (supply 0 l.lines) d)) (sym none)
            (subst (λ xs. Comes code (Going (supply 0 ls) d) (Standing why (supply 0 xs) d)) (sym g)
            (subst (λ y. Comes code (Going (supply 0 ls) d) (Standing y (supply 0 ls) d)) (sym reason) there)),
      )

  -- a run that came to stand with turns left, but for want of one, does so without them
  pub ends_sooner : (b k : ℕ) (ls : List InputLine) (c : Config) (why : Outcome) (l : Supply) (d : Config) → ((kind : TurnKind) → why ≡ Stopped kind → ⊥) → l.turns ≡ b → Comes code (Going (supply (k + b) ls) c) (Standing why l d) → Comes code (Going (supply k ls) c) (Standing why (supply 0 l.lines) d)
  ends_sooner b k ls c why l d other left x = (by_steps code why l d (Sooner b why l d) (record {
    move = λ t ls c c' e h. (h.0, λ k z. goes_on code _ _ _ (moves code (supply k ls) c c' e) (h.1 k z));
    turn = λ t ls kind c c' e h. (omega (arith, h.0), turn_sooner b why l d t ls kind c c' e h.0 h.1);
    line = λ t line ls f c e h. (h.0, λ k z. goes_on code _ _ _ (takes_line code k line ls f c e) (h.1 k z));
    stop = λ ls kind c' e reason left. absurd (other kind reason);
    ask = λ t f e reason same. stand_sooner b why NeedsLine l d t [] left reason same (has_no_line code 0 f d e);
    trap = λ t ls kind line e reason same. stand_sooner b why (Trapped kind d.at.home line) l d t ls left reason same (fails code (supply 0 ls) kind line d e);
    end = λ t ls e reason same. stand_sooner b why Ended l d t ls left reason same (finishes code (supply 0 ls) d e);
  }) (supply (k + b) ls) c x).1 k refl

-- ---- what was written before makes no difference

-- the same configuration, where this was written before
abbrev pub prefixed : List ℕ → Config → Config
prefixed text c = record { at = c.at; stack = c.stack; names = c.names; frames = c.frames; memory = record { cells = c.memory.cells; written = text ++ c.memory.written; input = c.memory.input } }

abbrev prefixed_effect : List ℕ → Effect → Effect
prefixed_effect p (Moves c) = Moves (prefixed p c)
prefixed_effect p (Turns kind c) = Turns kind (prefixed p c)
prefixed_effect p (Reads f) = Reads (λ line. prefixed p (f line))
prefixed_effect p (Fails kind line) = Fails kind line
prefixed_effect p Finishes = Finishes
prefixed_effect p Misses = Misses

module _ (code : Code) (p : List ℕ) (c : Config) where
  on_top_prefixed : (xs : List ℤ) (f f' : ℤ → List ℤ → Effect) → ((v : ℤ) (rest : List ℤ) → f' v rest ≡ prefixed_effect p (f v rest)) → on_top xs f' ≡ prefixed_effect p (on_top xs f)
  on_top_prefixed [] f f' h = refl
  on_top_prefixed (v ∷ rest) f f' h = h v rest

  on_two_prefixed : (xs : List ℤ) (f f' : ℤ → ℤ → List ℤ → Effect) → ((v w : ℤ) (rest : List ℤ) → f' v w rest ≡ prefixed_effect p (f v w rest)) → on_two xs f' ≡ prefixed_effect p (on_two xs f)
  on_two_prefixed [] f f' h = refl
  on_two_prefixed (y ∷ []) f f' h = refl
  on_two_prefixed (y ∷ (x ∷ rest)) f f' h = h x y rest

  choose_prefixed : (v : ℤ) (a b a' b' : Effect) → a' ≡ prefixed_effect p a → b' ≡ prefixed_effect p b → choose v a' b' ≡ prefixed_effect p (choose v a b)
  choose_prefixed (pos zero) a b a' b' ha hb = ha
  choose_prefixed (pos (suc n)) a b a' b' ha hb = hb
  choose_prefixed (negsuc n) a b a' b' ha hb = hb

  operated_prefixed : (o : Computed) (line : ℕ) (f f' : ℤ → Config) → ((v : ℤ) → f' v ≡ prefixed p (f v)) → operated o line f' ≡ prefixed_effect p (operated o line f)
  operated_prefixed (Gives v) line f f' h = ap Moves (h v)
  operated_prefixed (Faults kind) line f f' h = refl

  at_cells_prefixed : (o : Option ℕ) (f f' : ℕ → Effect) → ((a : ℕ) → f' a ≡ prefixed_effect p (f a)) → at_cells o f' ≡ prefixed_effect p (at_cells o f)
  at_cells_prefixed None f f' h = refl
  at_cells_prefixed (Some a) f f' h = h a

  cond_prefixed : (b : Bool) (x y x' y' : Effect) → x' ≡ prefixed_effect p x → y' ≡ prefixed_effect p y → cond b x' y' ≡ prefixed_effect p (cond b x y)
  cond_prefixed true x y x' y' hx hy = hx
  cond_prefixed false x y x' y' hx hy = hy

  indexed_prefixed : (k i : ℤ) (n size line : ℕ) (f f' : ℤ → Config) → ((v : ℤ) → f' v ≡ prefixed p (f v)) → indexed k i n size line f' ≡ prefixed_effect p (indexed k i n size line f)
  indexed_prefixed k (pos i) n size line f f' h = cond_prefixed (nat_lt i n) _ _ _ _ (ap Moves (h (wrap (k +ℤ pos (i * size))))) refl
  indexed_prefixed k (negsuc i) n size line f f' h = refl

  -- objects and lengths are those of the same calls and names
  object_prefixed : (r : Root) → object code (prefixed p c) r ≡ object code c r
  object_prefixed (OfModule e) = refl
  object_prefixed (OfImport i e) = refl
  object_prefixed (OfCall e) = refl
  object_prefixed (Named x) = refl

  elements_prefixed : (n : Length) → elements (prefixed p c) n ≡ elements c n
  elements_prefixed (Elements n) = refl
  elements_prefixed (OfName x) = refl

  cells_prefixed : (r : Root) (k : ℤ) (n : ℕ) (f f' : ℕ → Effect) → ((a : ℕ) → f' a ≡ prefixed_effect p (f a)) → at_cells (within (object code (prefixed p c) r) k n) f' ≡ prefixed_effect p (at_cells (within (object code c r) k n) f)
  cells_prefixed r k n f f' h = ap (λ o. at_cells (within o k n) f') (object_prefixed r) ∙ at_cells_prefixed (within (object code c r) k n) f f' h

  target_prefixed : (t : Target) → target_object code (prefixed p c) t ≡ target_object code c t
  target_prefixed (target.Char r) = object_prefixed r
  target_prefixed (target.Int r) = object_prefixed r
  target_prefixed (target.String s) = object_prefixed s.root
  target_prefixed (target.Name s) = object_prefixed s.root

  reading_prefixed : (t : Target) (input : Input) → found_in (prefixed p c) t input ≡ found_in c t input
  reading_prefixed (target.Char r) input = refl
  reading_prefixed (target.Int r) input = refl
  reading_prefixed (target.String s) input = ap (λ n. mapped (λ text. text_cells n text) (read_string n [] input)) (elements_prefixed s.length)
  reading_prefixed (target.Name s) input = ap (λ n. mapped (λ text. text_cells n text) (read_name n [] input)) (elements_prefixed s.length)

  kept_prefixed : (t : Target) (a : Answer (List ℤ)) (input : Input) (k : ℤ) (rest : List ℤ) → kept code t a input k rest (prefixed p c) ≡ prefixed_effect p (kept code t a input k rest c)
  kept_prefixed t (answer.Value row) input k rest =
      ap (λ o. at_cells (within o k (length row)) (λ a. Moves (go (prefixed p c) (c.at.place + 3) rest (with_buffer (overwritten (prefixed p c).memory a row) input)))) (target_prefixed t)
      ∙ at_cells_prefixed (within (target_object code c t) k (length row)) _ _ (λ a. refl)
  kept_prefixed t answer.Failed input k rest = refl
  kept_prefixed t answer.NeedsLine input k rest = refl

  read_prefixed : (t : Target) (r : Reading (List ℤ)) (k : ℤ) (rest : List ℤ) → found_in (prefixed p c) t c.memory.input ≡ r → found_in c t c.memory.input ≡ r
      → kept code t (found_in (prefixed p c) t c.memory.input).answer (found_in (prefixed p c) t c.memory.input).input k rest (prefixed p c) ≡ prefixed_effect p (kept code t (found_in c t c.memory.input).answer (found_in c t c.memory.input).input k rest c)
  read_prefixed t r k rest e e' =
      ap (λ x. kept code t x.answer x.input k rest (prefixed p c)) e ∙ kept_prefixed t r.answer r.input k rest ∙ ap (λ x. prefixed_effect p (kept code t x.answer x.input k rest c)) (sym e')

  found_prefixed : (o : Option Procedure) (home q : ℕ) → found o home q (prefixed p c) ≡ prefixed_effect p (found o home q c)
  found_prefixed None home q = refl
  found_prefixed (Some f) home q = refl

  invoked_prefixed : (b : Bool) (g : Callee) (line : ℕ) → invoked b code g line (prefixed p c) ≡ prefixed_effect p (invoked b code g line c)
  invoked_prefixed true g line = found_prefixed (procedure_in (slice_get code (target_of code c.at.home g)) (number_of code c.at.home g)) (target_of code c.at.home g) (number_of code c.at.home g)
  invoked_prefixed false g line = refl

  returned_prefixed : (fs : List Frame) → returned fs (prefixed p c) ≡ prefixed_effect p (returned fs c)
  returned_prefixed [] = refl
  returned_prefixed (f ∷ fs) = refl

  -- more text after what was written before
  put_prefixed : (stack : List ℤ) (text : List ℕ) → Turns kind.Output (on (prefixed p c) stack (put (prefixed p c).memory text)) ≡ prefixed_effect p (Turns kind.Output (on c stack (put c.memory text)))
  put_prefixed stack text = ap (λ w. Turns kind.Output (on c stack (record { cells = c.memory.cells; written = w; input = c.memory.input }))) (append_assoc p c.memory.written text)

  -- instructions that ask how long arrays are

  index_prefixed : (n size line m : ℕ) → m ≡ n → on_two c.stack (λ k i rest. indexed k i m size line (λ v. on (prefixed p c) (v ∷ rest) (prefixed p c).memory)) ≡ prefixed_effect p (on_two c.stack (λ k i rest. indexed k i n size line (λ v. on c (v ∷ rest) c.memory)))
  index_prefixed n size line m e =
      ap (λ x. on_two c.stack (λ k i rest. indexed k i x size line (λ v. on (prefixed p c) (v ∷ rest) (prefixed p c).memory))) e
      ∙ on_two_prefixed c.stack _ _ (λ k i rest. indexed_prefixed k i n size line _ _ (λ v. refl))

  length_prefixed : (n m : ℕ) → m ≡ n → on_top c.stack (λ k rest. Moves (on (prefixed p c) (wrap (pos m) ∷ rest) (prefixed p c).memory)) ≡ prefixed_effect p (on_top c.stack (λ k rest. Moves (on c (wrap (pos n) ∷ rest) c.memory)))
  length_prefixed n m e = ap (λ x. on_top c.stack (λ k rest. Moves (on (prefixed p c) (wrap (pos x) ∷ rest) (prefixed p c).memory))) e ∙ on_top_prefixed c.stack _ _ (λ k rest. refl)

  text_prefixed : (r : Root) (text : List ℕ) (line n m : ℕ) → m ≡ n
      → on_top c.stack (λ k rest. at_cells (within (object code (prefixed p c) r) k m) (λ a. stored_text text m line (on (prefixed p c) rest (overwritten (prefixed p c).memory a (text_cells m text)))))
      ≡ prefixed_effect p (on_top c.stack (λ k rest. at_cells (within (object code c r) k n) (λ a. stored_text text n line (on c rest (overwritten c.memory a (text_cells n text))))))
  text_prefixed r text line n m e =
      ap (λ x. on_top c.stack (λ k rest. at_cells (within (object code (prefixed p c) r) k x) (λ a. stored_text text x line (on (prefixed p c) rest (overwritten (prefixed p c).memory a (text_cells x text)))))) e
      ∙ on_top_prefixed c.stack _ _ (λ k rest. cells_prefixed r k n _ _ (λ a. cond_prefixed (nat_lt (length text) n) _ _ _ _ refl refl))

  texts_prefixed : (r : Relation) (s t : Root) (n n' m m' : ℕ) → n' ≡ n → m' ≡ m
      → on_two c.stack (λ k j rest. at_cells (within (object code (prefixed p c) s) k n') (λ a. at_cells (within (object code (prefixed p c) t) j m') (λ b. Moves (on (prefixed p c) (truth (texts_relate r (before_zero (characters_at (prefixed p c).memory a n')) (before_zero (characters_at (prefixed p c).memory b m'))) ∷ rest) (prefixed p c).memory))))
      ≡ prefixed_effect p (on_two c.stack (λ k j rest. at_cells (within (object code c s) k n) (λ a. at_cells (within (object code c t) j m) (λ b. Moves (on c (truth (texts_relate r (before_zero (characters_at c.memory a n)) (before_zero (characters_at c.memory b m))) ∷ rest) c.memory)))))
  texts_prefixed r s t n n' m m' e e' =
      ap (λ x. on_two c.stack (λ k j rest. at_cells (within (object code (prefixed p c) s) k x) (λ a. at_cells (within (object code (prefixed p c) t) j m') (λ b. Moves (on (prefixed p c) (truth (texts_relate r (before_zero (characters_at (prefixed p c).memory a x)) (before_zero (characters_at (prefixed p c).memory b m'))) ∷ rest) (prefixed p c).memory))))) e
      ∙ ap (λ x. on_two c.stack (λ k j rest. at_cells (within (object code (prefixed p c) s) k n) (λ a. at_cells (within (object code (prefixed p c) t) j x) (λ b. Moves (on (prefixed p c) (truth (texts_relate r (before_zero (characters_at (prefixed p c).memory a n)) (before_zero (characters_at (prefixed p c).memory b x))) ∷ rest) (prefixed p c).memory))))) e'
      ∙ on_two_prefixed c.stack _ _ (λ k j rest. cells_prefixed s k n _ _ (λ a. cells_prefixed t j m _ _ (λ b. refl)))

  array_prefixed : (r : Root) (size n m : ℕ) → m ≡ n
      → on_top c.stack (λ k rest. at_cells (within (object code (prefixed p c) r) k (m * size)) (λ a. Moves (with_names (on (prefixed p c) rest (prefixed p c).memory) (c.names ++ (record { address = a; cells = m * size; length = m; told = untold }) ∷ []))))
      ≡ prefixed_effect p (on_top c.stack (λ k rest. at_cells (within (object code c r) k (n * size)) (λ a. Moves (with_names (on c rest c.memory) (c.names ++ (record { address = a; cells = n * size; length = n; told = untold }) ∷ [])))))
  array_prefixed r size n m e =
      ap (λ x. on_top c.stack (λ k rest. at_cells (within (object code (prefixed p c) r) k (x * size)) (λ a. Moves (with_names (on (prefixed p c) rest (prefixed p c).memory) (c.names ++ (record { address = a; cells = x * size; length = x; told = untold }) ∷ []))))) e
      ∙ on_top_prefixed c.stack _ _ (λ k rest. cells_prefixed r k (n * size) _ _ (λ a. refl))

  shown_prefixed : (r : Root) (n m : ℕ) → m ≡ n
      → on_top c.stack (λ k rest. at_cells (within (object code (prefixed p c) r) k m) (λ a. Turns kind.Output (on (prefixed p c) rest (put (prefixed p c).memory (string_text (characters_at (prefixed p c).memory a m))))))
      ≡ prefixed_effect p (on_top c.stack (λ k rest. at_cells (within (object code c r) k n) (λ a. Turns kind.Output (on c rest (put c.memory (string_text (characters_at c.memory a n)))))))
  shown_prefixed r n m e =
      ap (λ x. on_top c.stack (λ k rest. at_cells (within (object code (prefixed p c) r) k x) (λ a. Turns kind.Output (on (prefixed p c) rest (put (prefixed p c).memory (string_text (characters_at (prefixed p c).memory a x))))))) e
      ∙ on_top_prefixed c.stack _ _ (λ k rest. cells_prefixed r k n _ _ (λ a. put_prefixed rest (string_text (characters_at c.memory a n))))

  perform_prefixed : (i : Instr) → perform code i (prefixed p c) ≡ prefixed_effect p (perform code i c)
  perform_prefixed (Push v) = refl
  perform_prefixed Drop = on_top_prefixed c.stack _ _ (λ v rest. refl)
  perform_prefixed PushDone = refl
  perform_prefixed (Unary op line) = on_top_prefixed c.stack _ _ (λ x rest. operated_prefixed (apply_one op x) line _ _ (λ v. refl))
  perform_prefixed (Operate op line) = on_two_prefixed c.stack _ _ (λ x y rest. operated_prefixed (apply op x y) line _ _ (λ v. refl))
  perform_prefixed (Load r) = cells_prefixed r (pos 0) 1 _ _ (λ a. refl)
  perform_prefixed (Store r) = on_top_prefixed c.stack _ _ (λ v rest. cells_prefixed r (pos 0) 1 _ _ (λ a. refl))
  perform_prefixed (LoadAt r) = on_top_prefixed c.stack _ _ (λ k rest. cells_prefixed r k 1 _ _ (λ a. refl))
  perform_prefixed (StoreAt r) = on_two_prefixed c.stack _ _ (λ k v rest. cells_prefixed r k 1 _ _ (λ a. refl))
  perform_prefixed (AdjustAt kind r) = on_two_prefixed c.stack _ _ (λ k v rest. cells_prefixed r k 1 _ _ (λ a. refl))
  perform_prefixed (AddOffset n) = on_top_prefixed c.stack _ _ (λ k rest. refl)
  perform_prefixed (Index n size line) = index_prefixed (elements c n) size line (elements (prefixed p c) n) (elements_prefixed n)
  perform_prefixed (TakeLength n) = length_prefixed (elements c n) (elements (prefixed p c) n) (elements_prefixed n)
  perform_prefixed (Copy t s n) = on_two_prefixed c.stack _ _ (λ k j rest. cells_prefixed t k n _ _ (λ a. cells_prefixed s j n _ _ (λ b. refl)))
  perform_prefixed (StoreText s text line) = text_prefixed s.root text line (elements c s.length) (elements (prefixed p c) s.length) (elements_prefixed s.length)
  perform_prefixed (RelateTexts r s t) = texts_prefixed r s.root t.root (elements c s.length) (elements (prefixed p c) s.length) (elements c t.length) (elements (prefixed p c) t.length) (elements_prefixed s.length) (elements_prefixed t.length)
  perform_prefixed (NamePlace r n) = on_top_prefixed c.stack _ _ (λ k rest. cells_prefixed r k n _ _ (λ a. refl))
  perform_prefixed (NameArray r n size) = array_prefixed r size (elements c n) (elements (prefixed p c) n) (elements_prefixed n)
  perform_prefixed (NameRecord r type n) = on_top_prefixed c.stack _ _ (λ k rest. cells_prefixed r k (cells_of type) _ _ (λ a. refl))
  perform_prefixed (NameAgain x n) = on_top_prefixed c.stack _ _ (λ k rest. refl)
  perform_prefixed (Test x type) = on_top_prefixed c.stack _ _ (λ k rest. refl)
  perform_prefixed (Guard x type kind line) = cond_prefixed (extends (type_of code (name_at c x)) type) _ _ _ _ refl refl
  perform_prefixed (Skip n) = refl
  perform_prefixed (SkipIfZero n) = on_top_prefixed c.stack _ _ (λ v rest. choose_prefixed v _ _ _ _ refl refl)
  perform_prefixed (SkipIfWithin low high n) = on_top_prefixed c.stack _ _ (λ v rest. refl)
  perform_prefixed Enter = refl
  perform_prefixed (EnterBack n) = on_top_prefixed c.stack _ _ (λ v rest. choose_prefixed v _ _ _ _ refl refl)
  perform_prefixed (Trap kind line) = refl
  perform_prefixed (Assert line) = on_top_prefixed c.stack _ _ (λ v rest. choose_prefixed v _ _ _ _ refl refl)
  perform_prefixed (Invoke g line) = invoked_prefixed (nat_lt (length c.frames) max_depth) g line
  perform_prefixed OpenInput = refl
  perform_prefixed CallInput = refl
  perform_prefixed (Read t) = on_top_prefixed c.stack _ _ (λ k rest. read_prefixed t (found_in c t c.memory.input) k rest (reading_prefixed t c.memory.input) refl)
  perform_prefixed AskLine = refl
  perform_prefixed TakeLine = refl
  perform_prefixed OpenOutput = refl
  perform_prefixed PutChar = on_top_prefixed c.stack _ _ (λ v rest. put_prefixed rest (char_text (character v)))
  perform_prefixed (PutText s) = shown_prefixed s.root (elements c s.length) (elements (prefixed p c) s.length) (elements_prefixed s.length)
  perform_prefixed PutInt = on_two_prefixed c.stack _ _ (λ v width rest. put_prefixed rest (int_text v width))
  perform_prefixed PutLine = put_prefixed c.stack line_end

  act_prefixed : (o : Option Line) → act code o (prefixed p c) ≡ prefixed_effect p (act code o c)
  act_prefixed None = returned_prefixed c.frames
  act_prefixed (Some l) = perform_prefixed l.instr

step_prefixed : (code : Code) (p : List ℕ) (c : Config) (x : Effect) → effect code c ≡ x → effect code (prefixed p c) ≡ prefixed_effect p x
step_prefixed code p c x e = act_prefixed code p c (slice_get (lines_of code c.at.home c.at.procedure) c.at.place) ∙ ap (prefixed_effect p) e

-- where it stands, it stands with more text written before
stands_prefixed : (code : Code) (p : List ℕ) (why why' : Outcome) (l : Supply) (d : Config) (t : ℕ) (ls : List InputLine) → why ≡ why' → l ≡ supply t ls → Comes code (Going (supply t ls) (prefixed p d)) (Standing why' (supply t ls) (prefixed p d)) → Comes code (Going (supply t ls) (prefixed p d)) (Standing why l (prefixed p d))
stands_prefixed code p why why' l d t ls reason left there =
    subst (λ k. Comes code (Going (supply t ls) (prefixed p d)) (Standing why k (prefixed p d))) (sym left)
    (subst (λ y. Comes code (Going (supply t ls) (prefixed p d)) (Standing y (supply t ls) (prefixed p d))) (sym reason) there)

-- the same run, with more text written before it
pub run_prefixed : (code : Code) (p : List ℕ) (n : Supply) (c : Config) (why : Outcome) (l : Supply) (d : Config) → Comes code (Going n c) (Standing why l d) → Comes code (Going n (prefixed p c)) (Standing why l (prefixed p d))
run_prefixed code p n c why l d x = by_steps code why l d (λ t ls c. Comes code (Going (supply t ls) (prefixed p c)) (Standing why l (prefixed p d))) (record {
  move = λ t ls c c' e h. goes_on code _ _ _ (moves code (supply t ls) (prefixed p c) (prefixed p c') (step_prefixed code p c (Moves c') e)) h;
  turn = λ t ls kind c c' e h. goes_on code _ _ _ (takes_turn code t ls kind (prefixed p c) (prefixed p c') (step_prefixed code p c (Turns kind c') e)) h;
  line = λ t line ls f c e h. goes_on code _ _ _ (takes_line code t line ls (λ x. prefixed p (f x)) (prefixed p c) (step_prefixed code p c (Reads f) e)) h;
  stop = λ ls kind c' e reason left. stands_prefixed code p why (Stopped kind) l d 0 ls reason left (has_no_turn code ls kind (prefixed p d) (prefixed p c') (step_prefixed code p d (Turns kind c') e));
  ask = λ t f e reason left. stands_prefixed code p why NeedsLine l d t [] reason left (has_no_line code t (λ x. prefixed p (f x)) (prefixed p d) (step_prefixed code p d (Reads f) e));
  trap = λ t ls kind line e reason left. stands_prefixed code p why (Trapped kind d.at.home line) l d t ls reason left (fails code (supply t ls) kind line (prefixed p d) (step_prefixed code p d (Fails kind line) e));
  end = λ t ls e reason left. stands_prefixed code p why Ended l d t ls reason left (finishes code (supply t ls) (prefixed p d) (step_prefixed code p d Finishes e));
}) n c x
