-- Where a run comes to stand: the machine's way and the meaning's are one.
use Rattle.std.proofs.Common.{◌≡◌, ℕ, List, [], ◌∷◌, length, None, refl, sym, ap, ◌∙◌, subst, arith, take, suc}
use Rattle.std.specs.Prelude.{slice_get}
use Rattle.std.proofs.lemmas.Option.{slice_get_past}
use Rattle.ob_inout.specs.Reading.{opened}
use Rattle.ob_mean.specs.declared.outcome.Outcome.{Outcome}
use Rattle.ob_mean.specs.declared.outcome.Outcome.TheVariants.{Ended}
use Rattle.ob_mean.specs.Values.{Value, Nothing, shape, image, count, append, first}
use Rattle.ob_mean.specs.Runs.{World, Supply, Run, Goes, Stands, Done, ended}
use Rattle.ob_mean.specs.Programs.{Program, opening_store}
use Rattle.ob_code.specs.declared.instr.Line.{Line}
use Rattle.ob_code.specs.Machine.{Code, Config, Memory, picture, Point, Going, Standing, Lost, Comes, body_number, returned, act, take_effect}
use Rattle.ob_gen.specs.Correct.{MayBegin, StaysOf, Follows}
use Rattle.ob_code.proofs.machine.Runs.{goes_on, steps_on, one_end, after-standing, after-lost}
use Rattle.ob_gen.proofs.machine.Reaches.{Running, conf, here, lines_in, Reaches, AnyDone, BeginsWith, Same, Longer}
use Rattle.ob_gen.proofs.machine.Store.{IsRow, shape-row, size-shape, append-nothing, shrinks, shrinks-shape}
use Rattle.ob_gen.proofs.machine.Frames.{StoreFits}

-- ---- before a cell

program-row : (program : Program) → IsRow (opening_store program)
program-row [] = tt
program-row (m ∷ ms) = program-row ms

-- the modules' variables alone
pub opening_fits : (program : Program) → StoreFits program (shape (opening_store program))
opening_fits program =
    let row = shape-row (opening_store program) (program-row program) in
    record { row = row; others = Nothing; has = sym (append-nothing (shape (opening_store program)) row) }

count-opening : (program : Program) → count (shape (opening_store program)) ≡ length program
count-opening [] = refl
count-opening (m ∷ ms) = ap suc (count-opening ms)

stays_by : (program : Program) (t more : Value) → shape t ≡ append (shape (opening_store program)) more → StaysOf program t
stays_by program t more e =
    let s = shape (opening_store program) in
    let row = shape-row (opening_store program) (program-row program) in
    let many = count-opening program in
    record {
      shapes = ap (λ k. shape (first k t)) (sym many) ∙ shrinks-shape s more t row e;
      cells = ap (λ k. image (first k t)) (sym many) ∙ shrinks s more t row e ∙ ap (λ k. take k (image t)) (size-shape (opening_store program));
    }

stays_of : (program : Program) (t : Value) → BeginsWith (shape (opening_store program)) (shape t) → StaysOf program t
stays_of program t (Same e) =
    stays_by program t Nothing (e ∙ sym (append-nothing (shape (opening_store program)) (shape-row (opening_store program) (program-row program))))
stays_of program t (Longer more e) = stays_by program t more e

-- in the body of a module, with no call open
abbrev pub running : Code → ℕ → World → Running
running code home w = record { home = home; procedure = body_number (slice_get code home); cells = length (image w.store); names = 0; frames = []; under = []; below = [] }

-- ---- where a run stands

abbrev pub Comes_to : Program → Code → Config → Supply → Run Done → Type 0
Comes_to program code c n (Goes d left v) = ⊥
Comes_to program code c n (Stands why left v) =
    (end : Config) × Comes code (Going n c) (Standing why left end) × (end.memory ≡ picture v) × StaysOf program v.store

-- at the end of the body's lines the run is over
pub at_end : (program : Program) (code : Code) (r : Running) (lines : List Line) (c : Config) (n : Supply) (most : ℕ) (run : Run Done) → r.frames ≡ [] → lines_in code r ≡ lines → Reaches code most (shape (opening_store program)) AnyDone (Going n c) (λ d n' w'. here r (length lines) [] [] n' w') run → Comes_to program code c n (ended run)
at_end program code r lines c n most (Stands why k v) none is h = (h.there, h.comes, h.same, stays_of program v.store h.kept)
at_end program code r lines c n most (Goes d k v) none is h =
    let end = conf r (length lines) [] [] v in
    let past : slice_get (lines_in code r) (length lines) ≡ None = ap (λ l. slice_get l (length lines)) is ∙ slice_get_past lines (length lines) (omega arith) in (
      end,
      goes_on code _ _ _ h.2 (steps_on code (Going k end) (Standing Ended k end)
          (ap (λ o. take_effect (act code o end) k end) past ∙ ap (λ fs. take_effect (returned fs end) k end) none)),
      refl,
      stays_of program v.store (Same h.0.fits),
    )

abbrev point_memory : Point → Memory
point_memory (Going n c) = c.memory
point_memory (Standing why n c) = c.memory
point_memory Lost = record { cells = []; written = []; input = opened }

same_stand : (why why' : Outcome) (left left' : Supply) (v : World) → why ≡ why' → left ≡ left' → (let r : Run Done = Stands why' left' v in r) ≡ Stands why left v
same_stand why why' left left' v e f = cc

stands_by : (program : Program) (code : Code) (c : Config) (n : Supply) (r : Run Done) → Comes_to program code c n r → (why : Outcome) × (left : Supply) × (v : World) × (r ≡ Stands why left v)
stands_by program code c n (Goes d left v) h = absurd h
stands_by program code c n (Stands why left v) h = (why, left, v, refl)

only_by : (program : Program) (code : Code) (c : Config) (n : Supply) (r : Run Done) (why : Outcome) (left : Supply) (end : Config) → Comes_to program code c n r → Comes code (Going n c) (Standing why left end) → (v : World) × (r ≡ Stands why left v) × (end.memory ≡ picture v)
only_by program code c n (Goes d k v) why left end h x = absurd h
only_by program code c n (Stands why' k v) why left end h x =
    let same = one_end code (Going n c) (Standing why left end) why' k h.0 (λ j. after-standing code j why left end) x h.1 in
    let memory : point_memory (Standing why left end) ≡ point_memory (Standing why' k h.0) = ap point_memory same in
    let e1 : why ≡ why' = cc in
    let e2 : left ≡ k = cc in
    (v, same_stand why why' left k v e1 e2, memory ∙ h.2)

found_by : (program : Program) (code : Code) (c : Config) (n : Supply) (r : Run Done) → Comes_to program code c n r → Comes code (Going n c) Lost → ⊥
found_by program code c n (Goes d k v) h x = h
found_by program code c n (Stands why k v) h x =
    let same : Lost ≡ Standing why k h.0 = one_end code (Going n c) Lost why k h.0 (λ j. after-lost code j) x h.1 in
    cc

-- code that comes to where its meaning stands follows it
pub follows_it : (program : Program) (code : Code) (meaning : Supply → World → Run Done) (opening : World → Config) → ((n : Supply) (w : World) → MayBegin program w → Comes_to program code (opening w) n (meaning n w)) → Follows program code meaning opening
follows_it program code meaning opening there =
    record {
      comes = λ n w b why left v e. (let x = subst (Comes_to program code (opening w) n) e (there n w b) in (x.0, x.1, x.2));
      stays = λ n w b why left v e. (subst (Comes_to program code (opening w) n) e (there n w b)).3;
      stands = λ n w b. stands_by program code (opening w) n (meaning n w) (there n w b);
      only = λ n w b why left c x. only_by program code (opening w) n (meaning n w) why left c (there n w b) x;
      found = λ n w b x. found_by program code (opening w) n (meaning n w) (there n w b) x;
    }
