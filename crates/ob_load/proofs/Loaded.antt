-- A module that is loaded, and the machine of its body.
use Rattle.std.proofs.Common.{◌≡◌, ℕ, zero, suc, ◌+◌, ◌≤◌, ◌<◌, ℤ, Bool, true, false, if◌then◌else◌, List, [], ◌∷◌, length, take, Some, None, refl, sym, ap, ◌∙◌, subst, arith, Vec, Global}
use Rattle.std.specs.Prelude.{slice_get}
use Rattle.std.specs.Str.{bytes_eq}
use Rattle.ob_mean.specs.Values.{before, item, size}
use Rattle.ob_mean.specs.WellFormed.{IsFaceOf, IsWellFormed}
use Rattle.ob_mean.specs.Programs.{opening_store, world_before}
use Rattle.ob_code.specs.declared.instr.CodeModule.{CodeModule}
use Rattle.ob_code.specs.declared.instr.LinkedModule.{LinkedModule}
use Rattle.ob_code.specs.Linked.{all_cells, AreLaid}
use Rattle.ob_code.specs.Machine.{Code, Config, start}
use Rattle.ob_gen.specs.Generated.{IsGenerated}
use Rattle.ob_gen.proofs.machine.Store.{before-within}
use Rattle.ob_vm.specs.Images as vm
use Rattle.ob_types.specs.Solid.{ExportsSolid}
use Rattle.ob_session.specs.Session.{Module, name_of, place_of, link_fault, with_module, installed, program_of}
use Rattle.ob_session.specs.Cells.{name_in}
use Rattle.ob_image.specs.Stores.{store_of, loaded_cells, session_of}
use Rattle.ob_image.specs.Runs.{MayBeginWith}
use Rattle.ob_image.proofs.Loading.{each_loads_cells}
use Rattle.ob_image.proofs.Runs.{each_may_begin}
use Rattle.ob_image.proofs.Counted.{compiled_counts, compiled_laid}
use Rattle.ob_image.proofs.Laid.{laid_put, put_long}
use Rattle.ob_image.specs.Compiled.{Known, AreCompiledFrom, AllFound, AreCompiled, IsReady, runs_in, put_at, laid}
use Rattle.ob_link.proofs.Loads.{each_load}
use Rattle.ob_image.specs.Loading.{IsUnreached}
use Rattle.ob_image.proofs.Imports.{running_at}
use Rattle.ob_image.proofs.Loads.{code_loads}
use Rattle.ob_image.proofs.MayRun.{each_may_run}
use Rattle.ob_image.proofs.Running.{loaded_runs}
use Rattle.ob_load.specs.declared.body.Beginning.{Beginning}
use Rattle.ob_load.specs.declared.loading.Prepared.{Prepared}
use Rattle.ob_load.specs.declared.task.Task.TheVariants.{Body}
use Rattle.ob_load.specs.Kept.{AreCheckable, IsHeld, IsRunning, opens}
use Rattle.ob_load.specs.Known.{IsSaid, AreSaid}
use Rattle.ob_load.specs.Said.{shape_said}
use Rattle.ob_load.specs.Loading.{IsPrepared, AreFlags, BodyMayBegin}
use Rattle.ob_load.specs.MachineState.{begun_in, stands_at}
use Rattle.ob_load.specs.Names.{NamesWithin}
use Rattle.ob_load.specs.Words.{InterfaceWords, AllWords}
use Rattle.ob_load.proofs.Machines.{begun, begun_state}
use Rattle.ob_load.proofs.Finished.{sized_as}
use Rattle.ob_load.proofs.Said.{types_agree, faces_agree, said_with}

-- ---- a place among modules

within_step : (b : Bool) (p n : ℕ) → p ≤ n → (if b then zero else suc p) ≤ suc n
within_step true p n le = omega arith
within_step false p n le = omega (arith, le)

pub place_within : (ms : List Module) (name : List ℕ) → place_of ms name ≤ length ms
place_within [] name = omega arith
place_within (m ∷ ms) name = within_step (bytes_eq (name_of m) name) (place_of ms name) (length ms) (place_within ms name)

-- a place among modules is one in what is known of them
pub within_known : (ms : List Module) (name : List ℕ) (ks kept : List Known) (n : ℕ) → length ks ≡ length ms → kept ≡ ks → n ≡ place_of ms name → n ≤ length kept
within_known ms name ks kept n sides same at =
    let many = ap (λ (xs : List Known). length xs) same in
    let within = place_within ms name in
    omega (arith, sides, many, within, at)

take_all : {A : Type 0} (xs : List A) → take (length xs) xs ≡ xs
take_all [] = refl
take_all (x ∷ xs) = ap (λ ys. x ∷ ys) (take_all xs)

is_some : {A : Type 0} (x y : A) → Some x ≡ Some y → x ≡ y
is_some x y e = cc

pub some_within : {A : Type 0} (xs : List A) (n : ℕ) (x : A) → slice_get xs n ≡ Some x → n < length xs
some_within [] n x e = absurd (let f : None ≡ Some x = e in cc)
some_within (y ∷ ys) zero x e = omega arith
some_within (y ∷ ys) (suc n) x e = let h = some_within ys n x e in omega (arith, h)

-- ---- modules, what is known of them, and their code

pub known_many : (all ms : List Module) (ks : List Known) (ls : Code) (first : ℕ) → AreCompiledFrom all ms ks ls first → length ks ≡ length ms
known_many all [] [] [] first h = refl
known_many all [] [] (l ∷ ls) first h = absurd h
known_many all [] (k ∷ ks) ls first h = absurd h
known_many all (m ∷ ms) [] ls first h = absurd h
known_many all (m ∷ ms) (k ∷ ks) [] first h = absurd h
known_many all (m ∷ ms) (k ∷ ks) (l ∷ ls) first h = ap suc (known_many all ms ks ls _ h.1)

pub code_many : (all ms : List Module) (ks : List Known) (ls : Code) (first : ℕ) → AreCompiledFrom all ms ks ls first → length ls ≡ length ms
code_many all [] [] [] first h = refl
code_many all [] [] (l ∷ ls) first h = absurd h
code_many all [] (k ∷ ks) ls first h = absurd h
code_many all (m ∷ ms) [] ls first h = absurd h
code_many all (m ∷ ms) (k ∷ ks) [] first h = absurd h
code_many all (m ∷ ms) (k ∷ ks) (l ∷ ls) first h = ap suc (code_many all ms ks ls _ h.1)

-- a module's cells end where all do, or before
pub ends_within : (modules : List Module) (known : List Known) (code : Code) (number behind cells : ℕ) → AreCompiledFrom modules modules known code 0 → behind ≡ before (opening_store (program_of modules)) number + size (item (opening_store (program_of modules)) number) → cells ≡ all_cells code → behind ≤ cells
ends_within modules known code number behind cells h e many =
    let all = (compiled_counts modules known code h).all in
    let within = before-within (opening_store (program_of modules)) number in
    omega (arith, e, many, all, within)

-- laying code moves its cells alone
laid_cells : (from : ℕ) (code : Code) → all_cells (laid from code) ≡ all_cells code
laid_cells from [] = refl
laid_cells from (l ∷ ls) = ap (λ n. l.code.cells + n) (laid_cells (from + l.code.cells) ls)

-- the code that was put somewhere stands there once all is laid
pub code_put : (from : ℕ) (xs : Code) (n : ℕ) (l x : LinkedModule) → n ≤ length xs → slice_get (laid from (put_at xs n l)) n ≡ Some x → l.code ≡ x.code
code_put from [] zero l x le e = ap (λ (y : LinkedModule). y.code) (is_some _ x e)
code_put from [] (suc n) l x le e = absurd (omega (arith, le))
code_put from (y ∷ xs) zero l x le e = ap (λ (z : LinkedModule). z.code) (is_some _ x e)
code_put from (y ∷ xs) (suc n) l x le e = code_put (from + y.code.cells) xs n l x (omega (arith, le)) e

-- ---- what the checker asks

either_words : (b : Bool) (xs ys : List Module) → AllWords xs → AllWords ys → AllWords (if b then xs else ys)
either_words true xs ys h k = h
either_words false xs ys h k = k

words_with : (ms : List Module) (m : Module) → AllWords ms → InterfaceWords m.interface → AllWords (with_module ms m)
words_with [] m h w = (w, tt)
words_with (x ∷ ms) m h w = either_words (bytes_eq (name_of x) (name_of m)) (m ∷ ms) (x ∷ with_module ms m) (w, h.1) (h.0, words_with ms m h.1 w)

pub checkable_with : (ms : List Module) (m : Module) → AreCheckable ms → ExportsSolid m.interface.exports → InterfaceWords m.interface → AreCheckable (with_module ms m)
checkable_with ms m h s w = let so = each_load ms m in (so.solid h.0 s, so.distinct h.1, words_with ms m h.2 w)

-- ---- names that are no longer than so many characters

pub within_more : (ms : List Module) (n k : ℕ) → n ≤ k → NamesWithin ms n → NamesWithin ms k
within_more [] n k le h = tt
within_more (m ∷ ms) n k le h = (omega (arith, le, h.0), within_more ms n k le h.1)

either_within : (b : Bool) (xs ys : List Module) (n : ℕ) → NamesWithin xs n → NamesWithin ys n → NamesWithin (if b then xs else ys) n
either_within true xs ys n h k = h
either_within false xs ys n h k = k

pub within_with : (ms : List Module) (m : Module) (n : ℕ) → NamesWithin ms n → length (name_of m) ≤ n → NamesWithin (with_module ms m) n
within_with [] m n h le = (le, tt)
within_with (x ∷ ms) m n h le = either_within (bytes_eq (name_of x) (name_of m)) (m ∷ ms) (x ∷ with_module ms m) n (le, h.1) (h.0, within_with ms m n h.1 le)

pub within_in : (ms : List Module) (k n : ℕ) → NamesWithin ms n → length (name_in (slice_get ms k)) ≤ n
within_in [] k n h = omega arith
within_in (x ∷ ms) zero n h = h.0
within_in (x ∷ ms) (suc k) n h = within_in ms k n h.1

-- ---- a module that is loaded

pub store_is : (modules : List Module) (known : List Known) (code : Code) (m : Module) (cells : List ℤ) → AreCompiledFrom modules modules known code 0 → length cells ≡ all_cells code → (installed (session_of modules cells) m).store ≡ store_of (with_module modules m) (loaded_cells modules m cells)
store_is modules known code m cells h many = (each_loads_cells modules m cells (many ∙ (compiled_counts modules known code h).all)).store

pub is_ready : (modules : List Module) (m : Module) (k : Known) (cells : List ℤ) (code : CodeModule) (p : Prepared) → IsWellFormed k.faces m.tree → IsGenerated k.faces m.tree code → IsFaceOf k.face m.tree → AllFound modules m.imports → IsPrepared modules cells m code p → IsReady modules m k (record { code = code; imports = p.imports; cells = 0 })
is_ready modules m k cells code p formed generated face found prepared = record { formed = formed; generated = generated; face = face; found = found; imports = prepared.imports }

-- what stands before the place where code is put lies as it did
pub put_there : (modules : List Module) (known : List Known) (name : List ℕ) (code kept put : Code) (n : ℕ) (l : LinkedModule) → AreCompiledFrom modules modules known code 0 → n ≡ place_of modules name → kept ≡ code → put ≡ put_at kept n l → (n ≤ length put) × AreLaid 0 (take n put)
put_there modules known name code kept put n l h at same e =
    let many = code_many modules modules known code 0 h in
    let within = place_within modules name in
    let le : n ≤ length code = omega (arith, at, many, within) in
    subst (λ (x : Code). (n ≤ length x) × AreLaid 0 (take n x)) (sym (e ∙ ap (λ (c : Code). put_at c n l) same))
    (put_long code n l le, laid_put code n l le (compiled_laid modules modules known code 0 h))

module _ (modules : List Module) (m : Module) (known : List Known) (k : Known) (code : Code) (l : LinkedModule) (h : AreCompiledFrom modules modules known code 0) (ready : IsReady modules m k l) where
  abbrev pub place : ℕ
  place = place_of modules (name_of m)

  abbrev pub new_modules : List Module
  new_modules = with_module modules m

  abbrev pub new_known : List Known
  new_known = put_at known place k

  abbrev pub new_code : Code
  new_code = laid 0 (put_at code place l)

  each_now : AreCompiledFrom new_modules new_modules new_known new_code 0
  each_now = code_loads modules m known k code l h ready

  pub there : place ≤ length code
  there = let e = code_many modules modules known code 0 h in let le = place_within modules (name_of m) in omega (arith, e, le)

  room_there : (room : vm.RoomState) → vm.IsRoomFor l.code room → (x : LinkedModule) → slice_get new_code place ≡ Some x → vm.IsRoomFor x.code room
  room_there room fits x e = subst (λ (c : CodeModule). vm.IsRoomFor c room) (code_put 0 code place l x there e) fits

  module _ (cells : List ℤ) (many : length cells ≡ all_cells code) (p : Prepared) (prepared : IsPrepared modules cells m l.code p) where
    many_now : length p.cells.items ≡ all_cells new_code
    many_now =
        ap length prepared.row ∙ (each_loads_cells modules m cells (many ∙ (compiled_counts modules known code h).all)).fits
        ∙ sym (compiled_counts new_modules new_known new_code each_now).all

    -- there are as many cells as the code with the module's own has
    pub many_put : (n : ℕ) (kept put : Code) → n ≡ place → kept ≡ code → put ≡ put_at kept n l → all_cells put ≡ length p.cells.items
    many_put n kept put at same e =
        ap all_cells (e ∙ ap (λ (c : Code). put_at c n l) same ∙ ap (λ i. put_at code i l) at) ∙ sym (laid_cells 0 (put_at code place l)) ∙ sym many_now

    module _ (runs : Vec Bool Global) where
      abbrev pub beginning : ℕ → Beginning
      beginning n = record { number = n; runs = runs; cells = p.cells; room = p.room }

      begins_there : AreSaid new_modules new_known → runs_in new_modules place ≡ true → AreFlags new_modules runs.items → BodyMayBegin new_modules new_known new_code (beginning place)
      begins_there said may is = record {
        compiled = record { each = each_now; agree = faces_agree new_modules new_known said };
        runs = is.flags;
        flags = is.count;
        row = many_now;
        may_run = may;
        room = room_there p.room prepared.room;
      }

      pub may_begin : (n : ℕ) (ms : List Module) (ks : List Known) (kept put c : Code) → n ≡ place → ms ≡ new_modules → ks ≡ new_known → kept ≡ code → put ≡ put_at kept n l → c ≡ laid 0 put → AreSaid modules known → IsSaid m k → link_fault modules m.imports ≡ None → IsUnreached modules (name_of m) m.imports → AreFlags ms runs.items → BodyMayBegin ms ks c (beginning n)
      may_begin n ms ks kept put c at em ek same ep ec said own links un is =
          let now : c ≡ new_code = ec ∙ ap (λ (x : Code). laid 0 x) (ep ∙ ap (λ (x : Code). put_at x n l) same ∙ ap (λ i. put_at code i l) at) in
          let flags = subst (λ (x : List Module). AreFlags x runs.items) em is in
          let says = said_with modules known m k said own in
          subst (λ i. BodyMayBegin ms ks c (beginning i)) (sym at)
          (subst (λ (x : Code). BodyMayBegin ms ks x (beginning place)) (sym now)
          (subst (λ (x : List Known). BodyMayBegin ms x new_code (beginning place)) (sym ek)
          (subst (λ (x : List Module). BodyMayBegin x new_known new_code (beginning place)) (sym em) (begins_there says (loaded_runs modules m links un) flags))))

-- ---- the machine of a body

module _ (modules : List Module) (known : List Known) (code : Code) (b : Beginning) (h : BodyMayBegin modules known code b) where
  alone : take (length modules) code ≡ code
  alone = ap (λ n. take n code) (sym (code_many modules modules known code 0 h.compiled.each)) ∙ take_all code

  abbrev now : vm.ImageState
  now = record { code = code; may_run = b.runs.items; cells = b.cells.items }

  runs_there : vm.CanRun now b.number
  runs_there =
      let r = running_at modules b.number h.may_run in
      let within = some_within modules b.number r.m r.there in
      let many = code_many modules modules known code 0 h.compiled.each in
      (omega (arith, within, many), h.runs b.number ∙ h.may_run)

  held : AreCheckable modules → AreSaid modules known → IsHeld modules known now
  held checkable said = record {
    compiled = subst (λ (c : Code). AreCompiled modules known c) (sym alone) h.compiled;
    runs = λ n _. h.runs n;
    flags = let same = h.flags in omega (arith, same);
    sized = ap all_cells (sym alone);
    checkable = checkable;
    said = said;
  }

  abbrev before_all : vm.ImageState → Config
  before_all i = start i.code b.number (record { cells = i.cells; written = []; input = (world_before (store_of modules b.cells.items)).input })

  module _ (run : vm.MachineState) (fits : vm.IsOf now run) (at : vm.machine_config now run ≡ before_all now) (none : run.used ≡ 0) where
    may : MayBeginWith modules b.cells.items
    may = each_may_begin modules b.cells.items (h.row ∙ sized_as modules known code h.compiled)

    at_now : vm.machine_config now run ≡ opens modules (store_of modules b.cells.items) (Body b.number) now
    at_now = at ∙ ap (start code b.number) (sym may.pictured)

    pub runs_now : AreSaid modules known → IsRunning modules (store_of modules b.cells.items) (Body b.number) [] now run false
    runs_now said =
        let follows = (each_may_run modules known code h.compiled).does shape_said (types_agree modules known said) b.number h.may_run in
        begun modules (store_of modules b.cells.items) (Body b.number) now run fits follows may.may at_now none

    pub state_now : AreSaid modules known → stands_at modules (store_of modules b.cells.items) (Body b.number) [] run false false ≡ begun_in (session_of modules b.cells.items) (Body b.number)
    state_now said = begun_state modules (store_of modules b.cells.items) (Body b.number) now run (runs_now said) at_now none

  module _ (i : vm.ImageState) (e : i ≡ now) where
    pub can_run : vm.CanRun i b.number
    can_run = subst (λ (x : vm.ImageState). vm.CanRun x b.number) (sym e) runs_there

    pub room_in : vm.IsRoomIn i b.number b.room
    room_in = subst (λ (x : vm.ImageState). vm.IsRoomIn x b.number b.room) (sym e) h.room

    module _ (run : vm.MachineState) (fits : vm.IsOf i run) (at : vm.machine_config i run ≡ before_all i) (none : run.used ≡ 0) where
      fits_now : vm.IsOf now run
      fits_now = subst (λ (x : vm.ImageState). vm.IsOf x run) e fits

      at_then : vm.machine_config now run ≡ before_all now
      at_then = subst (λ (x : vm.ImageState). vm.machine_config x run ≡ before_all x) e at

      pub begun_on : AreCheckable modules → AreSaid modules known → IsHeld modules known i × IsRunning modules (store_of modules b.cells.items) (Body b.number) [] i run false
      begun_on solid said = (
        subst (λ (x : vm.ImageState). IsHeld modules known x) (sym e) (held solid said),
        subst (λ (x : vm.ImageState). IsRunning modules (store_of modules b.cells.items) (Body b.number) [] x run false) (sym e) (runs_now run fits_now at_then none said),
      )

      pub begun_at : AreSaid modules known → stands_at modules (store_of modules b.cells.items) (Body b.number) [] run false false ≡ begun_in (session_of modules b.cells.items) (Body b.number)
      begun_at said = state_now run fits_now at_then none said

-- ---- an image that is put together again

pub same_image : (i : vm.ImageState) (code : Code) (flags : List Bool) (cells : List ℤ) → code ≡ i.code → flags ≡ i.may_run → cells ≡ i.cells → (let j : vm.ImageState = record { code = code; may_run = flags; cells = cells } in j) ≡ i
same_image i code flags cells ec ef en =
    ap (λ (c : Code). let j : vm.ImageState = record { code = c; may_run = flags; cells = cells } in j) ec
    ∙ ap (λ (fs : List Bool). let j : vm.ImageState = record { code = i.code; may_run = fs; cells = cells } in j) ef
    ∙ ap (λ (cs : List ℤ). let j : vm.ImageState = record { code = i.code; may_run = i.may_run; cells = cs } in j) en
