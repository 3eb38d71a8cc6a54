-- What a module imports links where the module's imports do.
use Rattle.std.proofs.Common.{◌≡◌, ℕ, zero, suc, Bool, true, false, List, [], ◌∷◌, ◌++◌, length, Option, Some, None, is_none, if◌then◌else◌, refl, sym, ap, ◌∙◌, arith}
use Rattle.std.specs.Prelude.{◌||◌, map, nat_eq, slice_get}
use Rattle.std.specs.Str.{bytes_eq}
use Rattle.ob_session.specs.Session.{Import, Module, name_of, find_module, place_of, import_places, link_fault}
use Rattle.ob_session.specs.Links.{Reached, First, Behind, Through, IsLoaded}
use Rattle.ob_session.proofs.Links.{each_links}
use Rattle.ob_code.specs.Linked.{runs_of}
use Rattle.ob_gen.specs.Correct.{AllRun}
use Rattle.ob_image.specs.CommandsCode.{runs_with}
use Rattle.ob_image.specs.Compiled.{links, runs_in}

-- ---- modules and their places

-- a module that is found stands in its place
pub found_at : (ms : List Module) (name : List ℕ) (m : Module) → find_module ms name ≡ Some m → slice_get ms (place_of ms name) ≡ Some m
found_at [] name m e = absurd (let n : None ≡ Some m = e in cc)
found_at (x ∷ ms) name m e = by (bytes_eq (name_of x) name) (found_at ms name m) e
  where
    by : (b : Bool) → (find_module ms name ≡ Some m → slice_get ms (place_of ms name) ≡ Some m) → (if b then Some x else find_module ms name) ≡ Some m → slice_get (x ∷ ms) (if b then zero else suc (place_of ms name)) ≡ Some m
    by true later e = e
    by false later e = later e

no_fault : (o : Option (List ℕ)) → is_none o ≡ true → o ≡ None
no_fault None e = refl
no_fault (Some name) e = absurd (let n : false ≡ true = e in cc)

-- a module that may run is there, and its imports link
pub record Running (ms : List Module) (i : ℕ) : Type 0 where
  pub m : Module
  pub there : slice_get ms i ≡ Some m
  pub linked : link_fault ms m.imports ≡ None

pub running_at : (ms : List Module) (i : ℕ) → runs_in ms i ≡ true → Running ms i
running_at ms i e = by (slice_get ms i) refl e
  where
    by : (o : Option Module) → slice_get ms i ≡ o → links ms o ≡ true → Running ms i
    by None at e = absurd (let n : false ≡ true = e in cc)
    by (Some m) at e = record { m = m; there = at; linked = no_fault (link_fault ms m.imports) e }

-- ---- flags

-- those may run that flags for each module say
flag_at : (modules ms : List Module) (i : ℕ) → runs_of (map (λ (m : Module). is_none (link_fault modules m.imports)) ms) i ≡ links modules (slice_get ms i)
flag_at modules [] i = refl
flag_at modules (m ∷ ms) zero = refl
flag_at modules (m ∷ ms) (suc i) = flag_at modules ms i

pub flags_run : (modules : List Module) (i : ℕ) → runs_of (map (λ (m : Module). is_none (link_fault modules m.imports)) modules) i ≡ runs_in modules i
flags_run modules i = flag_at modules modules i

next_eq : (i n : ℕ) → nat_eq (suc i) (suc n) ≡ nat_eq i n
next_eq i n = grind arith

never_zero : (i : ℕ) → nat_eq (suc i) zero ≡ false
never_zero i = grind arith

zero_never : (n : ℕ) → nat_eq zero (suc n) ≡ false
zero_never n = grind arith

flag_behind : (flags : List Bool) (i : ℕ) → runs_of (flags ++ true ∷ []) i ≡ (nat_eq i (length flags) || runs_of flags i)
flag_behind [] zero = refl
flag_behind [] (suc i) = ap (λ b. b || false) (sym (never_zero i))
flag_behind (flag ∷ flags) zero = ap (λ b. b || flag) (sym (zero_never (length flags)))
flag_behind (flag ∷ flags) (suc i) = flag_behind flags i ∙ ap (λ b. b || runs_of flags i) (sym (next_eq i (length flags)))

-- and with one more for what stands after them
pub flags_run_with : (modules : List Module) (flags : List Bool) → length flags ≡ length modules → ((i : ℕ) → runs_of flags i ≡ runs_in modules i) → (i : ℕ) → runs_of (flags ++ true ∷ []) i ≡ runs_with modules i
flags_run_with modules flags long say i = flag_behind flags i ∙ ap (λ n. nat_eq i n || runs_of flags i) long ∙ ap (λ b. nat_eq i (length modules) || b) (say i)

-- ---- imports

-- of imports through which all that is reached is loaded, each may run
reached_run : (ms : List Module) (is : List Import) → ((i : Import) → Reached ms i is → IsLoaded ms i) → AllRun (runs_in ms) (import_places ms is)
reached_run ms [] loaded = tt
reached_run ms (j ∷ js) loaded =
    let l = loaded j (First js) in
    let linked : link_fault ms l.0.imports ≡ None = (each_links ms l.0.imports).linked.1 (λ i r. loaded i (Through j js l.0 l.1 r)) in
    (ap (links ms) (found_at ms j.name l.0 l.1) ∙ ap is_none linked, reached_run ms js (λ i r. loaded i (Behind j js r)))

pub imports_run : (ms : List Module) (is : List Import) → link_fault ms is ≡ None → AllRun (runs_in ms) (import_places ms is)
imports_run ms is e = reached_run ms is ((each_links ms is).linked.0 e)
