-- Where a module is loaded, code stays that of the session's modules.
use Rattle.std.proofs.Common.{◌≡◌, ◌≢◌, ℕ, zero, suc, ◌+◌, Bool, true, false, List, [], ◌∷◌, length, Some, None, if◌then◌else◌, refl, sym, ap, ◌∙◌, subst}
use Rattle.std.specs.Str.{bytes_eq}
use Rattle.ob_mean.specs.Values.{count}
use Rattle.ob_mean.specs.Programs.{opening_store}
use Rattle.ob_code.specs.declared.instr.LinkedModule.{LinkedModule}
use Rattle.ob_code.specs.Machine.{Code}
use Rattle.ob_session.specs.Session.{Import, Module, Session, name_of, find_module, place_of, with_module, import_places, loaded, program_of}
use Rattle.ob_session.specs.Loads.{Loads}
use Rattle.ob_session.proofs.Loads.{each_loads}
use Rattle.std.specs.Prelude.{map}
use Rattle.ob_image.specs.Compiled.{Known, AllFound, IsReady, IsCompiledAt, AreCompiledFrom, put_at, laid, EachLoads}

-- the variables of modules have a part for each
count_opening : (all ms : List Module) → count (opening_store (map (loaded all) ms)) ≡ length ms
count_opening all [] = refl
count_opening all (m ∷ ms) = ap suc (count_opening all ms)

-- the same code, with its first cell elsewhere
abbrev moved : LinkedModule → ℕ → LinkedModule
moved l from = record { code = l.code; imports = l.imports; cells = from }

module _ (modules : List Module) (m : Module) where
  abbrev after : List Module
  after = with_module modules m

  abbrev pub before : Session
  before = record { modules = modules; store = opening_store (program_of modules) }

  -- what stays
  pub loads : Loads before m
  loads = each_loads before m (count_opening modules modules)

  -- ---- imports

  found_still : (name : List ℕ) → find_module modules name ≢ None → find_module after name ≢ None
  found_still name there = subst (λ o. o ≢ None) (sym (loads.found name)) (by (bytes_eq (name_of m) name))
    where
      by : (b : Bool) → (if b then Some m else find_module modules name) ≢ None
      by true = λ e. let n : Some m ≡ None = e in cc
      by false = there

  all_found_still : (is : List Import) → AllFound modules is → AllFound after is
  all_found_still [] f = tt
  all_found_still (i ∷ is) f = (found_still i.name f.0, all_found_still is f.1)

  places_stay : (is : List Import) → AllFound modules is → import_places after is ≡ import_places modules is
  places_stay [] f = refl
  places_stay (i ∷ is) f =
      let one : place_of after i.name ≡ place_of modules i.name = loads.places i.name f.0 in
      let rest : import_places after is ≡ import_places modules is = places_stay is f.1 in
      ap (λ p. p ∷ import_places after is) one ∙ ap (λ ps. place_of modules i.name ∷ ps) rest

  -- ---- code

  stays_ready : (x : Module) (k : Known) (l : LinkedModule) (from : ℕ) → IsReady modules x k l → IsCompiledAt after x k (moved l from) from
  stays_ready x k l from r = record {
    ready = record {
      formed = r.formed;
      generated = r.generated;
      face = r.face;
      found = all_found_still x.imports r.found;
      imports = r.imports ∙ sym (places_stay x.imports r.found);
    };
    cells = refl;
  }

  rest_stays : (ms : List Module) (ks : List Known) (ls : Code) (first from : ℕ) → AreCompiledFrom modules ms ks ls first → AreCompiledFrom after ms ks (laid from ls) from
  rest_stays [] [] [] first from h = tt
  rest_stays [] [] (l ∷ ls) first from h = absurd h
  rest_stays [] (k ∷ ks) ls first from h = absurd h
  rest_stays (x ∷ ms) [] ls first from h = absurd h
  rest_stays (x ∷ ms) (k ∷ ks) [] first from h = absurd h
  rest_stays (x ∷ ms) (k ∷ ks) (l ∷ ls) first from h =
      (stays_ready x k l from h.0.ready, rest_stays ms ks ls (first + l.code.cells) (from + l.code.cells) h.1)

  module _ (k : Known) (l : LinkedModule) (ready : IsReady modules m k l) where
    -- what stands where the module is put
    abbrev Put : List Module → ℕ → List Known → Code → ℕ → Type 0
    Put ms place ks ls from = AreCompiledFrom after ms (put_at ks place k) (laid from (put_at ls place l)) from

    put_by : (x : Module) (ms : List Module) (k1 : Known) (ks : List Known) (l1 : LinkedModule) (ls : Code) (first from : ℕ) (b : Bool) → AreCompiledFrom modules (x ∷ ms) (k1 ∷ ks) (l1 ∷ ls) first → Put (with_module ms m) (place_of ms (name_of m)) ks ls (from + l1.code.cells) → Put (if b then m ∷ ms else x ∷ with_module ms m) (if b then zero else suc (place_of ms (name_of m))) (k1 ∷ ks) (l1 ∷ ls) from
    put_by x ms k1 ks l1 ls first from true h p = (stays_ready m k l from ready, rest_stays ms ks ls (first + l1.code.cells) (from + l.code.cells) h.1)
    put_by x ms k1 ks l1 ls first from false h p = (stays_ready x k1 l1 from h.0.ready, p)

    put : (ms : List Module) (ks : List Known) (ls : Code) (first from : ℕ) → AreCompiledFrom modules ms ks ls first → Put (with_module ms m) (place_of ms (name_of m)) ks ls from
    put [] [] [] first from h = (stays_ready m k l from ready, tt)
    put [] [] (y ∷ ls) first from h = absurd h
    put [] (y ∷ ks) ls first from h = absurd h
    put (x ∷ ms) [] ls first from h = absurd h
    put (x ∷ ms) (k1 ∷ ks) [] first from h = absurd h
    put (x ∷ ms) (k1 ∷ ks) (l1 ∷ ls) first from h =
        put_by x ms k1 ks l1 ls first from (bytes_eq (name_of x) (name_of m)) h (put ms ks ls (first + l1.code.cells) (from + l1.code.cells) h.1)

pub code_loads : EachLoads
code_loads modules m known k code l all ready = put modules m k l ready modules known code 0 0 all
