-- What imports that link name links too, and so it may run.
use Rattle.std.proofs.Common.{◌≡◌, ℕ, zero, suc, Bool, true, false, List, [], ◌∷◌, length, map, Option, Some, None, is_none, slice_get, refl, sym, ◌∙◌, ap, subst}
use Rattle.std.specs.Prelude.{slice_index_or}
use Rattle.ob_session.specs.Session.{Import, Module, find_module, place_of, link_fault}
use Rattle.ob_session.specs.Links.{Reached, First, Behind, Through}
use Rattle.ob_session.proofs.Links.{each_links}
use Rattle.ob_link.specs.Faults.{fault_row, all_none}
use Rattle.ob_link.specs.Runs.{EachImportRuns, EachRunsLinked}
use Rattle.ob_link.proofs.Faults.{all_link, no_fault}
use Rattle.ob_link.proofs.Rows.{at_number, at_place, found_at}

some_import : (j i : Import) → Some j ≡ Some i → j ≡ i
some_import j i e = cc

-- each of some imports is reached through them
one_reached : (modules : List Module) (is : List Import) (k : ℕ) (i : Import) → slice_get is k ≡ Some i → Reached modules i is
one_reached modules [] k i e = absurd (let n : None ≡ Some i = e in cc)
one_reached modules (j ∷ is) zero i e = subst (λ x. Reached modules i (x ∷ is)) (sym (some_import j i e)) (First is)
one_reached modules (j ∷ is) (suc k) i e = Behind j is (one_reached modules is k i e)

-- and so is what is reached through the module that it names
more_reached : (modules : List Module) (is : List Import) (k : ℕ) (i : Import) (m : Module) (at : Import) → slice_get is k ≡ Some i → find_module modules i.name ≡ Some m → Reached modules at m.imports → Reached modules at is
more_reached modules [] k i m at e f r = absurd (let n : None ≡ Some i = e in cc)
more_reached modules (j ∷ is) zero i m at e f r = Through j is m (ap (λ (x : Import). find_module modules x.name) (some_import j i e) ∙ f) r
more_reached modules (j ∷ is) (suc k) i m at e f r = Behind j is (more_reached modules is k i m at e f r)

pub each_import_runs : EachImportRuns
each_import_runs modules imports links k i e =
    let there = (each_links modules imports).linked.0 links i (one_reached modules imports k i e) in
    let deeper : link_fault modules there.0.imports ≡ None =
    (each_links modules there.0.imports).linked.1 (λ at r. (each_links modules imports).linked.0 links at (more_reached modules imports k i there.0 at e there.1 r)) in
    record {
      module_there = there.0;
      found = there.1;
      placed = found_at modules i.name there.0 there.1;
      same_key = there.2;
      links = deeper;
      runs = at_place (λ (m : Module). is_none (link_fault modules m.imports)) false modules i.name there.0 there.1 ∙ ap is_none deeper;
    }

pub each_runs_linked : EachRunsLinked
each_runs_linked modules number m e =
    let flag = at_number (λ (m : Module). is_none (link_fault modules m.imports)) false modules number m e in
    (λ runs. no_fault (link_fault modules m.imports) (sym flag ∙ runs), λ links. flag ∙ ap is_none links)

-- the flags are those of the faults
pub flags_of : (F : Module → Option (List ℕ)) (ms : List Module) → map (λ (f : Option (List ℕ)). is_none f) (map F ms) ≡ map (λ (m : Module). is_none (F m)) ms
flags_of F [] = refl
flags_of F (m ∷ ms) = ap (λ (flags : List Bool). is_none (F m) ∷ flags) (flags_of F ms)

-- where all modules link, so do the imports of each
pub found_links : (ms : List Module) (q : List ℕ) (m : Module) → all_none (fault_row ms (length ms)) ≡ true → find_module ms q ≡ Some m → None ≡ link_fault ms m.imports
found_links ms q m none found =
    let flag : is_none (link_fault ms m.imports) ≡ true =
    sym (at_place (λ (n : Module). is_none (link_fault ms n.imports)) false ms q m found)
    ∙ ap (λ row. slice_index_or row (place_of ms q) false) (all_link ms none)
    ∙ at_place (λ (n : Module). true) false ms q m found in
    sym (no_fault (link_fault ms m.imports) flag)
