-- The modules as the rules see them, where one is loaded.
use Rattle.std.proofs.Common.{◌≡◌, ℕ, suc, Bool, true, false, cond, List, [], ◌∷◌, Some, None, option_map, refl, ◌∙◌, ap}
use Rattle.std.specs.Str.{bytes_eq}
use Rattle.ob_check_scope.specs.Exports.{module_names}
use Rattle.ob_check_scope.specs.Imports.{added, module_place}
use Rattle.ob_check_scope.specs.LoadedTree.{LoadedTree}
use Rattle.ob_check_scope.specs.Names.{place_in}
use Rattle.ob_session.specs.Session.{Module, name_of, find_module, with_module}
use Rattle.ob_link.specs.Places.{number_in}
use Rattle.ob_link.specs.Seen.{seen_alone, all_seen}
use Rattle.ob_link.proofs.Exchanged.{no_number}

seen_by : (b : Bool) (x m : Module) (xs ys : List Module) (rest : List LoadedTree) → rest ≡ all_seen ys → cond b (seen_alone m ∷ all_seen xs) (seen_alone x ∷ rest) ≡ all_seen (cond b (m ∷ xs) (x ∷ ys))
seen_by true x m xs ys rest e = refl
seen_by false x m xs ys rest e = ap (λ (l : List LoadedTree). seen_alone x ∷ l) e

-- it takes its place among those that the rules see
pub added_seen : (ms : List Module) (m : Module) → added (all_seen ms) (seen_alone m) ≡ all_seen (with_module ms m)
added_seen [] m = refl
added_seen (x ∷ xs) m = seen_by (bytes_eq (name_of x) (name_of m)) x m xs (with_module xs m) (added (all_seen xs) (seen_alone m)) (added_seen xs m)

place_same : (ms : List Module) (q : List ℕ) → place_in (module_names (all_seen ms)) q ≡ number_in ms q
place_same [] q = refl
place_same (m ∷ ms) q = ap (λ o. cond (bytes_eq (name_of m) q) (Some 0) (option_map suc o)) (place_same ms q)

-- a new name is none of theirs
pub unseen : (ms : List Module) (q : List ℕ) → find_module ms q ≡ None → module_place (all_seen ms) q ≡ None
unfolding module_place
unseen ms q e = place_same ms q ∙ no_number ms q e
