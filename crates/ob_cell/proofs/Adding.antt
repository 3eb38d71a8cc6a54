-- The modules that are loaded, added one after the other, are those that the rules see.
use Rattle.std.proofs.Common.{◌≡◌, ℕ, zero, suc, Bool, false, cond, List, [], ◌∷◌, length, map, get_or, take, drop, ◌+◌, Option, Some, None, option_map, slice_get, refl, ◌∙◌, ap, arith}
use Rattle.std.proofs.lemmas.Option.{slice_get-map}
use Rattle.ob_check_scope.specs.Exports.{Modules as Loaded, module_names}
use Rattle.ob_check_scope.specs.Names.{place_in}
use Rattle.ob_check_scope.specs.Imports.{added, module_place}
use Rattle.ob_check_scope.specs.LoadedTree.{LoadedTree}
use Rattle.ob_session.specs.Session.{Module, name_of}
use Rattle.ob_session.specs.Reaches.{reached_by}
use Rattle.ob_link.specs.Reaching as found
use Rattle.ob_cell.specs.Texts as meaning
use Rattle.ob_link.specs.Modules.{AllDistinct}
use Rattle.ob_link.specs.Seen.{seen_alone, all_seen}
use Rattle.ob_link.proofs.Appended.{none_reaches}
use Rattle.ob_link.proofs.Named.{turned}
use Rattle.ob_cell.proofs.Named.{other_name}

-- ---- where none reaches it

reached_none : (all : List Module) (name : List ℕ) (m : Module) → false ≡ reached_by all name m → seen_alone m ≡ meaning.loaded_as all name m
reached_none all name m e =
    ap (λ (b : Bool). let seen : LoadedTree = record { interface = m.interface; reached = cond b (name ∷ []) [] } in seen) e

seen_where : (all ms : List Module) (name : List ℕ) → map (λ (m : Module). false) ms ≡ map (reached_by all name) ms → all_seen ms ≡ map (meaning.loaded_as all name) ms
seen_where all [] name e = refl
seen_where all (m ∷ ms) name e =
    let here : false ≡ reached_by all name m = ap (λ (row : List Bool). get_or row 0 false) e in
    let behind : map (λ (n : Module). false) ms ≡ map (reached_by all name) ms = ap (λ (row : List Bool). drop 1 row) e in
    ap (λ (seen : LoadedTree). seen ∷ all_seen ms) (reached_none all name m here)
    ∙ ap (λ (rest : Loaded). meaning.loaded_as all name m ∷ rest) (seen_where all ms name behind)

pub apart_seen : (modules : List Module) (name : List ℕ) → found.IsApart modules name → all_seen modules ≡ map (meaning.loaded_as modules name) modules
apart_seen modules name apart = seen_where modules modules name (none_reaches modules name apart)

-- ---- one more

pub added_next : (all ms : List Module) (name : List ℕ) (k : ℕ) (m : Module) → AllDistinct ms → slice_get ms k ≡ Some m → added (map (meaning.loaded_as all name) (take k ms)) (meaning.loaded_as all name m) ≡ map (meaning.loaded_as all name) (take (suc k) ms)
added_next all [] name k m distinct e = absurd (let f : None ≡ Some m = e in cc)
added_next all (n ∷ ms) name zero m distinct e =
    let same : m ≡ n = cc in
    ap (λ (x : Module). meaning.loaded_as all name x ∷ []) same
added_next all (n ∷ ms) name (suc k) m distinct e =
    let other = turned (name_of m) (name_of n) (other_name ms k m (name_of n) distinct.0 e) in
    let loaded = meaning.loaded_as all name in
    ap (λ b. cond b (loaded m ∷ map loaded (take k ms)) (loaded n ∷ added (map loaded (take k ms)) (loaded m))) other
    ∙ ap (λ l. loaded n ∷ l) (added_next all ms name k m distinct.1 e)

-- its name is none of those before it
abbrev rest_placed : Bool → Option ℕ → Option ℕ
rest_placed b o = cond b (Some 0) (option_map suc o)

new_among : (all ms : List Module) (name : List ℕ) (k : ℕ) (m : Module) → AllDistinct ms → slice_get ms k ≡ Some m → place_in (module_names (map (meaning.loaded_as all name) (take k ms))) (name_of m) ≡ None
new_among all [] name k m distinct e = absurd (let f : None ≡ Some m = e in cc)
new_among all (n ∷ ms) name zero m distinct e = refl
new_among all (n ∷ ms) name (suc k) m distinct e =
    let other = turned (name_of m) (name_of n) (other_name ms k m (name_of n) distinct.0 e) in
    ap (λ b. rest_placed b (place_in (module_names (map (meaning.loaded_as all name) (take k ms))) (name_of m))) other
    ∙ ap (option_map suc) (new_among all ms name k m distinct.1 e)

pub new_place : (modules : List Module) (name : List ℕ) (k : ℕ) (m : Module) (so_far : Loaded) → AllDistinct modules → slice_get modules k ≡ Some m → so_far ≡ map (meaning.loaded_as modules name) (take k modules) → module_place so_far (name_of m) ≡ None
unfolding module_place
new_place modules name k m so_far distinct e s = ap (λ (l : Loaded). place_in (module_names l) (name_of m)) s ∙ new_among modules modules name k m distinct e

flag_there : (modules : List Module) (name : List ℕ) (k : ℕ) (m : Module) (flag : Bool) → slice_get modules k ≡ Some m → slice_get (found.reaching modules name) k ≡ Some flag → flag ≡ reached_by modules name m
flag_there modules name k m flag e f =
    let read : slice_get (found.reaching modules name) k ≡ Some (reached_by modules name m) = slice_get-map (reached_by modules name) modules k ∙ ap (option_map (reached_by modules name)) e in
    cc

-- the module of a number, added to those before it with what it reaches
pub added_more : (modules : List Module) (name : List ℕ) (k : ℕ) (m : Module) (flag : Bool) (reached : List (List ℕ)) (so_far more : Loaded) → AllDistinct modules → slice_get modules k ≡ Some m → slice_get (found.reaching modules name) k ≡ Some flag → reached ≡ cond flag (name ∷ []) [] → so_far ≡ map (meaning.loaded_as modules name) (take k modules) → more ≡ added so_far (record { interface = m.interface; reached = reached }) → more ≡ map (meaning.loaded_as modules name) (take (k + 1) modules)
added_more modules name k m flag reached so_far more distinct e f r s a =
    let own : reached ≡ cond (reached_by modules name m) (name ∷ []) [] = r ∙ ap (λ b. cond b (name ∷ []) []) (flag_there modules name k m flag e f) in
    let n : suc k ≡ k + 1 = omega arith in
    a
    ∙ ap (λ (l : Loaded). added l (record { interface = m.interface; reached = reached })) s
    ∙ ap (λ (l : List (List ℕ)). added (map (meaning.loaded_as modules name) (take k modules)) (record { interface = m.interface; reached = l })) own
    ∙ added_next modules modules name k m distinct e
    ∙ ap (λ j. map (meaning.loaded_as modules name) (take j modules)) n
