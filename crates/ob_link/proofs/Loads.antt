-- What is so of modules stays so where one is loaded.
use Rattle.std.proofs.Common.{◌≡◌, ℕ, false, cond, List, [], ◌∷◌, Some, None, refl, ◌∙◌, ap, subst}
use Rattle.std.specs.Cmp.Lexicographic.{bytes_decides}
use Rattle.std.specs.Str.{bytes_eq}
use Rattle.ob_types.specs.Solid.{ExportsSolid}
use Rattle.ob_session.specs.Session.{Module, name_of, find_module, with_module}
use Rattle.ob_link.specs.Modules.{AllSolid, AllDistinct, EachLoadStaysSo}
use Rattle.ob_link.proofs.Named.{by_test, not_found, turned}

solid_with : (ms : List Module) (m : Module) → AllSolid ms → ExportsSolid m.interface.exports → AllSolid (with_module ms m)
solid_with [] m all one = (one, tt)
solid_with (x ∷ ms) m all one =
    by_test AllSolid (bytes_eq (name_of x) (name_of m)) (m ∷ ms) (x ∷ with_module ms m)
    (λ _. (one, all.1)) (λ _. (all.0, solid_with ms m all.1 one))

-- a name that is new stays so where a module of another name is loaded
absent_with : (ms : List Module) (m : Module) (name : List ℕ) → bytes_eq (name_of m) name ≡ false → find_module ms name ≡ None → find_module (with_module ms m) name ≡ None
absent_with [] m name other none = ap (λ b. cond b (Some m) None) other
absent_with (x ∷ ms) m name other none =
    let parts = not_found x ms name none in
    by_test (λ l. find_module l name ≡ None) (bytes_eq (name_of x) (name_of m)) (m ∷ ms) (x ∷ with_module ms m)
    (λ _. ap (λ b. cond b (Some m) (find_module ms name)) other ∙ parts.1)
    (λ _. ap (λ b. cond b (Some x) (find_module (with_module ms m) name)) parts.0 ∙ absent_with ms m name other parts.1)

distinct_with : (ms : List Module) (m : Module) → AllDistinct ms → AllDistinct (with_module ms m)
distinct_with [] m all = (refl, tt)
distinct_with (x ∷ ms) m all =
    by_test AllDistinct (bytes_eq (name_of x) (name_of m)) (m ∷ ms) (x ∷ with_module ms m)
    (λ same. (subst (λ name. find_module ms name ≡ None) ((bytes_decides (name_of x) (name_of m)).0 same) all.0, all.1))
    (λ other. (absent_with ms m (name_of x) (turned (name_of x) (name_of m) other) all.0, distinct_with ms m all.1))

pub each_load : EachLoadStaysSo
each_load ms m = record { solid = solid_with ms m; distinct = distinct_with ms m }
