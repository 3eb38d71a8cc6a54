-- How the logic stores a value: as a tree, with a tag for each kind.
use Rattle.std.specs.Prelude.{◌≡◌, ℕ, List, refl}
use Rattle.std.specs.Coded.{Coded, code_by, coded_ℕ, coded_ℤ, coded_list, coded×}
use Rattle.std.proofs.Common.{ap}
use base.Stored.{Gv, gnil, gcons}
use Rattle.ob_mean.specs.declared.kind.TypeName.{TypeName}
use Rattle.ob_mean.specs.RecordTypes.{TypeNames}
use Rattle.ob_mean.specs.Values.{Place, Whole, Part, Value, Cell, Named, Open, Nothing, Beside}

abbrev tag_cell : Gv
tag_cell = gnil

abbrev tag_named : Gv
tag_named = gcons gnil gnil

abbrev tag_open : Gv
tag_open = gcons gnil (gcons gnil gnil)

abbrev tag_beside : Gv
tag_beside = gcons (gcons gnil gnil) gnil

abbrev place_tree : Place → Gv
place_tree Whole = gnil
place_tree (Part p i) = gcons (place_tree p) (coded_ℕ.code i)

-- the name of a record type: its text, and its cells
abbrev name_code : Coded TypeName
name_code =
    code_by (List ℕ × ℕ) (coded× (coded_list coded_ℕ) coded_ℕ) (λ x. (x.text, x.cells)) (λ p. record { text = p.0; cells = p.1 }) (λ _. refl)

abbrev names_code : Coded TypeNames
names_code = coded_list name_code

abbrev value_tree : Value → Gv
value_tree Nothing = gnil
value_tree (Cell z) = gcons tag_cell (coded_ℤ.code z)
value_tree (Named p t) = gcons tag_named (gcons (place_tree p) (names_code.code t))
value_tree (Open p n) = gcons tag_open (gcons (place_tree p) (coded_ℕ.code n))
value_tree (Beside v rest) = gcons tag_beside (gcons (value_tree v) (value_tree rest))

pub place_inj : (x y : Place) → place_tree x ≡ place_tree y → x ≡ y
place_inj Whole Whole p = refl
place_inj (Part a i) (Part b j) p =
    let front : a ≡ b = place_inj a b (cc) in
    let back : i ≡ j = coded_ℕ.inj i j (cc) in
    cc
place_inj x y p = cc

pub value_inj : (x y : Value) → value_tree x ≡ value_tree y → x ≡ y
value_inj Nothing Nothing p = refl
value_inj (Cell a) (Cell b) p = let e : coded_ℤ.code a ≡ coded_ℤ.code b = cc in ap Cell (coded_ℤ.inj a b e)
value_inj (Named a t) (Named b u) p =
    let front : a ≡ b = place_inj a b (cc) in
    let back : t ≡ u = names_code.inj t u (cc) in
    cc
value_inj (Open a m) (Open b n) p =
    let front : a ≡ b = place_inj a b (cc) in
    let back : m ≡ n = coded_ℕ.inj m n (cc) in
    cc
value_inj (Beside a r) (Beside b s) p =
    let front : a ≡ b = value_inj a b (cc) in
    let back : r ≡ s = value_inj r s (cc) in
    cc
value_inj x y p = cc

abbrev pub value_code : Coded Value
value_code = record { code = value_tree; inj = value_inj }
