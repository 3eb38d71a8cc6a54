-- Looking commands up.
use Rattle.std.proofs.Common.{◌≡◌, ℕ, List, [], ◌∷◌, ◌++◌, Option, Some, None, refl, sym, ◌∙◌, ap, append_assoc, rules}
use Rattle.std.specs.Prelude.{slice_index}
use Rattle.ob_mean.specs.Programs.{Command}
use Rattle.ob_mean.specs.Values.{Value}
use Rattle.ob_session.specs.Session.{Module, find_module, place_of, link_fault}
use Rattle.ob_session.specs.Cells.{CommandName, Looked, Found, Ready, Runs, Faulty, command_place, linked, looked_in, looked_by, looked_up, ready_with, all_ready}
use Rattle.ob_link.specs.Looking.{in_store, storeless}

-- ---- the store doesn't matter

stored_in : (ms : List Module) (store : Value) (m : Module) (c : CommandName) (o : Option ℕ) → looked_in (in_store ms store) m c o ≡ looked_in (storeless ms) m c o
stored_in ms store m c None = refl
stored_in ms store m c (Some place) = refl

stored_by : (ms : List Module) (store : Value) (c : CommandName) (o : Option Module) → looked_by (in_store ms store) c o ≡ looked_by (storeless ms) c o
stored_by ms store c None = refl
stored_by ms store c (Some m) = stored_in ms store m c (command_place m.interface.exports c.name 0)

pub stored : (ms : List Module) (store : Value) (c : CommandName) → looked_up (in_store ms store) c ≡ looked_up (storeless ms) c
stored ms store c = stored_by ms store c (find_module ms c.home)

pub all_stored : (ms : List Module) (store : Value) (cs : List CommandName) → all_ready (in_store ms store) cs ≡ all_ready (storeless ms) cs
all_stored ms store [] = refl
all_stored ms store (c ∷ cs) =
    ap (λ (l : Looked). ready_with l (all_ready (in_store ms store) cs)) (stored ms store c)
    ∙ ap (ready_with (looked_up (storeless ms) c)) (all_stored ms store cs)

-- ---- one command

abbrev at : ℕ → ℕ → Command
at home procedure = record { home = home; procedure = procedure }

-- of a module that is loaded
pub looked_there : (ms : List Module) (c : CommandName) (m : Module) (place number procedure : ℕ) (fault : Option (List ℕ)) (command : Command) → command_place m.interface.exports c.name 0 ≡ Some place → number ≡ place_of ms c.home → procedure ≡ slice_index m.tree.exported place → fault ≡ link_fault ms m.imports → command ≡ record { home = number; procedure = procedure } → linked fault command ≡ looked_by (storeless ms) c (Some m)
looked_there ms c m place number procedure fault command p n q links k =
    let home = place_of ms c.home in
    let named : command ≡ at home (slice_index m.tree.exported place) = k ∙ ap (λ (x : ℕ). at x procedure) n ∙ ap (at home) q in
    ap (λ (x : Option (List ℕ)). linked x command) links
    ∙ ap (linked (link_fault ms m.imports)) named
    ∙ sym (ap (looked_in (storeless ms) m c) p)

-- ---- all of them

-- what commands come to after some that can run
abbrev pub ready_behind : List Command → Ready → Ready
ready_behind cs (Runs ds) = Runs (cs ++ ds)
ready_behind cs (Faulty fault) = Faulty fault

pub one_more : (cs : List Command) (c : Command) (rest : Ready) → ready_behind cs (ready_with (Found c) rest) ≡ ready_behind (cs ++ c ∷ []) rest
one_more cs c (Runs ds) = ap Runs (let e : cs ++ (c ∷ ds) ≡ (cs ++ c ∷ []) ++ ds = simp append_assoc in e)
one_more cs c (Faulty fault) = refl

none_before : (rest : Ready) → ready_behind [] rest ≡ rest
none_before (Runs ds) = refl
none_before (Faulty fault) = refl

pub before_all : (rest : Ready) → rest ≡ ready_behind [] rest
before_all rest = sym (none_before rest)

pub none_behind : (cs : List Command) → ready_behind cs (Runs []) ≡ Runs cs
none_behind cs = ap Runs (let e : cs ++ [] ≡ cs = search rules in e)
