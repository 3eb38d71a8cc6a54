-- What is known of modules agrees, since keys say it; and commands that were looked up can be called.
use Rattle.std.proofs.Common.{◌≡◌, ℕ, zero, suc, ◌<◌, Bool, true, false, List, [], ◌∷◌, map, length, get_or, Option, Some, None, is_none, if◌then◌else◌, refl, sym, ap, ◌∙◌, subst, arith}
use Rattle.std.specs.Prelude.{slice_get, slice_index}
use Rattle.std.specs.Str.{bytes_eq}
use Rattle.ob_mean.specs.declared.face.Face.{Face}
use Rattle.ob_mean.specs.Programs.{Command}
use Rattle.ob_session.specs.Session.{Session, Import, Module, name_of, find_module, place_of, link_fault, with_module}
use Rattle.ob_session.specs.Cells as cells
use Rattle.ob_session.specs.Cells.{CommandName, Looked, Found, Missing, Ready, Runs, Faulty, all_ready, command_place, is_given, linked, looked_in, looked_by, looked_up, ready_with}
use Rattle.ob_image.specs.Compiled.{Known, face_in, links, put_at, FacesAgree, AllAgree}
use Rattle.ob_image.specs.CommandsCode.{IsCallable}
use Rattle.ob_image.specs.Loading.{WasKnown, AllWereKnown, KeysAgree}
use Rattle.ob_image.proofs.Agreeing.{agrees}
use Rattle.ob_image.proofs.Imports.{found_at}
use Rattle.ob_load.specs.Commanded.{AllRunnable}
use Rattle.ob_load.specs.Known.{IsSaid, AreSaid}
use Rattle.ob_load.specs.Said.{face_said, shape_said}

-- ---- of one of them

pub record SaidAt (known : List Known) (m : Module) (n : ℕ) : Type 0 where
  pub k : Known
  pub there : slice_get known n ≡ Some k
  pub said : IsSaid m k

some_same : {A : Type 0} (x y : A) → Some x ≡ Some y → x ≡ y
some_same x y e = cc

pub said_at : (ms : List Module) (ks : List Known) (n : ℕ) (m : Module) → AreSaid ms ks → slice_get ms n ≡ Some m → SaidAt ks m n
said_at [] ks n m h e = absurd (let f : None ≡ Some m = e in cc)
said_at (x ∷ ms) [] n m h e = absurd h
said_at (x ∷ ms) (k ∷ ks) zero m h e = record { k = k; there = refl; said = subst (λ (y : Module). IsSaid y k) (some_same x m e) h.0 }
said_at (x ∷ ms) (k ∷ ks) (suc n) m h e = let s = said_at ms ks n m h.1 e in record { k = s.k; there = s.there; said = s.said }

-- ---- record types have the shapes of their names

pub types_agree : (ms : List Module) (ks : List Known) → AreSaid ms ks → AllAgree shape_said ms
types_agree [] [] h = tt
types_agree [] (k ∷ ks) h = absurd h
types_agree (m ∷ ms) [] h = absurd h
types_agree (m ∷ ms) (k ∷ ks) h = (h.0.types, types_agree ms ks h.1)

-- ---- what was known of imports is so

module _ (modules : List Module) (known : List Known) (h : AreSaid modules known) where
  was : (i : Import) → WasKnown modules known i (face_said i.key)
  was i d found key =
      let s = said_at modules known (place_of modules i.name) d h (found_at modules i.name d found) in
      ap face_in s.there ∙ ap Some (s.said.face ∙ ap face_said key)

  all_were : (is : List Import) → AllWereKnown modules known is (map (λ (i : Import). face_said i.key) is)
  all_were [] = tt
  all_were (i ∷ is) = (was i, all_were is)

  keys_agree : KeysAgree modules known
  keys_agree place m k at known_at =
      let s = said_at modules known place m h at in
      let same : s.k ≡ k = some_same s.k k (sym s.there ∙ known_at) in
      subst (λ (fs : List Face). AllWereKnown modules known m.imports fs) (sym s.said.faces ∙ ap (λ (x : Known). x.faces) same) (all_were m.imports)

  pub faces_agree : FacesAgree modules known
  faces_agree = agrees modules known keys_agree

-- ---- and stays so where a module is loaded

pub said_with : (ms : List Module) (ks : List Known) (m : Module) (k : Known) → AreSaid ms ks → IsSaid m k → AreSaid (with_module ms m) (put_at ks (place_of ms (name_of m)) k)
said_with [] [] m k h s = (s, tt)
said_with [] (x ∷ ks) m k h s = absurd h
said_with (x ∷ ms) [] m k h s = absurd h
said_with (x ∷ ms) (kx ∷ ks) m k h s = by (bytes_eq (name_of x) (name_of m)) (said_with ms ks m k h.1 s)
  where
    by : (b : Bool) → AreSaid (with_module ms m) (put_at ks (place_of ms (name_of m)) k) → AreSaid (if b then m ∷ ms else x ∷ with_module ms m) (put_at (kx ∷ ks) (if b then zero else suc (place_of ms (name_of m))) k)
    by true later = (s, h.1)
    by false later = (h.0, later)

-- ---- commands that were looked up

abbrev pub Callable : List Module → Command → Type 0
Callable modules c = (place : ℕ) × IsCallable modules c place

found_same : (c d : Command) → Found c ≡ Found d → c ≡ d
found_same c d e = cc

module _ (s : Session) (known : List Known) (h : AreSaid s.modules known) where
  linked_is : (fault : Option (List ℕ)) (c d : Command) → linked fault c ≡ Found d → (fault ≡ None) × (c ≡ d)
  linked_is None c d e = (refl, found_same c d e)
  linked_is (Some name) c d e = absurd (let f : Missing (cells.OtherKey name) ≡ Found d = e in cc)

  callable_at : (m : Module) (n : CommandName) (o : Option ℕ) (c : Command) → find_module s.modules n.home ≡ Some m → command_place m.interface.exports n.name 0 ≡ o → looked_in s m n o ≡ Found c → Callable s.modules c
  callable_at m n None c found is e = absurd (let f : Missing (cells.NoCommand n.home n.name) ≡ Found c = e in cc)
  callable_at m n (Some place) c found is e =
      let k = linked_is (link_fault s.modules m.imports) (record { home = place_of s.modules n.home; procedure = slice_index m.tree.exported place }) c e in
      let at = found_at s.modules n.home m found in
      let plain = (said_at s.modules known (place_of s.modules n.home) m h at).said.commands n.name place is in
      subst (λ (x : Command). Callable s.modules x) k.1 (
        place,
        record {
          m = m;
          there = at;
          may_run = ap (links s.modules) at ∙ ap is_none k.0;
          exported = plain.exported;
          plain = plain.plain;
        },
      )

  not_found : (b : Bool) (n : CommandName) (c : Command) → (if b then Missing (cells.NoCommand n.home n.name) else Missing (cells.NotLoaded n.home)) ≡ Found c → ⊥
  not_found true n c e = let f : Missing (cells.NoCommand n.home n.name) ≡ Found c = e in cc
  not_found false n c e = let f : Missing (cells.NotLoaded n.home) ≡ Found c = e in cc

  callable_by : (n : CommandName) (o : Option Module) (c : Command) → find_module s.modules n.home ≡ o → looked_by s n o ≡ Found c → Callable s.modules c
  callable_by n None c found e = absurd (not_found (is_given n.home) n c e)
  callable_by n (Some m) c found e = callable_at m n (command_place m.interface.exports n.name 0) c found refl e

  runs_same : (cs ds : List Command) → Runs cs ≡ Runs ds → cs ≡ ds
  runs_same cs ds e = cc

  runnable_by : (n : CommandName) (l : Looked) (r : Ready) (cs : List Command) → looked_up s n ≡ l → ((ds : List Command) → r ≡ Runs ds → AllRunnable s.modules ds) → ready_with l r ≡ Runs cs → AllRunnable s.modules cs
  runnable_by n (Missing fault) r cs is later e = absurd (let f : Faulty fault ≡ Runs cs = e in cc)
  runnable_by n (Found c) (Faulty fault) cs is later e = absurd (let f : Faulty fault ≡ Runs cs = e in cc)
  runnable_by n (Found c) (Runs ds) cs is later e =
      subst (AllRunnable s.modules) (runs_same (c ∷ ds) cs e) (callable_by n (find_module s.modules n.home) c refl is, later ds refl)

  pub runnable : (ns : List CommandName) (cs : List Command) → all_ready s ns ≡ Runs cs → AllRunnable s.modules cs
  runnable [] cs e = subst (AllRunnable s.modules) (runs_same [] cs e) tt
  runnable (n ∷ ns) cs e = runnable_by n (looked_up s n) (all_ready s ns) cs refl (runnable ns) e

pub runnable_at : (modules : List Module) (cs : List Command) (n : ℕ) (d : Command) → AllRunnable modules cs → n < length cs → Callable modules (get_or cs n d)
runnable_at modules [] n d h lt = absurd (omega (arith, lt))
runnable_at modules (c ∷ cs) zero d h lt = h.0
runnable_at modules (c ∷ cs) (suc n) d h lt = runnable_at modules cs n d h.1 (omega (arith, lt))
