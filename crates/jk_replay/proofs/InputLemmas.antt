-- What came of an input, a read at a time.
use Rattle.std.proofs.Common.{◌≡◌, ◌<◌, ◌≤◌, ◌+◌, suc, ℕ, List, [], ◌++◌, length, Option, Err, refl, sym, ◌∙◌, ap, arith, append_assoc, append-nil, length-append, drop, ◌∷◌, ◌-◌, subst}
use Rattle.std.proofs.lemmas.List.{drop-append-le}
use Rattle.std.proofs.KnownBytes.{Consumes-nil, Consumes-trans}
use Rattle.std.specs.Io.KnownBytes.{Consumes}
use Rattle.jk_replay.specs.Held.{InputState, Comes, Refills, LeavesOver}
use Rattle.jk_replay.specs.Lines.{IsOneLine}
use Rattle.jk_replay.specs.declared.input.InputFault.{InputFault}
use Rattle.jk_replay.specs.declared.input.InputFault.TheVariants.{Device, Memory}

pub none_comes : (a : Option (List ℕ)) (i : InputState) → (came : List ℕ) × Comes a a i i came × (i.held ≡ i.held ++ came)
none_comes a i = ([], record { consumes = Consumes-nil a; counted = omega arith; within = λ h. h }, sym (append-nil i.held))

pub both_come : (a b c : Option (List ℕ)) (i j k : InputState) (bs cs : List ℕ) → Comes a b i j bs → Comes b c j k cs → Comes a c i k (bs ++ cs)
both_come a b c i j k bs cs p q = record {
  consumes = Consumes-trans a b c bs cs p.consumes q.consumes;
  counted = (let x = p.counted in let y = q.counted in let z = length-append bs cs in omega (arith, x, y, z));
  within = λ h. q.within (p.within h);
}

pub held_more : (start : ℕ) (bytes piece : List ℕ) → start ≤ length bytes → drop start (bytes ++ piece) ≡ drop start bytes ++ piece
held_more start bytes piece le = drop-append-le start bytes piece le

-- what came in the turns before, and in a turn in which nothing was handed out
pub comes_then : (a b c : Option (List ℕ)) (i j k l : InputState) (bs cs : List ℕ) → k ≡ j → Comes a b i j bs → Comes b c k l cs → Comes a c i l (bs ++ cs)
comes_then a b c i j k l bs cs e p q = both_come a b c i j l bs cs p (subst (λ m. Comes b c m l cs) e q)

-- where reading failed, no line stands in what was held before
pub leaves_over : (after : Option (List ℕ)) (fault : InputFault) (i j : InputState) (first before came : List ℕ) → i.held ≡ first ++ before → IsOneLine i.held → Refills after i j came (Err fault) → LeavesOver fault j.taken (first ++ (before ++ came))
leaves_over after Memory i j first before came e one past = tt
leaves_over after Device i j first before came e one past = record {
  held = i.held;
  past = came;
  split = sym (append_assoc first before came) ∙ ap (λ t. t ++ came) (sym e);
  unended = one;
  last = past;
}

abbrev pub opening : InputState
opening = record { held = []; taken = 0 }

-- what was taken in all
pub all_taken : (a b c : Option (List ℕ)) (i j : InputState) (bs cs : List ℕ) → Comes a b opening i bs → Comes b c i j cs → (taken : List ℕ) × Consumes a c taken × (length taken ≤ 67108865)
all_taken a b c i j bs cs p q =
    let r = both_come a b c opening i j bs cs p q in
    let counted = r.counted in
    let within = r.within (omega arith) in
    (bs ++ cs, r.consumes, omega (arith, counted, within))

pub taken_so_far : (a b c : Option (List ℕ)) (i j : InputState) (bs cs : List ℕ) → Comes a b opening i bs → Comes b c i j cs → (came : List ℕ) × Comes a c opening j came
taken_so_far a b c i j bs cs p q = (bs ++ cs, both_come a b c opening i j bs cs p q)

-- a line that was handed out leaves less
pub less_left : (a b c : Option (List ℕ)) (i j : InputState) (bs cs line : List ℕ) → Comes a b opening i bs → Comes b c i j cs → i.held ++ cs ≡ line ++ 10 ∷ j.held → (67108866 - j.taken) + length j.held < (67108866 - i.taken) + length i.held
less_left a b c i j bs cs line p q e =
    let before = p.within (omega arith) in
    let after = q.within before in
    let counted = q.counted in
    let left = length-append i.held cs in
    let right = length-append line (10 ∷ j.held) in
    let same = ap length e in
    let one : length (10 ∷ j.held) ≡ suc (length j.held) = refl in
    omega (arith, before, after, counted, left, right, same, one)
