-- The parts of a round, one after another.
use Rattle.std.proofs.Common.{◌≡◌, ℕ, Bool, true, false, not, List, [], ◌∷◌, ◌++◌, length, take, drop, refl, sym, ◌∙◌, ap, subst, append_assoc, arith, Option, None, Some, MatchOption, is_some, inl, inr}
use Rattle.std.proofs.lemmas.List.{append-nil, take-append-drop, drop_all}
use Rattle.std.specs.declared.vec.Vec.{Vec}
use Rattle.std.specs.declared.alloc.Global.{Global}
use Rattle.jk_language.specs.Spoken.{Spoken}
use Rattle.jk_log.specs.declared.arrival.Arrival.{Arrival}
use Rattle.jk_log.specs.declared.entry.Entry.{Entry}
use Rattle.jk_log.specs.declared.job.Job.{Job}
use Rattle.jk_core.specs.declared.kernel.Work.{Work}
use Rattle.jk_log.specs.Legal.{IsLegal}
use Rattle.jk_log.specs.Log.{Log, ended, ends, takes}
use Rattle.jk_core.proofs.Moves.{works_moves}
use Rattle.jk_queues.specs.declared.part.Part.{Part}
use Rattle.std.specs.Prelude.{◌||◌}
use Rattle.jk_log.specs.Render.{render}
use Rattle.jk_log.specs.Results.{Reading}
use Rattle.jk_core.specs.State.{KernelState}
use Rattle.jk_log.specs.Pending.{joined}
use Rattle.jk_core.specs.Steps.{without, Works}
use Rattle.jk_core.proofs.Shown.{IsShown, joined-append, shown_works, takes_works}
use Rattle.jk_board.specs.Boards.{IsBoard}
use Rattle.jk_run.specs.declared.driver.Driver.{Driver}
use Rattle.jk_run.specs.Acts.{driven, Leads, MovesKernel, GivesJobs, HandsResults, MovesBoard}
use Rattle.jk_queues.specs.declared.line.Hand.{Hand}
use Rattle.jk_run.specs.Driver.{IsEmptied, Pends, Publishes, HasGiven, HasDriven, HasWorked, HasDone, IsRound, AreSameEnds, state_of}
use Rattle.jk_run.specs.Hand.{hand_entries}
use Rattle.jk_run.proofs.Acting.{leads_none, leads_on, leads_shown, leads_publish, leads_work, board_none}
use Rattle.jk_run.proofs.Giving.{given_works}

take_full : {A : Type 0} → (xs : List A) → take (length xs) xs ≡ xs
take_full [] = refl
take_full (x ∷ xs) = ap (λ ys. x ∷ ys) (take_full xs)

-- nothing is there
pub is_none : {A : Type 0} → (o : Option A) (b : Bool) → is_some o ≡ not b → b ≡ true → o ≡ None
is_none None b e is = refl
is_none (Some x) b e is = absurd (true_false (e ∙ ap not is))
  where
    true_false : true ≡ false → ⊥
    true_false e = cc

-- entries were published, or are in hand
pub after_publish : (board now : List Entry) (entries : Vec Entry Global) (back : Option (Vec Entry Global)) (rest all : List Entry) → board ++ (entries.items ++ rest) ≡ all → MatchOption back (now ≡ board ++ entries.items) (λ back. (back ≡ entries) × (now ≡ board)) → now ++ (hand_entries back ++ rest) ≡ all
after_publish board now entries None rest all h e = ap (λ (l : List Entry). l ++ rest) e ∙ append_assoc board entries.items rest ∙ h
after_publish board now entries (Some back) rest all h e =
    ap (λ (l : List Entry). l ++ (back.items ++ rest)) e.1 ∙ ap (λ (v : Vec Entry Global). board ++ (v.items ++ rest)) e.0 ∙ h

pub after_hand : (board now : List Entry) (entries back : Option (Vec Entry Global)) (rest all : List Entry) → board ++ (hand_entries entries ++ rest) ≡ all → MatchOption back (now ≡ board ++ hand_entries entries) (λ back. (entries ≡ Some back) × (now ≡ board)) → now ++ (hand_entries back ++ rest) ≡ all
after_hand board now entries None rest all h e = ap (λ (l : List Entry). l ++ rest) e ∙ append_assoc board (hand_entries entries) rest ∙ h
after_hand board now entries (Some back) rest all h e =
    ap (λ (l : List Entry). l ++ (back.items ++ rest)) e.1 ∙ ap (λ (o : Option (Vec Entry Global)). board ++ (hand_entries o ++ rest)) (sym e.0) ∙ h

module _ {T : Type 0} where
  -- what was taken out of what is pending stands before the rest
  pub taken_out : (board : List Entry) (old new : KernelState T) (n : ℕ) (entries : List Entry) → board ++ joined old.pending ≡ render old.log → entries ≡ joined (take n old.pending) → new ≡ without n old → board ++ (entries ++ joined new.pending) ≡ render new.log
  taken_out board old new n entries h es is =
      subst (λ (k : KernelState T). board ++ (entries ++ joined k.pending) ≡ render k.log) (sym is)
      (ap (λ (l : List Entry). board ++ (l ++ joined (drop n old.pending))) es
      ∙ ap (λ (l : List Entry). board ++ l) (sym (joined-append (take n old.pending) (drop n old.pending)) ∙ ap joined (take-append-drop n old.pending))
      ∙ h)

  -- where nothing is in hand
  pub none_shown : (board : List Entry) (entries : Option (Vec Entry Global)) (k : KernelState T) → entries ≡ None → board ++ (hand_entries entries ++ joined k.pending) ≡ render k.log → IsShown board k
  none_shown board entries k e h = subst (λ (o : Option (Vec Entry Global)). board ++ (hand_entries o ++ joined k.pending) ≡ render k.log) e h

  pub none_pends : (entries : Option (Vec Entry Global)) (all now : KernelState T) → entries ≡ None → Pends entries all now → now ≡ all
  none_pends entries all now e h = subst (λ (o : Option (Vec Entry Global)). Pends o all now) e h

  given_without : (n : ℕ) (k : KernelState T) (job : Option Job) (jobs : Hand Job) → HasGiven job jobs k → HasGiven job jobs (without n k)
  given_without n k None jobs h = h
  given_without n k (Some job) jobs h = h

  -- all that was pending is pending no more
  pub none_left : (old new : KernelState T) → new ≡ without (length old.pending) old → new.pending ≡ []
  none_left old new e = ap (λ (k : KernelState T). k.pending) e ∙ drop_all (length old.pending) old.pending (omega arith)

module _ {S T : Type 0} (spoken : Spoken S T) where
  -- the next entries are the next of what a legal log shows
  pub next_board : (log : Log) (board entries rest : List Entry) → IsLegal spoken log → board ++ (entries ++ rest) ≡ render log → IsBoard spoken (board ++ entries)
  unfolding IsBoard
  next_board log board entries rest legal h = (log, legal, (rest, sym (append_assoc board entries rest ∙ h)))

  publish_all : (old new : KernelState T) (board now : List Entry) (entries : List Entry) → entries ≡ joined old.pending → new ≡ without (length old.pending) old → now ≡ board ++ entries → MovesBoard spoken old board new now
  publish_all old new board now entries es is e given handed =
      leads_publish spoken (length old.pending) old new board now given handed is
      (e ∙ ap (λ (l : List Entry). board ++ l) (es ∙ ap joined (sym (take_full old.pending))))

  -- all that was pending was taken out of the kernel, and was published or is in hand
  pub publishes : (old new : KernelState T) (board now : List Entry) (entries : Vec Entry Global) (back : Option (Vec Entry Global)) (n : ℕ) → n ≡ length old.pending → entries.items ≡ joined (take n old.pending) → new ≡ without n old → MatchOption back (now ≡ board ++ entries.items) (λ back. (back ≡ entries) × (now ≡ board)) → Publishes spoken old board back new now
  publishes old new board now entries None n len es is e =
      let all : entries.items ≡ joined old.pending = es ∙ ap (λ (m : ℕ). joined (take m old.pending)) len ∙ ap joined (take_full old.pending) in
      (new, refl, publish_all old new board now entries.items all (is ∙ ap (λ (m : ℕ). without m old) len) e)
  publishes old new board now entries (Some back) n len es is e =
      let all : entries.items ≡ joined old.pending = es ∙ ap (λ (m : ℕ). joined (take m old.pending)) len ∙ ap joined (take_full old.pending) in
      (old, (is ∙ ap (λ (m : ℕ). without m old) len, ap (λ (v : Vec Entry Global). v.items) e.0 ∙ all), board_none spoken old board now e.1)

  -- what was in hand was published, or is in hand
  pub hand_published : (entries back : Option (Vec Entry Global)) (k now : KernelState T) (board more : List Entry) → Pends entries k now → MatchOption back (more ≡ board ++ hand_entries entries) (λ back. (entries ≡ Some back) × (more ≡ board)) → Publishes spoken k board back now more
  hand_published None None k now board more pends e =
      (now, refl, subst (λ (m : KernelState T). MovesBoard spoken k board m more) (sym pends) (board_none spoken k board more (e ∙ append-nil board)))
  hand_published (Some entries) None k now board more pends e =
      (now, refl, publish_all k now board more entries.items pends.1 pends.0 e)
  hand_published entries (Some back) k now board more pends e =
      (k, subst (λ (o : Option (Vec Entry Global)). Pends o k now) e.0 pends, board_none spoken k board more e.1)

  -- the arrivals taken through a round
  pub round_took : (turns : ℕ) (k1 k2 k3 k4 k5 : KernelState T) (answer : Work) (rest all : List Arrival) → takes k1.log ++ rest ≡ all → k2.log ≡ k1.log → k3.log ≡ k2.log → Works spoken turns k3 answer k4 → k5.log ≡ k4.log → takes k5.log ++ rest ≡ all
  round_took turns k1 k2 k3 k4 k5 answer rest all took two three works five =
      ap (λ (log : Log). takes log ++ rest) five
      ∙ ap (λ (ts : List Arrival). ts ++ rest) (takes_works spoken turns k3 answer k4 works)
      ∙ ap (λ (log : Log). takes log ++ rest) (three ∙ two)
      ∙ took

  -- what is shown, up to the slice
  pub round_shown : (turns : ℕ) (board : List Entry) (k0 k1 k2 k3 k4 : KernelState T) (first jobs : List Job) (before results : List (Reading T)) (answer : Work) → IsShown board k0 → MovesKernel spoken k0 k1 → GivesJobs spoken k1 first k2 jobs → HandsResults spoken k2 before k3 results → Works spoken turns k3 answer k4 → IsShown board k4
  round_shown turns board k0 k1 k2 k3 k4 first jobs before results answer h take give handed works =
      let one = leads_shown spoken (driven k0 board [] []) (driven k1 board [] []) (take board [] []) h in
      let two = leads_shown spoken (driven k1 board first []) (driven k2 board jobs []) (give board []) one in
      let three = leads_shown spoken (driven k2 board [] before) (driven k3 board [] results) (handed board []) two in
      shown_works spoken board turns k3 answer k4 works three

  -- the acts of a round up to its slice
  pub round_handed : (board : List Entry) (k0 k1 k2 k3 : KernelState T) (first jobs : List Job) (before middle results : List (Reading T)) → MovesKernel spoken k0 k1 → GivesJobs spoken k1 first k2 jobs → middle ≡ before → HandsResults spoken k2 middle k3 results → Leads spoken (driven k0 board first before) (driven k3 board jobs results)
  round_handed board k0 k1 k2 k3 first jobs before middle results take give same handed =
      let d = driven k0 board first before in
      let one = leads_on spoken d (driven k1 board first before) (driven k2 board jobs before) (take board first before) (give board before) in
      let results_from = subst (λ (l : List (Reading T)). Leads spoken (driven k2 board jobs l) (driven k3 board jobs results)) same (handed board jobs) in
      leads_on spoken d (driven k2 board jobs before) (driven k3 board jobs results) one results_from

  -- the acts of a round
  pub round_acts : (turns : ℕ) (board more : List Entry) (k0 k1 k2 k3 k4 k5 : KernelState T) (first jobs last : List Job) (before middle results : List (Reading T)) (answer : Work) (back : Option (Vec Entry Global)) → MovesKernel spoken k0 k1 → GivesJobs spoken k1 first k2 jobs → middle ≡ before → HandsResults spoken k2 middle k3 results → last ≡ jobs → Works spoken turns k3 answer k4 → Publishes spoken k4 board back k5 more → (m : KernelState T) × Pends back m k5 × Leads spoken (driven k0 board first before) (driven m more last results)
  round_acts turns board more k0 k1 k2 k3 k4 k5 first jobs last before middle results answer back take give same handed still works published =
      let d = driven k0 board first before in
      let two = round_handed board k0 k1 k2 k3 first jobs before middle results take give same handed in
      let three = leads_on spoken d (driven k3 board jobs results) (driven k4 board jobs results) two (leads_work spoken turns answer k3 k4 board jobs results works) in
      let four = leads_on spoken d (driven k4 board jobs results) (driven published.0 more jobs results) three (published.2 jobs results) in
      (published.0, published.1, subst (λ (js : List Job). Leads spoken d (driven published.0 more js results)) (sym still) four)

  ended_works : (turns : ℕ) (old : KernelState T) (answer : Work) (new : KernelState T) → Works spoken turns old answer new → ended old.log ≡ true → ended new.log ≡ true
  ended_works turns old answer new works over =
      works_moves spoken (λ (k : KernelState T). ended k.log ≡ true) (record { note = λ at kind k h. or_true (ends kind) (ended k.log) h; wait = λ ws k h. h; go = λ turns k h. h }) turns old answer new works over
    where
      or_true : (a b : Bool) → b ≡ true → a || b ≡ true
      or_true true b e = refl
      or_true false b e = e

  -- once the kernel was shut down it is so at the end of the round
  pub round_emptied : (turns : ℕ) (k1 k2 k3 k4 k5 : KernelState T) (answer : Work) (view : Part) → IsEmptied k1.log view → k2.log ≡ k1.log → k3.log ≡ k2.log → Works spoken turns k3 answer k4 → k5.log ≡ k4.log → IsEmptied k5.log view
  round_emptied turns k1 k2 k3 k4 k5 answer view (inl over) two three works five =
      inl (ap ended five ∙ ended_works turns k3 answer k4 works (ap ended (three ∙ two) ∙ over))
  round_emptied turns k1 k2 k3 k4 k5 answer view (inr held) two three works five = inr held

  -- with nothing in hand, all that is pending is pending in the kernel
  pub from_kernel : (entries back : Option (Vec Entry Global)) (kernel k last : KernelState T) (board more : List Entry) (given jobs : List Job) (handed results : List (Reading T)) → entries ≡ None → Pends entries k kernel → ((m : KernelState T) × Pends back m last × Leads spoken (driven kernel board given handed) (driven m more jobs results)) → (m : KernelState T) × Pends back m last × Leads spoken (driven k board given handed) (driven m more jobs results)
  from_kernel entries back kernel k last board more given jobs handed results none pends acts =
      subst (λ (k : KernelState T). (m : KernelState T) × Pends back m last × Leads spoken (driven k board given handed) (driven m more jobs results)) (none_pends entries k kernel none pends) acts

  -- each request that waits was given, or a job is in hand for which the pool was full
  pub round_given : (turns : ℕ) (k2 k3 k4 k5 : KernelState T) (n : ℕ) (answer : Work) (job : Option Job) (before jobs : Hand Job) → HasGiven job before k2 → ((job : Option Job) (jobs : Hand Job) → HasGiven job jobs k2 → HasGiven job jobs k3) → jobs ≡ before → Works spoken turns k3 answer k4 → k5 ≡ without n k4 → HasGiven job jobs k5
  round_given turns k2 k3 k4 k5 n answer job before jobs h handed same works is =
      subst (λ (v : Hand Job). HasGiven job v k5) (sym same)
      (subst (HasGiven job before) (sym is) (given_without n k4 job before (given_works spoken turns k3 answer k4 works job before (handed job before h))))

module _ {L S T M : Type 0} (spoken : Spoken S T) where
  pub driven_none : (a : Driver L S T M) → HasDriven spoken a a
  driven_none a k pends = (k, pends, leads_none spoken _)

  pub driven_on : (a b c : Driver L S T M) → HasDriven spoken a b → HasDriven spoken b c → HasDriven spoken a c
  driven_on a b c one two k pends =
      let first = one k pends in
      let second = two first.0 first.1 in
      (second.0, second.1, leads_on spoken _ _ _ first.2 second.2)

module _ {L S T M : Type 0} (spoken : Spoken S T) where
  worked_on : (a b c : Driver L S T M) (turns : ℕ) (answer : Work) → HasDriven spoken a b → HasWorked spoken turns answer b c → HasWorked spoken turns answer a c
  worked_on a b c turns answer one two k pends =
      let first = one k pends in
      let second = two first.0 first.1 in
      (second.0, second.1, leads_on spoken (state_of k a) (state_of first.0 b) second.0 first.2 second.2, second.3, second.4)

  -- a round of a driver is one of the driver that it was before
  pub round_on : (a b c : Driver L S T M) (turns : ℕ) (answer : Work) → HasDriven spoken a b → IsRound spoken turns answer b c → IsRound spoken turns answer a c
  round_on a b c turns answer one two ran =
      let done = two ran in
      record {
        arrival = done.arrival;
        inbox = done.inbox;
        given = done.given;
        results = done.results;
        entries = done.entries;
        pending = done.pending;
        worked = worked_on a b c turns answer one done.worked;
      }

module _ {L S T M : Type 0} where
  pub ends_none : (a : Driver L S T M) → AreSameEnds a a
  ends_none a = record { inbox = refl; pool = (refl, refl, refl) }

  pub ends_on : (a b c : Driver L S T M) → AreSameEnds a b → AreSameEnds b c → AreSameEnds a c
  ends_on a b c one two = record {
    inbox = two.inbox ∙ one.inbox;
    pool = (two.pool.0 ∙ one.pool.0, two.pool.1 ∙ one.pool.1, two.pool.2 ∙ one.pool.2);
  }
