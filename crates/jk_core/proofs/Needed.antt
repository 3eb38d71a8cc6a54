-- What a script keeps of its log stays right rs the log goes on.
use Rattle.std.proofs.Common.{◌≡◌, ℕ, zero, suc, Bool, true, false, cond, List, [], ◌∷◌, ◌++◌, length, drop, ◌+◌, refl, sym, ◌∙◌, ap, subst, Option, None, Some}
use Rattle.std.specs.Prelude.{◌&&◌, ◌==◌, slice_get, slice_set}
use Rattle.jk_log.specs.Leaving.{last_leave}
use Rattle.jk_log.specs.declared.arrival.Arrival.{Arrival}
use Rattle.jk_log.specs.declared.arrival.What.{What}
use Rattle.jk_log.specs.declared.arrival.What.TheVariants as what
use Rattle.jk_log.specs.declared.arrival.Sort.{Sort}
use Rattle.jk_log.specs.declared.arrival.Sort.TheVariants as sort
use Rattle.jk_log.specs.declared.mark.Item.{Item}
use Rattle.jk_log.specs.declared.mark.Item.TheVariants.{Took, Marked}
use Rattle.jk_log.specs.declared.mark.Kind.{Kind}
use Rattle.jk_log.specs.declared.mark.Kind.TheVariants.{Join, Leave, Begin, Flush, Ask, Line, End, Stop, Refuse, Abort, Answer, Interrupt, KernelInfo, Restart}
use Rattle.jp_msg.specs.declared.message.Completeness.{Completeness}
use Rattle.jp_msg.specs.declared.message.Execute.{Execute}
use Rattle.jk_log.specs.Asked.{sort_as}
use Rattle.jk_log.specs.Log.{Log, Running, running, running_with, arrivals, arrival_at, execute_at, seat_at, option_with, option_or, opened, is_leave, flushed_at, asking, lined, unread}
use Rattle.jk_log.specs.Render.{entries_of, entries_at}
use Rattle.jk_log.proofs.Logs.{arrival_grows, arrival_newest}
use Rattle.jk_core.specs.declared.script.Waiting.{Waiting}
use Rattle.jk_core.specs.declared.script.Task.{Task}
use Rattle.jk_core.specs.Pended.{arrival_of, cell_after, entries_for}
use Rattle.jk_core.specs.State.{KernelState, state_of}
use Rattle.jk_log.specs.declared.entry.Entry.{Entry}
use Rattle.jk_core.specs.Needed.{AllThere, HasRequest, IsFor, RunsAt, tasked}
use Rattle.jk_core.specs.Steps.{flushed, gone_on, noted, ran_after, took, waits_with}
use Rattle.jk_language.specs.declared.outcome.Turned.{Turned}
use Rattle.jk_language.specs.declared.outcome.Turned.TheVariants as turned
use Rattle.jk_core.proofs.Keeps.{some_same}

pub none_some : {A : Type 0} (x : A) (P : Type 0) → None ≡ Some x → P
none_some x P e = cc

-- the cell that runs after a mark that does not begin it is the one before
same_cell : (f : Running → Running) → ((r : Running) → (f r).at ≡ r.at) → (o : Option Running) (r : Running) → option_with f o ≡ Some r → (q : Running) × (o ≡ Some q) × (q.at ≡ r.at)
same_cell f keeps None r e = none_some r _ e
same_cell f keeps (Some q) r e = (q, refl, sym (keeps q) ∙ ap (λ (r : Running). r.at) (some_same (f q) r e))

opened_at : (at seat : ℕ) (o : Option Execute) (r : Running) → option_with (opened at seat) o ≡ Some r → r.at ≡ at
opened_at at seat None r e = none_some r _ e
opened_at at seat (Some x) r e = sym (ap (λ (r : Running). r.at) (some_same (opened at seat x) r e))

-- the request that is kept stands where it stood
pub request_grows : (cell : Option Arrival) (at : ℕ) (log : Log) (e : Item) → HasRequest cell at log → HasRequest cell at (e ∷ log)
request_grows cell at log e (a, is, there) = (a, is, arrival_grows log e at a there)

module _ (cell : Option Arrival) (log : Log) (kept : (r : Running) → running log ≡ Some r → HasRequest cell r.at log) where
  went_on : (e : Item) (f : Running → Running) → ((r : Running) → (f r).at ≡ r.at) → (r : Running) → option_with f (running log) ≡ Some r → HasRequest cell r.at (e ∷ log)
  went_on e f keeps r is =
      let q = same_cell f keeps (running log) r is in
      subst (λ (at : ℕ). HasRequest cell at (e ∷ log)) q.2 (request_grows cell q.0.at log e (kept q.0 q.1))

  same_on : (e : Item) (r : Running) → running log ≡ Some r → HasRequest cell r.at (e ∷ log)
  same_on e r is = request_grows cell r.at log e (kept r is)

  -- what a mark is for stands at its place
  pub request_for : (at : ℕ) (own : Option Arrival) → IsFor at log own → HasRequest (arrival_of cell own) at log
  request_for at None (r, runs, is) = subst (λ (at : ℕ). HasRequest cell at log) is (kept r runs)
  request_for at (Some a) there = (a, refl, there)

  -- the request of the cell that runs after a mark
  pub cell_marked : (at : ℕ) (kind : Kind) (own : Option Arrival) → IsFor at log own → (r : Running) → running (Marked (record { at = at; kind = kind }) ∷ log) ≡ Some r → HasRequest (cell_after kind own cell) r.at (Marked (record { at = at; kind = kind }) ∷ log)
  cell_marked at (Begin count) own for r is =
      let e : Item = Marked (record { at = at; kind = Begin count }) in
      subst (λ (at : ℕ). HasRequest (arrival_of cell own) at (e ∷ log)) (sym (opened_at at (seat_at at log) (execute_at at log) r is)) (request_grows (arrival_of cell own) at log e (request_for at own for))
  cell_marked at (Flush turns text) own for r is = went_on (Marked (record { at = at; kind = Flush turns text })) (flushed_at turns) (λ r. refl) r is
  cell_marked at Ask own for r is = went_on (Marked (record { at = at; kind = Ask })) asking (λ r. refl) r is
  cell_marked at (Line text) own for r is = went_on (Marked (record { at = at; kind = Line text })) (lined text) (λ r. refl) r is
  cell_marked at (End ending count) own for r is = none_some r _ is
  cell_marked at (Stop turns cause count) own for r is = none_some r _ is
  cell_marked at Join own for r is = same_on (Marked (record { at = at; kind = Join })) r is
  cell_marked at Leave own for r is = same_on (Marked (record { at = at; kind = Leave })) r is
  cell_marked at (Refuse count) own for r is = same_on (Marked (record { at = at; kind = Refuse count })) r is
  cell_marked at Abort own for r is = same_on (Marked (record { at = at; kind = Abort })) r is
  cell_marked at (Answer status) own for r is = same_on (Marked (record { at = at; kind = Answer status })) r is
  cell_marked at Interrupt own for r is = same_on (Marked (record { at = at; kind = Interrupt })) r is
  cell_marked at KernelInfo own for r is = same_on (Marked (record { at = at; kind = KernelInfo })) r is
  cell_marked at (Restart restart) own for r is = same_on (Marked (record { at = at; kind = Restart restart })) r is

  -- and after an arrival
  with_sort : (s : Sort) (e : Item) (r : Running) → running_with s (running log) ≡ Some r → HasRequest cell r.at (e ∷ log)
  with_sort sort.Interrupt e r is = went_on e unread (λ r. refl) r is
  with_sort (sort.Shutdown restart) e r is = went_on e unread (λ r. refl) r is
  with_sort sort.Join e r is = same_on e r is
  with_sort sort.Leave e r is = same_on e r is
  with_sort sort.Execute e r is = same_on e r is
  with_sort sort.Query e r is = same_on e r is
  with_sort sort.KernelInfo e r is = same_on e r is
  with_sort sort.Input e r is = same_on e r is
  with_sort sort.Other e r is = same_on e r is

  pub cell_taken : (a : Arrival) (r : Running) → running (Took a ∷ log) ≡ Some r → HasRequest cell r.at (Took a ∷ log)
  cell_taken a r is = with_sort (sort_as a.what) (Took a) r is

  -- what a mark shows is what is kept of it
  pub entries_there : (at : ℕ) (kind : Kind) (own : Option Arrival) → IsFor at log own → entries_for kind (arrival_of cell own) ≡ entries_at log (record { at = at; kind = kind })
  entries_there at kind own for =
      let h = request_for at own for in
      ap (option_or (entries_of kind) []) (h.1 ∙ sym h.2)

module _ {T : Type 0} where
  -- what waits is there still
  pub there_grows : (log : Log) (e : Item) (ws : List (Waiting T)) (rs : List Arrival) → AllThere log ws rs → AllThere (e ∷ log) ws rs
  there_grows log e [] [] h = tt
  there_grows log e [] (a ∷ rs) h = absurd h
  there_grows log e (w ∷ ws) [] h = absurd h
  there_grows log e (w ∷ ws) (a ∷ rs) h = (arrival_grows log e w.at a h.0, there_grows log e ws rs h.1)

  there_more : (log : Log) (ws : List (Waiting T)) (rs : List Arrival) (w : Waiting T) (a : Arrival) → arrival_at w.at log ≡ Some a → AllThere log ws rs → AllThere log (ws ++ w ∷ []) (rs ++ a ∷ [])
  there_more log [] [] w a is h = (is, tt)
  there_more log [] (b ∷ rs) w a is h = absurd h
  there_more log (v ∷ ws) [] w a is h = absurd h
  there_more log (v ∷ ws) (b ∷ rs) w a is h = (h.0, there_more log ws rs w a is h.1)

  -- a request that was taken and waits
  pub there_taken : (log : Log) (ws new : List (Waiting T)) (rs more : List Arrival) (w : Waiting T) (a : Arrival) → w.at ≡ length log → new ≡ ws ++ w ∷ [] → more ≡ rs ++ a ∷ [] → AllThere log ws rs → AllThere (Took a ∷ log) new more
  there_taken log ws new rs more w a at n m h =
      let there : arrival_at w.at (Took a ∷ log) ≡ Some a = ap (λ (i : ℕ). arrival_at i (Took a ∷ log)) at ∙ arrival_newest log a in
      subst (λ (xs : List (Waiting T)). AllThere (Took a ∷ log) xs more) (sym n)
      (subst (λ (xs : List Arrival). AllThere (Took a ∷ log) (ws ++ w ∷ []) xs) (sym m) (there_more (Took a ∷ log) ws rs w a there (there_grows log (Took a) ws rs h)))

  pub there_length : (log : Log) (ws : List (Waiting T)) (rs : List Arrival) → AllThere log ws rs → length ws ≡ length rs
  there_length log [] [] h = refl
  there_length log [] (a ∷ rs) h = absurd h
  there_length log (w ∷ ws) [] h = absurd h
  there_length log (w ∷ ws) (a ∷ rs) h = ap suc (there_length log ws rs h.1)

  pub there_at : (log : Log) (ws : List (Waiting T)) (rs : List Arrival) (i : ℕ) (w : Waiting T) (a : Arrival) → slice_get ws i ≡ Some w → slice_get rs i ≡ Some a → AllThere log ws rs → arrival_at w.at log ≡ Some a
  there_at log [] rs i w a e f h = none_some w _ e
  there_at log (v ∷ ws) [] i w a e f h = none_some a _ f
  there_at log (v ∷ ws) (b ∷ rs) zero w a e f h = ap (λ (v : Waiting T). arrival_at v.at log) (sym (some_same v w e)) ∙ h.0 ∙ f
  there_at log (v ∷ ws) (b ∷ rs) (suc i) w a e f h = there_at log ws rs i w a e f h.1

  there_drop : (log : Log) (ws : List (Waiting T)) (rs : List Arrival) → AllThere log ws rs → AllThere log (drop 1 ws) (drop 1 rs)
  there_drop log [] [] h = tt
  there_drop log [] (a ∷ rs) h = absurd h
  there_drop log (w ∷ ws) [] h = absurd h
  there_drop log (w ∷ ws) (a ∷ rs) h = h.1

  pub there_none : (log : Log) (ws : List (Waiting T)) (rs : List Arrival) → ws ≡ [] → rs ≡ [] → AllThere log ws rs
  there_none log ws rs e f = subst (λ (xs : List (Waiting T)). AllThere log xs rs) (sym e) (subst (λ (xs : List Arrival). AllThere {T = T} log [] xs) (sym f) tt)

  pub there_popped : (log : Log) (ws new : List (Waiting T)) (rs more : List Arrival) → new ≡ drop 1 ws → more ≡ drop 1 rs → AllThere log ws rs → AllThere log new more
  there_popped log ws new rs more e f h = subst (λ (xs : List (Waiting T)). AllThere log xs more) (sym e) (subst (λ (xs : List Arrival). AllThere log (drop 1 ws) xs) (sym f) (there_drop log ws rs h))

  -- the first that waits
  pub there_first : (log : Log) (ws rest : List (Waiting T)) (rs more : List Arrival) (w : Waiting T) (a : Arrival) → ws ≡ w ∷ rest → rs ≡ a ∷ more → AllThere log ws rs → arrival_at w.at log ≡ Some a
  there_first log ws rest rs more w a e f h =
      (subst (λ (xs : List Arrival). AllThere log (w ∷ rest) xs) f (subst (λ (xs : List (Waiting T)). AllThere log xs rs) e h)).0

  pub there_set : (log : Log) (ws : List (Waiting T)) (rs : List Arrival) (i : ℕ) (w v : Waiting T) → slice_get ws i ≡ Some w → v.at ≡ w.at → AllThere log ws rs → AllThere log (slice_set ws i v) rs
  there_set log [] rs i w v e at h = h
  there_set log (x ∷ ws) [] zero w v e at h = absurd h
  there_set log (x ∷ ws) [] (suc i) w v e at h = absurd h
  there_set log (x ∷ ws) (a ∷ rs) zero w v e at h = (ap (λ (n : ℕ). arrival_at n log) (at ∙ ap (λ (w : Waiting T). w.at) (sym (some_same x w e))) ∙ h.0, h.1)
  there_set log (x ∷ ws) (a ∷ rs) (suc i) w v e at h = (h.0, there_set log ws rs i w v e at h.1)

  -- a seat that leaves does not wait
  leaves_wait : (status : Option Completeness) (w : What) (t : Task T) → waits_with status (sort_as w) 0 0 ≡ tasked (Some t) 0 0 → is_leave w ≡ false
  leaves_wait status what.Leave t e = no_list _ e
    where
      no_list : {x : Waiting T} (P : Type 0) → [] ≡ x ∷ [] → P
      no_list P e = cc
  leaves_wait status what.Join t e = refl
  leaves_wait status (what.Shell m) t e = refl
  leaves_wait status (what.Control m) t e = refl
  leaves_wait status (what.Stdin m) t e = refl

  pub no_leave : (status : Option Completeness) (a : Arrival) (t : Task T) → waits_with status (sort_as a.what) 0 0 ≡ tasked (Some t) 0 0 → is_leave a.what ≡ false
  no_leave status a t e = leaves_wait status a.what t e

-- the cell that runs stands where it stood
pub runs_begun : (at count : ℕ) (log : Log) (x : Execute) → execute_at at log ≡ Some x → RunsAt at (Marked (record { at = at; kind = Begin count }) ∷ log)
runs_begun at count log x there = (opened at (seat_at at log) x, ap (option_with (opened at (seat_at at log))) there, refl)

pub runs_flushed : (at turns : ℕ) (text : List ℕ) (log : Log) → RunsAt at log → RunsAt at (Marked (record { at = at; kind = Flush turns text }) ∷ log)
runs_flushed at turns text log (r, runs, is) = (flushed_at turns r, ap (option_with (flushed_at turns)) runs, is)

module _ {T : Type 0} where
  runs_gone : (read : Bool) (at turns : ℕ) (text : List ℕ) (k : KernelState T) → RunsAt at k.log → RunsAt at (gone_on read at turns text k).log
  runs_gone read at turns (c ∷ text) k h = runs_flushed at turns (c ∷ text) k.log h
  runs_gone true at turns [] k h = runs_flushed at turns [] k.log h
  runs_gone false at turns [] k h = h

  pub runs_on : (answer : Turned) (read : Bool) (at turns : ℕ) (text : List ℕ) (k new : KernelState T) → new ≡ flushed answer read at turns text k → RunsAt at k.log → RunsAt at new.log
  runs_on answer read at turns text k new e h = subst (λ (k : KernelState T). RunsAt at k.log) (sym e) (by answer)
    where
      by : (answer : Turned) → RunsAt at (flushed answer read at turns text k).log
      by turned.Stopped = runs_gone read at turns text k h
      by turned.Ended = runs_flushed at turns text k.log h
      by (turned.Trapped trap) = runs_flushed at turns text k.log h
      by turned.NeedsLine = runs_flushed at turns text k.log h
      by turned.NoMemory = runs_flushed at turns text k.log h

-- the last leaves, as an arrival is taken that waits
pub left_waits : (seat : ℕ) (a : Arrival) (log : Log) → is_leave a.what ≡ false → last_leave seat (Took a ∷ log) ≡ last_leave seat log
left_waits seat a log e = ap (λ (b : Bool). cond (b && a.seat == seat) (length log) (last_leave seat log)) e

-- the request of the cell that runs, where the log has one item more
pub cell_added : (cell now : Option Arrival) (log new : Log) (at : ℕ) (kind : Kind) (own : Option Arrival) → ((r : Running) → running log ≡ Some r → HasRequest cell r.at log) → IsFor at log own → now ≡ cell_after kind own cell → new ≡ Marked (record { at = at; kind = kind }) ∷ log → (r : Running) → running new ≡ Some r → HasRequest now r.at new
cell_added cell now log new at kind own kept for n e r is =
    subst (λ (l : Log). HasRequest now r.at l) (sym e)
    (subst (λ (o : Option Arrival). HasRequest o r.at (Marked (record { at = at; kind = kind }) ∷ log)) (sym n) (cell_marked cell log kept at kind own for r (ap running (sym e) ∙ is)))

pub cell_took : (cell : Option Arrival) (log new : Log) (a : Arrival) → ((r : Running) → running log ≡ Some r → HasRequest cell r.at log) → new ≡ Took a ∷ log → (r : Running) → running new ≡ Some r → HasRequest cell r.at new
cell_took cell log new a kept e r is = subst (λ (l : Log). HasRequest cell r.at l) (sym e) (cell_taken cell log kept a r (ap running (sym e) ∙ is))

module _ {T : Type 0} where
  pub there_added : (log new : Log) (e : Item) (ws : List (Waiting T)) (rs : List Arrival) → new ≡ e ∷ log → AllThere log ws rs → AllThere new ws rs
  there_added log new e ws rs is h = subst (λ (l : Log). AllThere l ws rs) (sym is) (there_grows log e ws rs h)

  pub there_took : (log new : Log) (ws now : List (Waiting T)) (rs more : List Arrival) (w : Waiting T) (a : Arrival) → new ≡ Took a ∷ log → w.at ≡ length log → now ≡ ws ++ w ∷ [] → more ≡ rs ++ a ∷ [] → AllThere log ws rs → AllThere new now more
  there_took log new ws now rs more w a is at n m h = subst (λ (l : Log). AllThere l now more) (sym is) (there_taken log ws now rs more w a at n m h)

  -- what a script is after a mark
  pub noted_as : (log new : Log) (pending now : List (List Entry)) (ws : List (Waiting T)) (given ran turns at : ℕ) (kind : Kind) → new ≡ Marked (record { at = at; kind = kind }) ∷ log → now ≡ pending ++ entries_at log (record { at = at; kind = kind }) ∷ [] → turns ≡ ran_after kind ran → state_of new now ws given turns ≡ noted at kind (state_of log pending ws given ran)
  noted_as log new pending now ws given ran turns at kind e n t =
      ap (λ (l : Log). state_of l now ws given turns) e
      ∙ ap (λ (p : List (List Entry)). state_of (Marked (record { at = at; kind = kind }) ∷ log) p ws given turns) n
      ∙ ap (λ (x : ℕ). state_of (Marked (record { at = at; kind = kind }) ∷ log) (pending ++ entries_at log (record { at = at; kind = kind }) ∷ []) ws given x) t

  -- and after an arrival
  pub took_as : (status : Option Completeness) (a : Arrival) (log new : Log) (pending : List (List Entry)) (ws now : List (Waiting T)) (given ran at number : ℕ) → new ≡ Took a ∷ log → at ≡ length log → number ≡ arrivals log → now ≡ ws ++ waits_with status (sort_as a.what) at (number + 1) → state_of new pending now given ran ≡ took status a (state_of log pending ws given ran)
  took_as status a log new pending ws now given ran at number e p n is =
      ap (λ (l : Log). state_of l pending now given ran) e
      ∙ ap (λ (xs : List (Waiting T)). state_of (Took a ∷ log) pending xs given ran)
      (is ∙ ap (λ (i : ℕ). ws ++ waits_with status (sort_as a.what) i (number + 1)) p ∙ ap (λ (i : ℕ). ws ++ waits_with status (sort_as a.what) (length log) (i + 1)) n)
