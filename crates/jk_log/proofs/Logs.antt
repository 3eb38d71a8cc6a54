-- What the questions of a log answer.
use Rattle.std.proofs.Common.{◌≡◌, ℕ, zero, suc, ◌≤◌, Bool, true, false, cond, List, [], ◌∷◌, ◌++◌, length, refl, sym, ◌∙◌, ap, subst, arith, Option, Some, eqb}
use Rattle.std.proofs.lemmas.List.{reverse-reverse, reverse-append, length-reverse, length-append}
use Rattle.std.proofs.Math.Dec.{eqb-zero-suc, eqb-suc-zero, eqb-suc-suc}
use Rattle.std.proofs.lemmas.Grind.{reverse_onto}
use Rattle.std.specs.Prelude.{reverse, slice_get, nat_lt, ◌&&◌, ◌||◌}
use Rattle.std.proofs.lemmas.Bool.Decides.{nat_tests}
use Rattle.jk_log.specs.Leaving.{are_zeros, last_leave}
use Rattle.jk_log.specs.declared.mark.Item.{Item}
use Rattle.jk_log.specs.declared.mark.Item.TheVariants.{Took, Marked}
use Rattle.std.proofs.Common.{None, Option}
use Rattle.jk_log.specs.declared.arrival.Arrival.{Arrival}
use Rattle.jp_msg.specs.declared.message.Execute.{Execute}
use Rattle.std.proofs.lemmas.Bool.{ne_eqb, leb-true, leb-false}
use Rattle.std.proofs.Common.{eq-eqb, leb, ◌<◌}
use Rattle.jp_msg.specs.declared.message.Content.{Content}
use Rattle.jp_msg.specs.declared.message.Content.TheVariants as content
use Rattle.jp_msg.specs.declared.message.Request.{Request}
use Rattle.jp_msg.specs.declared.message.Request.TheVariants as request
use Rattle.jk_log.specs.Log.{Log, arrivals, arrival_at, arrival_in, option_at, execute_at, query_at, input_at, left, leaves}
use Rattle.jk_log.specs.declared.arrival.What.{What}
use Rattle.jk_log.specs.declared.arrival.What.TheVariants as what
use Rattle.jk_log.specs.declared.arrival.Sort.{Sort}
use Rattle.jk_log.specs.declared.arrival.Sort.TheVariants as sort
use Rattle.jk_log.specs.Asked.{content_execute, content_query, content_sort, control_sort, execute_in, input_in, query_in, request_execute, request_query, shell_sort, sort_as, stdin_sort}

-- no more arrivals than items
pub arrivals_few : (items : List Item) → arrivals items ≤ length items
arrivals_few [] = omega arith
arrivals_few (Took a ∷ past) = omega (arith, arrivals_few past)
arrivals_few (Marked m ∷ past) = omega (arith, arrivals_few past)

-- nothing arrived past the end
pub arrival_past : (log : Log) (at : ℕ) → length log ≤ at → arrival_at at log ≡ None
arrival_past [] at h = refl
arrival_past (e ∷ past) at h =
    let apart : eqb (length past) at ≡ false = ne_eqb (length past) at (λ e. omega arith) in
    rw apart (arrival_past past at (omega arith))

none_some : {A B : Type 0} (f : A → Option B) (o : Option A) (x : B) → o ≡ None → option_at f o ≡ Some x → ⊥
none_some f None x e h = cc
none_some f (Some y) x e h = cc

-- an arrival that stands in the log stands there when it goes on
pub execute_within : (log : Log) (at : ℕ) (x : Execute) → execute_at at log ≡ Some x → at < length log
execute_within log at x h = within (leb (length log) at) refl
  where
    within : (b : Bool) → leb (length log) at ≡ b → at < length log
    within true e = absurd (none_some _ (arrival_at at log) x (arrival_past log at (leb-true (length log) at e)) h)
    within false e = leb-false (length log) at e

pub execute_grows : (log : Log) (e : Item) (at : ℕ) (x : Execute) → execute_at at log ≡ Some x → execute_at at (e ∷ log) ≡ Some x
execute_grows log e at x h =
    let within = execute_within log at x h in
    let apart : eqb (length log) at ≡ false = ne_eqb (length log) at (λ e. omega arith) in
    rw apart h

pub arrival_grows : (log : Log) (e : Item) (at : ℕ) (a : Arrival) → arrival_at at log ≡ Some a → arrival_at at (e ∷ log) ≡ Some a
arrival_grows log e at a h = further (leb (length log) at) refl
  where
    none_arrived : None ≡ Some a → ⊥
    none_arrived e = cc

    further : (b : Bool) → leb (length log) at ≡ b → arrival_at at (e ∷ log) ≡ Some a
    further true f = absurd (none_arrived (sym (arrival_past log at (leb-true (length log) at f)) ∙ h))
    further false f =
        let less = leb-false (length log) at f in
        let apart : eqb (length log) at ≡ false = ne_eqb (length log) at (λ e. omega arith) in
        rw apart h

-- what was just taken stands there
pub arrival_newest : (log : Log) (a : Arrival) → arrival_at (length log) (Took a ∷ log) ≡ Some a
arrival_newest log a = rw (eq-eqb (length log) (length log) refl) refl

pub execute_newest : (log : Log) (a : Arrival) → execute_at (length log) (Took a ∷ log) ≡ execute_in a.what
execute_newest log a = rw (eq-eqb (length log) (length log) refl) refl

-- what is done as for an execute request is one
shell_executes : (r : Request) → shell_sort r ≡ sort.Execute → (x : Execute) × (request_execute r ≡ Some x)
shell_executes (request.Execute x) e = (x, refl)
shell_executes request.KernelInfo e = cc
shell_executes (request.IsComplete code) e = cc
shell_executes (request.Complete cursor) e = cc
shell_executes request.Inspect e = cc
shell_executes request.History e = cc
shell_executes request.CommInfo e = cc
shell_executes request.Interrupt e = cc
shell_executes (request.Shutdown restart) e = cc
shell_executes (request.InputReply line) e = cc
shell_executes request.Other e = cc

content_executes : (c : Content) → content_sort shell_sort c ≡ sort.Execute → (x : Execute) × (content_execute c ≡ Some x)
content_executes (content.Request r) e = shell_executes r e
content_executes (content.Output o) e = cc

-- what is done as for a query is one
shell_queries : (r : Request) → shell_sort r ≡ sort.Query → (q : Request) × (request_query r ≡ Some q)
shell_queries (request.Execute x) e = cc
shell_queries request.KernelInfo e = (request.KernelInfo, refl)
shell_queries (request.IsComplete code) e = (request.IsComplete code, refl)
shell_queries (request.Complete cursor) e = (request.Complete cursor, refl)
shell_queries request.Inspect e = (request.Inspect, refl)
shell_queries request.History e = (request.History, refl)
shell_queries request.CommInfo e = (request.CommInfo, refl)
shell_queries request.Interrupt e = cc
shell_queries (request.Shutdown restart) e = cc
shell_queries (request.InputReply line) e = cc
shell_queries request.Other e = cc

content_queries : (c : Content) → content_sort shell_sort c ≡ sort.Query → (q : Request) × (content_query c ≡ Some q)
content_queries (content.Request r) e = shell_queries r e
content_queries (content.Output o) e = cc

-- only what comes on the shell channel waits
abbrev waits : Sort → Bool
waits sort.Execute = true
waits sort.Query = true
waits sort.Join = false
waits sort.Leave = false
waits sort.Input = false
waits sort.Interrupt = false
waits sort.KernelInfo = false
waits (sort.Shutdown restart) = false
waits sort.Other = false

control_waits : (c : Content) → waits (content_sort control_sort c) ≡ false
control_waits (content.Request (request.Execute x)) = refl
control_waits (content.Request request.KernelInfo) = refl
control_waits (content.Request (request.IsComplete code)) = refl
control_waits (content.Request (request.Complete cursor)) = refl
control_waits (content.Request request.Inspect) = refl
control_waits (content.Request request.History) = refl
control_waits (content.Request request.CommInfo) = refl
control_waits (content.Request request.Interrupt) = refl
control_waits (content.Request (request.Shutdown restart)) = refl
control_waits (content.Request (request.InputReply line)) = refl
control_waits (content.Request request.Other) = refl
control_waits (content.Output o) = refl

stdin_waits : (c : Content) → waits (content_sort stdin_sort c) ≡ false
stdin_waits (content.Request (request.Execute x)) = refl
stdin_waits (content.Request request.KernelInfo) = refl
stdin_waits (content.Request (request.IsComplete code)) = refl
stdin_waits (content.Request (request.Complete cursor)) = refl
stdin_waits (content.Request request.Inspect) = refl
stdin_waits (content.Request request.History) = refl
stdin_waits (content.Request request.CommInfo) = refl
stdin_waits (content.Request request.Interrupt) = refl
stdin_waits (content.Request (request.Shutdown restart)) = refl
stdin_waits (content.Request (request.InputReply line)) = refl
stdin_waits (content.Request request.Other) = refl
stdin_waits (content.Output o) = refl

never_waits : (s : Sort) (P : Type 0) → waits s ≡ false → waits s ≡ true → P
never_waits s P e f = cc

pub executes : (w : What) → sort_as w ≡ sort.Execute → (x : Execute) × (execute_in w ≡ Some x)
executes (what.Shell m) e = content_executes m.content e
executes what.Join e = cc
executes what.Leave e = cc
executes (what.Control m) e = never_waits _ _ (control_waits m.content) (ap waits e)
executes (what.Stdin m) e = never_waits _ _ (stdin_waits m.content) (ap waits e)

pub queries : (w : What) → sort_as w ≡ sort.Query → (q : Request) × (query_in w ≡ Some q)
queries (what.Shell m) e = content_queries m.content e
queries what.Join e = cc
queries what.Leave e = cc
queries (what.Control m) e = never_waits _ _ (control_waits m.content) (ap waits e)
queries (what.Stdin m) e = never_waits _ _ (stdin_waits m.content) (ap waits e)

-- a query is no cell
no_query : (q : Request) (P : Type 0) → None ≡ Some q → P
no_query q P e = cc

request_apart : (r q : Request) → request_query r ≡ Some q → request_execute r ≡ None
request_apart (request.Execute x) q e = no_query q _ e
request_apart request.KernelInfo q e = refl
request_apart (request.IsComplete code) q e = refl
request_apart (request.Complete cursor) q e = refl
request_apart request.Inspect q e = refl
request_apart request.History q e = refl
request_apart request.CommInfo q e = refl
request_apart request.Interrupt q e = refl
request_apart (request.Shutdown restart) q e = refl
request_apart (request.InputReply line) q e = refl
request_apart request.Other q e = refl

content_apart : (c : Content) (q : Request) → content_query c ≡ Some q → content_execute c ≡ None
content_apart (content.Request r) q e = request_apart r q e
content_apart (content.Output o) q e = refl

query_apart : (w : What) (q : Request) → query_in w ≡ Some q → execute_in w ≡ None
query_apart (what.Shell m) q e = content_apart m.content q e
query_apart what.Join q e = refl
query_apart what.Leave q e = refl
query_apart (what.Control m) q e = refl
query_apart (what.Stdin m) q e = refl

pub no_execute : (log : Log) (at : ℕ) (q : Request) → query_at at log ≡ Some q → execute_at at log ≡ None
no_execute log at q e = by (arrival_at at log) e
  where
    by : (o : Option Arrival) → option_at (λ a. query_in a.what) o ≡ Some q → option_at (λ a. execute_in a.what) o ≡ None
    by None h = refl
    by (Some a) h = query_apart a.what q h

-- a query that stands in the log stands there when it goes on
pub query_grows : (log : Log) (e : Item) (at : ℕ) (q : Request) → query_at at log ≡ Some q → query_at at (e ∷ log) ≡ Some q
query_grows log e at q h = within (leb (length log) at) refl
  where
    within : (b : Bool) → leb (length log) at ≡ b → query_at at (e ∷ log) ≡ Some q
    within true f = absurd (none_some _ (arrival_at at log) q (arrival_past log at (leb-true (length log) at f)) h)
    within false f =
        let less = leb-false (length log) at f in
        let apart : eqb (length log) at ≡ false = ne_eqb (length log) at (λ e. omega arith) in
        rw apart h

pub query_newest : (log : Log) (a : Arrival) → query_at (length log) (Took a ∷ log) ≡ query_in a.what
query_newest log a = rw (eq-eqb (length log) (length log) refl) refl

-- what holds of each sort of arrival
pub by_sort : (P : Sort → Type 0) → P sort.Join → P sort.Leave → P sort.Execute → P sort.Query → P sort.Input → P sort.Interrupt → P sort.KernelInfo → ((restart : Bool) → P (sort.Shutdown restart)) → P sort.Other → (s : Sort) → P s
by_sort P join leave execute query input interrupt info shutdown other sort.Join = join
by_sort P join leave execute query input interrupt info shutdown other sort.Leave = leave
by_sort P join leave execute query input interrupt info shutdown other sort.Execute = execute
by_sort P join leave execute query input interrupt info shutdown other sort.Query = query
by_sort P join leave execute query input interrupt info shutdown other sort.Input = input
by_sort P join leave execute query input interrupt info shutdown other sort.Interrupt = interrupt
by_sort P join leave execute query input interrupt info shutdown other sort.KernelInfo = info
by_sort P join leave execute query input interrupt info shutdown other (sort.Shutdown restart) = shutdown restart
by_sort P join leave execute query input interrupt info shutdown other sort.Other = other

-- a line that was sent stands where it stood as the log goes on
pub input_grows : (log : Log) (e : Item) (at : ℕ) (x : List ℕ) → input_at at log ≡ Some x → input_at at (e ∷ log) ≡ Some x
input_grows log e at x h = within (leb (length log) at) refl
  where
    within : (b : Bool) → leb (length log) at ≡ b → input_at at (e ∷ log) ≡ Some x
    within true f = absurd (none_some _ (arrival_at at log) x (arrival_past log at (leb-true (length log) at f)) h)
    within false f =
        let less = leb-false (length log) at f in
        let apart : eqb (length log) at ≡ false = ne_eqb (length log) at (λ e. omega arith) in
        rw apart h

pub input_newest : (log : Log) (a : Arrival) → input_at (length log) (Took a ∷ log) ≡ input_in a.what
input_newest log a = rw (eq-eqb (length log) (length log) refl) refl

-- a seat has left since a place exactly where its last leave stands after it
last_few : (seat : ℕ) (log : Log) → last_leave seat log ≤ length log
last_few seat [] = omega arith
last_few seat (Took a ∷ past) = few (leaves seat a) (last_few seat past)
  where
    few : (b : Bool) → last_leave seat past ≤ length past → cond b (length past) (last_leave seat past) ≤ suc (length past)
    few true h = omega arith
    few false h = omega (arith, h)
last_few seat (Marked m ∷ past) = omega (arith, last_few seat past)

later : (at n m : ℕ) → m ≤ n → nat_lt at n || nat_lt at m ≡ nat_lt at n
later at n m h = grind (arith, nat_tests)

pub left_last : (seat at : ℕ) (log : Log) → left seat at log ≡ nat_lt at (last_leave seat log)
left_last seat at [] = grind (arith, nat_tests)
left_last seat at (Took a ∷ past) = by (leaves seat a) (left_last seat at past)
  where
    by : (b : Bool) → left seat at past ≡ nat_lt at (last_leave seat past) → (b && nat_lt at (length past)) || left seat at past ≡ nat_lt at (cond b (length past) (last_leave seat past))
    by true h = ap (λ (x : Bool). nat_lt at (length past) || x) h ∙ later at (length past) (last_leave seat past) (last_few seat past)
    by false h = h
left_last seat at (Marked m ∷ past) = left_last seat at past

-- the table of last leaves, as an arrival is taken
pub leave_table : (old new : List ℕ) (log : Log) (a : Arrival) (place : ℕ) → place ≡ length log → ((seat : ℕ) → seat < 256 → slice_get old seat ≡ Some (last_leave seat log)) → ((seat : ℕ) → seat < 256 → slice_get new seat ≡ cond (leaves seat a) (Some place) (slice_get old seat)) → (seat : ℕ) → seat < 256 → slice_get new seat ≡ Some (last_leave seat (Took a ∷ log))
leave_table old new log a place at before after seat h = after seat h ∙ by (leaves seat a) (before seat h)
  where
    by : (b : Bool) → slice_get old seat ≡ Some (last_leave seat log) → cond b (Some place) (slice_get old seat) ≡ Some (cond b (length log) (last_leave seat log))
    by true e = ap (λ (n : ℕ). Some n) at
    by false e = e

-- a table of zeros
pub zeros_get : (i : ℕ) (xs : List ℕ) → i < length xs → are_zeros xs ≡ true → slice_get xs i ≡ Some 0
zeros_get i [] h e = absurd (omega (arith, h))
zeros_get zero (zero ∷ xs) h e = refl
zeros_get (suc i) (zero ∷ xs) h e = zeros_get i xs (omega (arith, h)) e
zeros_get i (suc n ∷ xs) h e = cc
