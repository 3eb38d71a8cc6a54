-- Lists of acts are lists of steps of the world, where what each act takes was put into its place just before it.
use Rattle.std.proofs.Common.{◌≡◌, ℕ, List, [], ◌∷◌, ◌++◌, refl, sym, ◌∙◌, ap, subst, append-nil, append_assoc}
use Rattle.std.proofs.Common.{Some}
use Rattle.std.specs.Prelude.{slice_get, remove}
use Rattle.jk_language.specs.Spoken.{Spoken}
use Rattle.jk_log.specs.declared.arrival.Arrival.{Arrival}
use Rattle.jk_log.specs.declared.job.Job.{Job}
use Rattle.jk_log.specs.declared.job.Parsed.{Parsed}
use Rattle.jk_log.specs.Results.{Reading, IsResult}
use Rattle.jk_core.specs.State.{fresh}
use Rattle.jk_world.specs.World.{World, Event, Step, Run, opening}
use Rattle.jk_world.specs.World as world
use Rattle.jk_run.specs.Acts.{DriverState, driven, Act, Take, GiveJob, Hand, Work, Publish, Drives}
use Rattle.jk_run.specs.Around.{IsAround, Offers}
use Rattle.jk_run.specs.Supplied.{arrivals_of, AreSupplied}
use Rattle.jk_run.proofs.Around.{Holds, act_steps}

module _ {S T : Type 0} (spoken : Spoken S T) where
  run_on : (w : World T) (es : List (Event T)) (v : World T) (more : List (Event T)) (u : World T) → Run spoken w es v → Run spoken v more u → Run spoken w (es ++ more) u
  run_on w [] v more u one two = subst (λ (s : World T). Run spoken s more u) one two
  run_on w (e ∷ es) v more u (mid, step, one) two = (mid, step, run_on mid es v more u one two)

  -- Steps lead from a world to one that has this driver's kernel and board. These were sent on the way, and an empty inbox
  -- holds these then.
  abbrev Comes : World T → DriverState T → List Arrival → List Arrival → Type 0
  Comes w d sent standing =
      (events : List (Event T)) × (v : World T) × Run spoken w events v × IsAround v d × (v.sent ≡ w.sent ++ sent) × (v.inbox ≡ standing)

  -- a step before them, at which nothing is sent
  comes_after : (w : World T) (event : Event T) (v : World T) (d : DriverState T) (sent standing : List Arrival) → Step spoken w event v → v.sent ≡ w.sent → Comes v d sent standing → Comes w d sent standing
  comes_after w event v d sent standing step same (events, u, run, near, all, inbox) =
      (event ∷ events, u, (v, step, run), near, all ∙ ap (λ (before : List Arrival). before ++ sent) same, inbox)

  -- a step before them, at which one is sent
  comes_sent : (w : World T) (d : DriverState T) (a : Arrival) (sent standing : List Arrival)
      → Comes (record w { sent = w.sent ++ a ∷ []; inbox = w.inbox ++ a ∷ [] }) d sent standing → Comes w d (a ∷ sent) standing
  comes_sent w d a sent standing (events, u, run, near, all, inbox) =
      (world.Send a ∷ events, u, (record w { sent = w.sent ++ a ∷ []; inbox = w.inbox ++ a ∷ [] }, refl, run), near, all ∙ append_assoc w.sent (a ∷ []) sent, inbox)

  -- the world in which these are sent as well
  sends : (w : World T) (d : DriverState T) (arrivals : List Arrival) → IsAround w d → Comes w d arrivals (w.inbox ++ arrivals)
  sends w d [] near = ([], w, refl, near, sym (append-nil w.sent), sym (append-nil w.inbox))
  sends w d (a ∷ arrivals) near =
      let v : World T = record w { sent = w.sent ++ a ∷ []; inbox = w.inbox ++ a ∷ [] } in
      let (events, u, run, around, all, inbox) = sends v d arrivals (record { kernel = near.kernel; board = near.board }) in
      comes_sent w d a arrivals (w.inbox ++ a ∷ arrivals) (events, u, run, around, all, inbox ∙ append_assoc w.inbox (a ∷ []) arrivals)

  -- nothing stands in the inbox and no result waits; of these jobs no result was handed in
  abbrev IsReady : World T → List Job → Type 0
  IsReady w jobs = Holds w.sent [] jobs [] w

  ready_as : (w v : World T) (jobs more : List Job) → IsReady w jobs → Holds w.sent w.inbox more w.results v → IsReady v more
  ready_as w v jobs more ready h = record { sent = refl; inbox = h.inbox ∙ ready.inbox; jobs = h.jobs; results = h.results ∙ ready.results }

  -- what is handed in of a job that was read
  abbrev row_of : Job → Parsed T → Reading T
  row_of job outcome = record { job = job.number; text = job.text; outcome = outcome }

  same_row : (job : Job) (p : Reading T) → job.number ≡ p.job → job.text ≡ p.text → row_of job p.outcome ≡ p
  same_row job p number text = λ i. record { job = number i; text = text i; outcome = p.outcome }

  pub drives_run : (acts : List (Act T)) (d e : DriverState T) (w : World T) (jobs : List Job) → IsAround w d → IsReady w jobs → Drives spoken d acts e → AreSupplied jobs acts → Comes w e (arrivals_of acts) []
  drives_run [] d e w jobs near ready is supplied = (
    [],
    w,
    refl,
    record {
      kernel = near.kernel ∙ ap (λ (s : DriverState T). s.kernel) (sym is);
      board = near.board ∙ ap (λ (s : DriverState T). s.board) (sym is);
    },
    sym (append-nil w.sent),
    ready.inbox,
  )
  drives_run (Take a ∷ acts) d e w jobs near ready (mid, does, drives) supplied =
      let sent : World T = record w { sent = w.sent ++ a ∷ []; inbox = w.inbox ++ a ∷ [] } in
      let (event, v, step, around, leaves) =
      act_steps spoken sent d mid (Take a) (record { kernel = near.kernel; board = near.board })
      ([], ap (λ (inbox : List Arrival). inbox ++ a ∷ []) ready.inbox) does in
      comes_sent w e a (arrivals_of acts) []
      (comes_after sent event v e (arrivals_of acts) [] step leaves.sent
      (drives_run acts mid e v jobs around
      (record { sent = refl; inbox = leaves.inbox; jobs = leaves.jobs ∙ ready.jobs; results = leaves.results ∙ ready.results })
      drives supplied))
  drives_run (GiveJob job ∷ acts) d e w jobs near ready (mid, does, drives) supplied =
      let (event, v, step, around, leaves) = act_steps spoken w d mid (GiveJob job) near tt does in
      comes_after w event v e (arrivals_of acts) [] step leaves.sent
      (drives_run acts mid e v (jobs ++ job ∷ []) around
      (record {
        sent = refl;
        inbox = leaves.inbox ∙ ready.inbox;
        jobs = leaves.jobs ∙ ap (λ (js : List Job). js ++ job ∷ []) ready.jobs;
        results = leaves.results ∙ ready.results;
      })
      drives supplied)
  drives_run (Hand p used ∷ acts) d e w jobs near ready (mid, does, drives) (which, job, there, number, text, supplied) =
      let row : Reading T = row_of job p.outcome in
      let parsed : World T = record w { jobs = remove w.jobs which; results = w.results ++ row ∷ [] } in
      let offers : Offers parsed (Hand p used) =
      (0, ap (λ (rows : List (Reading T)). slice_get (rows ++ row ∷ []) 0) ready.results ∙ ap (λ (r : Reading T). Some r) (same_row job p number text)) in
      let (event, v, step, around, leaves) =
      act_steps spoken parsed d mid (Hand p used) (record { kernel = near.kernel; board = near.board }) offers does in
      comes_after w (world.Parse which p.outcome) parsed e (arrivals_of acts) []
      (job, ap (λ (js : List Job). slice_get js which) ready.jobs ∙ there, subst (λ (s : List ℕ). IsResult spoken s p.outcome) (sym text) does.0, refl) refl
      (comes_after parsed event v e (arrivals_of acts) [] step leaves.sent
      (drives_run acts mid e v (remove jobs which) around
      (record {
        sent = refl;
        inbox = leaves.inbox ∙ ready.inbox;
        jobs = leaves.jobs ∙ ap (λ (js : List Job). remove js which) ready.jobs;
        results = leaves.results ∙ ap (λ (rows : List (Reading T)). remove (rows ++ row ∷ []) 0) ready.results;
      })
      drives supplied))
  drives_run (Work turns answer ∷ acts) d e w jobs near ready (mid, does, drives) supplied =
      let (event, v, step, around, leaves) = act_steps spoken w d mid (Work turns answer) near tt does in
      comes_after w event v e (arrivals_of acts) [] step leaves.sent
      (drives_run acts mid e v jobs around
      (record { sent = refl; inbox = leaves.inbox ∙ ready.inbox; jobs = leaves.jobs ∙ ready.jobs; results = leaves.results ∙ ready.results })
      drives supplied)
  drives_run (Publish marks ∷ acts) d e w jobs near ready (mid, does, drives) supplied =
      let (event, v, step, around, leaves) = act_steps spoken w d mid (Publish marks) near tt does in
      comes_after w event v e (arrivals_of acts) [] step leaves.sent
      (drives_run acts mid e v jobs around
      (record { sent = refl; inbox = leaves.inbox ∙ ready.inbox; jobs = leaves.jobs ∙ ready.jobs; results = leaves.results ∙ ready.results })
      drives supplied)

  pub drive_runs : (acts : List (Act T)) (d : DriverState T) (standing : List Arrival) (followers : ℕ) → Drives spoken (driven fresh [] [] []) acts d → AreSupplied [] acts
      → (events : List (Event T)) × (w : World T) × Run spoken (opening followers) events w × IsAround w d × (w.sent ≡ arrivals_of acts ++ standing) × (w.inbox ≡ standing)
  drive_runs acts d standing followers drives supplied =
      let first : World T = opening followers in
      let (events, v, run, around, sent, inbox) =
      drives_run acts (driven fresh [] [] []) d first [] (record { kernel = refl; board = refl })
      (record { sent = refl; inbox = refl; jobs = refl; results = refl }) drives supplied in
      let (more, u, rest, near, all, stands) = sends v d standing around in (
        events ++ more,
        u,
        run_on first events v more u run rest,
        near,
        all ∙ ap (λ (before : List Arrival). before ++ standing) sent,
        stands ∙ ap (λ (before : List Arrival). before ++ standing) inbox,
      )
