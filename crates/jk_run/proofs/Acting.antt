-- Lists of acts.
use Rattle.std.proofs.Common.{◌≡◌, ℕ, true, false, inl, inr, List, [], ◌∷◌, ◌++◌, take, refl, sym, ◌∙◌, ap, subst, Option, None, Some}
use Rattle.std.proofs.lemmas.List.{append-nil}
use Rattle.jk_language.specs.Spoken.{Spoken}
use Rattle.jk_log.specs.declared.arrival.Arrival.{Arrival}
use Rattle.jk_log.specs.declared.entry.Entry.{Entry}
use Rattle.jk_log.specs.declared.job.Job.{Job}
use Rattle.jk_core.specs.declared.kernel.Used.{Used}
use Rattle.jk_core.specs.declared.kernel.Used.TheVariants.{Kept, Stranger}
use Rattle.jk_core.specs.declared.kernel.Work.{Work as Worked}
use Rattle.jk_log.specs.Log.{ended, takes}
use Rattle.jk_log.specs.Results.{Reading, IsResult}
use Rattle.jk_core.specs.State.{KernelState}
use Rattle.jk_log.specs.Pending.{joined}
use Rattle.jk_core.specs.Steps.{Takes, GivesJob, Hands, Works, without}
use Rattle.jk_core.proofs.Shown.{IsShown, shown_takes, shown_without, shown_works, takes_taken}
use Rattle.jk_run.specs.Acts.{DriverState, driven, Act, Take, GiveJob, Hand, Work, Publish, Does, Drives, Leads, MovesKernel, GivesJobs, HandsResults, MovesBoard}

module _ {T : Type 0} where
  pub gives_log : (job : Option Job) (old new : KernelState T) → GivesJob old job new → new.log ≡ old.log
  gives_log None old new (none, e) = ap (λ (k : KernelState T). k.log) e
  gives_log (Some job) old new (w, first, number, text, e) = ap (λ (k : KernelState T). k.log) e

  pub hands_log : (p : Reading T) (old : KernelState T) (used : Used (Reading T)) (new : KernelState T) → Hands p old used new → new.log ≡ old.log
  hands_log p old Kept new (i, w, there, can, e) = ap (λ (k : KernelState T). k.log) e
  hands_log p old (Stranger back) new (b, e, none) = ap (λ (k : KernelState T). k.log) e

module _ {S T : Type 0} (spoken : Spoken S T) where
  drives_on : (d : DriverState T) (acts : List (Act T)) (e : DriverState T) (more : List (Act T)) (f : DriverState T) → Drives spoken d acts e → Drives spoken e more f → Drives spoken d (acts ++ more) f
  drives_on d [] e more f one two = subst (λ (s : DriverState T). Drives spoken s more f) one two
  drives_on d (act ∷ acts) e more f (mid, does, one) two = (mid, does, drives_on mid acts e more f one two)

  pub leads_on : (d e f : DriverState T) → Leads spoken d e → Leads spoken e f → Leads spoken d f
  leads_on d e f one two = (one.0 ++ two.0, drives_on d one.0 e two.0 f one.1 two.1)

  pub leads_none : (d : DriverState T) → Leads spoken d d
  leads_none d = ([], refl)

  leads_one : (d : DriverState T) (act : Act T) (e : DriverState T) → Does spoken d act e → Leads spoken d e
  leads_one d act e does = (act ∷ [], (e, does, refl))

  pub leads_take : (a : Arrival) (old new : KernelState T) (board : List Entry) (given : List Job) (handed : List (Reading T)) → ended old.log ≡ false → Takes spoken a old new → Leads spoken (driven old board given handed) (driven new board given handed)
  leads_take a old new board given handed on took = leads_one (driven old board given handed) (Take a) _ (on, new, took, refl)

  -- an arrival that a kernel takes which was not shut down
  pub took_one : (a : Arrival) (old new : KernelState T) → Takes spoken a old new → ended old.log ≡ false → takes new.log ≡ takes old.log ++ a ∷ []
  took_one a old new (inl (over, same)) on = absurd (true_false (sym over ∙ on))
    where
      true_false : true ≡ false → ⊥
      true_false e = cc
  took_one a old new (inr (still, status, right, e)) on = ap (λ (k : KernelState T). takes k.log) e ∙ takes_taken status a old

  pub leads_job : (job : Job) (old new : KernelState T) (board : List Entry) (given : List Job) (handed : List (Reading T)) → GivesJob old (Some job) new → Leads spoken (driven old board given handed) (driven new board (given ++ job ∷ []) handed)
  leads_job job old new board given handed gives =
      leads_one (driven old board given handed) (GiveJob job) _ (new, gives, refl)

  pub leads_hand : (p : Reading T) (used : Used (Reading T)) (old new : KernelState T) (board : List Entry) (given : List Job) (handed : List (Reading T)) → IsResult spoken p.text p.outcome → Hands p old used new → Leads spoken (driven old board given handed) (driven new board given (handed ++ p ∷ []))
  leads_hand p used old new board given handed right hands =
      leads_one (driven old board given handed) (Hand p used) _ (right, new, hands, refl)

  pub leads_work : (turns : ℕ) (answer : Worked) (old new : KernelState T) (board : List Entry) (given : List Job) (handed : List (Reading T)) → Works spoken turns old answer new → Leads spoken (driven old board given handed) (driven new board given handed)
  leads_work turns answer old new board given handed works =
      leads_one (driven old board given handed) (Work turns answer) _ (new, works, refl)

  pub leads_publish : (marks : ℕ) (old new : KernelState T) (board all : List Entry) (given : List Job) (handed : List (Reading T)) → new ≡ without marks old → all ≡ board ++ joined (take marks old.pending) → Leads spoken (driven old board given handed) (driven new all given handed)
  leads_publish marks old new board all given handed e more =
      leads_one (driven old board given handed) (Publish marks) _
      (ap (λ (k : KernelState T). driven k all given handed) e ∙ ap (λ (b : List Entry). driven (without marks old) b given handed) more)

  hands_shown : (board : List Entry) (p : Reading T) (old : KernelState T) (used : Used (Reading T)) (new : KernelState T) → Hands p old used new → IsShown board old → IsShown board new
  hands_shown board p old Kept new (i, w, there, can, e) h = subst (IsShown board) (sym e) h
  hands_shown board p old (Stranger back) new (b, e, none) h = subst (IsShown board) (sym e) h

  does_shown : (d : DriverState T) (act : Act T) (e : DriverState T) → Does spoken d act e → IsShown d.board d.kernel → IsShown e.board e.kernel
  does_shown d (Take a) e (on, k, took, is) h =
      subst (λ (s : DriverState T). IsShown s.board s.kernel) (sym is) (shown_takes spoken d.board a d.kernel k took h)
  does_shown d (GiveJob job) e (k, (w, first, number, text, same), is) h =
      subst (λ (s : DriverState T). IsShown s.board s.kernel) (sym is) (subst (IsShown d.board) (sym same) h)
  does_shown d (Hand p used) e (right, k, hands, is) h =
      subst (λ (s : DriverState T). IsShown s.board s.kernel) (sym is) (hands_shown d.board p d.kernel used k hands h)
  does_shown d (Work turns answer) e (k, works, is) h =
      subst (λ (s : DriverState T). IsShown s.board s.kernel) (sym is) (shown_works spoken d.board turns d.kernel answer k works h)
  does_shown d (Publish marks) e is h =
      subst (λ (s : DriverState T). IsShown s.board s.kernel) (sym is) (shown_without d.board marks d.kernel h)

  drives_shown : (d : DriverState T) (acts : List (Act T)) (e : DriverState T) → Drives spoken d acts e → IsShown d.board d.kernel → IsShown e.board e.kernel
  drives_shown d [] e is h = subst (λ (s : DriverState T). IsShown s.board s.kernel) (sym is) h
  drives_shown d (act ∷ acts) e (mid, does, more) h = drives_shown mid acts e more (does_shown d act mid does h)

  -- what is published and what is pending stay what is shown of the log
  pub leads_shown : (d e : DriverState T) → Leads spoken d e → IsShown d.board d.kernel → IsShown e.board e.kernel
  leads_shown d e leads h = drives_shown d leads.0 e leads.1 h

  leads_same : (old new : KernelState T) (board : List Entry) (given : List Job) (handed : List (Reading T)) → new ≡ old → Leads spoken (driven old board given handed) (driven new board given handed)
  leads_same old new board given handed e = subst (λ (k : KernelState T). Leads spoken (driven old board given handed) (driven k board given handed)) (sym e) (leads_none (driven old board given handed))

  -- the kernel alone
  pub moves_same : (old new : KernelState T) → new ≡ old → MovesKernel spoken old new
  moves_same old new e board given handed = leads_same old new board given handed e

  pub moves_take : (a : Arrival) (old new : KernelState T) → ended old.log ≡ false → Takes spoken a old new → MovesKernel spoken old new
  moves_take a old new on took board given handed = leads_take a old new board given handed on took

  pub moves_on : (old mid new : KernelState T) → MovesKernel spoken old mid → MovesKernel spoken mid new → MovesKernel spoken old new
  moves_on old mid new one two board given handed =
      leads_on (driven old board given handed) (driven mid board given handed) (driven new board given handed) (one board given handed) (two board given handed)

  -- jobs
  pub jobs_none : (k : KernelState T) (given more : List Job) → more ≡ given → GivesJobs spoken k given k more
  jobs_none k given more e board handed =
      subst (λ (jobs : List Job). Leads spoken (driven k board given handed) (driven k board jobs handed)) (sym e) (leads_none (driven k board given handed))

  pub jobs_as : (old new : KernelState T) (given mid more : List Job) → more ≡ mid → GivesJobs spoken old given new mid → GivesJobs spoken old given new more
  jobs_as old new given mid more e gives = subst (GivesJobs spoken old given new) (sym e) gives

  pub jobs_from : (old new : KernelState T) (given mid more : List Job) → given ≡ mid → GivesJobs spoken old mid new more → GivesJobs spoken old given new more
  jobs_from old new given mid more e gives = subst (λ (jobs : List Job). GivesJobs spoken old jobs new more) (sym e) gives

  pub jobs_refused : (start old new : KernelState T) (first given : List Job) → GivesJobs spoken start first old given → new ≡ old → GivesJobs spoken start first new (given ++ [])
  jobs_refused start old new first given before same =
      jobs_as start new first given (given ++ []) (append-nil given)
      (subst (λ (k : KernelState T). GivesJobs spoken start first k given) (sym same) before)

  pub jobs_more : (start old new : KernelState T) (first given more : List Job) (next : Option Job) (job : Job) → GivesJobs spoken start first old given → GivesJob old next new → next ≡ Some job → more ≡ given ++ job ∷ [] → GivesJobs spoken start first new more
  jobs_more start old new first given more next job before gives is e =
      jobs_as start new first (given ++ job ∷ []) more e
      (λ board handed. leads_on (driven start board first handed) (driven old board given handed) (driven new board (given ++ job ∷ []) handed)
      (before board handed) (leads_job job old new board given handed (subst (λ (o : Option Job). GivesJob old o new) is gives)))

  pub jobs_end : (start old new : KernelState T) (first given : List Job) (next : Option Job) → GivesJobs spoken start first old given → GivesJob old next new → ((job : Job) → next ≡ Some job → ⊥) → GivesJobs spoken start first new (given ++ [])
  jobs_end start old new first given None before gives none = jobs_refused start old new first given before gives.1
  jobs_end start old new first given (Some job) before gives none = absurd (none job refl)

  -- results
  pub results_none : (k : KernelState T) (handed more : List (Reading T)) → more ≡ handed → HandsResults spoken k handed k more
  results_none k handed more e board given =
      subst (λ (results : List (Reading T)). Leads spoken (driven k board given handed) (driven k board given results)) (sym e) (leads_none (driven k board given handed))

  pub results_more : (start old new : KernelState T) (first handed more : List (Reading T)) (p : Reading T) (used : Used (Reading T)) → HandsResults spoken start first old handed → IsResult spoken p.text p.outcome → Hands p old used new → more ≡ handed ++ p ∷ [] → HandsResults spoken start first new more
  results_more start old new first handed more p used before right hands e board given =
      subst (λ (results : List (Reading T)). Leads spoken (driven start board given first) (driven new board given results)) (sym e)
      (leads_on (driven start board given first) (driven old board given handed) (driven new board given (handed ++ p ∷ []))
      (before board given) (leads_hand p used old new board given handed right hands))

  -- the board
  pub board_none : (k : KernelState T) (board more : List Entry) → more ≡ board → MovesBoard spoken k board k more
  board_none k board more e given handed =
      subst (λ (all : List Entry). Leads spoken (driven k board given handed) (driven k all given handed)) (sym e) (leads_none (driven k board given handed))

  pub results_as : (old new : KernelState T) (handed mid more : List (Reading T)) → more ≡ mid → HandsResults spoken old handed new mid → HandsResults spoken old handed new more
  results_as old new handed mid more e hands = subst (HandsResults spoken old handed new) (sym e) hands

  -- the same jobs and results
  pub leads_as : (d : DriverState T) (k : KernelState T) (board : List Entry) (given more : List Job) (handed rest : List (Reading T)) → more ≡ given → rest ≡ handed → Leads spoken d (driven k board given handed) → Leads spoken d (driven k board more rest)
  leads_as d k board given more handed rest e f leads =
      subst (λ (results : List (Reading T)). Leads spoken d (driven k board more results)) (sym f)
      (subst (λ (jobs : List Job). Leads spoken d (driven k board jobs handed)) (sym e) leads)
