-- Each act of a driver is a step of the world, and leaves in the places of the world what it did not take.
use Rattle.std.proofs.Common.{◌≡◌, List, [], ◌∷◌, ◌++◌, take, refl, sym, ◌∙◌, ap, subst, true, false, inl, inr}
use Rattle.std.specs.Prelude.{remove}
use Rattle.jk_language.specs.Spoken.{Spoken}
use Rattle.jk_log.specs.declared.arrival.Arrival.{Arrival}
use Rattle.jk_log.specs.declared.entry.Entry.{Entry}
use Rattle.jk_log.specs.declared.job.Job.{Job}
use Rattle.jk_log.specs.Results.{Reading}
use Rattle.jk_core.specs.State.{KernelState}
use Rattle.jk_log.specs.Pending.{joined}
use Rattle.jk_log.specs.Log.{ended}
use Rattle.jk_core.specs.Steps.{taken, GivesJob, Hands, Works, without}
use Rattle.std.proofs.Common.{Some}
use Rattle.jk_world.specs.World.{World, Event, Step, Takes}
use Rattle.jk_world.specs.World as world
use Rattle.jk_run.specs.Acts.{DriverState, Act, Take, GiveJob, Hand, Work, Publish, Does}
use Rattle.jk_run.specs.Around.{IsAround, Offers}

-- what was sent, what stands in the inbox, the texts that are to be parsed, and the results that were not handed in
pub record Holds {T : Type 0} (before standing : List Arrival) (given : List Job) (rows : List (Reading T)) (w : World T) : Type 0 where
  pub sent : w.sent ≡ before
  pub inbox : w.inbox ≡ standing
  pub jobs : w.jobs ≡ given
  pub results : w.results ≡ rows

holds : {T : Type 0} (w : World T) → Holds w.sent w.inbox w.jobs w.results w
holds w = record { sent = refl; inbox = refl; jobs = refl; results = refl }

-- what an act leaves of what the places of a world held
abbrev pub Leaves : {T : Type 0} (w : World T) (act : Act T) → Offers w act → World T → Type 0
Leaves w (Take a) offers v = Holds w.sent offers.0 w.jobs w.results v
Leaves w (GiveJob job) offers v = Holds w.sent w.inbox (w.jobs ++ job ∷ []) w.results v
Leaves w (Hand p used) offers v = Holds w.sent w.inbox w.jobs (remove w.results offers.0) v
Leaves w (Work turns answer) offers v = Holds w.sent w.inbox w.jobs w.results v
Leaves w (Publish marks) offers v = Holds w.sent w.inbox w.jobs w.results v

module _ {S T : Type 0} (spoken : Spoken S T) where
  pub act_steps : (w : World T) (d e : DriverState T) (act : Act T) → IsAround w d → (offers : Offers w act) → Does spoken d act e
      → (event : Event T) × (v : World T) × Step spoken w event v × IsAround v e × Leaves w act offers v
  act_steps w d e (Take a) near (rest, first) (on, k, inl (over, same), is) = absurd (true_false (sym over ∙ on))
    where
      true_false : true ≡ false → ⊥
      true_false e = cc
  act_steps w d e (Take a) near (rest, first) (on, k, inr (still, status, right, took), is) =
      let v : World T = record w { inbox = rest; kernel = taken status a w.kernel } in (
        world.Take,
        v,
        subst (λ (inbox : List Arrival). Takes spoken inbox w v) (sym first) (ap (λ (s : KernelState T). ended s.log) near.kernel ∙ on, status, right, refl),
        record {
          kernel = ap (taken status a) near.kernel ∙ sym took ∙ ap (λ (s : DriverState T). s.kernel) (sym is);
          board = near.board ∙ ap (λ (s : DriverState T). s.board) (sym is);
        },
        holds v,
      )
  act_steps w d e (GiveJob job) near offers (k, gives, is) = (
    world.GiveJob job,
    record w { jobs = w.jobs ++ job ∷ []; kernel = k },
    (k, subst (λ (s : KernelState T). GivesJob s (Some job) k) (sym near.kernel) gives, refl),
    record {
      kernel = ap (λ (s : DriverState T). s.kernel) (sym is);
      board = near.board ∙ ap (λ (s : DriverState T). s.board) (sym is);
    },
    holds (record w { jobs = w.jobs ++ job ∷ []; kernel = k }),
  )
  act_steps w d e (Hand p used) near (which, there) (right, k, hands, is) = (
    world.Hand which used,
    record w { results = remove w.results which; kernel = k },
    (p, there, (k, subst (λ (s : KernelState T). Hands p s used k) (sym near.kernel) hands, refl)),
    record {
      kernel = ap (λ (s : DriverState T). s.kernel) (sym is);
      board = near.board ∙ ap (λ (s : DriverState T). s.board) (sym is);
    },
    holds (record w { results = remove w.results which; kernel = k }),
  )
  act_steps w d e (Work turns answer) near offers (k, works, is) = (
    world.Work turns answer,
    record w { kernel = k },
    (k, subst (λ (s : KernelState T). Works spoken turns s answer k) (sym near.kernel) works, refl),
    record {
      kernel = ap (λ (s : DriverState T). s.kernel) (sym is);
      board = near.board ∙ ap (λ (s : DriverState T). s.board) (sym is);
    },
    holds (record w { kernel = k }),
  )
  act_steps w d e (Publish marks) near offers is =
      let v : World T = record w { board = w.board ++ joined (take marks w.kernel.pending); kernel = without marks w.kernel } in (
        world.Publish marks,
        v,
        refl,
        record {
          kernel = ap (without marks) near.kernel ∙ ap (λ (s : DriverState T). s.kernel) (sym is);
          board = ap (λ (b : List Entry). b ++ joined (take marks w.kernel.pending)) near.board
              ∙ ap (λ (s : KernelState T). d.board ++ joined (take marks s.pending)) near.kernel
              ∙ ap (λ (s : DriverState T). s.board) (sym is);
        },
        holds v,
      )
