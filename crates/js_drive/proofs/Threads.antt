-- What a driver comes to that was driven from its beginning.
use Rattle.std.proofs.Common.{◌≡◌, List, [], ◌++◌, sym, ◌∙◌, subst, append-nil, Option, None, true}
use Rattle.std.specs.declared.alloc.Global.{Global}
use Rattle.std.specs.declared.vec.Vec.{Vec}
use Rattle.jk_language.specs.Spoken.{Spoken}
use Rattle.jk_log.specs.declared.entry.Entry.{Entry}
use Rattle.jk_log.specs.declared.job.Job.{Job}
use Rattle.jk_log.specs.Log.{ended}
use Rattle.jk_log.specs.Pending.{joined}
use Rattle.jk_log.specs.Render.{render}
use Rattle.jk_core.specs.State.{KernelState, fresh}
use Rattle.jk_queues.specs.Pool.{offered_by, has_stopped}
use Rattle.jk_board.specs.Ends.{published}
use Rattle.jk_run.specs.Acts.{DriverState, driven, Leads}
use Rattle.jk_run.specs.Driver.{HasDriven, Pends, state_of}
use Rattle.jk_run.specs.Hand.{hand, hand_entries}
use Rattle.jk_run.specs.declared.driver.Driver.{Driver}
use Rattle.js_drive.specs.Threads.{HasServed, IsNewDriver}

-- nothing is in hand, so all that is pending is
none_held : {T : Type 0} (entries : Option (Vec Entry Global)) (all now : KernelState T) → entries ≡ None → now ≡ all → Pends entries all now
none_held entries all now none same = subst (λ (e : Option (Vec Entry Global)). Pends e all now) (sym none) same

none_holds : {T : Type 0} (entries : Option (Vec Entry Global)) (all now : KernelState T) → entries ≡ None → Pends entries all now → now ≡ all
none_holds entries all now none pends = subst (λ (e : Option (Vec Entry Global)). Pends e all now) none pends

none_more : (offered : List Job) (job : Option Job) → offered ≡ [] → job ≡ None → offered ++ hand job ≡ []
none_more offered job none nothing = λ i. none i ++ hand (nothing i)

-- what is published is all that is shown, where nothing is in hand or pending
all_shown : (shown log : List Entry) (entries : Option (Vec Entry Global)) (pending : List (List Entry)) → entries ≡ None → pending ≡ []
    → shown ++ (hand_entries entries ++ joined pending) ≡ log → shown ≡ log
all_shown shown log entries pending none nothing is =
    sym (append-nil shown) ∙ (sym (λ i. shown ++ (hand_entries (none i) ++ joined (nothing i))) ∙ is)

module _ {L S T M : Type 0} where
  -- where the driver began
  begins_at : (d : Driver L S T M) → IsNewDriver d → state_of fresh d ≡ driven fresh [] [] []
  begins_at d new = λ i. driven fresh (new.2 i) (none_more (offered_by d.pool) d.job new.3 new.6 i) (new.4 i)

  pub has_served : (spoken : Spoken S T) (new last : Driver L S T M) → IsNewDriver new → HasDriven spoken new last → ended last.kernel.log ≡ true
      → last.entries ≡ None → last.kernel.pending ≡ [] → has_stopped last.pool ≡ true → HasServed spoken last
  has_served spoken new last is drives end none nothing stopped =
      let to = drives fresh (none_held new.entries fresh new.kernel is.7 is.0) in
      let same = none_holds last.entries to.0 last.kernel none to.1 in
      record {
        acts =
            subst (λ (k : KernelState T). Leads spoken (driven fresh [] [] []) (state_of k last)) (sym same)
            (subst (λ (d : DriverState T). Leads spoken d (state_of to.0 last)) (begins_at new is) to.2);
        ended = end;
        shown = all_shown (published last.publisher) (render last.kernel.log) last.entries last.kernel.pending none nothing last.shown;
        stopped = stopped;
      }
