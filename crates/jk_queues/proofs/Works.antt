-- New worker ends of a pool, and what a worker has done, round by round.
use Rattle.std.proofs.Common.{◌≡◌, All, List, [], ◌∷◌, ◌++◌, map, refl, sym, ap, ◌∙◌, append_assoc, append-nil}
use Rattle.std.proofs.lemmas.List.{map-append}
use Rattle.std.proofs.lemmas.List.Elements.{All-push, All-same, All-weaker}
use Rattle.jk_log.specs.declared.job.Job.{Job}
use Rattle.jk_log.specs.Results.{Reading}
use Rattle.jk_queues.specs.declared.pool.Pool.{Pool}
use Rattle.jk_queues.specs.declared.pool.WorkerEnd.{WorkerEnd}
use Rattle.jk_queues.specs.Pool.{taken_by, made_by, IsNewEnd, IsSamePool, IsSameEnd}
use Rattle.jk_queues.specs.Work.{asked, answered, HasDone}

module _ {T : Type 0} where
  -- nothing was taken and nothing handed in
  pub none_done : (old new : WorkerEnd (Reading T)) → taken_by new ≡ taken_by old → made_by new ≡ made_by old → IsSameEnd old new → HasDone [] [] old new
  none_done old new taken made same = record {
    results = [];
    each = refl;
    took = taken ∙ sym (append-nil (taken_by old));
    handed = made ∙ sym (append-nil (made_by old));
    same = same;
  }

  -- one after the other
  pub done_on : (first more rest : List Job) (a b c : WorkerEnd (Reading T)) → HasDone first [] a b → HasDone more rest b c → HasDone (first ++ more) rest a c
  done_on first more rest a b c h k = record {
    results = h.results ++ k.results;
    each = map-append answered h.results k.results ∙ ap (λ l. l ++ map answered k.results) h.each ∙ ap (λ l. map asked first ++ l) k.each ∙ sym (map-append asked first more);
    took = k.took ∙ ap (λ l. l ++ (more ++ rest)) (h.took ∙ ap (λ l. taken_by a ++ l) (append-nil first)) ∙ append_assoc (taken_by a) first (more ++ rest) ∙ ap (λ l. taken_by a ++ l) (sym (append_assoc first more rest));
    handed = k.handed ∙ ap (λ l. l ++ k.results) h.handed ∙ append_assoc (made_by a) h.results k.results;
    same = (k.same.0 ∙ h.same.0, k.same.1 ∙ h.same.1, k.same.2 ∙ h.same.2);
  }

module _ {T : Type 0} where
  still_new : (p q : Pool T) → IsSamePool p q → (w : WorkerEnd T) → IsNewEnd p w → IsNewEnd q w
  still_new p q same w h = record { jobs = h.jobs ∙ sym same.0; results = h.results ∙ sym same.1; stop = h.stop ∙ sym same.2; took = h.took; handed = h.handed }

  -- one more new end
  pub more_new : (p q : Pool T) (ends all : List (WorkerEnd T)) (w : WorkerEnd T) → IsSamePool p q → All (IsNewEnd p) ends → IsNewEnd p w → all ≡ ends ++ w ∷ [] → All (IsNewEnd q) all
  more_new p q ends all w same h new is =
      All-same (IsNewEnd q) all (ends ++ w ∷ []) is (All-push (IsNewEnd q) ends w (All-weaker (IsNewEnd p) (IsNewEnd q) (still_new p q same) ends h) (still_new p q same w new))
