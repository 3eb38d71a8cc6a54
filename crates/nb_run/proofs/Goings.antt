-- What a kernel and its recorder go through, step by step.
use Rattle.std.proofs.Common.{◌≡◌, ℕ, ◌≤◌, List, [], ◌∷◌, ◌++◌, length, take, refl, sym, ◌∙◌, ap, subst, append_assoc, append-nil, false, true, inl, inr, arith}
use Rattle.std.proofs.lemmas.Bool.{true≢false}
use Rattle.std.proofs.lemmas.List.{take_all, drop_all}
use Rattle.jk_language.specs.Spoken.{Spoken}
use Rattle.jk_log.specs.declared.arrival.Arrival.{Arrival}
use Rattle.jk_log.specs.declared.entry.Entry.{Entry}
use Rattle.jk_log.specs.Log.{takes, ended}
use Rattle.jk_log.specs.Pending.{joined}
use Rattle.jk_core.specs.declared.kernel.Work.{Work}
use Rattle.jk_core.specs.State.{KernelState}
use Rattle.jk_core.specs.Steps.{Takes, Works, taken, without}
use Rattle.jk_core.proofs.Shown.{shown_takes, shown_works, shown_without, takes_taken, takes_works}
use Rattle.nb_record.specs.declared.pages.Pages.{Pages}
use Rattle.nb_record.specs.State.{AreTold, RecorderState}
use Rattle.nb_run.specs.Going.{PlayerState, IsShownBy, Goes, Tells}

told_on : (es fs : List Entry) (a b c : Pages) → AreTold es a b → AreTold fs b c → AreTold (es ++ fs) a c
told_on [] fs a b c h g = subst (λ (p : Pages). AreTold fs p c) h g
told_on (e ∷ es) fs a b c (m, one, rest) g = (m, one, told_on es fs m b c rest g)

module _ {T : Type 0} where
  pub goes_on : (a b c : PlayerState T) (s t : List Arrival) (x y : List Entry) → Goes a b s x → Goes b c t y → Goes a c (s ++ t) (x ++ y)
  goes_on a b c s t x y h g = record {
    taken = g.taken ∙ ap (λ (l : List Arrival). l ++ t) h.taken ∙ append_assoc (takes a.kernel.log) s t;
    shown = λ before is. subst (λ (l : List Entry). IsShownBy l c.kernel) (append_assoc before x y) (g.shown (before ++ x) (h.shown before is));
    pages = told_on x y a.recorder.pages b.recorder.pages c.recorder.pages h.pages g.pages;
    path = g.path ∙ h.path;
  }

  -- nothing is told
  pub goes_silent : (a b c : PlayerState T) (s t : List Arrival) → Goes a b s [] → Goes b c t [] → Goes a c (s ++ t) []
  goes_silent a b c s t h g = goes_on a b c s t [] [] h g

  -- a slice, what it shows, and the input that it is given
  pub goes_round : (a b c d : PlayerState T) (sent : List Arrival) (told : List Entry) → Goes a b [] [] → Goes b c [] told → Goes c d sent [] → Goes a d sent told
  goes_round a b c d sent told h g i =
      subst (λ (l : List Entry). Goes a d sent l) (append-nil told) (goes_on a c d [] sent told [] (goes_on a b c [] [] [] told h g) i)

  pub goes_nowhere : (a : PlayerState T) → Goes a a [] []
  goes_nowhere a = record {
    taken = sym (append-nil (takes a.kernel.log));
    shown = λ before is. subst (λ (l : List Entry). IsShownBy l a.kernel) (sym (append-nil before)) is;
    pages = refl;
    path = refl;
  }

  -- all that is pending was told
  pub tell_tells : (old : PlayerState T) (k : KernelState T) (r : RecorderState) (n : ℕ) (entries : List Entry)
      → entries ≡ joined (take (length old.kernel.pending) old.kernel.pending) → k ≡ without (length old.kernel.pending) old.kernel
      → length entries ≤ n → AreTold (take n entries) old.recorder.pages r.pages → r.path ≡ old.recorder.path
      → Tells old (record { kernel = k; recorder = r; sent = old.sent }) entries
  tell_tells old k r n entries es ks few told path = record {
    goes = record {
      taken = ap (λ (j : KernelState T). takes j.log) ks ∙ sym (append-nil (takes old.kernel.log));
      shown = λ before is.
          subst (λ (l : List Entry). IsShownBy (before ++ l) k) (sym es)
          (subst (IsShownBy (before ++ joined (take (length old.kernel.pending) old.kernel.pending))) (sym ks)
          (shown_without before (length old.kernel.pending) old.kernel is));
      pages = subst (λ (l : List Entry). AreTold l old.recorder.pages r.pages) (take_all n entries few) told;
      path = path;
    };
    log = ap (λ (j : KernelState T). j.log) ks;
    none = ap (λ (j : KernelState T). j.pending) ks ∙ drop_all (length old.kernel.pending) old.kernel.pending (omega arith);
  }

module _ {S T : Type 0} (spoken : Spoken S T) where
  -- an arrival is taken
  pub send_goes : (a : Arrival) (old : PlayerState T) (k : KernelState T) (n : ℕ) → ended old.kernel.log ≡ false → Takes spoken a old.kernel k
      → Goes old (record { kernel = k; recorder = old.recorder; sent = n }) (a ∷ []) []
  send_goes a old k n on takes_it = record {
    taken = grows takes_it;
    shown = λ before is. subst (λ (l : List Entry). IsShownBy l k) (sym (append-nil before)) (shown_takes spoken before a old.kernel k takes_it is);
    pages = refl;
    path = refl;
  }
    where
      grows : Takes spoken a old.kernel k → takes k.log ≡ takes old.kernel.log ++ a ∷ []
      grows (inl (over, e)) = absurd (true≢false (sym over ∙ on))
      grows (inr (here, status, right, e)) = ap (λ (j : KernelState T). takes j.log) e ∙ takes_taken status a old.kernel

  -- a slice is worked
  pub work_goes : (turns : ℕ) (old : PlayerState T) (answer : Work) (k : KernelState T) (n : ℕ) → Works spoken turns old.kernel answer k
      → Goes old (record { kernel = k; recorder = old.recorder; sent = n }) [] []
  work_goes turns old answer k n works = record {
    taken = takes_works spoken turns old.kernel answer k works ∙ sym (append-nil (takes old.kernel.log));
    shown = λ before is. subst (λ (l : List Entry). IsShownBy l k) (sym (append-nil before)) (shown_works spoken before turns old.kernel answer k works is);
    pages = refl;
    path = refl;
  }
