-- What is shown of a kernel that takes joins and leaves.
use Rattle.std.proofs.Common.{◌≡◌, ℕ, List, ◌++◌, take, drop, sym, ap, ◌∙◌, subst}
use Rattle.jk_language.specs.Spoken.{Spoken}
use Rattle.jk_log.specs.declared.entry.Entry.{Entry}
use Rattle.jk_log.specs.declared.arrival.Arrival.{Arrival}
use Rattle.jk_log.specs.Legal.{IsLegal}
use Rattle.jk_log.specs.Render.{render}
use Rattle.jk_core.specs.State.{KernelState}
use Rattle.jk_log.specs.Pending.{joined}
use Rattle.jk_core.specs.Steps.{Takes, without}
use Rattle.jk_core.proofs.Shown.{shown_takes, shown_without}
use Rattle.jk_board.specs.Boards.{IsBoard}
use Rattle.thread_tests.specs.Shown.{HasShown}

module _ {S T : Type 0} (spoken : Spoken S T) where
  -- an arrival that is taken
  pub taken_shown : (a : Arrival) (old new : KernelState T) → Takes spoken a old new → IsLegal spoken new.log → (shown : List Entry) → HasShown spoken shown old → HasShown spoken shown new
  taken_shown a old new is legal shown h = record {
    legal = legal;
    rendered = shown_takes spoken shown a old new is h.rendered;
  }

  -- what is pending, in two parts
  parts : (n : ℕ) (shown entries : List Entry) (k : KernelState T) → HasShown spoken shown k → entries ≡ joined (take n k.pending) → (shown ++ entries) ++ joined (drop n k.pending) ≡ render k.log
  parts n shown entries k h is = ap (λ (l : List Entry). (shown ++ l) ++ joined (drop n k.pending)) is ∙ shown_without shown n k h.rendered

  -- the next entries are the next of a render of a legal log
  pub next_board : (n : ℕ) (shown entries : List Entry) (k : KernelState T) → HasShown spoken shown k → entries ≡ joined (take n k.pending) → IsBoard spoken (shown ++ entries)
  unfolding IsBoard
  next_board n shown entries k h is = (k.log, h.legal, (joined (drop n k.pending), sym (parts n shown entries k h is)))

  -- and then these are shown
  pub next_shown : (n : ℕ) (shown entries all : List Entry) (k new : KernelState T) → HasShown spoken shown k → entries ≡ joined (take n k.pending) → new ≡ without n k → all ≡ shown ++ entries → HasShown spoken all new
  next_shown n shown entries all k new h is then more =
      subst (λ (s : KernelState T). HasShown spoken all s) (sym then) (subst (λ (l : List Entry). HasShown spoken l (without n k)) (sym more) (record {
        legal = h.legal;
        rendered = parts n shown entries k h is;
      }))
