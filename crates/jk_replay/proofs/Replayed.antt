-- What a message line does, put together.
use Rattle.std.proofs.Common.{false, ◌≡◌, ℕ, Result, Ok, Err, String, string_bytes, ◌∙◌, ap, subst}
use Rattle.std.specs.Prelude.{IfOk, OnOk}
use Rattle.std.specs.declared.alloc.Global.{Global}
use Rattle.jp_msg.specs.declared.message.Message.{Message}
use Rattle.jk_language.specs.Spoken.{Spoken}
use Rattle.jk_log.specs.declared.arrival.What.{What}
use Rattle.jk_log.specs.declared.arrival.What.TheVariants as what
use Rattle.jk_core.specs.State.{KernelState}
use Rattle.jk_replay.specs.declared.step.Step.TheVariants as step
use Rattle.jk_replay.specs.Replaying.{ReplayState, Joins, Sends, sent_on, ParsesOne, shown, pending_lines, StepDone, with_kernel, with_seat}

module _ {S T : Type 0} (spoken : Spoken S T) where
  pub message_done : {E : Type 0} (seat : ℕ) (m : Message) (w : What) (s0 s1 s2 s3 s4 : ReplayState T) (result : Result (String Global) E)
      → Joins spoken seat s0 s1 → Sends spoken seat w s1 s2 → w ≡ sent_on m.channel m
      → (k : KernelState T) × ParsesOne spoken s2.kernel k × (s3 ≡ with_kernel k s2)
      → OnOk result (s4 ≡ shown s3) → IfOk result (λ l. string_bytes l ≡ pending_lines s3.kernel)
      → IfOk result (λ l. StepDone spoken (step.Message seat m) s0 s4 (string_bytes l))
  message_done seat m w s0 s1 s2 s3 s4 (Err e) joined sent same parsed state lines = tt
  message_done seat m w s0 s1 s2 s3 s4 (Ok l) joined sent same parsed state lines = (
    s2,
    (s1, joined, subst (λ (w : What). Sends spoken seat w s1 s2) same sent),
    (parsed.0, parsed.1, state ∙ ap shown parsed.2, lines ∙ ap (λ (s : ReplayState T). pending_lines s.kernel) parsed.2),
  )

  pub leave_done : {E : Type 0} (seat : ℕ) (s0 s1 s2 s3 : ReplayState T) (result : Result (String Global) E)
      → Sends spoken seat what.Leave s0 s1 → s2 ≡ with_seat seat false s1
      → OnOk result (s3 ≡ shown s2) → IfOk result (λ l. string_bytes l ≡ pending_lines s2.kernel)
      → IfOk result (λ l. StepDone spoken (step.Leave seat) s0 s3 (string_bytes l))
  leave_done seat s0 s1 s2 s3 (Err e) sends same state lines = tt
  leave_done seat s0 s1 s2 s3 (Ok l) sends same state lines = (s2, (s1, sends, same), state, lines)
