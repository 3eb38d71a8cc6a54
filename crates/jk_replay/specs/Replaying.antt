-- To be believed.
-- What a replay does, line by line.
use Rattle.std.specs.Prelude.{◌≡◌, ◌≢◌, ℕ, ◌+◌, ◌-◌, ◌^◌, min, Bool, true, false, List, length, Some, None, Result, Ok, Err, ◌⊎◌, replicate, slice_index_or, slice_set, if◌then◌else◌}
use Rattle.json_form.specs.declared.fault.Fault.{Fault}
use Rattle.json_form.specs.declared.fault.Fault.TheVariants.{WrongKind}
use Rattle.jp_msg.specs.declared.message.Message.{Message}
use Rattle.jp_msg.specs.declared.message.Channel.{Channel}
use Rattle.jp_msg.specs.declared.message.Channel.TheVariants as channel
use Rattle.jk_language.specs.Spoken.{Spoken}
use Rattle.jk_log.specs.declared.arrival.What.{What}
use Rattle.jk_log.specs.declared.arrival.What.TheVariants as what
use Rattle.jk_log.specs.declared.job.Job.{Job}
use Rattle.jk_core.specs.declared.kernel.Used.{Used}
use Rattle.jk_core.specs.declared.kernel.Work.{Work}
use Rattle.jk_core.specs.declared.kernel.Work.TheVariants as work
use Rattle.jk_log.specs.Results.{Reading, IsResult}
use Rattle.jk_core.specs.State.{KernelState}
use Rattle.jk_log.specs.Pending.{joined}
use Rattle.jk_core.specs.Steps.{Takes, GivesJob, Hands, Works, without}
use Rattle.jk_replay.specs.declared.step.Step.{Step}
use Rattle.jk_replay.specs.declared.step.Step.TheVariants as step
use Rattle.jk_replay.specs.declared.replaying.Replay.{Replay}
use Rattle.jk_replay.specs.Shown.{entry_lines}

-- a kernel, how many arrivals each seat has sent, and which seats have joined and not left since
abbrev pub ReplayState : Type 0 → Type 0
ReplayState T = Replay (KernelState T)

-- the same seats, with this kernel
abbrev pub with_kernel : {T : Type 0} → KernelState T → ReplayState T → ReplayState T
with_kernel k s = record { kernel = k; sent = s.sent; seated = s.seated }

-- a kernel that has taken nothing, and seats that have sent nothing
abbrev pub opening_of : {T : Type 0} → KernelState T → ReplayState T
opening_of k = record { kernel = k; sent = replicate 256 0; seated = replicate 256 false }

-- the channel that a message came on. No message is read on the channel of broadcasts
abbrev pub sent_on : Channel → Message → What
sent_on channel.Shell m = what.Shell m
sent_on channel.Control m = what.Control m
sent_on channel.Stdin m = what.Stdin m
sent_on channel.Iopub m = what.Stdin m

-- the number of a seat's next arrival
abbrev pub next_number : {T : Type 0} → ℕ → ReplayState T → ℕ
next_number seat s = min (slice_index_or s.sent seat 0 + 1) (2 ^ 64 - 1)

-- a seat sends this, and the kernel takes it, or drops it once it has ended
abbrev pub Sends : {S T : Type 0} → Spoken S T → ℕ → What → ReplayState T → ReplayState T → Type 0
Sends {T = T} spoken seat w old new =
    (k : KernelState T) × Takes spoken (record { seat = seat; number = next_number seat old; what = w }) old.kernel k
    × (new ≡ record { kernel = k; sent = slice_set old.sent seat (next_number seat old); seated = old.seated })

-- whether a seat has joined and not left since
abbrev pub is_seated : {T : Type 0} → ℕ → ReplayState T → Bool
is_seated seat s = slice_index_or s.seated seat false

abbrev pub with_seat : {T : Type 0} → ℕ → Bool → ReplayState T → ReplayState T
with_seat seat here s = record { kernel = s.kernel; sent = s.sent; seated = slice_set s.seated seat here }

-- a seat joins with the first that it sends, and anew with the first after it left
abbrev pub Joins : {S T : Type 0} → Spoken S T → ℕ → ReplayState T → ReplayState T → Type 0
Joins {T = T} spoken seat old new =
    ((is_seated seat old ≡ true) × (new ≡ old))
    ⊎ ((is_seated seat old ≡ false) × (mid : ReplayState T) × Sends spoken seat what.Join old mid × (new ≡ with_seat seat true mid))

-- a seat leaves
abbrev pub Leaves : {S T : Type 0} → Spoken S T → ℕ → ReplayState T → ReplayState T → Type 0
Leaves {T = T} spoken seat old new = (mid : ReplayState T) × Sends spoken seat what.Leave old mid × (new ≡ with_seat seat false mid)

-- what may be asked for now: only a seat that has joined can leave
abbrev pub admitted : {T : Type 0} → ReplayState T → Step → Result Step Fault
admitted s (step.Message seat m) = Ok (step.Message seat m)
admitted s (step.Run turns) = Ok (step.Run turns)
admitted s (step.Leave seat) = if is_seated seat s then Ok (step.Leave seat) else Err WrongKind

-- the next job, if there is one, is given, read and handed in: its tree, a fault that its text has, or lack of memory
abbrev pub ParsesOne : {S T : Type 0} → Spoken S T → KernelState T → KernelState T → Type 0
ParsesOne {T = T} spoken old new =
    GivesJob old None new
    ⊎ ((job : Job) × (reading : Reading T) × (used : Used (Reading T)) × (mid : KernelState T)
    × GivesJob old (Some job) mid × (reading.job ≡ job.number) × (reading.text ≡ job.text)
    × IsResult spoken reading.text reading.outcome × Hands reading mid used new)

-- all pending entries are shown
abbrev pub shown : {T : Type 0} → ReplayState T → ReplayState T
shown s = with_kernel (without (length s.kernel.pending) s.kernel) s

abbrev pub pending_lines : {T : Type 0} → KernelState T → List ℕ
pending_lines k = entry_lines (joined k.pending)

-- a seat sends a message
abbrev pub MessageSent : {S T : Type 0} → Spoken S T → ℕ → Message → ReplayState T → ReplayState T → Type 0
MessageSent {T = T} spoken seat m old new = (mid : ReplayState T) × Joins spoken seat old mid × Sends spoken seat (sent_on m.channel m) mid new

-- what a slice comes to, and the lines that it shows
abbrev pub IsSliced : {S T : Type 0} → Spoken S T → ℕ → ReplayState T → Work → ReplayState T → List ℕ → Type 0
IsSliced {T = T} spoken turns old answer new lines =
    (k : KernelState T) × Works spoken turns old.kernel answer k × (answer ≢ work.NoMemory)
    × (new ≡ shown (with_kernel k old)) × (lines ≡ pending_lines k)

-- what a line that asks for something does, and the lines that it shows
abbrev pub StepDone : {S T : Type 0} → Spoken S T → Step → ReplayState T → ReplayState T → List ℕ → Type 0
StepDone {T = T} spoken (step.Message seat m) old new lines =
    (sent : ReplayState T) × MessageSent spoken seat m old sent
    × ((k : KernelState T) × ParsesOne spoken sent.kernel k × (new ≡ shown (with_kernel k sent)) × (lines ≡ pending_lines k))
StepDone spoken (step.Run turns) old new lines = (answer : Work) × IsSliced spoken turns old answer new lines
StepDone {T = T} spoken (step.Leave seat) old new lines =
    (left : ReplayState T) × Leaves spoken seat old left × (new ≡ shown left) × (lines ≡ pending_lines left.kernel)
