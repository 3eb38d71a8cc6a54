-- To be believed.
-- What is answered to a request that waits and is no cell ("Messaging in Jupyter", version 5.4).
use Rattle.std.specs.Prelude.{◌≡◌, ℕ, List, Option, None, Some}
use Rattle.jk_language.specs.Spoken.{Spoken}
use Rattle.jp_msg.specs.declared.message.Completeness.{Completeness}
use Rattle.jp_msg.specs.declared.message.Completeness.TheVariants.{Complete, Incomplete, Invalid}
use Rattle.jp_msg.specs.declared.message.Output.{Output}
use Rattle.jp_msg.specs.declared.message.Output.TheVariants.{KernelInfoReply, IsCompleteReply, CompleteReply, InspectReply, HistoryReply, CommInfoReply}
use Rattle.jp_msg.specs.declared.message.Request.{Request}
use Rattle.jp_msg.specs.declared.message.Request.TheVariants as request

-- A code is complete exactly where the language has a tree of it. What is incomplete lacks its end, what is invalid more
-- than that: which of the two a code is told to be, no definition says.
abbrev pub IsCompleteSo : {S T : Type 0} → Spoken S T → List ℕ → Completeness → Type 0
IsCompleteSo {T = T} spoken code Complete = (tree : T) × spoken.IsTree code tree
IsCompleteSo {T = T} spoken code Incomplete = (tree : T) → spoken.IsTree code tree → ⊥
IsCompleteSo {T = T} spoken code Invalid = (tree : T) → spoken.IsTree code tree → ⊥

-- the status with which a request is answered: is_complete tells that of its code, another tells none
abbrev pub IsStatus : {S T : Type 0} → Spoken S T → Request → Option Completeness → Type 0
IsStatus spoken (request.IsComplete code) status = (c : Completeness) × (status ≡ Some c) × IsCompleteSo spoken code c
IsStatus spoken request.KernelInfo status = status ≡ None
IsStatus spoken (request.Complete cursor) status = status ≡ None
IsStatus spoken request.Inspect status = status ≡ None
IsStatus spoken request.History status = status ≡ None
IsStatus spoken request.CommInfo status = status ≡ None
IsStatus spoken (request.Execute e) status = status ≡ None
IsStatus spoken request.Interrupt status = status ≡ None
IsStatus spoken (request.Shutdown restart) status = status ≡ None
IsStatus spoken (request.InputReply line) status = status ≡ None
IsStatus spoken request.Other status = status ≡ None

-- the status for an arrival, which is such a request or has none
abbrev pub IsStatusOf : {S T : Type 0} → Spoken S T → Option Request → Option Completeness → Type 0
IsStatusOf spoken None status = status ≡ None
IsStatusOf spoken (Some q) status = IsStatus spoken q status

abbrev pub complete_reply : Option Completeness → Option Output
complete_reply None = None
complete_reply (Some status) = Some (IsCompleteReply status)

-- the content of the reply
abbrev pub reply_to : Request → Option Completeness → Option Output
reply_to request.KernelInfo status = Some KernelInfoReply
reply_to (request.IsComplete code) status = complete_reply status
reply_to (request.Complete cursor) status = Some (CompleteReply cursor)
reply_to request.Inspect status = Some InspectReply
reply_to request.History status = Some HistoryReply
reply_to request.CommInfo status = Some CommInfoReply
reply_to (request.Execute e) status = None
reply_to request.Interrupt status = None
reply_to (request.Shutdown restart) status = None
reply_to (request.InputReply line) status = None
reply_to request.Other status = None
