-- What a cell of the tests' language means. Each byte of its text is a turn.
use Rattle.std.specs.Prelude.{◌≡◌, ℕ, ◌+◌, ◌==◌, Bool, true, false, not, ◌||◌, ◌&&◌, if◌then◌else◌, suc, zero, List, [], ◌∷◌, ◌++◌, None, Some, slice_index_or, encode_utf8}
use Rattle.jk_language.specs.declared.outcome.Outcome.{Outcome}
use Rattle.jk_language.specs.declared.outcome.Outcome.TheVariants.{Ended, Trapped, Stopped, NeedsLine, Unreadable, Unlinked}
use Rattle.jk_language.specs.declared.outcome.LinkFault.{LinkFault}
use Rattle.jk_language.specs.declared.outcome.LinkFault.TheVariants.{NotLoaded}
use Rattle.jk_language.specs.declared.outcome.Refusal.{Refusal}
use Rattle.jk_language.specs.declared.outcome.Refusal.TheVariants.{Compile, Link}
use Rattle.jk_language.specs.Parts.{Line, Meaning}
use Rattle.jk_language.specs.Spoken.{Spoken, standing}

abbrev pub begins_with : ℕ → List ℕ → Bool
begins_with c [] = false
begins_with c (x ∷ xs) = x == c

-- what the session keeps of a line: its first byte
abbrev pub first_of : Line → ℕ
first_of None = 0
first_of (Some line) = slice_index_or line 0 0

-- '.', '!' and '@' show nothing
abbrev pub is_silent : ℕ → Bool
is_silent c = c == 46 || c == 33 || c == 64

-- '$' shows what the session keeps, and each other byte itself
abbrev pub shown_by : ℕ → ℕ → ℕ
shown_by session c = if c == 36 then session else c

-- a cell after some of its turns
pub record Reading : Type 0 where
  pub session : ℕ
  -- what is left of the text and of the lines
  pub rest : List ℕ
  pub lines : List Line
  pub lines_used : ℕ
  pub output : List ℕ
  pub turns : ℕ
  -- whether a line is asked for that is not there
  pub asks : Bool

-- The turn of a byte: '?' takes a line, a silent byte only waits, and any other is shown and kept.
abbrev pub after : Bool → Bool → ℕ → List ℕ → List Line → Reading → Reading
after true silent c rest [] r = record r { rest = rest; lines = []; turns = r.turns + 1; asks = true }
after true silent c rest (line ∷ lines) r =
    record r { session = first_of line; rest = rest; lines = lines; lines_used = r.lines_used + 1; turns = r.turns + 1; asks = false }
after false true c rest lines r = record r { rest = rest; lines = lines; turns = r.turns + 1; asks = false }
after false false c rest lines r =
    record r { session = shown_by r.session c; rest = rest; lines = lines; output = r.output ++ encode_utf8 (shown_by r.session c); turns = r.turns + 1; asks = false }

abbrev pub step_at : Bool → List ℕ → List Line → Reading → Reading
step_at true rest lines r = r
step_at false [] lines r = r
step_at false (c ∷ rest) lines r = after (c == 63) (is_silent c) c rest lines r

-- one turn, if there is one
unfoldable pub step : Reading → Reading
step r = step_at r.asks r.rest r.lines r

-- at most n turns
unfoldable pub read : ℕ → Reading → Reading
read zero r = r
read (suc n) r = read n (step r)

-- before the first turn
abbrev pub opened : ℕ → List ℕ → List Line → Reading
opened session text lines = record { session = session; rest = text; lines = lines; lines_used = 0; output = []; turns = 0; asks = false }

-- what stands next; all turns but silent ones may want memory
abbrev pub outcome_at : Outcome → Bool → List ℕ → Outcome
outcome_at last true rest = NeedsLine
outcome_at last false [] = last
outcome_at last false (c ∷ rest) = Stopped (not (is_silent c))

abbrev pub meaning_at : Outcome → Reading → Meaning ℕ
meaning_at last r =
    record { session = r.session; output = r.output; lines_used = r.lines_used; turns = r.turns; outcome = outcome_at last r.asks r.rest }

-- a text that begins with '!' traps at its end
abbrev pub end_of : List ℕ → Outcome
end_of text = if begins_with 33 text then Trapped (record { number = 2; «module» = []; line = 1 }) else Ended

-- a cell that runs
abbrev pub runs : ℕ → List ℕ → List Line → ℕ → Meaning ℕ
runs session text lines n = meaning_at (end_of text) (read n (opened session text lines))

-- what a text is refused for that begins with '@': the module M is not loaded
abbrev pub no_module : LinkFault
no_module = NotLoaded (77 ∷ [])

-- A text that begins with '#' is refused, and one that begins with '@' while the session keeps nothing.
abbrev pub cell_of : ℕ → List ℕ → List Line → ℕ → Meaning ℕ
cell_of session text lines n =
    if begins_with 35 text then standing session Unreadable else (if begins_with 64 text && session == 0 then standing session (Unlinked no_module) else runs session text lines n)

-- the text as it was kept
abbrev pub IsKept : List ℕ → List ℕ → Type 0
IsKept text kept = (begins_with 35 text ≡ false) × (kept ≡ text)

abbrev pub IsRefused : ℕ → List ℕ → Refusal → Type 0
IsRefused session text (Compile fault) = (begins_with 35 text ≡ true) × (fault.number ≡ 5)
IsRefused session text (Link fault) = (begins_with 35 text ≡ false) × (begins_with 64 text ≡ true) × (session ≡ 0) × (fault ≡ no_module)

abbrev pub spoken_texts : Spoken ℕ (List ℕ)
spoken_texts = record { opening = 0; cell = cell_of; IsTree = IsKept; IsRefusedFor = IsRefused }
