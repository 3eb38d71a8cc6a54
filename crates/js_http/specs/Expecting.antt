-- To be believed.
-- Whether a client waits to be told that its body may come (RFC 9110, section 10.1.1).
use Rattle.std.specs.Prelude.{◌≡◌, ℕ, ◌<◌, ◌⊎◌, List, [], length, Bool, true, false, not, ◌==◌, ◌&&◌, Option, Some, None, Ok, codes}
use Rattle.httparse.specs.Grammar.{RequestHead}
use Rattle.js_http.specs.declared.header.Header.{Header}
use Rattle.js_http.specs.Headers.{is_same_name, values_of, first_of}
use Rattle.js_http.specs.Heads.{BeginsWith, length_of, lines_of}

-- the value asks for it, in any case of its letters
abbrev pub is_continue : Option (List ℕ) → Bool
is_continue None = false
is_continue (Some value) = is_same_name value (codes "100-continue")

-- a head of HTTP/1.1 with these lines asks for it
abbrev pub expects_continue : ℕ → List Header → Bool
expects_continue minor lines = not (minor == 0) && is_continue (first_of (values_of (codes "expect") lines))

-- that the body may come
abbrev pub continue_text : List ℕ
continue_text = codes "HTTP/1.1 100 Continue\r\n\r\n"

-- the bytes begin with a head that asks for it, and the body that it states is not all there
abbrev pub AwaitsContinue : List ℕ → Type 0
AwaitsContinue input =
    (h : RequestHead) × (rest : List ℕ) × (len : ℕ)
    × BeginsWith input h rest × (length_of h ≡ Ok len) × (length rest < len)
    × (expects_continue h.minor (lines_of h.fields) ≡ true)

-- what is written before the body is read: nothing, or that it may come, to one who waits for that
abbrev pub IsInterim : List ℕ → List ℕ → Type 0
IsInterim came text = (text ≡ []) ⊎ (AwaitsContinue came × (text ≡ continue_text))
