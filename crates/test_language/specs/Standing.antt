-- Where a machine's cell stands.
use Rattle.std.specs.Prelude.{◌≡◌, ℕ, ◌-◌, ◌≤◌, Bool, List, [], length, drop}
use Rattle.jk_language.specs.Parts.{Line}
use Rattle.test_meaning.specs.Texts.{Reading, read, opened}

-- n bytes of the text were read, the session keeps this byte, and these bytes of the output were not taken
pub record IsAt (text : List ℕ) (kept n : ℕ) (asking : Bool) (left : List ℕ) (r : Reading) : Type 0 where
  pub session : r.session ≡ kept
  pub rest : r.rest ≡ drop n text
  pub lines : r.lines ≡ []
  pub turns : r.turns ≡ n
  pub asks : r.asks ≡ asking
  pub few : length left ≤ length r.output
  pub output : drop (length r.output - length left) r.output ≡ left
  pub within : n ≤ length text

-- what a machine keeps true
abbrev pub IsStanding : ℕ → List ℕ → List Line → ℕ → ℕ → Bool → List ℕ → Type 0
IsStanding start text lines kept n asking left = IsAt text kept n asking left (read n (opened start text lines))
