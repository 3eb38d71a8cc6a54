-- To be believed.
-- The tree of a text, and which codes say that it has none.
use Rattle.std.specs.Prelude.{◌≡◌, ◌⊎◌, ℕ, List, Result, Ok, Err}
use Rattle.ob_base.specs.declared.fault.Code.{Code}
use Rattle.ob_base.specs.declared.fault.Refused.{Refused}
use Rattle.ob_base.specs.declared.fault.Refused.TheVariants as refused
use Rattle.ob_scan.specs.declared.token.Token.{Token}
use Rattle.ob_scan.specs.Exactly.{IsScanCode}
use Rattle.ob_scan.specs.Tokens.{Tokens}
use Rattle.ob_tree.specs.declared.tree.Cell.{Cell}
use Rattle.ob_parse.specs.Grammar.{Derives}
use Rattle.ob_parse_expression.specs.Reading.{IsParseCode}

-- the tree of a text is that of its tokens
abbrev pub IsCellOf : List ℕ → Cell → Type 0
IsCellOf text c = (tokens : List Token) × Tokens text tokens × Derives tokens c

-- what a text breaks, by its code: 1 to 4 where it has no tokens, 5 to 7 where it has tokens without a tree
abbrev pub Breaks : List ℕ → Code → Type 0
Breaks text code = (IsScanCode code × ((tokens : List Token) → Tokens text tokens → ⊥))
    ⊎ (IsParseCode code × ((tokens : List Token) × Tokens text tokens × ((c : Cell) → Derives tokens c → ⊥)))

-- a fault says what the text breaks
abbrev pub FaultsBreak : List ℕ → Result Cell Refused → Type 0
FaultsBreak text (Ok c) = Unit {0}
FaultsBreak text (Err refused.Memory) = Unit {0}
FaultsBreak text (Err (refused.Fault f)) = Breaks text f.code

-- the same refusal, at another place perhaps
abbrev pub SameCode : Refused → Refused → Type 0
SameCode refused.Memory refused.Memory = Unit {0}
SameCode (refused.Fault f) (refused.Fault g) = g.code ≡ f.code
SameCode _ _ = ⊥
