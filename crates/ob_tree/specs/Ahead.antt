-- To be believed.
-- A name in parentheses is a selector exactly where a sign that goes on with it stands behind it.
use Rattle.std.specs.Prelude.{◌≡◌, Bool, true, false, List, [], ◌∷◌}
use Rattle.ob_scan.specs.declared.token.Kind.{Kind}
use Rattle.ob_scan.specs.declared.token.Kind.TheVariants as kinds
use Rattle.ob_scan.specs.declared.token.Symbol.TheVariants as s
use Rattle.ob_scan.specs.declared.token.Token.{Token}
use Rattle.ob_tree.specs.Phrase.{Phrase}

-- `.` `[` `(` `:=`
abbrev pub goes_on : Kind → Bool
goes_on (kinds.Symbol s.Period) = true
goes_on (kinds.Symbol s.LeftBracket) = true
goes_on (kinds.Symbol s.LeftParen) = true
goes_on (kinds.Symbol s.Becomes) = true
goes_on _ = false

abbrev pub goes_on_at : List Token → Bool
goes_on_at [] = false
goes_on_at (t ∷ ts) = goes_on t.kind

-- after the second name of two
abbrev pub closed : Kind → List Token → Bool
closed (kinds.Symbol s.RightParen) ts = goes_on_at ts
closed _ ts = false

abbrev pub closed_at : List Token → Bool
closed_at [] = false
closed_at (t ∷ ts) = closed t.kind ts

-- after a period
abbrev pub second : Kind → List Token → Bool
second (kinds.Ident name) ts = closed_at ts
second _ ts = false

abbrev pub second_at : List Token → Bool
second_at [] = false
second_at (t ∷ ts) = second t.kind ts

-- after the first name
abbrev pub named : Kind → List Token → Bool
named (kinds.Symbol s.Period) ts = second_at ts
named (kinds.Symbol s.RightParen) ts = goes_on_at ts
named _ ts = false

abbrev pub named_at : List Token → Bool
named_at [] = false
named_at (t ∷ ts) = named t.kind ts

-- after the parenthesis
abbrev pub first : Kind → List Token → Bool
first (kinds.Ident name) ts = named_at ts
first _ ts = false

abbrev pub first_at : List Token → Bool
first_at [] = false
first_at (t ∷ ts) = first t.kind ts

abbrev pub opened : Kind → List Token → Bool
opened (kinds.Symbol s.LeftParen) ts = first_at ts
opened _ ts = false

-- whether a selector of this kind begins here
abbrev pub at_guard : List Token → Bool
at_guard [] = false
at_guard (t ∷ ts) = opened t.kind ts

-- no token, where one begins or doesn't
abbrev pub ahead : Bool → Phrase
ahead b tokens rest = (at_guard tokens ≡ b) × (tokens ≡ rest)
