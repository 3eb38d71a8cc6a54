use Rattle.std.proofs.Common.{[], ◌∷◌, refl, arith}
use Rattle.ob_scan.specs.Spelling.{symbol_of}
use Rattle.ob_scan.specs.declared.token.Symbol.TheVariants as s
use Rattle.ob_scan.proofs.Beginnings.{all, moved, small}
use Rattle.ob_scan.proofs.spelling.beginning.Goals as goal

pub returns-in-97-to-122 : goal.returns-in-97-to-122
returns-in-97-to-122 c = small c.args.first (omega arith) (omega arith)

pub returns-in-65 : goal.returns-in-65
unfolding symbol_of
returns-in-65 c = moved (s.Array ∷ []) c.args.first 65 c.in-65.is (λ rest. refl)

pub returns-in-66 : goal.returns-in-66
unfolding symbol_of
returns-in-66 c = moved (s.Begin ∷ s.By ∷ []) c.args.first 66 c.in-66.is (λ rest. refl)

pub returns-in-67 : goal.returns-in-67
unfolding symbol_of
returns-in-67 c = moved (s.Case ∷ s.Const ∷ []) c.args.first 67 c.in-67.is (λ rest. refl)

pub returns-in-68 : goal.returns-in-68
unfolding symbol_of
returns-in-68 c = moved (s.Div ∷ s.Do ∷ []) c.args.first 68 c.in-68.is (λ rest. refl)

pub returns-in-69 : goal.returns-in-69
unfolding symbol_of
returns-in-69 c = moved (s.Else ∷ s.Elsif ∷ s.End ∷ []) c.args.first 69 c.in-69.is (λ rest. refl)

pub returns-in-70 : goal.returns-in-70
unfolding symbol_of
returns-in-70 c = moved (s.False ∷ s.For ∷ []) c.args.first 70 c.in-70.is (λ rest. refl)

pub returns-in-73 : goal.returns-in-73
unfolding symbol_of
returns-in-73 c = moved (s.If ∷ s.Import ∷ s.In ∷ s.Is ∷ []) c.args.first 73 c.in-73.is (λ rest. refl)

pub returns-in-77 : goal.returns-in-77
unfolding symbol_of
returns-in-77 c = moved (s.Mod ∷ s.Module ∷ []) c.args.first 77 c.in-77.is (λ rest. refl)

pub returns-in-78 : goal.returns-in-78
unfolding symbol_of
returns-in-78 c = moved (s.Nil ∷ []) c.args.first 78 c.in-78.is (λ rest. refl)

pub returns-in-79 : goal.returns-in-79
unfolding symbol_of
returns-in-79 c = moved (s.Of ∷ s.Or ∷ []) c.args.first 79 c.in-79.is (λ rest. refl)

pub returns-in-80 : goal.returns-in-80
unfolding symbol_of
returns-in-80 c = moved (s.Pointer ∷ s.Procedure ∷ []) c.args.first 80 c.in-80.is (λ rest. refl)

pub returns-in-82 : goal.returns-in-82
unfolding symbol_of
returns-in-82 c = moved (s.Record ∷ s.Repeat ∷ s.Return ∷ []) c.args.first 82 c.in-82.is (λ rest. refl)

pub returns-in-84 : goal.returns-in-84
unfolding symbol_of
returns-in-84 c = moved (s.Then ∷ s.To ∷ s.True ∷ s.Type ∷ []) c.args.first 84 c.in-84.is (λ rest. refl)

pub returns-in-85 : goal.returns-in-85
unfolding symbol_of
returns-in-85 c = moved (s.Until ∷ []) c.args.first 85 c.in-85.is (λ rest. refl)

pub returns-in-86 : goal.returns-in-86
unfolding symbol_of
returns-in-86 c = moved (s.Var ∷ []) c.args.first 86 c.in-86.is (λ rest. refl)

pub returns-in-87 : goal.returns-in-87
unfolding symbol_of
returns-in-87 c = moved (s.While ∷ []) c.args.first 87 c.in-87.is (λ rest. refl)

pub returns-in-43 : goal.returns-in-43
unfolding symbol_of
returns-in-43 c = moved (s.Plus ∷ []) c.args.first 43 c.in-43.is (λ rest. refl)

pub returns-in-45 : goal.returns-in-45
unfolding symbol_of
returns-in-45 c = moved (s.Minus ∷ []) c.args.first 45 c.in-45.is (λ rest. refl)

pub returns-in-42 : goal.returns-in-42
unfolding symbol_of
returns-in-42 c = moved (s.Times ∷ []) c.args.first 42 c.in-42.is (λ rest. refl)

pub returns-in-47 : goal.returns-in-47
unfolding symbol_of
returns-in-47 c = moved (s.Slash ∷ []) c.args.first 47 c.in-47.is (λ rest. refl)

pub returns-in-126 : goal.returns-in-126
unfolding symbol_of
returns-in-126 c = moved (s.Not ∷ []) c.args.first 126 c.in-126.is (λ rest. refl)

pub returns-in-38 : goal.returns-in-38
unfolding symbol_of
returns-in-38 c = moved (s.And ∷ []) c.args.first 38 c.in-38.is (λ rest. refl)

pub returns-in-46 : goal.returns-in-46
unfolding symbol_of
returns-in-46 c = moved (s.Period ∷ s.DotDot ∷ []) c.args.first 46 c.in-46.is (λ rest. refl)

pub returns-in-44 : goal.returns-in-44
unfolding symbol_of
returns-in-44 c = moved (s.Comma ∷ []) c.args.first 44 c.in-44.is (λ rest. refl)

pub returns-in-59 : goal.returns-in-59
unfolding symbol_of
returns-in-59 c = moved (s.Semicolon ∷ []) c.args.first 59 c.in-59.is (λ rest. refl)

pub returns-in-124 : goal.returns-in-124
unfolding symbol_of
returns-in-124 c = moved (s.Bar ∷ []) c.args.first 124 c.in-124.is (λ rest. refl)

pub returns-in-40 : goal.returns-in-40
unfolding symbol_of
returns-in-40 c = moved (s.LeftParen ∷ []) c.args.first 40 c.in-40.is (λ rest. refl)

pub returns-in-41 : goal.returns-in-41
unfolding symbol_of
returns-in-41 c = moved (s.RightParen ∷ []) c.args.first 41 c.in-41.is (λ rest. refl)

pub returns-in-91 : goal.returns-in-91
unfolding symbol_of
returns-in-91 c = moved (s.LeftBracket ∷ []) c.args.first 91 c.in-91.is (λ rest. refl)

pub returns-in-93 : goal.returns-in-93
unfolding symbol_of
returns-in-93 c = moved (s.RightBracket ∷ []) c.args.first 93 c.in-93.is (λ rest. refl)

pub returns-in-123 : goal.returns-in-123
unfolding symbol_of
returns-in-123 c = moved (s.LeftBrace ∷ []) c.args.first 123 c.in-123.is (λ rest. refl)

pub returns-in-125 : goal.returns-in-125
unfolding symbol_of
returns-in-125 c = moved (s.RightBrace ∷ []) c.args.first 125 c.in-125.is (λ rest. refl)

pub returns-in-58 : goal.returns-in-58
unfolding symbol_of
returns-in-58 c = moved (s.Becomes ∷ s.Colon ∷ []) c.args.first 58 c.in-58.is (λ rest. refl)

pub returns-in-94 : goal.returns-in-94
unfolding symbol_of
returns-in-94 c = moved (s.Arrow ∷ []) c.args.first 94 c.in-94.is (λ rest. refl)

pub returns-in-61 : goal.returns-in-61
unfolding symbol_of
returns-in-61 c = moved (s.Equal ∷ []) c.args.first 61 c.in-61.is (λ rest. refl)

pub returns-in-35 : goal.returns-in-35
unfolding symbol_of
returns-in-35 c = moved (s.NotEqual ∷ []) c.args.first 35 c.in-35.is (λ rest. refl)

pub returns-in-60 : goal.returns-in-60
unfolding symbol_of
returns-in-60 c = moved (s.Less ∷ s.LessEqual ∷ []) c.args.first 60 c.in-60.is (λ rest. refl)

pub returns-in-62 : goal.returns-in-62
unfolding symbol_of
returns-in-62 c = moved (s.Greater ∷ s.GreaterEqual ∷ []) c.args.first 62 c.in-62.is (λ rest. refl)

pub returns-in_default : goal.returns-in_default
returns-in_default c = all c.args.first
