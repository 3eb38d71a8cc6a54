-- The code of lists in trees, and jumps that are written once it is known how far they lead.
use Rattle.std.specs.Prelude.{ℕ, ◌+◌, ◌-◌, pos, List, [], ◌∷◌, ◌++◌, length, slice_set}
use Rattle.ob_mean.specs.declared.expression.TypedExpr.{TypedExpr}
use Rattle.ob_mean.specs.declared.expression.Operation.{Operation}
use Rattle.ob_mean.specs.declared.outcome.TrapKind.TheVariants as trap
use Rattle.ob_mean.specs.declared.statement.Branch.{Branch}
use Rattle.ob_mean.specs.declared.statement.CaseArm.{CaseArm}
use Rattle.ob_mean.specs.WellFormed.{Names}
use Rattle.ob_code.specs.declared.instr.Instr.TheVariants as instr
use Rattle.ob_code.specs.declared.instr.Line.{Line}
use Rattle.ob_gen.specs.Code.{line, and_code, or_code, expr_code, Guarded, labels_code, arm_code, list_code}

-- operators and their second operands
abbrev pub operations_list : Names → ℕ → ℕ → List Operation → List Line
operations_list names h k [] = []
operations_list names h k (o ∷ os) = expr_code names (h + 1) k o.operand ++ (line (h + 2) k (instr.Operate o.operator o.line) ∷ operations_list names h k os)

abbrev pub every_list : Names → ℕ → ℕ → List TypedExpr → List Line
every_list names h k [] = line h k (instr.Push (pos 1)) ∷ []
every_list names h k (e ∷ es) = and_code h k (expr_code names h k e) (every_list names h k es)

abbrev pub either_list : Names → ℕ → ℕ → List TypedExpr → List Line
either_list names h k [] = line h k (instr.Push (pos 0)) ∷ []
either_list names h k (e ∷ es) = or_code h k (expr_code names h k e) (either_list names h k es)

-- ---- pieces of code, after each of which a jump leads to the end of all

abbrev pub leading : {A : Type 0} → ℕ → ℕ → (A → List Line) → List A → List Line → List Line
leading h k f [] last = last
leading h k f (x ∷ xs) last = f x ++ (line h k (instr.Skip (length (leading h k f xs last))) ∷ leading h k f xs last)

-- before it is known where that is
abbrev pub holed : {A : Type 0} → ℕ → ℕ → (A → List Line) → List A → List Line
holed h k f [] = []
holed h k f (x ∷ xs) = f x ++ (line h k (instr.Skip 0) ∷ holed h k f xs)

-- where those jumps are, if the first piece stands here
abbrev pub holes : {A : Type 0} → ℕ → (A → List Line) → List A → List ℕ
holes at f [] = []
holes at f (x ∷ xs) = (at + length (f x)) ∷ holes (at + length (f x) + 1) f xs

-- the jumps of these lines lead to the end
abbrev pub filled : ℕ → ℕ → List Line → List ℕ → List Line
filled h k code [] = code
filled h k code (e ∷ es) = filled h k (slice_set code e (line h k (instr.Skip (length code - e - 1)))) es

-- ---- `&`: the sides before the last constant, and the ends of all, the innermost first

abbrev pub sides : {A : Type 0} → ℕ → ℕ → (A → List Line) → List A → List Line
sides h k f [] = []
sides h k f (x ∷ xs) = f x ++ (line (h + 1) k (instr.SkipIfZero 0) ∷ sides h k f xs)

abbrev pub closed : ℕ → ℕ → List Line → List ℕ → List Line
closed h k code [] = code
closed h k code (e ∷ es) =
    slice_set (closed h k code es) e (line (h + 1) k (instr.SkipIfZero (length (closed h k code es) - e))) ++ (line (h + 1) k (instr.Skip 1) ∷ (line h k (instr.Push (pos 0)) ∷ []))

-- a side of OR, and TRUE where it holds
abbrev pub side : Names → ℕ → ℕ → TypedExpr → List Line
side names h k e = expr_code names h k e ++ (line (h + 1) k (instr.SkipIfZero 2) ∷ (line h k (instr.Push (pos 1)) ∷ []))

-- ---- statements

-- a guard, and the body, which is passed where the guard doesn't hold
abbrev pub branch_piece : Names → Branch → List Line
branch_piece names b =
    expr_code names 0 0 b.guard ++ (line 1 0 (instr.SkipIfZero (length (list_code names b.body) + 1)) ∷ list_code names b.body)

abbrev pub body_piece : Names → Branch → List Line
body_piece names b = list_code names b.body

abbrev pub guarded_list : Names → List Branch → List Guarded
guarded_list names [] = []
guarded_list names (b ∷ bs) = record { guard = expr_code names 0 0 b.guard; body = list_code names b.body } ∷ guarded_list names bs

-- the labels, and the body, which is passed where there is no such label
abbrev pub arm_piece : Names → CaseArm → List Line
arm_piece names a =
    labels_code a.labels ++ (line 1 0 (instr.Skip (length (list_code names a.body) + 2)) ∷ (line 1 0 instr.Drop ∷ list_code names a.body))

abbrev pub arms_list : Names → ℕ → List CaseArm → List Line
arms_list names l [] = line 1 0 (instr.Trap trap.Label l) ∷ []
arms_list names l (a ∷ rest) = arm_code a.labels (list_code names a.body) (arms_list names l rest)

-- where the bodies of a loop begin, if the first begins here
abbrev pub starts : {A : Type 0} → ℕ → (A → List Line) → List A → List ℕ
starts at f [] = []
starts at f (x ∷ xs) = at ∷ starts (at + length (f x) + 1) f xs

-- the guards of bodies that begin there, if the first guard stands here
abbrev pub guards_to : Names → ℕ → List ℕ → List Branch → List Line
guards_to names at ss [] = []
guards_to names at [] (b ∷ bs) = []
guards_to names at (s ∷ ss) (b ∷ bs) =
    expr_code names 0 0 b.guard ++ (line 1 0 (instr.EnterBack (at + length (expr_code names 0 0 b.guard) - s)) ∷ guards_to names (at + length (expr_code names 0 0 b.guard) + 1) ss bs)
