-- The beginning of a sequence of statements.
use Rattle.std.proofs.Common.{◌≡◌, ℕ, zero, suc, List, Result, Ok, Err, sym, subst}
use Rattle.ob_base.specs.declared.fault.Code.{Code}
use Rattle.ob_base.specs.declared.fault.Code.TheVariants as codes
use Rattle.ob_base.specs.declared.fault.Refused.{Refused}
use Rattle.ob_base.specs.declared.fault.Refused.TheVariants as refused
use Rattle.ob_scan.specs.declared.token.Symbol.TheVariants as s
use Rattle.ob_scan.specs.declared.token.Token.{Token}
use Rattle.ob_tree.specs.declared.tree.Statement.{Statement}
use Rattle.ob_parse_expression.specs.Reading.{Reads, Outcome, opens, separated}
use Rattle.ob_parse.specs.StatementReading.{statement, statements}

abbrev fault : {A : Type 0} → Code → Outcome A
fault c = Err c

abbrev done : ℕ → List Token → Outcome ℕ
done n tokens = Ok (n, tokens)

ok_no_err : (n : ℕ) (tokens : List Token) (c : Code) → done n tokens ≡ fault c → ⊥
ok_no_err n tokens c e = cc

fault_as : (A B : Type 0) (c d : Code) → fault {A = A} c ≡ fault {A = A} d → fault {A = B} c ≡ fault {A = B} d
fault_as A B c d e = let same : c ≡ d = cc in cc

not_opened_by : (r : Refused) (rest after : List Token) (A B : Type 0) → Reads {A = A} (Err codes.Nesting) (Err r) rest → Reads {A = B} (Err codes.Nesting) (Err r) after
not_opened_by refused.Memory rest after A B h = tt
not_opened_by (refused.Fault f) rest after A B h = (fault_as A B codes.Nesting f.code h.0, h.1)

-- where no construct may open, no sequence does
pub not_opened : (levels : ℕ) (tokens rest after : List Token) (r : Refused) → Reads (opens levels tokens) (Err r) rest → Reads (statements levels tokens) (Err r) after
unfolding opens statements
not_opened zero tokens rest after r h = not_opened_by r rest after ℕ (List Statement) h
not_opened (suc n) tokens rest after refused.Memory h = tt
not_opened (suc n) tokens rest after (refused.Fault f) h = absurd (ok_no_err n tokens f.code h.0)

pub opened : (levels n : ℕ) (tokens : List Token) (r : Result (List Statement) Refused) (rest : List Token) → levels ≡ suc n → Reads (separated s.Semicolon (statement n (statements n)) tokens) r rest → Reads (statements levels tokens) r rest
unfolding statements
opened levels n tokens r rest e h = subst (λ k. Reads (statements k tokens) r rest) (sym e) h
