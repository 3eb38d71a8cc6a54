use Rattle.std.proofs.Common.{sym, subst}
use Rattle.ob_mean.specs.Input.{finds}
use Rattle.ob_reference_store.specs.Reads.{Finds}
use Rattle.ob_reference_store.proofs.input.find.Goals as goal

pub returns-in-Char : goal.returns-in-Char
returns-in-Char c = λ now e. subst (λ r. Finds (finds r now) c.find_char.result c.args.state.now c.find_char.new.state) (sym c.in-Char.is) (c.find_char.ensures now)

pub returns-in-Int : goal.returns-in-Int
returns-in-Int c = λ now e. subst (λ r. Finds (finds r now) c.find_int.result c.args.state.now c.find_int.new.state) (sym c.in-Int.is) (c.find_int.ensures now)
