use Rattle.std.proofs.Common.{◌≡◌, ◌++◌, drop}
use Rattle.nb_doc.specs.Writing.{output_form}
use Rattle.nb_text.proofs.Steps.{each_tokens}
use Rattle.nb_text.proofs.outputs.write_outputs.Given as goal

abbrev pub invariant-loop-output : goal.invariant-loop-output
invariant-loop-output g l = (g.W.Tokens.written l.out) ++ each_tokens output_form (drop l.output-index l.outputs) ≡ (g.W.Tokens.written l.initial.out) ++ each_tokens output_form l.outputs
