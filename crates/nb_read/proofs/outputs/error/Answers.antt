use Rattle.std.proofs.Common.{Some, ap, sym, ◌∙◌}
use Rattle.nb_read.proofs.outputs.error.Goals as goal

pub returns : goal.returns
returns c = record {
  kind = c.requires;
  ename_is = c.in_ok-named.ensures ∙ ap Some (sym c.in_ok-ename.ensures);
  evalue_is = c.in_ok-valued.ensures ∙ ap Some (sym c.in_ok-evalue.ensures);
  traceback_is = c.in_ok-traceback.ensures;
}
