use Rattle.std.proofs.Common.{sym, ◌∙◌}
use Rattle.json.specs.Value.{value_view}
use Rattle.serde_json.proofs.Nesting.{depth-read}
use Rattle.nb_read.specs.Lent.{data_view}
use Rattle.nb_read.proofs.Lent.{read_is, text_is_whole}
use Rattle.nb_read.proofs.reading.read_value.Goals as goal

pub returns-then-is_whole-clause-reads : goal.returns-then-is_whole-clause-reads
returns-then-is_whole-clause-reads c = read_is c.args.text.now (value_view c.in_ok-value.value) c.in_ok-value.ensures (sym c.is_whole.ensures ∙ c.if-is_whole.true)

pub returns-then-is_whole-clause-whole : goal.returns-then-is_whole-clause-whole
returns-then-is_whole-clause-whole c = text_is_whole c.args.text.now (value_view c.in_ok-value.value) c.in_ok-value.ensures (sym c.is_whole.ensures ∙ c.if-is_whole.true)

pub returns-then-is_whole-clause-shallow : goal.returns-then-is_whole-clause-shallow
returns-then-is_whole-clause-shallow c =
    depth-read c.args.text.now (data_view c.in_ok-value.value) (read_is c.args.text.now (value_view c.in_ok-value.value) c.in_ok-value.ensures (sym c.is_whole.ensures ∙ c.if-is_whole.true))
