use Rattle.std.proofs.Common.{◌≤◌, codes, arith}
use Rattle.serde_json.specs.Data.{depth}
use Rattle.serde_json.specs.Read.{max_depth}
use Rattle.nb_doc.proofs.Shallow.{get_depth}
use Rattle.nb_read.specs.Lent.{data_view}
use Rattle.nb_read.proofs.puts.book_put.Goals as goal

pub returns-clause-put : goal.returns-clause-put
returns-clause-put c = record {
  kind = c.requires.kind;
  content = data_view c.in_ok-content.content.now;
  has_content = c.in_ok-content.ensures;
  notebook = c.in_ok-notebook.ensures.found;
  date_is = c.in_ok-last_modified.ensures;
}

pub returns-clause-shallow : goal.returns-clause-shallow
returns-clause-shallow c =
    let within = data_view c.in_ok-content.content.now in
    let low : depth within ≤ max_depth = omega (arith, get_depth (codes "content") (data_view c.args.value.now) within c.in_ok-content.ensures, c.requires.low) in
    c.in_ok-notebook.ensures.shallow low
