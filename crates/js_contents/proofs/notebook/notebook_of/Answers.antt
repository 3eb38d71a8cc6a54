use Rattle.serde_json.specs.View.{view}
use Rattle.js_contents.proofs.Books.{notebook_gives, notebook_shallow}
use Rattle.js_contents.proofs.notebook.notebook_of.Goals as goal

pub returns-clause-exact : goal.returns-clause-exact
returns-clause-exact c =
    notebook_gives c.notebook_of_value.result c.read_answer.result (view c.into_value.result) c.args.content c.read_answer.ensures c.into_value.ensures.value
    c.notebook_of_value.ensures.exact

pub returns-clause-shallow : goal.returns-clause-shallow
returns-clause-shallow c =
    notebook_shallow c.notebook_of_value.result c.read_answer.result (view c.into_value.result) c.args.content c.read_answer.ensures c.into_value.ensures.value c.requires
    c.notebook_of_value.ensures.shallow
