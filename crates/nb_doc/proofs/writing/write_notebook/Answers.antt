use Rattle.std.proofs.Common.{◌∷◌, [], ◌++◌, ap, ◌∙◌}
use Rattle.serde_json.specs.View.{view}
use Rattle.json_form.proofs.Written.{written-whole}
use Rattle.nb_doc.specs.Reading.{json_at, notebook_at}
use Rattle.nb_doc.specs.Writing.{notebook_form, notebook_text}
use Rattle.nb_doc.proofs.Again.{pretty_is, json_back, reads_back}
use Rattle.nb_doc.proofs.writing.write_notebook.Goals as goal

pub returns-clause-text : goal.returns-clause-text
unfolding notebook_text
returns-clause-text c =
    c.in_ok-push.ensures.items
    ∙ ap (λ t. t ++ 10 ∷ [])
    (pretty_is c.in_ok-text.text.items (view c.in_ok-value.value) (notebook_form c.args.notebook.now) c.in_ok-text.ensures.layout c.in_ok-text.ensures.order c.in_ok-value.ensures.whole
    c.in_ok-value.ensures.form)

pub returns-clause-json : goal.returns-clause-json
returns-clause-json c =
    λ deep.
    ap json_at c.in_ok-push.ensures.items
    ∙ json_back c.args.notebook.now c.in_ok-text.text.items (view c.in_ok-value.value) c.in_ok-value.ensures.form c.in_ok-text.ensures.utf8 c.in_ok-text.ensures.reads_back
    (written-whole c.in_ok-text.text.items (view c.in_ok-value.value) c.in_ok-text.ensures.order c.in_ok-value.ensures.whole) deep

pub returns-clause-reads_back : goal.returns-clause-reads_back
returns-clause-reads_back c =
    λ document deep.
    ap notebook_at c.in_ok-push.ensures.items
    ∙ reads_back c.args.notebook.now c.in_ok-text.text.items (view c.in_ok-value.value) c.in_ok-value.ensures.form c.in_ok-text.ensures.utf8 c.in_ok-text.ensures.reads_back
    (written-whole c.in_ok-text.text.items (view c.in_ok-value.value) c.in_ok-text.ensures.order c.in_ok-value.ensures.whole) document deep
