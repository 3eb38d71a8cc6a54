-- Answers of a reader of notebooks, seen as answers of the server.
use Rattle.std.proofs.Common.{◌≡◌, ◌≤◌, Result, Ok, Err, IfOk, ap, sym, subst}
use Rattle.serde_json.specs.Data.{Data, depth}
use Rattle.serde_json.specs.Read.{max_depth}
use Rattle.nb_doc.specs.declared.fault.NbFault.{NbFault}
use Rattle.nb_doc.specs.declared.fault.NbBad.{NbBad}
use Rattle.nb_doc.specs.declared.fault.NbBad.TheVariants as bad
use Rattle.nb_doc.specs.declared.notebook.Notebook.{Notebook}
use Rattle.nb_doc.specs.Steps.{Answers}
use Rattle.nb_doc.specs.Reading as reading
use Rattle.nb_doc.proofs.Shallow.{IsShallow}
use Rattle.js_tables.specs.declared.refusal.Refusal.{Refusal}
use Rattle.js_tables.specs.Plans.{Gives}
use Rattle.js_contents.specs.Notebooks.{or_unreadable, read_answer, notebook_of}

pub gives_answer : (answer : Result Notebook NbBad) (form : Result Notebook NbFault) → Answers answer form → Gives (read_answer answer) (or_unreadable form)
gives_answer (Ok n) form h = ap or_unreadable h
gives_answer (Err (bad.Fault f)) form h = ap or_unreadable h
gives_answer (Err bad.Memory) form h = tt

-- ---- of a JSON value

pub notebook_gives : (r : Result Notebook NbBad) (found : Result Notebook Refusal) (e d : Data) → found ≡ read_answer r → e ≡ d → Answers r (reading.notebook_of e) → Gives found (notebook_of d)
notebook_gives r found e d is same h =
    subst (λ (x : Result Notebook Refusal). Gives x (notebook_of d)) (sym is)
    (subst (λ (y : Data). Gives (read_answer r) (or_unreadable (reading.notebook_of y))) same (gives_answer r (reading.notebook_of e) h))

answer_shallow : (r : Result Notebook NbBad) → IfOk r IsShallow → IfOk (read_answer r) IsShallow
answer_shallow (Ok n) h = h
answer_shallow (Err (bad.Fault f)) h = tt
answer_shallow (Err bad.Memory) h = tt

pub notebook_shallow : (r : Result Notebook NbBad) (found : Result Notebook Refusal) (e d : Data) → found ≡ read_answer r → e ≡ d → depth d ≤ max_depth
    → (depth e ≤ max_depth → IfOk r IsShallow) → IfOk found IsShallow
notebook_shallow r found e d is same low h =
    subst (λ (x : Result Notebook Refusal). IfOk x IsShallow) (sym is) (answer_shallow r (h (subst (λ y. depth y ≤ max_depth) (sym same) low)))
