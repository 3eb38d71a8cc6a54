-- What was run is what is saved.
use Rattle.std.proofs.Common.{◌≡◌, List, [], ◌∷◌, ◌++◌, Bool, refl, sym, ◌∙◌, ap, subst, append-nil}
use Rattle.jk_language.specs.Spoken.{Spoken}
use Rattle.jk_log.specs.declared.arrival.Arrival.{Arrival}
use Rattle.jk_log.specs.declared.entry.Entry.{Entry}
use Rattle.jk_log.specs.Log.{takes}
use Rattle.jk_log.specs.Legal.{IsLegal}
use Rattle.jk_log.specs.Pending.{joined}
use Rattle.jk_log.specs.Render.{render}
use Rattle.jk_core.specs.State.{KernelState, fresh}
use Rattle.nb_doc.specs.declared.notebook.Notebook.{Notebook}
use Rattle.nb_record.specs.declared.pages.Pages.{Pages}
use Rattle.nb_record.specs.Book.{Item, Shown, book}
use Rattle.nb_record.specs.State.{AreTold, StandsAt}
use Rattle.nb_run.specs.declared.cells.Code.{Code}
use Rattle.nb_run.specs.Going.{PlayerState, IsShownBy, Goes, IsQuiet}
use Rattle.nb_run.specs.Runs.{AreRun, IsRun, code_cells, told_items}

told_stands : (es : List Entry) (old new : Pages) (base : Notebook) (items : List Item) → AreTold es old new → StandsAt old base items → StandsAt new base (told_items es items)
told_stands [] old new base items told h = subst (λ (p : Pages). StandsAt p base items) (sym told) h
told_stands (e ∷ es) old new base items (mid, one, rest) h = told_stands es mid new base (Shown e ∷ items) rest (one base items h)

module _ {S T : Type 0} (spoken : Spoken S T) where
  pub is_run : (all ok : Bool) (base : Notebook) (codes : List Code) (first last : PlayerState T) (sent : List Arrival) (told : List Entry)
      → first.kernel ≡ fresh → StandsAt first.recorder.pages base [] → codes ≡ code_cells base.cells
      → Goes first last sent told → AreRun all codes sent told ok → IsQuiet last.kernel → IsLegal spoken last.kernel.log
      → IsRun spoken all base ok last.recorder.pages.notebook
  is_run all ok base codes first last sent told new stands is goes run quiet legal =
      let opening : IsShownBy [] first.kernel = subst (IsShownBy []) (sym new) refl in
      let shown : told ≡ render last.kernel.log =
      sym (append-nil told) ∙ ap (λ (ps : List (List Entry)). told ++ joined ps) (sym quiet.none) ∙ goes.shown [] opening in
      let taken : sent ≡ takes last.kernel.log =
      sym (goes.taken ∙ ap (λ (k : KernelState T). takes k.log ++ sent) new) in
      let told_all = told_stands told first.recorder.pages last.recorder.pages base [] goes.pages stands in
      record {
        log = last.kernel.log;
        legal = legal;
        rests = quiet.rests;
        cells = subst (λ (l : List Entry). AreRun all (code_cells base.cells) (takes last.kernel.log) l ok) shown
            (subst (λ (l : List Arrival). AreRun all (code_cells base.cells) l told ok) taken
            (subst (λ (l : List Code). AreRun all l sent told ok) is run));
        book = told_all.notebook ∙ ap (λ (l : List Entry). book base (told_items l [])) shown;
      }
