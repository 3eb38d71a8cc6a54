use Rattle.std.proofs.Common.{◌∷◌, [], ◌++◌, ap, ◌∙◌, arith}
use Rattle.std.proofs.lemmas.List.{length-append}
use Rattle.std.specs.Vec.Iter.{into_iter_items}
use Rattle.nb_doc.specs.Ids.{raised, taken_after}
use Rattle.nb_doc.proofs.Free.{raised_step}
use Rattle.nb_doc.proofs.cell_ids.raise_cells.Goals as goal

pub loop-draft-preserved : goal.loop-draft-preserved
loop-draft-preserved c =
    let now = c.loop-draft.invariant in
    record {
      taken = taken_after now.taken c.in-Some.draft.id;
      names = c.in_ok-now.ensures.namer now.taken now.names;
      bound = omega (arith, now.bound, c.in_ok-now.ensures.bound, length-append c.loop-draft.yielded (c.in-Some.draft ∷ []));
      cells =
          ap (λ cells. cells ++ raised (taken_after now.taken c.in-Some.draft.id) (into_iter_items c.next.new.self)) c.in_ok-push.ensures.items
          ∙ raised_step c.loop-draft.cells.items _ c.in_ok-now.cell now.taken c.in-Some.draft (into_iter_items c.loop-draft.draft-iterator) (into_iter_items c.next.new.self) (c.in_ok-now.ensures.cell now.taken now.names) c.in-Some.ensures.steps.0 now.cells;
    }
