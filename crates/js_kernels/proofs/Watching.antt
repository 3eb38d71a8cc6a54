-- Reads of a watch, one after another.
use Rattle.std.proofs.Common.{◌≡◌, Bool, true, false, List, [], ◌∷◌, ◌++◌, refl, sym, ap, ◌∙◌, append_assoc}
use Rattle.std.specs.Prelude.{◌||◌}
use Rattle.std.proofs.lemmas.List.Folds.{list_any-append}
use Rattle.jk_board.specs.Ends.{read_by}
use Rattle.jk_log.specs.declared.entry.Entry.{Entry}
use Rattle.js_tables.specs.declared.tables.State.{State}
use Rattle.js_kernels.specs.Watching.{ReadsOn, has_end, state_after, state_by, tells_end}
use Rattle.js_kernels.specs.declared.watch.Watch.{Watch}

or_assoc : (a b c : Bool) → ((a || b) || c) ≡ (a || (b || c))
or_assoc true b c = refl
or_assoc false b c = refl

-- the state after some entries and then others
state_on : (state : State) (xs ys : List Entry) → state_after state (xs ++ ys) ≡ state_after (state_after state xs) ys
state_on state [] ys = refl
state_on state (x ∷ xs) ys = state_on (state_by state x.content) xs ys

-- whether an end is among some entries or among others
end_on : (b : Bool) (xs ys : List Entry) → (b || has_end (xs ++ ys)) ≡ ((b || has_end xs) || has_end ys)
end_on b xs ys = ap (λ (c : Bool). b || c) (list_any-append (λ (e : Entry). tells_end e.content) xs ys) ∙ sym (or_assoc b (has_end xs) (has_end ys))

module _ {L S T M : Type 0} where
  -- one read, and then another
  pub reads_more : (old mid new : Watch L S T M) → ReadsOn old mid → ReadsOn mid new → ReadsOn old new
  reads_more old mid new (xs, read, state, ended) (ys, reads, states, ends) = (
    xs ++ ys,
    reads ∙ (ap (λ (es : List Entry). es ++ ys) read ∙ append_assoc (read_by old.follower) xs ys),
    states ∙ (ap (λ (s : State). state_after s ys) state ∙ sym (state_on old.state xs ys)),
    ends ∙ (ap (λ (b : Bool). b || has_end ys) ended ∙ sym (end_on old.ended xs ys)),
  )
