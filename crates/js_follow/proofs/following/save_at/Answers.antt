use Rattle.std.proofs.Common.{rules, ◌≡◌, ◌<◌, ℕ, length, List, refl, sym, ap, ap₂, inl, inr, ◌∙◌, slice_get, Some, subst}
use Rattle.js_tables.specs.declared.tables.Recording.{Recording}
use Rattle.js_tables.specs.Tables.{rows, set_date}
use Rattle.js_follow.specs.Following as spec
use Rattle.js_follow.proofs.Places.{same_there}
use Rattle.js_follow.proofs.DatedRows.{dated_where_saved, undated_where_refused, tried_where_saved}
use Rattle.js_follow.proofs.following.save_at.Goals as goal

pub returns-in_default : goal.returns-in_default
returns-in_default g c = λ x h. inl (refl, c.make_room.ensures.same, (refl, refl))

pub returns-in_default-copy : goal.returns-in_default-copy
returns-in_default-copy g c = λ x h. inl (refl, c.make_room.ensures.same, (refl, refl))

pub returns-then-is_ok : goal.returns-then-is_ok
returns-then-is_ok g c = λ x h.
    let z = c.look_and_save-outcome.new.recording in
    let result = c.look_and_save-outcome.result in
    let same = c.make_room.ensures.same in
    let recs : c.make_room.new.self.recordings.items ≡ c.args.tables.now.recordings.items = ap (λ r. r.recordings) same in
    let kernels : c.make_room.new.self.kernels.items ≡ c.args.tables.now.kernels.items = ap (λ r. r.kernels) same in
    let there : slice_get c.make_room.new.self.recordings.items c.args.place ≡ Some x = ap (λ l. slice_get l c.args.place) recs ∙ h in
    let short = subst (λ (l : List Recording). c.args.place < length l) (sym recs) c.requires in
    let item = same_there c.make_room.new.self.recordings.items c.args.place x c.index_mut.result.now short c.index_mut.ensures.value there in
    let seen = same_there c.make_room.new.self.recordings.items c.args.place x c.index.result.now short c.index.ensures there in
    let first : c.in-Ok.path ≡ spec.path_of c.make_room.new.self.kernels.items c.index.result.now = search rules in
    let path = first ∙ ap₂ (λ k y. spec.path_of k y) kernels seen in
    let second : c.in-Ok.file ≡ spec.path_of c.make_room.new.self.kernels.items c.index.result.now = search rules in
    let file = second ∙ ap₂ (λ k y. spec.path_of k y) kernels seen in
    let after = spec.with_recording c.args.place z (rows c.args.tables.now) in
    let looks = subst (λ (p : List ℕ). spec.LooksAndSaves (g.S.Shelf.contents c.args.shelf.now) (g.S.Shelf.contents c.look_and_save-outcome.new.shelf) (g.S.Shelf.faults c.args.shelf.now) (g.S.Shelf.faults c.look_and_save-outcome.new.shelf) p c.args.date.now result x z) path
    (subst (λ (y : Recording). spec.LooksAndSaves (g.S.Shelf.contents c.args.shelf.now) (g.S.Shelf.contents c.look_and_save-outcome.new.shelf) (g.S.Shelf.faults c.args.shelf.now) (g.S.Shelf.faults c.look_and_save-outcome.new.shelf) c.in-Ok.path c.args.date.now result y z) item c.look_and_save-outcome.ensures) in
    inr (
      result,
      z,
      looks,
      c.update.ensures ∙ (ap (λ r. set_date c.in-Ok.file c.in-Ok-copy.saved (spec.with_recording c.args.place z r)) same
          ∙ (ap₂ (λ p d. set_date p d after) file c.in-Ok-copy.ensures ∙ sym (dated_where_saved result _ _ after (sym c.is_ok.ensures.value ∙ c.if-is_ok.true)))),
      tried_where_saved result (sym c.is_ok.ensures.value ∙ c.if-is_ok.true),
    )

pub returns : goal.returns
returns g c = λ x h.
    let z = c.look_and_save-outcome.new.recording in
    let result = c.look_and_save-outcome.result in
    let same = c.make_room.ensures.same in
    let recs : c.make_room.new.self.recordings.items ≡ c.args.tables.now.recordings.items = ap (λ r. r.recordings) same in
    let kernels : c.make_room.new.self.kernels.items ≡ c.args.tables.now.kernels.items = ap (λ r. r.kernels) same in
    let there : slice_get c.make_room.new.self.recordings.items c.args.place ≡ Some x = ap (λ l. slice_get l c.args.place) recs ∙ h in
    let short = subst (λ (l : List Recording). c.args.place < length l) (sym recs) c.requires in
    let item = same_there c.make_room.new.self.recordings.items c.args.place x c.index_mut.result.now short c.index_mut.ensures.value there in
    let seen = same_there c.make_room.new.self.recordings.items c.args.place x c.index.result.now short c.index.ensures there in
    let first : c.in-Ok.path ≡ spec.path_of c.make_room.new.self.kernels.items c.index.result.now = search rules in
    let path = first ∙ ap₂ (λ k y. spec.path_of k y) kernels seen in
    let after = spec.with_recording c.args.place z (rows c.args.tables.now) in
    let looks = subst (λ (p : List ℕ). spec.LooksAndSaves (g.S.Shelf.contents c.args.shelf.now) (g.S.Shelf.contents c.look_and_save-outcome.new.shelf) (g.S.Shelf.faults c.args.shelf.now) (g.S.Shelf.faults c.look_and_save-outcome.new.shelf) p c.args.date.now result x z) path
    (subst (λ (y : Recording). spec.LooksAndSaves (g.S.Shelf.contents c.args.shelf.now) (g.S.Shelf.contents c.look_and_save-outcome.new.shelf) (g.S.Shelf.faults c.args.shelf.now) (g.S.Shelf.faults c.look_and_save-outcome.new.shelf) c.in-Ok.path c.args.date.now result y z) item c.look_and_save-outcome.ensures) in
    inr (
      result,
      z,
      looks,
      ap (λ r. spec.with_recording c.args.place z r) c.make_room.ensures.same ∙ sym (undated_where_refused result _ _ after (sym c.is_ok.ensures.value ∙ c.if-is_ok.false)),
      c.was_tried.ensures,
    )
