use Rattle.std.proofs.Common.{◌≡◌, ◌++◌, List, take, ap, subst, ◌∙◌}
use Rattle.jk_log.specs.declared.entry.Entry.{Entry}
use Rattle.js_follow.specs.Following.{HasTold}
use Rattle.js_follow.proofs.Places.{get_there, set_there, cut}
use Rattle.js_follow.proofs.following.follow_at.Goals as goal

pub returns : goal.returns
returns g c =
    let recordings = c.args.tables.now.recordings.items in
    let place = c.args.place in
    let entries = c.args.entries.items in
    let count = c.tell-count.result in
    let x = c.index_mut.result.now in
    let y = c.tell-count.new.recording in (
      take count entries,
      ap (λ (r : List Entry). take count entries ++ r) c.rest_of.ensures ∙ cut count entries,
      (
        x,
        y,
        get_there recordings place x c.requires c.index_mut.ensures.value,
        subst (λ (es : List Entry). HasTold (take count es) x y) c.as_slice.ensures.value c.tell-count.ensures.told,
        c.save_if_due-tried.ensures y (set_there recordings place y c.requires),
      ),
    )
