use Rattle.std.proofs.Common.{◌≡◌, ◌-◌, ◌≤◌, drop, length, sym, ap, ◌∙◌, subst}
use Rattle.std.proofs.lemmas.List.{length-drop}
use Rattle.std.specs.Arc.{arc_value}
use Rattle.std.specs.declared.alloc.Global.{Global}
use Rattle.std.specs.declared.vec.Vec.{Vec}
use Rattle.jk_board.specs.declared.posted.Part.{Part}
use Rattle.jk_board.specs.Rows.{flat}
use Rattle.jk_board.proofs.Rows.{flat_rest, flat_within}
use Rattle.jk_board.proofs.posted.Row.without.Goals as goal

pub overflow_sub-count : goal.overflow_sub-count
overflow_sub-count g c =
    subst (λ n. c.before-from.result.1 ≤ n) (sym c.requires.1)
    (flat_within g.T.Holds.entries (arc_value c.args.self.now.parts).items c.before-from.result.0 c.before-from.result.1 c.before-from.ensures.entries)

pub returns-clause-all : goal.returns-clause-all
returns-clause-all g c =
    let entries = g.T.Holds.entries in
    c.in_ok-parts.ensures.same
    ∙ ap (λ (v : Vec (Part _) Global). flat entries (drop c.before-from.result.0 v.items)) c.deref.ensures
    ∙ flat_rest entries (arc_value c.args.self.now.parts).items c.before-from.result.0 c.before-from.result.1 c.before-from.ensures.entries

pub returns-clause-within : goal.returns-clause-within
returns-clause-within g c = (
  flat_within g.T.Holds.entries (arc_value c.args.self.now.parts).items c.before-from.result.0 c.before-from.result.1 c.before-from.ensures.entries,
  c.before-from.ensures.before,
)

pub returns-clause-whole : goal.returns-clause-whole
returns-clause-whole g c =
    let entries = g.T.Holds.entries in
    let ps = (arc_value c.args.self.now.parts).items in
    let all : flat entries (arc_value c.in_ok-parts.parts).items ≡ drop c.before-from.result.1 (flat entries ps) =
    c.in_ok-parts.ensures.same
    ∙ ap (λ (v : Vec (Part _) Global). flat entries (drop c.before-from.result.0 v.items)) c.deref.ensures
    ∙ flat_rest entries ps c.before-from.result.0 c.before-from.result.1 c.before-from.ensures.entries in (
      c.in_ok-parts.ensures.numbered,
      ap (λ n. n - c.before-from.result.1) c.requires.1 ∙ sym (length-drop c.before-from.result.1 (flat entries ps)) ∙ sym (ap length all),
    )
