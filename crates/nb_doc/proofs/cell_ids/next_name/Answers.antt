use Rattle.std.proofs.Common.{◌≡◌, ◌+◌, ◌&&◌, not, false, true, sym, ap, ◌∙◌, arith}
use Rattle.std.specs.Str.{bytes_eq}
use Rattle.nb_doc.specs.Ids.{is_among, name_of}
use Rattle.nb_doc.proofs.Free.{passes, is_least, gives}
use Rattle.nb_doc.proofs.cell_ids.next_name.Goals as goal

pub returns-then-not-remove-clause-id : goal.returns-then-not-remove-clause-id
returns-then-not-remove-clause-id c =
    λ taken h.
    let named : c.as_str.result.now ≡ name_of (c.loop-taken.last + 1) = c.as_str.ensures ∙ c.in_ok-name.ensures in
    let free : is_among c.loop-taken.taken (name_of (c.loop-taken.last + 1)) ≡ false = ap (is_among c.loop-taken.taken) (sym named) ∙ sym c.remove.ensures.found ∙ c.if-not-remove.true in
    c.in_ok-name.ensures ∙ is_least taken c.loop-taken.taken c.loop-taken.last (c.loop-taken.invariant.names taken h) (omega (arith, c.loop-taken.invariant.sum)) free

pub returns-then-not-remove-clause-namer : goal.returns-then-not-remove-clause-namer
returns-then-not-remove-clause-namer c =
    λ taken h.
    let named : c.as_str.result.now ≡ name_of (c.loop-taken.last + 1) = c.as_str.ensures ∙ c.in_ok-name.ensures in
    let free : is_among c.loop-taken.taken (name_of (c.loop-taken.last + 1)) ≡ false = ap (is_among c.loop-taken.taken) (sym named) ∙ sym c.remove.ensures.found ∙ c.if-not-remove.true in
    gives taken c.loop-taken.taken c.remove.new.self c.loop-taken.last (c.loop-taken.invariant.names taken h) (omega (arith, c.loop-taken.invariant.sum)) free
    (λ id. c.remove.ensures.members id ∙ ap (λ b. not (bytes_eq id b) && is_among c.loop-taken.taken id) named) (omega (arith, c.if-not-remove.ensures.len))

pub loop-taken-preserved : goal.loop-taken-preserved
loop-taken-preserved c =
    let named : c.as_str.result.now ≡ name_of (c.loop-taken.last + 1) = c.as_str.ensures ∙ c.in_ok-name.ensures in
    let found : is_among c.loop-taken.taken (name_of (c.loop-taken.last + 1)) ≡ true = ap (is_among c.loop-taken.taken) (sym named) ∙ sym c.remove.ensures.found ∙ c.if-not-remove.false in
    record {
      sum = omega (arith, c.loop-taken.invariant.sum, c.if-not-remove.ensures.len);
      names = λ taken h. passes taken c.loop-taken.taken c.remove.new.self c.loop-taken.last (c.loop-taken.invariant.names taken h) (omega (arith, c.loop-taken.invariant.sum)) found
          (λ id. c.remove.ensures.members id ∙ ap (λ b. not (bytes_eq id b) && is_among c.loop-taken.taken id) named) (omega (arith, c.if-not-remove.ensures.len));
    }
