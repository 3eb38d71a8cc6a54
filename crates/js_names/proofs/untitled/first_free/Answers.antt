use Rattle.std.proofs.Common.{◌≡◌, ◌+◌, true, false, length, arith, sym, ap, ◌∙◌}
use Rattle.js_names.specs.Untitled.{name_at, is_taken, first_free}
use Rattle.js_names.proofs.Free.{stops, goes_on}
use Rattle.js_names.proofs.untitled.first_free.Goals as goal

pub returns-then-not-contains : goal.returns-then-not-contains
returns-then-not-contains c =
    let name_of = name_at c.args.kind c.args.ending.now in
    let taken = is_taken c.args.folder.now c.args.names.now c.args.kernels.now in
    let last = length c.args.names.now + length c.args.kernels.now in
    let first = first_free c.args.kind c.args.ending.now c.args.folder.now c.args.names.now c.args.kernels.now in
    let told : c.contains.result ≡ taken (name_of c.loop-number.number) =
    c.contains.ensures ∙ c.in_ok-taken.ensures c.as_str.result.now ∙ ap taken (c.as_str.ensures ∙ c.in_ok-name.ensures) in
    let free : c.contains.result ≡ false = grind (arith, c.if-not-contains.true) in
    c.in_ok-name.ensures ∙ stops name_of taken c.loop-number.number last first c.loop-number-test.true (sym told ∙ free) c.loop-number.invariant

pub loop-number-preserved : goal.loop-number-preserved
loop-number-preserved c =
    let name_of = name_at c.args.kind c.args.ending.now in
    let taken = is_taken c.args.folder.now c.args.names.now c.args.kernels.now in
    let last = length c.args.names.now + length c.args.kernels.now in
    let first = first_free c.args.kind c.args.ending.now c.args.folder.now c.args.names.now c.args.kernels.now in
    let told : c.contains.result ≡ taken (name_of c.loop-number.number) =
    c.contains.ensures ∙ c.in_ok-taken.ensures c.as_str.result.now ∙ ap taken (c.as_str.ensures ∙ c.in_ok-name.ensures) in
    let full : c.contains.result ≡ true = grind (arith, c.if-not-contains.false) in
    goes_on name_of taken c.loop-number.number last first c.loop-number-test.true (sym told ∙ full) c.loop-number.invariant
