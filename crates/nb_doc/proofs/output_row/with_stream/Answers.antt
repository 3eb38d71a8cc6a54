use Rattle.std.proofs.Common.{◌≡◌, ◌++◌, ◌∷◌, [], true, false, ap, ap₂, sym, ◌∙◌}
use Rattle.std.specs.Str.{bytes_eq}
use Rattle.nb_doc.specs.declared.notebook.Output.TheVariants as output
use Rattle.nb_doc.specs.OutputRow.{forms}
use Rattle.nb_doc.proofs.Joining.{grows, begun_after}
use Rattle.nb_doc.proofs.output_row.with_stream.Goals as goal

pub returns-in_ok-longer-in-Some : goal.returns-in_ok-longer-in-Some
returns-in_ok-longer-in-Some c =
    λ rest.
    let same : bytes_eq c.in-Some.stream.name c.args.name.now ≡ true = ap₂ bytes_eq (sym c.as_str.ensures) (sym c.as_str-in-Some.ensures) ∙ sym c.eq.ensures ∙ c.if-eq.true in
    ap (λ s. c.args.row.written ++ forms (output.Stream s.name s.text ∷ rest)) c.in_ok-longer-in-Some.ensures ∙ grows c.args.row c.in-Some.stream c.args.name.now c.args.text.now rest c.in-Some.is same

pub returns-in_ok-push-in-Some : goal.returns-in_ok-push-in-Some
returns-in_ok-push-in-Some c =
    let other : bytes_eq c.in-Some.stream.name c.args.name.now ≡ false = ap₂ bytes_eq (sym c.as_str.ensures) (sym c.as_str-in-Some.ensures) ∙ sym c.eq.ensures ∙ c.if-eq.false in
    begun_after c.args.row c.in-Some.stream c.args.name.now c.args.text.now c.push.new.self c.in-Some.is other
    (c.in_ok-push-in-Some.ensures.ok ∙ ap (λ d. c.args.row.written ++ d ∷ []) c.in_ok-stream_value-in-Some.ensures.form) c.begun-else-eq.result c.begun-else-eq.ensures.written c.begun-else-eq.ensures.open
