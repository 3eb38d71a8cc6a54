use Rattle.std.proofs.Common.{length, sym, ap, ◌∙◌, arith}
use Rattle.std.proofs.lemmas.List.{length-take-le}
use Rattle.ob_scan.specs.Tokens.{has}
use Rattle.ob_scan.specs.declared.class.Alphabet.TheVariants as alphabets
use Rattle.ob_base.specs.declared.fault.Code.TheVariants as codes
use Rattle.ob_scan.proofs.Runs.{run_at}
use Rattle.ob_scan.proofs.WordTokens.{reserved_found, name_found, word_refused}
use Rattle.ob_scan.proofs.word.word.Goals as goal

pub returns-in-Some : goal.returns-in-Some
returns-in-Some c =
    let is = run_at (has alphabets.Word) c.run_length-length.result c.args.text.now c.front-run.result.now c.behind-rest.result.now c.run_length-length.ensures.run c.front-run.ensures c.behind-rest.ensures in
    reserved_found c.args.text.now c.front-run.result.now c.in-Some.symbol c.behind-rest.result is (sym c.symbol_of.ensures ∙ c.in-Some.is)

pub returns-then-length-gt64 : goal.returns-then-length-gt64
returns-then-length-gt64 c =
    let is = run_at (has alphabets.Word) c.run_length-length.result c.args.text.now c.front-run.result.now c.behind-rest.result.now c.run_length-length.ensures.run c.front-run.ensures c.behind-rest.ensures in
    word_refused c.args.text.now c.front-run.result.now c.behind-rest.result.now codes.Number c.refused.result is (sym c.symbol_of.ensures ∙ c.in_default.is)
    (omega (arith, ap length c.front-run.ensures, length-take-le c.run_length-length.result c.args.text.now c.run_length-length.ensures.within)) c.refused.ensures tt

pub returns : goal.returns
returns c =
    let is = run_at (has alphabets.Word) c.run_length-length.result c.args.text.now c.front-run.result.now c.behind-rest.result.now c.run_length-length.ensures.run c.front-run.ensures c.behind-rest.ensures in
    name_found c.args.text.now c.front-run.result.now c.in_ok-name.name c.behind-rest.result is (sym c.symbol_of.ensures ∙ c.in_default.is)
    (omega (arith, ap length c.front-run.ensures, length-take-le c.run_length-length.result c.args.text.now c.run_length-length.ensures.within)) c.in_ok-name.ensures
