use Rattle.std.proofs.Common.{◌≡◌, ◌++◌, Option, OnOk, sym, subst}
use Rattle.serde_json.specs.Data.{Data}
use Rattle.nb_text.specs.Tokens.{attachments_tokens}
use Rattle.nb_text.proofs.members.write_attachments.Goals as goal

pub returns-in-Some : goal.returns-in-Some
returns-in-Some g c =
    let P : Option Data → Type 0 = λ a. OnOk c.write_json.result ((g.W.Tokens.written c.write_json.new.out) ≡ (g.W.Tokens.written c.args.out.now) ++ attachments_tokens a) in
    subst P (sym c.in-Some.is) c.write_json.ensures
