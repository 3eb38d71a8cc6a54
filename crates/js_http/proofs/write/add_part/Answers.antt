use Rattle.std.proofs.Common.{rules, ◌≡◌, ◌++◌, [], sym, ap, ◌∙◌, subst, append_assoc}
use Rattle.std.specs.Prelude.{OnOk}
use Rattle.std.proofs.KnownBytes.{Appends-trans}
use Rattle.std.proofs.lemmas.Result.{err_from_is_err_and}
use Rattle.js_http.proofs.WritingLemmas.{both_gone}
use Rattle.js_http.proofs.write.add_part.Goals as goal

pub returns-in_err-write_bytes-clause-bytes : goal.returns-in_err-write_bytes-clause-bytes
returns-in_err-write_bytes-clause-bytes g c =
    let p = err_from_is_err_and c.from_residual.result c.from_residual.ensures.1 in
    let stopped = c.in_err-write_bytes.ensures in
    let held : c.args.gathered.now.items ≡ c.as_slice.result.now = search rules in
    rw p.1 (
      stopped.0,
      stopped.1 ++ c.args.part.now,
      stopped.2,
      ap (λ bytes. bytes ++ c.args.part.now) (held ∙ stopped.3) ∙ append_assoc stopped.0 stopped.1 c.args.part.now,
      tt,
    )

pub returns-clause-bytes : goal.returns-clause-bytes
returns-clause-bytes g c =
    let first = c.in_ok-write_bytes.ensures in
    let second = c.write_bytes-2.ensures in
    let held : c.args.gathered.now.items ≡ c.as_slice.result.now = search rules in
    let empty : c.try_extend_from_slice-2.new.self.items ≡ [] = search rules in (
      first.0 ++ second.0,
      second.1,
      Appends-trans _ _ _ first.0 second.0 first.2 second.2,
      both_gone _ _ _ _ _ _ (held ∙ first.3) first.4 second.3,
      subst (λ left. OnOk c.write_bytes-2.result (second.1 ≡ left)) (sym empty) second.4,
    )
