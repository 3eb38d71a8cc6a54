use Rattle.std.proofs.Common.{ℕ, ◌==◌, length, sym, arith, rules}
use Rattle.std.proofs.lemmas.List.Sums.{position_or_len_is}
use Rattle.js_http.proofs.places.byte_place.Goals as goal

pub returns-in-Some-clause-first : goal.returns-in-Some-clause-first
returns-in-Some-clause-first c =
    sym (position_or_len_is (λ (b : ℕ). b == c.args.sought) c.args.text.now c.in-Some.place 0 (search rules) (search rules) (search rules))

pub returns-in-None-clause-first : goal.returns-in-None-clause-first
returns-in-None-clause-first c =
    sym (position_or_len_is (λ (b : ℕ). b == c.args.sought) c.args.text.now (length c.args.text.now) 0 (omega arith) (search rules) (search rules))
