use Rattle.std.proofs.Common.{length, sym, arith, rules}
use Rattle.std.proofs.lemmas.List.Sums.{position_or_len_is}
use Rattle.js_shelf.specs.Paths.{is_slash}
use Rattle.js_shelf.proofs.path.slash_place.Goals as goal

pub returns-in-Some-clause-first : goal.returns-in-Some-clause-first
returns-in-Some-clause-first c =
    sym (position_or_len_is is_slash c.args.path.now c.in-Some.place 0 (search rules) (search rules) (search rules))

pub returns-in-None-clause-first : goal.returns-in-None-clause-first
returns-in-None-clause-first c =
    sym (position_or_len_is is_slash c.args.path.now (length c.args.path.now) 0 (omega arith) (search rules) (search rules))
