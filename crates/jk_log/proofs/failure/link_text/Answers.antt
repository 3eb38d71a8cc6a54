use Rattle.std.proofs.Common.{refl, append_assoc}
use Rattle.jk_log.specs.Failures.{link_value}
use Rattle.jk_log.proofs.failure.link_text.Goals as goal

pub returns-in_ok-text-in-NoCommand : goal.returns-in_ok-text-in-NoCommand
unfolding link_value
returns-in_ok-text-in-NoCommand c = simp (c.from_string-in-NoCommand.ensures, c.in_ok-text-in-NoCommand.ensures.ok, c.in_ok-home-in-NoCommand.ensures, c.in_ok-name-in-NoCommand.ensures, c.as_slice-in-NoCommand.ensures, c.as_slice-in-NoCommand-2.ensures, c.in-NoCommand.is, append_assoc) refl
