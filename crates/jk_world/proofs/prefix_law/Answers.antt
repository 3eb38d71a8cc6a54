use Rattle.jk_world.proofs.Prefixes.{each_before}
use Rattle.jk_world.proofs.prefix_law.Goals as goal

pub returns : goal.returns
returns g c = λ past more legal settled. record { each = each_before g.L.Language.spoken past more legal.each; settled = settled }
