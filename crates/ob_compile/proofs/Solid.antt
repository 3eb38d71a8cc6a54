-- The types that loaded modules export have cells after each load.
use Rattle.std.proofs.Common.{Bool, true, false, cond, [], ◌∷◌}
use Rattle.std.specs.Str.{bytes_eq}
use Rattle.ob_check_scope.specs.Exports.{Modules}
use Rattle.ob_check_scope.specs.Imports.{added}
use Rattle.ob_check_laws.specs.Solid.{EachSolid}
use Rattle.ob_compile.specs.Compilable.{EachLoadStaysSolid}

either_solid : (b : Bool) (xs ys : Modules) → EachSolid xs → EachSolid ys → EachSolid (cond b xs ys)
either_solid true xs ys h g = h
either_solid false xs ys h g = g

pub stays_solid : EachLoadStaysSolid
stays_solid [] m h g = (g, tt)
stays_solid (n ∷ ms) m h g = either_solid (bytes_eq n.interface.name m.interface.name) (m ∷ ms) (n ∷ added ms m) (g, h.1) (h.0, stays_solid ms m h.1 g)
