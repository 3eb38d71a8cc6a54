-- What the characters of a text are, whether it has them alone or not.
use Rattle.std.specs.Prelude.{ℕ, List, take}
use Rattle.ob_base.specs.declared.text.Characters.{Characters}
use Rattle.ob_base.specs.declared.text.Characters.TheVariants.{Few, Own, Common}

abbrev pub characters : Characters → List ℕ
characters (Few count bytes) = take count bytes
characters (Own chars) = chars.items
characters (Common chars) = chars.value.items
