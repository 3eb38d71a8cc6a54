-- The text that a mark holds, however it is held.
use Rattle.std.specs.Prelude.{ℕ, List}
use Rattle.jk_log.specs.declared.written.Held.{Held}
use Rattle.jk_log.specs.declared.written.Held.TheVariants.{Together, Alone}

abbrev pub text_in : Held → List ℕ
text_in (Together text) = text
text_in (Alone text) = text
