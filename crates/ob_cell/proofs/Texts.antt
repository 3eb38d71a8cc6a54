-- Each text is refused, or lawful.
use Rattle.std.proofs.Common.{◌≡◌, ℕ, List, Option, Some, None, ap, refl}
use Rattle.ob_session.specs.Session.{Session}
use Rattle.ob_session.specs.Cells.{Checked}
use Rattle.ob_session.proofs.Cells.{each_lawful, each_fed}
use Rattle.ob_cell.specs.Texts.{cell, checked_text, meaning_by, IsLawfulText, EachTextIsLawful}

lawful-as : (s : Session) (text : List ℕ) (o : Option Checked) → checked_text s text ≡ o → IsLawfulText s text o
unfolding cell
lawful-as s text None e = λ lines n. ap (λ o. meaning_by o s lines n) e
lawful-as s text (Some c) e = (λ lines n. ap (λ o. meaning_by o s lines n) e, λ lines. each_lawful s c lines, λ lines line. each_fed s c lines line)

pub each_text : EachTextIsLawful
each_text s text = lawful-as s text (checked_text s text) refl
