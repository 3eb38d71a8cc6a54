-- Pages that are told one more entry.
use Rattle.std.proofs.Common.{◌≡◌, ℕ, ◌+◌, ◌<◌, List, [], ◌∷◌, ◌++◌, length, take, get_or, refl, sym, subst}
use Rattle.std.specs.Prelude.{Result, Ok, Err, is_err, false, OnOk}
use Rattle.std.proofs.lemmas.List.{take_more}
use Rattle.jk_log.specs.declared.entry.Entry.{Entry}
use Rattle.nb_record.specs.declared.pages.Pages.{Pages}
use Rattle.nb_record.specs.Book.{Shown}
use Rattle.nb_record.specs.State.{IsTold, AreTold}

told_after : (es : List Entry) (e : Entry) (a b c : Pages) → AreTold es a b → IsTold (Shown e) b c → AreTold (es ++ e ∷ []) a c
told_after [] e a b c h t = (c, subst (λ p. IsTold (Shown e) p c) h t, refl)
told_after (x ∷ es) e a b c h t = (h.0, h.1, told_after es e h.0 b c h.2 t)

-- the next entry of a list
pub told_next : (es : List Entry) (i : ℕ) (e : Entry) (a b c : Pages) → i < length es → e ≡ get_or es i e → AreTold (take i es) a b → IsTold (Shown e) b c → AreTold (take (i + 1) es) a c
told_next es i e a b c lt is h t =
    subst (λ l. AreTold l a c) (sym (take_more es i e lt)) (told_after (take i es) (get_or es i e) a b c h (subst (λ x. IsTold (Shown x) b c) is t))

-- what holds where a call succeeded, and it did
pub held_of : {A E P : Type 0} (r : Result A E) → is_err r ≡ false → OnOk r P → P
held_of (Ok x) e h = h
held_of (Err x) e h = cc
