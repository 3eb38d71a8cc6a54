-- Outputs that stay apart.
use Rattle.std.proofs.Common.{◌≡◌, ℕ, ◌+◌, ◌<◌, ◌≤◌, List, ◌∷◌, [], ◌++◌, length, drop, get_or, cond, Option, Some, None, Bor, refl, sym, ap, ◌∙◌, subst}
use Rattle.std.proofs.lemmas.List.{drop_more, drop_all}
use Rattle.nb_doc.specs.declared.notebook.Output.{Output}
use Rattle.nb_doc.specs.declared.notebook.Output.TheVariants as output
use Rattle.nb_doc.specs.Writing.{join_onto, joined}
use Rattle.nb_text.specs.Joined.{AreApart, MayFollow}

stays : (a b : Output) (os : List Output) → AreApart a b → join_onto a (b ∷ os) ≡ a ∷ b ∷ os
stays (output.Stream a s) (output.Stream b t) os h = ap (λ x. cond x (output.Stream a (s ++ t) ∷ os) (output.Stream a s ∷ output.Stream b t ∷ os)) h
stays (output.Stream a s) (output.Error e v t) os h = refl
stays (output.Stream a s) (output.Kept d) os h = refl
stays (output.Error e v t) b os h = refl
stays (output.Kept d) b os h = refl

-- outputs after the one that came last
abbrev pub after_last : Option (Bor Output) → List Output → List Output
after_last None os = os
after_last (Some last) os = last.now ∷ os

abbrev pub Stay : List Output → Type 0
Stay os = joined os ≡ os

next_stays : (o : Option (Bor Output)) (x : Output) (os : List Output) → MayFollow o x → Stay (x ∷ os) → Stay (after_last o (x ∷ os))
unfolding joined
next_stays None x os apart h = h
next_stays (Some last) x os apart h = ap (join_onto last.now) h ∙ stays last.now x os apart

-- one more output stays
pub stay_step : (o : Option (Bor Output)) (all : List Output) (i : ℕ) (x : Output) → i < length all → x ≡ get_or all i x → MayFollow o x → (Stay (after_last o (drop i all)) → Stay all)
    → Stay (x ∷ drop (i + 1) all) → Stay all
stay_step o all i x below is apart h rest =
    let here : drop i all ≡ x ∷ drop (i + 1) all = drop_more all i x below ∙ ap (λ y. y ∷ drop (i + 1) all) (sym is) in
    h (subst (λ ys. Stay (after_last o ys)) (sym here) (next_stays o x (drop (i + 1) all) apart rest))

single : (o : Output) → Stay (o ∷ [])
unfolding joined
single (output.Stream a s) = refl
single (output.Error e v t) = refl
single (output.Kept d) = refl

none_stays : (o : Option (Bor Output)) → Stay (after_last o [])
unfolding joined
none_stays None = refl
none_stays (Some last) = single last.now

pub stay_end : (o : Option (Bor Output)) (all : List Output) (i : ℕ) → length all ≤ i → (Stay (after_last o (drop i all)) → Stay all) → Stay all
stay_end o all i past h = h (subst (λ ys. Stay (after_last o ys)) (sym (drop_all i all past)) (none_stays o))
