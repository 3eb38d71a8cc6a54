-- A text has at most one list of tokens.
use Rattle.std.proofs.Common.{◌≡◌, ℕ, List, [], ◌∷◌, length, take, drop, Option, Some, None, refl, sym, ap, ◌∙◌, arith}
use Rattle.std.proofs.lemmas.List.{take_at, drop_at}
use Rattle.ob_scan.specs.declared.class.Class.{Class}
use Rattle.ob_scan.specs.declared.class.Class.TheVariants as classes
use Rattle.ob_scan.specs.declared.class.Suffix.{Suffix}
use Rattle.ob_scan.specs.declared.class.Suffix.TheVariants as suffixes
use Rattle.ob_scan.specs.declared.place.Place.{Place}
use Rattle.ob_scan.specs.declared.token.Kind.{Kind}
use Rattle.ob_scan.specs.declared.token.Kind.TheVariants as kinds
use Rattle.ob_scan.specs.declared.token.Token.{Token}
use Rattle.ob_scan.specs.Gap.{Stays}
use Rattle.ob_scan.specs.Places.{past}
use Rattle.ob_scan.specs.Spelling.{spelling}
use Rattle.ob_scan.specs.Tokens.{NumberEnds, Sign, Quoted, closed, char, suffix_of, class_at, Stands, StandsAs, Scans, done, next}
use Rattle.ob_scan.proofs.Gaps.{stays_settled, stays_empty}
use Rattle.ob_scan.proofs.NumberTokens.{number_back}
use Rattle.ob_scan.proofs.Spellings.{one_spelling}
use Rattle.ob_scan.proofs.StringTokens.{one_char, ends_here}
use Rattle.ob_scan.proofs.TokenLists.{token_of, first_only, none_left}
use Rattle.ob_scan.proofs.WordTokens.{word_by}

abbrev Same : Kind → Kind → List ℕ → List ℕ → Type 0
Same k l r s = (k ≡ l) × (r ≡ s)

one_number : (suffix : Suffix) (run middle : List ℕ) (k l : Kind) (r s : List ℕ) → NumberEnds suffix run middle k r → NumberEnds suffix run middle l s → Same k l r s
one_number suffixes.Plain run middle k l r s g h = (g.0.0 ∙ sym h.0.0, g.0.1 ∙ sym h.0.1)
one_number suffixes.Hexadecimal run middle k l r s g h = (g.0.0 ∙ sym h.0.0, g.0.1 ∙ sym h.0.1)
one_number suffixes.Character run middle k l r s g h = (g.0.0 ∙ sym h.0.0, g.0.1 ∙ sym h.0.1)

one_quoted : (text a b r s : List ℕ) → Quoted text a r → Quoted text b s → (a ≡ b) × (r ≡ s)
one_quoted _ _ b r s closed h = let e = ends_here r b s h in (sym e.0, sym e.1)
one_quoted text _ b r s (char {c} {after} {chars} e g) h =
    let first = one_char c text after b s e h in
    let others = one_quoted after chars first.0 r s g first.2 in
    (ap (λ x. c ∷ x) others.0 ∙ sym first.1, others.1)

one_sign : (text : List ℕ) (k l : Kind) (r s : List ℕ) → Sign text k r → Sign text l s → Same k l r s
one_sign text k l r s g h =
    let long : length (spelling g.symbol) ≡ length (spelling h.symbol) = omega (arith, g.longest h.symbol s h.whole, h.longest g.symbol r g.whole) in
    let spelled : spelling g.symbol ≡ spelling h.symbol = sym (take_at (spelling g.symbol) r (length (spelling h.symbol)) long) ∙ ap (take (length (spelling h.symbol))) (sym g.whole ∙ h.whole) ∙ take_at (spelling h.symbol) s (length (spelling h.symbol)) refl in
    let rest : r ≡ s = sym (drop_at (spelling g.symbol) r (length (spelling h.symbol)) long) ∙ ap (drop (length (spelling h.symbol))) (sym g.whole ∙ h.whole) ∙ drop_at (spelling h.symbol) s (length (spelling h.symbol)) refl in
    (g.kind_of ∙ ap kinds.Symbol (one_spelling g.symbol h.symbol spelled) ∙ sym h.kind_of, rest)

one_by : (class : Option Class) (text : List ℕ) (k l : Kind) (r s : List ℕ) → StandsAs class text k r → StandsAs class text l s → Same k l r s
one_by None text k l r s g h = absurd g
one_by (Some classes.Letter) text k l r s g h = word_by text h.run s l k r h.longest h.kind_of g
one_by (Some classes.Digit) text k l r s g h = one_number (suffix_of h.middle) h.run h.middle k l r s (number_back text h.run h.middle (suffix_of h.middle) k r h.longest refl g) h.ends
one_by (Some classes.Quote) text k l r s g h =
    let e = one_quoted (drop 1 text) g.chars h.chars r s g.quoted h.quoted in
    (g.kind_of ∙ ap kinds.Text e.0 ∙ sym h.kind_of, e.1)
one_by (Some classes.Other) text k l r s g h = one_sign text k l r s g h

pub one_token : (text : List ℕ) (k l : Kind) (r s : List ℕ) → Stands text k r → Stands text l s → (k ≡ l) × (r ≡ s)
one_token text k l r s g h = one_by (class_at text) text k l r s g h

pub one_list : (p : Place) (text : List ℕ) (one other : List Token) → Scans p text one → Scans p text other → one ≡ other
one_list p text _ other (done g) h = sym (none_left p text [] g (stays_empty [] refl) other refl h)
one_list p text _ other (next {middle} {rest} {kind} {tokens} g settled stands more) h =
    let stays : Stays middle = stays_settled middle settled.no_blank settled.no_comment in
    let first = first_only p text middle g stays kind rest other stands (λ l s k. one_token middle l kind s rest k stands) h in
    let others = one_list (past (past p text middle) middle rest) rest tokens first.0 more first.2 in
    ap (λ ts. token_of p text middle kind rest ∷ ts) others ∙ sym first.1
