-- What each text keeps, from turn to turn and from line to line, and what one that is refused leaves.
use Rattle.std.proofs.Common.{◌≡◌, ℕ, Bool, inl, inr, List, [], ◌∷◌, ◌++◌, Option, Some, None, Result, Err, refl, sym, ap, ◌∙◌, subst, arith}
use Rattle.ob_base.specs.declared.fault.Code.{Code}
use Rattle.ob_check_scope.specs.declared.rule.RuleCode.{RuleCode}
use Rattle.ob_scan.specs.declared.token.Token.{Token}
use Rattle.ob_scan.specs.Tokens.{Tokens}
use Rattle.ob_scan.proofs.TokenReading.{tokens_of-complete}
use Rattle.ob_tree.specs.declared.tree.Cell.{Cell}
use Rattle.ob_parse.specs.Grammar.{Derives}
use Rattle.ob_parse.specs.CellText.{IsCellOf, Breaks}
use Rattle.ob_parse.specs.TreeOf.{cell_of}
use Rattle.ob_parse.proofs.Texts.{cell_sound, cell_complete}
use Rattle.ob_check_scope.specs.Rule.{gives, answer}
use Rattle.ob_check_scope.proofs.Exact.{only}
use Rattle.ob_session.specs.Session.{Session}
use Rattle.ob_session.specs.Cells as cells
use Rattle.ob_session.specs.Cells.{CellMeaning, CellOutcome, Checked, checked_meaning}
use Rattle.ob_session.specs.Laws as laws
use Rattle.ob_session.proofs.Cells.{each_lawful, each_fed}
use Rattle.ob_cell.specs.Texts as meaning
use Rattle.ob_cell.specs.Texts.{cell_rule, checked_by, checked_in, checked_text, meaning_by}
use Rattle.jk_language.specs.declared.outcome.LinkFault.{LinkFault}
use Rattle.jk_language.specs.declared.outcome.Outcome.TheVariants.{Stopped, NeedsLine, Unreadable, Unlinked}
use Rattle.jk_language.specs.declared.outcome.Refusal.{Refusal}
use Rattle.jk_language.specs.declared.outcome.Refusal.TheVariants.{Compile, Link}
use Rattle.jk_language.specs.Parts.{Line, IsLawful, IsFed}
use Rattle.jk_language.specs.Spoken.{IsLanguage, standing, refused_outcome}
use Rattle.ob_load.specs.Parts.{told, told_outcome, grows}
use Rattle.ob_cell.specs.Oberon.{cell, told_in, spoken_oberon, IsTreeOf, IsBroken, IsUnlinked, IsRefusedFor}

-- ---- what an outcome was, by what is told of it

needs_line : (o : CellOutcome) → told_outcome o ≡ NeedsLine → o ≡ cells.NeedsLine
needs_line cells.Ended e = cc
needs_line (cells.Trapped kind home line) e = cc
needs_line (cells.Stopped kind) e = cc
needs_line cells.NeedsLine e = refl
needs_line (cells.Unlinked fault) e = cc

was_stopped : (o : CellOutcome) (grows : Bool) → told_outcome o ≡ Stopped grows → laws.IsStopped o
was_stopped cells.Ended grows e = absurd cc
was_stopped (cells.Trapped kind home line) grows e = absurd cc
was_stopped (cells.Stopped kind) grows e = (kind, refl)
was_stopped cells.NeedsLine grows e = absurd cc
was_stopped (cells.Unlinked fault) grows e = absurd cc

never_unread : (o : CellOutcome) → told_outcome o ≡ Unreadable → ⊥
never_unread cells.Ended e = cc
never_unread (cells.Trapped kind home line) e = cc
never_unread (cells.Stopped kind) e = cc
never_unread cells.NeedsLine e = cc
never_unread (cells.Unlinked fault) e = cc

-- ---- laws of what is told

told_lawful : (goes : ℕ → CellMeaning) → laws.IsLawful goes → IsLawful (λ n. told (goes n))
told_lawful goes h = record {
  few = h.few;
  settled = λ n. ap told (h.settled n);
  onward = h.onward;
  output = h.output;
  silent = h.silent;
  unasked = λ e. h.unasked (needs_line (goes 0).outcome e);
  stopped = λ n grows e. h.stopped n (was_stopped (goes n).outcome grows e);
  last = λ n m le on. ap told (h.last n m le (λ s. on (grows s.0, ap told_outcome s.1)));
  unread = λ n e m. absurd (never_unread (goes n).outcome e);
}

told_fed : (goes fed : ℕ → CellMeaning) → laws.IsFed goes fed → IsFed (λ n. told (goes n)) (λ n. told (fed n))
told_fed goes fed h = record {
  same = λ n on. ap told (h.same n (λ e. on (ap told_outcome e)));
  onward = h.onward;
  output = h.output;
  freed = λ n e used f. h.freed n (needs_line (goes n).outcome e) used (needs_line (fed n).outcome f);
}

-- ---- laws of a text that is refused

unread_lawful : (session : Session) → IsLawful (λ n. standing session Unreadable)
unread_lawful session = record {
  few = λ n. omega arith;
  settled = λ n. refl;
  onward = λ n m h. omega arith;
  output = λ n m h. ([], refl);
  silent = refl;
  unasked = λ e. cc;
  stopped = λ n grows e. cc;
  last = λ n m h on. refl;
  unread = λ n e m. refl;
}

unread_fed : (session : Session) → IsFed (λ n. standing session Unreadable) (λ n. standing session Unreadable)
unread_fed session = record {
  same = λ n on. refl;
  onward = λ n. omega arith;
  output = λ n. ([], refl);
  freed = λ n e used f. cc;
}

-- ---- laws of each text

lawful_at : (o : Option Checked) (session : Session) (lines : List Line) → IsLawful (λ n. told_in session (meaning_by o session lines n))
lawful_at None session lines = unread_lawful session
lawful_at (Some c) session lines = told_lawful (λ n. checked_meaning session c lines n) (each_lawful session c lines)

cell_lawful : (session : Session) (text : List ℕ) (lines : List Line) → IsLawful (cell session text lines)
unfolding cell meaning.cell
cell_lawful session text lines = lawful_at (checked_text session text) session lines

fed_at : (o : Option Checked) (session : Session) (lines : List Line) (line : Line) → IsFed (λ n. told_in session (meaning_by o session lines n)) (λ n. told_in session (meaning_by o session (lines ++ line ∷ []) n))
fed_at None session lines line = unread_fed session
fed_at (Some c) session lines line =
    told_fed (λ n. checked_meaning session c lines n) (λ n. checked_meaning session c (lines ++ line ∷ []) n) (each_fed session c lines line)

cell_fed : (session : Session) (text : List ℕ) (lines : List Line) (line : Line) → IsFed (cell session text lines) (cell session text (lines ++ line ∷ []))
unfolding cell meaning.cell
cell_fed session text lines line = fed_at (checked_text session text) session lines line

-- ---- a text that breaks a rule

none_by : (outcome : Result Checked RuleCode) (c : RuleCode) → outcome ≡ Err c → checked_by outcome ≡ None
none_by outcome c e = ap checked_by e

-- a text without a tree
none_in : (session : Session) (text : List ℕ) → ((c : Cell) → IsCellOf text c → ⊥) → (o : Option Cell) → cell_of text ≡ o → checked_in session o ≡ None
none_in session text h None e = refl
none_in session text h (Some c) e = absurd (h c (cell_sound text c e))

some_is : {A : Type 0} (x y : A) → Some x ≡ Some y → x ≡ y
some_is x y e = cc

one_list : (text : List ℕ) (tokens other : List Token) → Tokens text tokens → Tokens text other → tokens ≡ other
one_list text tokens other h k = some_is tokens other (sym (tokens_of-complete text tokens h) ∙ tokens_of-complete text other k)

no_tree : (text : List ℕ) (code : Code) → Breaks text code → (c : Cell) → IsCellOf text c → ⊥
no_tree text code b c is =
    elim b as (λ _. ⊥) [
      | inl p ↦ p.1 is.0 is.1
      | inr p ↦ p.1.2 c (subst (λ l. Derives l c) (one_list text is.0 p.1.0 is.1 p.1.1) is.2)
    ]

broken_none : (session : Session) (text : List ℕ) (c : Code) → IsBroken session text c → checked_text session text ≡ None
unfolding IsBroken checked_text
broken_none session text c h =
    elim h as (λ _. checked_in session (cell_of text) ≡ None) [
      | inl b ↦ none_in session text (no_tree text c b) (cell_of text) refl
      | inr p ↦ ap (checked_in session) (cell_complete text p.0 p.1) ∙ none_by (answer (cell_rule session p.0)) p.2.0 p.2.1
    ]

broken_stands : (session : Session) (text : List ℕ) (c : Code) → IsBroken session text c → (lines : List Line) (n : ℕ) → cell session text lines n ≡ standing session Unreadable
unfolding cell meaning.cell
broken_stands session text c h lines n = ap (λ o. told_in session (meaning_by o session lines n)) (broken_none session text c h)

-- ---- a text that keeps the rules

-- what its tree is given by the rules
pub checked_is : (session : Session) (text : List ℕ) (tree : Cell) (checked : Checked) → IsTreeOf text tree → gives (cell_rule session tree) checked → checked_text session text ≡ Some checked
unfolding IsTreeOf checked_text
checked_is session text tree checked is g =
    ap (checked_in session) (cell_complete text tree is) ∙ ap checked_by (only (cell_rule session tree) checked g)

-- means what the checked cell does
pub cell_means : (session : Session) (text : List ℕ) (tree : Cell) (checked : Checked) → IsTreeOf text tree → gives (cell_rule session tree) checked → (lines : List Line) (n : ℕ) → cell session text lines n ≡ told (checked_meaning session checked lines n)
unfolding cell meaning.cell
cell_means session text tree checked is g lines n =
    ap (λ o. told_in session (meaning_by o session lines n)) (checked_is session text tree checked is g)

unlinked_stands : (session : Session) (text : List ℕ) (fault : LinkFault) → IsUnlinked session text fault → (lines : List Line) (n : ℕ) → cell session text lines n ≡ standing session (Unlinked fault)
unfolding IsUnlinked IsTreeOf
unlinked_stands session text fault h lines n =
    cell_means session text h.0 h.2 h.1 h.3 lines n
    ∙ ap told (h.5 lines n)
    ∙ ap (λ f. standing session (Unlinked f)) (sym h.6)

refused_stands : (session : Session) (text : List ℕ) (refusal : Refusal) → IsRefusedFor session text refusal → (lines : List Line) (n : ℕ) → cell session text lines n ≡ standing session (refused_outcome refusal)
refused_stands session text (Compile fault) h lines n = broken_stands session text h.0 h.2 lines n
refused_stands session text (Link fault) h lines n = unlinked_stands session text fault h lines n

-- ---- the law

pub oberon_lawful : IsLanguage spoken_oberon
oberon_lawful = record { lawful = cell_lawful; fed = cell_fed; stands = refused_stands }
