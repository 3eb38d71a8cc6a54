-- What is read as a cell is one, and what is one is read.
use Rattle.std.proofs.Common.{◌≡◌, ◌<◌, ◌≤◌, Bool, true, false, cond, List, [], ◌∷◌, length, Option, Some, None, Result, Ok, Err, refl, sym, ap, subst, ◌∙◌, arith}
use Rattle.std.specs.Prelude.{IfOk}
use Rattle.ob_base.specs.declared.fault.Code.{Code}
use Rattle.ob_base.specs.declared.fault.Refused.{Refused}
use Rattle.ob_base.specs.declared.fault.Refused.TheVariants as refused
use Rattle.ob_scan.specs.declared.token.Kind.{Kind}
use Rattle.ob_scan.specs.declared.token.Kind.TheVariants as kinds
use Rattle.ob_scan.specs.declared.token.Span.{Span}
use Rattle.ob_scan.specs.declared.token.Symbol.TheVariants as s
use Rattle.ob_scan.specs.declared.token.Token.{Token}
use Rattle.ob_scan.specs.Symbols.{same_symbol}
use Rattle.ob_tree.specs.declared.tree.Ident.{Ident}
use Rattle.ob_tree.specs.declared.tree.Import.{Import}
use Rattle.ob_tree.specs.declared.tree.Module.{Module}
use Rattle.ob_tree.specs.declared.tree.Command.{Command}
use Rattle.ob_tree.specs.declared.tree.Cell.{Cell}
use Rattle.ob_tree.specs.declared.tree.Cell.TheVariants as cells
use Rattle.ob_tree.specs.Phrase as phrase
use Rattle.ob_tree.specs.Phrase.{Phrase, ◌⨾◌, symbol_at, symbol, each, maybe, separated, optional}
use Rattle.ob_tree.specs.Statement.{statements}
use Rattle.ob_tree.specs.Declaration.{declarations, name_again}
use Rattle.ob_parse.specs.Grammar as p
use Rattle.ob_parse.specs.Grammar.{Derives, AnswersTree, FaultsOnly, max_nesting}
use Rattle.ob_parse_expression.specs.Reading as reading
use Rattle.ob_parse_expression.specs.Reading.{Reader, Reads, Outcome, eat, many, if_ident, at_ident}
use Rattle.ob_parse.specs.GrammarReading as r
use Rattle.ob_parse.specs.GrammarReading.{is_semicolon, at_semicolon, behind_semicolons}
use Rattle.ob_parse_expression.proofs.Exact.{Exact, Anything, OrAbsent, IsAbsent, answer, answers, same_answer, Seq, Is, Either, exact_seq, exact_pure, exact_as, exact_maybe_as, exact_where, exact_either, exact_where_some, absent_where, before_pure}
use Rattle.ob_parse_expression.proofs.OneToken.{exact_expect, exact_eat, exact_ident, starts_by, absent_start, other_symbol, Closes, closes_by, absent_closing}
use Rattle.ob_tree.proofs.Tokens.{made}
use Rattle.ob_parse_expression.proofs.Separated.{exact_separated}
use Rattle.ob_parse.proofs.Optional.{exact_optional, optional_begins}
use Rattle.ob_parse_expression.proofs.Entries.{exact_entries, entries_follow, ident_at}
use Rattle.ob_parse.proofs.Sections.{Later, later_at, later_by, absent_later}
use Rattle.ob_parse.proofs.Declarations.{exact_body, exact_name}
use Rattle.ob_parse.proofs.Procedures.{exact_declarations, declarations_begin}

-- ---- imports

abbrev to_own : Ident → Phrase
to_own m = symbol s.Becomes ⨾ phrase.ident m

exact_own : Exact (maybe to_own) r.own_name (OrAbsent r.own_name Anything)
unfolding r.own_name
exact_own = exact_maybe_as (exact_where_some (exact_eat s.Becomes) (λ a. exact_ident)) (λ m tokens rest h. (h.1, (h.0, h.2), h.3)) (λ m tokens rest h. (h.1.0, h.0, h.1.1, h.2))

abbrev NoOwn : List Token → Type 0
NoOwn tokens = IsAbsent (eat s.Becomes) tokens

own_follows : (x : Option Ident) (tokens : List Token) → NoOwn tokens → OrAbsent r.own_name Anything x tokens
unfolding r.own_name
own_follows None tokens e = absent_where (eat s.Becomes) (λ _. reading.ident) tokens e
own_follows (Some m) tokens e = tt

exact_import : Exact p.import_phrase r.import_of (λ i. NoOwn)
unfolding r.import_of
exact_import = exact_as
    (exact_seq exact_ident (λ name. exact_seq exact_own (λ own. exact_pure (record { name = name; module_name = own })) (λ own c middle rest h g. own_follows own middle (before_pure NoOwn (record { name = name; module_name = own }) c middle rest h g))) (λ name c middle rest h g. tt))
    (λ i tokens rest h. subst (λ (x : Import). p.import_phrase x tokens rest) (sym h.3.3.0) (h.1, h.2, subst (λ z. maybe to_own h.3.0 h.1 z) h.3.3.1 h.3.2))
    (λ i tokens rest h. (i.name, h.0, h.1, (i.module_name, rest, h.2, (refl, refl))))

own_at_comma : (span : Span) (tokens rest : List Token) → symbol_at s.Comma span tokens rest → NoOwn tokens
unfolding same_symbol
own_at_comma span tokens rest h = subst (IsAbsent (eat s.Becomes)) (sym h) (other_symbol s.Becomes s.Comma span rest refl)

exact_imports : Exact (separated s.Comma p.import_phrase) (reading.separated s.Comma r.import_of) (λ xs. Closes 1)
exact_imports = exact_separated s.Comma p.import_phrase r.import_of NoOwn (Closes 1) exact_import
    own_at_comma
    (λ tokens e. absent_closing s.Comma 1 tokens (omega arith) e)
    (λ tokens e. absent_closing s.Becomes 1 tokens (omega arith) e)

exact_import_list : Exact p.import_list r.import_list Anything
unfolding r.import_list
exact_import_list = exact_as
    (exact_seq exact_imports (λ xs. exact_seq (exact_expect s.Semicolon) (λ a. exact_pure xs) (λ a c middle rest h g. tt)) (λ xs c middle rest h g. closes_by 1 s.Semicolon h.0 middle h.1 h.2 (omega arith)))
    (λ xs tokens rest h. subst (λ y. p.import_list y tokens rest) (sym h.3.3.0) (h.1, h.2, (h.3.0, subst (λ z. symbol_at s.Semicolon h.3.0 h.1 z) h.3.3.1 h.3.2)))
    (λ xs tokens rest h. (xs, h.0, h.1, (h.2.0, rest, h.2.1, (refl, refl))))

exact_import_part : Exact (optional s.Import p.import_list) (reading.optional s.Import r.import_list) (λ xs. Later 2)
exact_import_part = exact_optional s.Import p.import_list r.import_list (Later 2) (exact_where exact_import_list (λ xs tokens rest h e. tt)) (λ tokens e. absent_later s.Import 2 tokens (omega arith) e)

-- ---- modules

abbrev behind_module : Module → Phrase
behind_module m = phrase.ident m.name ⨾ symbol s.Semicolon ⨾ optional s.Import p.import_list m.imports ⨾ declarations max_nesting m.declarations
    ⨾ optional s.Begin (statements max_nesting) m.body ⨾ symbol s.End ⨾ name_again m.name.name ⨾ symbol s.Period

body_at_end : (b : List _) (tokens middle rest : List Token) (span : Span) → optional s.Begin (statements max_nesting) b tokens middle → symbol_at s.End span middle rest → Later 6 tokens
body_at_end b tokens middle rest span h k = optional_begins s.Begin (statements max_nesting) (Later 6) (Later 7) (λ span tokens rest k. later_by 6 s.Begin span tokens rest k (omega arith)) (λ tokens k. later_at 7 6 tokens k (omega arith)) b tokens middle h (later_by 7 s.End span middle rest k (omega arith))

exact_module : Exact behind_module r.module_of Anything
unfolding r.module_of
exact_module = exact_as
    (exact_seq exact_ident (λ name. exact_seq (exact_expect s.Semicolon) (λ a. exact_seq exact_import_part (λ imports. exact_seq (exact_declarations max_nesting) (λ d. exact_seq (exact_body max_nesting) (λ b. exact_seq (exact_expect s.End) (λ e. exact_seq (exact_name name.name) (λ u. exact_seq (exact_expect s.Period) (λ f. exact_pure (record { name = name; imports = imports; declarations = d; body = b }))
    (λ f c middle rest h g. tt)) (λ u c middle rest h g. tt)) (λ e c middle rest h g. tt))
    (λ b c middle rest h g. later_by 7 s.End h.0 middle h.1 h.2 (omega arith)))
    (λ d c middle rest h g. body_at_end h.0 middle h.1 h.3.1 h.3.0 h.2 h.3.2))
    (λ imports c middle rest h g. declarations_begin max_nesting h.0 middle h.1 h.2 (body_at_end h.3.0 h.1 h.3.1 h.3.3.1 h.3.3.0 h.3.2 h.3.3.2)))
    (λ a c middle rest h g. tt)) (λ name c middle rest h g. tt))
    (λ m tokens rest h.
    let a = h.3.3.3 in
    let b = a.3.3.3 in
    let period : symbol_at s.Period b.3.0 b.1 rest = subst (λ z. symbol_at s.Period b.3.0 b.1 z) b.3.3.1 b.3.2 in
    subst (λ (x : Module). behind_module x tokens rest) (sym b.3.3.0)
    (h.1, h.2, (h.3.1, (h.3.0, h.3.2), (h.3.3.1, h.3.3.2, (a.1, a.2, (a.3.1, a.3.2, (a.3.3.1, (a.3.3.0, a.3.3.2), (b.1, b.2, (b.3.0, period)))))))))
    (λ m tokens rest h.
    let a = h.2.2.2 in
    (m.name, h.0, h.1, (h.2.1.0, h.2.0, h.2.1.1, (m.imports, h.2.2.0, h.2.2.1, (m.declarations, a.0, a.1, (m.body, a.2.0, a.2.1, (a.2.2.1.0, a.2.2.0, a.2.2.1.1, (tt, a.2.2.2.0, a.2.2.2.1, (a.2.2.2.2.0, rest, a.2.2.2.2.1, (refl, refl))))))))))

-- ---- commands

abbrev NoSemicolon : List Token → Type 0
NoSemicolon tokens = at_semicolon tokens ≡ false

is_semicolon_is : (k : Kind) → is_semicolon k ≡ true → k ≡ kinds.Symbol s.Semicolon
is_semicolon_is (kinds.Symbol s.Semicolon) e = refl
is_semicolon_is _ e = absurd cc

semicolon_first : (t : Token) (ts : List Token) → is_semicolon t.kind ≡ true → symbol_at s.Semicolon t.span (t ∷ ts) ts
semicolon_first t ts e = ap (λ k. made k t.span ∷ ts) (is_semicolon_is t.kind e)

passed_by : (b : Bool) (t : Token) (ts : List Token) → is_semicolon t.kind ≡ b → p.semicolons ts (behind_semicolons ts) → p.semicolons (t ∷ ts) (cond b (behind_semicolons ts) (t ∷ ts))
passed_by true t ts e h = (t.span ∷ h.0, (ts, semicolon_first t ts e, h.1))
passed_by false t ts e h = ([], refl)

passed : (tokens : List Token) → p.semicolons tokens (behind_semicolons tokens)
passed [] = ([], refl)
passed (t ∷ ts) = passed_by (is_semicolon t.kind) t ts refl (passed ts)

stays : (tokens : List Token) → NoSemicolon tokens → behind_semicolons tokens ≡ tokens
stays [] e = refl
stays (t ∷ ts) e = ap (λ b. cond b (behind_semicolons ts) (t ∷ ts)) e

all_passed : (spans : List Span) (tokens rest : List Token) → each (symbol_at s.Semicolon) spans tokens rest → NoSemicolon rest → behind_semicolons tokens ≡ rest
all_passed [] tokens rest h g = ap behind_semicolons h ∙ stays rest g
all_passed (x ∷ xs) tokens rest h g = ap behind_semicolons h.1 ∙ all_passed xs h.0 rest h.2 g

spans_shorter : (spans : List Span) (tokens rest : List Token) → each (symbol_at s.Semicolon) spans tokens rest → length rest ≤ length tokens
spans_shorter [] tokens rest h = omega (arith, ap length h)
spans_shorter (x ∷ xs) tokens rest h = omega (arith, ap length h.1, spans_shorter xs h.0 rest h.2)

abbrev Semicolons : Unit {0} → Phrase
Semicolons u = p.semicolons

exact_semicolons : Exact Semicolons r.semicolons (λ u. NoSemicolon)
exact_semicolons = record {
  sound = λ u tokens rest e. let b = answers tt u (behind_semicolons tokens) rest e in subst (λ z. p.semicolons tokens z) b.1 (passed tokens);
  complete = λ u tokens rest h g. same_answer tt u (behind_semicolons tokens) rest refl (all_passed h.0 tokens rest h.1 g);
  shorter = λ u tokens rest h. spans_shorter h.0 tokens rest h.1;
}

abbrev one_command : Command → Phrase
one_command c = p.command c ⨾ p.semicolons

exact_command : Exact one_command r.command (λ c. NoSemicolon)
unfolding r.command
exact_command = exact_as
    (exact_seq exact_ident (λ m. exact_seq (exact_expect s.Period) (λ a. exact_seq exact_ident (λ q. exact_seq exact_semicolons (λ u. exact_pure (record { module_name = m; procedure = q })) (λ u c middle rest h g. before_pure NoSemicolon (record { module_name = m; procedure = q }) c middle rest h g)) (λ q c middle rest h g. tt)) (λ a c middle rest h g. tt)) (λ m c middle rest h g. tt))
    (λ c tokens rest h.
    let b = h.3.3.3 in
    subst (λ (x : Command). one_command x tokens rest) (sym b.3.0) (h.3.3.1, (h.1, h.2, (h.3.1, (h.3.0, h.3.2), h.3.3.2)), subst (λ z. p.semicolons h.3.3.1 z) b.3.1 b.2))
    (λ c tokens rest h. (c.module_name, h.1.0, h.1.1, (h.1.2.1.0, h.1.2.0, h.1.2.1.1, (c.procedure, h.0, h.1.2.2, (tt, rest, h.2, (refl, refl))))))

command_at : (c : Command) (tokens rest : List Token) → one_command c tokens rest → at_ident tokens ≡ true
command_at c tokens rest h = ident_at c.module_name tokens h.1.0 h.1.1

command_takes : (c : Command) (tokens rest : List Token) → one_command c tokens rest → length rest < length tokens
command_takes c tokens rest h = omega (arith, ap length h.1.1, ap length h.1.2.1.1, ap length h.1.2.2, spans_shorter h.2.0 h.0 rest h.2.1)

command_begins : (c : Command) (tokens rest : List Token) → one_command c tokens rest → NoSemicolon tokens
command_begins c tokens rest h = ap at_semicolon h.1.1

-- nothing is left
abbrev Nothing : List Token → Type 0
Nothing tokens = tokens ≡ []

exact_command_items : Exact (each one_command) (many (if_ident r.command)) (λ xs. Nothing)
exact_command_items = exact_entries one_command r.command NoSemicolon Nothing exact_command command_at command_takes command_begins (λ tokens e. ap at_ident e) (λ tokens e. ap at_semicolon e)

exact_commands : Exact p.commands r.commands (λ xs. Nothing)
unfolding r.commands
exact_commands = exact_as
    (exact_seq exact_semicolons (λ u. exact_command_items) (λ u c middle rest h g. entries_follow one_command r.command NoSemicolon Nothing exact_command command_at command_takes command_begins (λ tokens e. ap at_ident e) (λ tokens e. ap at_semicolon e) c middle rest h g))
    (λ xs tokens rest h. (h.1, h.2, h.3))
    (λ xs tokens rest h. (tt, h.0, h.1, h.2))

-- ---- cells

no_module : IsAbsent (eat s.Module) []
unfolding eat
no_module = refl

items_start : (xs : List Command) (tokens rest : List Token) → each one_command xs tokens rest → rest ≡ [] → IsAbsent (eat s.Module) tokens
items_start [] tokens rest h e = subst (IsAbsent (eat s.Module)) (sym (h ∙ e)) no_module
items_start (c ∷ xs) tokens rest h e =
    let starts = starts_by 2 (kinds.Ident c.module_name.name) c.module_name.span tokens h.1.1.0 h.1.1.1 (omega arith) in
    absent_start s.Module tokens refl (record { first = omega (arith, starts.first) })

commands_start : (spans : List Span) (xs : List Command) (tokens middle rest : List Token) → each (symbol_at s.Semicolon) spans tokens middle → each one_command xs middle rest → rest ≡ [] → IsAbsent (eat s.Module) tokens
unfolding same_symbol
commands_start [] xs tokens middle rest h k e = subst (IsAbsent (eat s.Module)) (sym h) (items_start xs middle rest k e)
commands_start (x ∷ spans) xs tokens middle rest h k e = subst (IsAbsent (eat s.Module)) (sym h.1) (other_symbol s.Module s.Semicolon x h.0 refl)

abbrev commands_read : Cell → Phrase
commands_read = Seq p.commands (λ xs. Is (cells.Commands xs))

abbrev cell_behind : Option Span → Cell → Phrase
cell_behind = Either commands_read (λ span. Seq behind_module (λ m. Is (cells.Module m)))

word_follows : (word : Option Span) (c : Cell) (middle rest : List Token) → cell_behind word c middle rest → rest ≡ [] → OrAbsent (eat s.Module) Anything word middle
word_follows None c middle rest h g = commands_start h.2.1.0 h.0 middle h.2.0 h.1 h.2.1.1 h.2.2 (h.3.1 ∙ g)
word_follows (Some span) c middle rest h g = tt

cell_there : (word : Option Span) (c : Cell) (tokens middle rest : List Token) → maybe (symbol_at s.Module) word tokens middle → cell_behind word c middle rest → p.cell c tokens rest
cell_there None c tokens middle rest k h =
    subst (λ y. p.cell y tokens rest) (sym h.3.0) (subst (λ ts. p.commands h.0 ts rest) (sym k) (subst (λ z. p.commands h.0 middle z) h.3.1 h.2))
cell_there (Some span) c tokens middle rest k h =
    subst (λ y. p.cell y tokens rest) (sym h.3.0) (middle, (span, k), subst (λ z. behind_module h.0 middle z) h.3.1 h.2)

cell_back : (c : Cell) (tokens rest : List Token) → p.cell c tokens rest → Seq (maybe (symbol_at s.Module)) cell_behind c tokens rest
cell_back (cells.Module m) tokens rest h = (Some h.1.0, h.0, h.1.1, (m, rest, h.2, (refl, refl)))
cell_back (cells.Commands xs) tokens rest h = (None, tokens, refl, (xs, rest, h, (refl, refl)))

exact_cell : Exact p.cell r.cell (λ c. Nothing)
unfolding r.cell
exact_cell = exact_as
    (exact_seq (exact_eat s.Module) (λ word. exact_either
    (exact_seq exact_commands (λ xs. exact_pure (cells.Commands xs)) (λ xs c middle rest h g. h.1 ∙ g))
    (λ span. exact_seq exact_module (λ m. exact_pure (cells.Module m)) (λ m c middle rest h g. tt)) word) word_follows)
    (λ c tokens rest h. cell_there h.0 c tokens h.1 rest h.2 h.3)
    cell_back

-- ---- all tokens

ended_is : (u : Unit {0}) (tokens rest : List Token) → r.ended tokens ≡ answer u rest → (tokens ≡ []) × (rest ≡ [])
unfolding r.ended
ended_is u [] rest e = let b = answers tt u [] rest e in (refl, sym b.1)
ended_is u (t ∷ ts) rest e = absurd cc

ended_nil : r.ended [] ≡ answer tt []
unfolding r.ended
ended_nil = refl

abbrev Ended : Unit {0} → Phrase
Ended u tokens rest = (tokens ≡ []) × (rest ≡ [])

exact_ended : Exact Ended r.ended Anything
exact_ended = record {
  sound = ended_is;
  complete = λ u tokens rest h g. ap r.ended h.0 ∙ ended_nil ∙ same_answer tt u [] rest refl (sym h.1);
  shorter = λ u tokens rest h. omega (arith, ap length h.0, ap length h.1);
}

whole_read : Exact (Seq p.cell (λ c. Seq Ended (λ u. Is c))) r.whole Anything
unfolding r.whole
whole_read = exact_seq exact_cell (λ c. exact_seq exact_ended (λ u. exact_pure c) (λ u x middle rest h g. tt)) (λ c x middle rest h g. h.2.0)

pub whole_derives : (c : Cell) (tokens rest : List Token) → r.whole tokens ≡ answer c rest → Derives tokens c
whole_derives c tokens rest e =
    let h = whole_read.sound c tokens rest e in
    subst (λ x. Derives tokens x) (sym h.3.3.0) (subst (λ z. p.cell h.0 tokens z) h.3.2.0 h.2)

pub derives_whole : (c : Cell) (tokens : List Token) → Derives tokens c → r.whole tokens ≡ answer c []
derives_whole c tokens h = whole_read.complete c tokens [] (c, [], h, (tt, [], (refl, refl), (refl, refl))) tt

-- ---- what parse ensures

pub is_found : (tokens rest : List Token) (x : Result Cell Refused) → Reads (r.whole tokens) x rest → IfOk x (λ c. Derives tokens c)
is_found tokens rest (Ok c) h = whole_derives c tokens rest h
is_found tokens rest (Err e) h = tt

abbrev fault : {A : Type 0} → Code → Outcome A
fault c = Err c

differs : (m : Cell) (c : Code) → answer m [] ≡ fault c → ⊥
differs m c e = cc

pub is_only : (tokens rest : List Token) (x : Result Cell Refused) → Reads (r.whole tokens) x rest → (c : Cell) → Derives tokens c → AnswersTree c x
is_only tokens rest (Ok y) h c d = (answers y c rest [] (sym h ∙ derives_whole c tokens d)).0
is_only tokens rest (Err refused.Memory) h c d = tt
is_only tokens rest (Err (refused.Fault f)) h c d = differs c f.code (sym (derives_whole c tokens d) ∙ h.0)

pub is_fault : (tokens rest : List Token) (x : Result Cell Refused) → Reads (r.whole tokens) x rest → FaultsOnly tokens x
is_fault tokens rest (Ok y) h = tt
is_fault tokens rest (Err refused.Memory) h = tt
is_fault tokens rest (Err (refused.Fault f)) h = (h.1, λ c d. differs c f.code (sym (derives_whole c tokens d) ∙ h.0))
