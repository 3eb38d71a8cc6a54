-- The code of a tree, by its parts and its lists.
use Rattle.std.proofs.Common.{◌≡◌, ℕ, ◌+◌, List, [], ◌∷◌, ◌++◌, refl, sym, ap, ◌∙◌, Option, Some, append_assoc}
use Rattle.ob_mean.specs.declared.operator.UnaryOperator.{UnaryOperator}
use Rattle.ob_mean.specs.declared.expression.TypedExpr.{TypedExpr, Row_of-TypedExpr, end_of-TypedExpr, more_of-TypedExpr}
use Rattle.ob_mean.specs.declared.expression.TypedExpr.TheVariants.{Unary, Chain, Chain', Every, Every', Either, Either', Function, Function'}
use Rattle.ob_mean.specs.declared.expression.Designator.{Designator}
use Rattle.ob_mean.specs.declared.expression.Designator.TheVariants as designator
use Rattle.ob_mean.specs.declared.expression.Operation.{Operation}
use Rattle.ob_mean.specs.declared.expression.Argument.{Argument}
use Rattle.ob_mean.specs.declared.expression.Callee.{Callee}
use Rattle.ob_mean.specs.declared.expression.Argument.TheBlock.{Row_of-Argument, end_of-Argument, more_of-Argument, items-the_row-Argument, Row_of-Operation, end_of-Operation, more_of-Operation, items-the_row-TypedExpr, items-the_row-Operation, items_hidden-the_row-Operation-2, items_hidden-the_row-TypedExpr-3, items_hidden-the_row-Argument-4}
use Rattle.ob_mean.specs.Values.{before, size}
use Rattle.ob_mean.specs.declared.kind.RecordKind.{RecordKind}
use Rattle.ob_mean.specs.declared.outcome.TrapKind.TheVariants as trap
use Rattle.ob_mean.specs.RecordTypes.{TypeNames}
use Rattle.ob_mean.specs.WellFormed.{Object, Of, Names, object_of, shape_object, elements_in, field_in}
use Rattle.ob_code.specs.declared.instr.Instr.TheVariants as instr
use Rattle.ob_code.specs.declared.instr.Line.{Line}
use Rattle.ob_code.specs.declared.instr.Length.{Length}
use Rattle.ob_code.specs.declared.instr.Root.{Root}
use Rattle.ob_gen.specs.Code.{line, and_code, or_code, field_code, expr_code, read_code, offset_code, operations_code, every_code, either_code, argument_code, arguments_code, passed_code, value_one, name_one, row_values, row_names, list_values, list_names, root_in, name_in, name_number, length_of, length_in, element_cells, zero_in, zero_element}
use Rattle.ob_gen.specs.Emitted.{operations_list, every_list, either_list}
use Rattle.ob_gen.proofs.emitting.Lists.{one_more, two_more}

pub unary_code : (names : Names) (h k : ℕ) (op : UnaryOperator) (l : ℕ) (a : TypedExpr) → expr_code names h k (Unary op l a) ≡ expr_code names h k a ++ line (h + 1) k (instr.Unary op l) ∷ []
unfolding Rattle.ob_mean.specs.declared.expression.Argument.TheBlock.hidden-the_row-TypedExpr-1 denote.Hole.Carrier.hidden
unary_code names h k op l a = refl

row_operations : (names : Names) (h k : ℕ) (n : _) (row : Row_of-Operation n) → operations_code names h k row ≡ operations_list names h k (items-the_row-Operation n row)
row_operations names h k n end_of-Operation = refl
row_operations names h k n (more_of-Operation op l e rest) = ap (λ x. expr_code names (h + 1) k e ++ (line (h + 2) k (instr.Operate op l) ∷ x)) (row_operations names h k _ rest)

row_every : (names : Names) (h k : ℕ) (n : _) (row : Row_of-TypedExpr n) → every_code names h k row ≡ every_list names h k (items-the_row-TypedExpr n row)
row_every names h k n end_of-TypedExpr = refl
row_every names h k n (more_of-TypedExpr e rest) = ap (λ x. and_code h k (expr_code names h k e) x) (row_every names h k _ rest)

row_either : (names : Names) (h k : ℕ) (n : _) (row : Row_of-TypedExpr n) → either_code names h k row ≡ either_list names h k (items-the_row-TypedExpr n row)
row_either names h k n end_of-TypedExpr = refl
row_either names h k n (more_of-TypedExpr e rest) = ap (λ x. or_code h k (expr_code names h k e) x) (row_either names h k _ rest)

row_arguments : (names : Names) (h k : ℕ) (n : _) (row : Row_of-Argument n) → arguments_code names h k row ≡ passed_code names h k (items-the_row-Argument n row)
row_arguments names h k n end_of-Argument = refl
row_arguments names h k n (more_of-Argument a rest) = ap (λ x. argument_code names h k a ++ x) (row_arguments names (h + value_one a) (k + name_one a) _ rest)

values_of_row : (n : _) (row : Row_of-Argument n) → row_values row ≡ list_values (items-the_row-Argument n row)
values_of_row n end_of-Argument = refl
values_of_row n (more_of-Argument a rest) = ap (λ x. value_one a + x) (values_of_row _ rest)

names_of_row : (n : _) (row : Row_of-Argument n) → row_names row ≡ list_names (items-the_row-Argument n row)
names_of_row n end_of-Argument = refl
names_of_row n (more_of-Argument a rest) = ap (λ x. name_one a + x) (names_of_row _ rest)

-- the row in an expression
abbrev exprs_in : TypedExpr → (k : _) × Row_of-TypedExpr k
exprs_in (Every' k es) = (_, es)
exprs_in (Either' k es) = (_, es)
exprs_in _ = (_, end_of-TypedExpr)

abbrev operations_in : TypedExpr → (k : _) × Row_of-Operation k
operations_in (Chain' h a k steps) = (_, steps)
operations_in _ = (_, end_of-Operation)

abbrev arguments_in : TypedExpr → (k : _) × Row_of-Argument k
arguments_in (Function' f l k args) = (_, args)
arguments_in _ = (_, end_of-Argument)

pub chain_code : (names : Names) (h k : ℕ) (a : TypedExpr) (os : List Operation) → expr_code names h k (Chain a os) ≡ expr_code names h k a ++ operations_list names h k os
unfolding Rattle.ob_mean.specs.declared.expression.Argument.TheBlock.hidden-the_row-TypedExpr-1 denote.Hole.Carrier.hidden
chain_code names h k a os =
    ap (λ x. expr_code names h k a ++ x)
    (row_operations names h k (operations_in (Chain a os)).0 (operations_in (Chain a os)).1 ∙ ap (operations_list names h k) (items_hidden-the_row-Operation-2 os))

pub every_tree_code : (names : Names) (h k : ℕ) (es : List TypedExpr) → expr_code names h k (Every es) ≡ every_list names h k es
every_tree_code names h k es =
    row_every names h k (exprs_in (Every es)).0 (exprs_in (Every es)).1 ∙ ap (every_list names h k) (items_hidden-the_row-TypedExpr-3 es)

pub either_tree_code : (names : Names) (h k : ℕ) (es : List TypedExpr) → expr_code names h k (Either es) ≡ either_list names h k es
either_tree_code names h k es =
    row_either names h k (exprs_in (Either es)).0 (exprs_in (Either es)).1 ∙ ap (either_list names h k) (items_hidden-the_row-TypedExpr-3 es)

pub function_code : (names : Names) (h k : ℕ) (f : Callee) (l : ℕ) (args : List Argument) → expr_code names h k (Function f l args) ≡ passed_code names h k args ++ line (h + list_values args) (k + list_names args) (instr.Invoke f l) ∷ []
function_code names h k f l args =
    let row = (arguments_in (Function f l args)).1 in
    let same = items_hidden-the_row-Argument-4 args in
    ap (λ x. x ++ line (h + row_values row) (k + row_names row) (instr.Invoke f l) ∷ []) (row_arguments names h k _ row ∙ ap (passed_code names h k) same)
    ∙ ap (λ x. passed_code names h k args ++ line (h + x) (k + row_names row) (instr.Invoke f l) ∷ []) (values_of_row _ row ∙ ap list_values same)
    ∙ ap (λ x. passed_code names h k args ++ line (h + list_values args) (k + x) (instr.Invoke f l) ∷ []) (names_of_row _ row ∙ ap list_names same)

-- ---- designators

pub element_offset : (names : Names) (h k : ℕ) (d : Designator) (l : ℕ) (e : TypedExpr) → offset_code names h k (designator.Element d l e) ≡ offset_code names h k d ++ (expr_code names (h + 1) k e ++ line (h + 2) k (instr.Index (length_of names d) (element_cells names d) l) ∷ [])
unfolding Rattle.ob_mean.specs.declared.expression.Argument.TheBlock.hidden-the_row-TypedExpr-1 Rattle.ob_mean.specs.declared.expression.Argument.TheBlock.hidden-the_row-Designator-0 denote.Hole.Carrier.hidden
element_offset names h k d l e = refl

pub field_offset : (names : Names) (h k : ℕ) (d : Designator) (i : ℕ) → offset_code names h k (designator.Field d i) ≡ offset_code names h k d ++ field_code (h + 1) k d (before (zero_in (object_of names d)) i)
unfolding Rattle.ob_mean.specs.declared.expression.Argument.TheBlock.hidden-the_row-Designator-0 denote.Hole.Carrier.hidden
field_offset names h k d i = refl

pub element_root : (names : Names) (d : Designator) (l : ℕ) (e : TypedExpr) → root_in names (designator.Element d l e) ≡ root_in names d
unfolding Rattle.ob_mean.specs.declared.expression.Argument.TheBlock.hidden-the_row-Designator-0 denote.Hole.Carrier.hidden
element_root names d l e = refl

pub field_root : (names : Names) (d : Designator) (i : ℕ) → root_in names (designator.Field d i) ≡ root_in names d
unfolding Rattle.ob_mean.specs.declared.expression.Argument.TheBlock.hidden-the_row-Designator-0 denote.Hole.Carrier.hidden
field_root names d i = refl

pub guarded_root : (names : Names) (d : Designator) (l : ℕ) (kind : RecordKind) (levels : ℕ) → root_in names (designator.Guarded d l kind levels) ≡ root_in names d
unfolding Rattle.ob_mean.specs.declared.expression.Argument.TheBlock.hidden-the_row-Designator-0 denote.Hole.Carrier.hidden
guarded_root names d l kind levels = refl

pub guarded_offset : (names : Names) (h k : ℕ) (d : Designator) (l : ℕ) (kind : RecordKind) (levels : ℕ) → offset_code names h k (designator.Guarded d l kind levels) ≡ offset_code names h k d ++ line (h + 1) k (instr.Guard (name_in names d) kind.names trap.Guard l) ∷ []
unfolding Rattle.ob_mean.specs.declared.expression.Argument.TheBlock.hidden-the_row-Designator-0 denote.Hole.Carrier.hidden
guarded_offset names h k d l kind levels = refl

pub guarded_object : (names : Names) (d : Designator) (l : ℕ) (kind : RecordKind) (levels : ℕ) → object_of names (designator.Guarded d l kind levels) ≡ Some (Of kind.shape)
unfolding Rattle.ob_mean.specs.declared.expression.Argument.TheBlock.hidden-the_row-Designator-0 denote.Hole.Carrier.hidden
guarded_object names d l kind levels = refl

pub guarded_read : (names : Names) (h k : ℕ) (d : Designator) (l : ℕ) (kind : RecordKind) (levels : ℕ) (off : List Line) → read_code names h k (designator.Guarded d l kind levels) off ≡ off ++ line (h + 1) k (instr.LoadAt (root_in names (designator.Guarded d l kind levels))) ∷ []
unfolding Rattle.ob_mean.specs.declared.expression.Argument.TheBlock.hidden-the_row-Designator-0 denote.Hole.Carrier.hidden
guarded_read names h k d l kind levels off = refl

pub element_object : (names : Names) (d : Designator) (l : ℕ) (e : TypedExpr) → object_of names (designator.Element d l e) ≡ shape_object (elements_in (object_of names d))
unfolding Rattle.ob_mean.specs.declared.expression.Argument.TheBlock.hidden-the_row-Designator-0 denote.Hole.Carrier.hidden
element_object names d l e = refl

pub field_object : (names : Names) (d : Designator) (i : ℕ) → object_of names (designator.Field d i) ≡ field_in (object_of names d) i
unfolding Rattle.ob_mean.specs.declared.expression.Argument.TheBlock.hidden-the_row-Designator-0 denote.Hole.Carrier.hidden
field_object names d i = refl

pub element_read : (names : Names) (h k : ℕ) (d : Designator) (l : ℕ) (e : TypedExpr) (off : List Line) → read_code names h k (designator.Element d l e) off ≡ off ++ line (h + 1) k (instr.LoadAt (root_in names (designator.Element d l e))) ∷ []
unfolding Rattle.ob_mean.specs.declared.expression.Argument.TheBlock.hidden-the_row-Designator-0 denote.Hole.Carrier.hidden
element_read names h k d l e off = refl

pub field_read : (names : Names) (h k : ℕ) (d : Designator) (i : ℕ) (off : List Line) → read_code names h k (designator.Field d i) off ≡ off ++ line (h + 1) k (instr.LoadAt (root_in names (designator.Field d i))) ∷ []
unfolding Rattle.ob_mean.specs.declared.expression.Argument.TheBlock.hidden-the_row-Designator-0 denote.Hole.Carrier.hidden
field_read names h k d i off = refl

-- ---- what was emitted

pub element_emitted : (names : Names) (h k : ℕ) (base c1 c2 c3 : List Line) (d d' : Designator) (e e' : TypedExpr) (l : ℕ) (len : Length) (cells : ℕ) (o : Option Object) (r : Root) → c1 ≡ base ++ offset_code names h k d' → c2 ≡ c1 ++ expr_code names (h + 1) k e' → c3 ≡ c2 ++ line (h + 2) k (instr.Index len cells l) ∷ [] → r ≡ root_in names d' → o ≡ object_of names d' → len ≡ length_in o r → cells ≡ size (zero_element (elements_in o)) → d' ≡ d → e' ≡ e → c3 ≡ base ++ offset_code names h k (designator.Element d l e)
element_emitted names h k base c1 c2 c3 d d' e e' l len cells o r e1 e2 e3 er eo el ec ed ee =
    let len_is : len ≡ length_of names d' = el ∙ ap (λ x. length_in x r) eo ∙ ap (length_in (object_of names d')) er in
    let cells_is : cells ≡ element_cells names d' = ec ∙ ap (λ x. size (zero_element (elements_in x))) eo in
    e3 ∙ two_more base (offset_code names h k d') (expr_code names (h + 1) k e') c1 c2 (line (h + 2) k (instr.Index len cells l)) e1 e2
    ∙ ap (λ x. base ++ (offset_code names h k d' ++ (expr_code names (h + 1) k e' ++ line (h + 2) k (instr.Index x cells l) ∷ []))) len_is
    ∙ ap (λ x. base ++ (offset_code names h k d' ++ (expr_code names (h + 1) k e' ++ line (h + 2) k (instr.Index (length_of names d') x l) ∷ []))) cells_is
    ∙ ap (λ x. base ++ (offset_code names h k d' ++ (expr_code names (h + 1) k x ++ line (h + 2) k (instr.Index (length_of names d') (element_cells names d') l) ∷ []))) ee
    ∙ ap (λ x. base ++ (offset_code names h k x ++ (expr_code names (h + 1) k e ++ line (h + 2) k (instr.Index (length_of names x) (element_cells names x) l) ∷ []))) ed
    ∙ ap (λ x. base ++ x) (sym (element_offset names h k d l e))

pub field_emitted : (names : Names) (h k : ℕ) (base c1 c2 : List Line) (d d' : Designator) (i m : ℕ) (o : Option Object) → c1 ≡ base ++ offset_code names h k d' → c2 ≡ c1 ++ field_code (h + 1) k d' m → o ≡ object_of names d' → m ≡ before (zero_in o) i → d' ≡ d → c2 ≡ base ++ offset_code names h k (designator.Field d i)
field_emitted names h k base c1 c2 d d' i m o e1 e2 eo em ed =
    e2 ∙ ap (λ l. l ++ field_code (h + 1) k d' m) e1 ∙ append_assoc base (offset_code names h k d') (field_code (h + 1) k d' m)
    ∙ ap (λ x. base ++ (offset_code names h k d' ++ field_code (h + 1) k d' x)) (em ∙ ap (λ x. before (zero_in x) i) eo)
    ∙ ap (λ x. base ++ (offset_code names h k x ++ field_code (h + 1) k x (before (zero_in (object_of names x)) i))) ed
    ∙ ap (λ x. base ++ x) (sym (field_offset names h k d i))

pub guarded_emitted : (names : Names) (h k : ℕ) (base c1 c2 : List Line) (d d' : Designator) (l : ℕ) (kind : RecordKind) (levels number : ℕ) (types : TypeNames) (r : Root) → c1 ≡ base ++ offset_code names h k d' → c2 ≡ c1 ++ line (h + 1) k (instr.Guard number types trap.Guard l) ∷ [] → r ≡ root_in names d' → number ≡ name_number r → types ≡ kind.names → d' ≡ d → c2 ≡ base ++ offset_code names h k (designator.Guarded d l kind levels)
guarded_emitted names h k base c1 c2 d d' l kind levels number types r e1 e2 er en et ed =
    e2 ∙ one_more base (offset_code names h k d') c1 (line (h + 1) k (instr.Guard number types trap.Guard l)) e1
    ∙ ap (λ x. base ++ (offset_code names h k d' ++ line (h + 1) k (instr.Guard x types trap.Guard l) ∷ [])) (en ∙ ap name_number er)
    ∙ ap (λ x. base ++ (offset_code names h k d' ++ line (h + 1) k (instr.Guard (name_in names d') x trap.Guard l) ∷ [])) et
    ∙ ap (λ x. base ++ (offset_code names h k x ++ line (h + 1) k (instr.Guard (name_in names x) kind.names trap.Guard l) ∷ [])) ed
    ∙ ap (λ x. base ++ x) (sym (guarded_offset names h k d l kind levels))
