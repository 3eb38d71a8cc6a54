-- The tree of a cell may go to another thread.
use denote.Param.Send.{IsSend, sendable}
use Rattle.std.proofs.Crossing.{crosses}
use Rattle.ob_base.proofs.boxed.Boxed.TheSendSync as boxed
use Rattle.ob_base.proofs.items.Items.TheSendSync as items
use Rattle.ob_base.proofs.text.Text.TheSendSync as text
use Rattle.ob_scan.proofs.token.Span.TheSendSync as span
use Rattle.ob_tree.proofs.tree.Command.TheSendSync as command
use Rattle.ob_tree.proofs.tree.Ident.TheSendSync as ident
use Rattle.ob_tree.proofs.tree.IdentDef.TheSendSync as ident_def
use Rattle.ob_tree.proofs.tree.Import.TheSendSync as imported
use Rattle.ob_tree.proofs.tree.LabelRange.TheSendSync as label_range
use Rattle.ob_tree.proofs.tree.Qualident.TheSendSync as qualident
use Rattle.ob_tree.proofs.tree.Declarations.TheLaws.TheKnot as declarations_knot
use Rattle.ob_tree.proofs.tree.Factor.TheLaws.TheKnot as expression_knot
use Rattle.ob_tree.proofs.tree.FormalType.TheLaws.TheKnot as formal_knot
use Rattle.ob_tree.proofs.tree.Statement.TheLaws.TheKnot as statement_knot
use Rattle.ob_tree.proofs.tree.TypeExpr.TheLaws.TheKnot as type_knot
use Rattle.ob_tree.specs.contracts.tree.Cell as Cell
use Rattle.ob_tree.specs.contracts.tree.ConstDeclaration as ConstDeclaration
use Rattle.ob_tree.specs.contracts.tree.Declarations as Declarations
use Rattle.ob_tree.specs.contracts.tree.Designator as Designator
use Rattle.ob_tree.specs.contracts.tree.Expr as Expr
use Rattle.ob_tree.specs.contracts.tree.ForHead as ForHead
use Rattle.ob_tree.specs.contracts.tree.FormalSection as FormalSection
use Rattle.ob_tree.specs.contracts.tree.FormalType as FormalType
use Rattle.ob_tree.specs.contracts.tree.Formals as Formals
use Rattle.ob_tree.specs.contracts.tree.Module as Module
use Rattle.ob_tree.specs.contracts.tree.Returned as Returned
use Rattle.ob_tree.specs.contracts.tree.Statement as Statement
use Rattle.ob_tree.specs.contracts.tree.TypeDeclaration as TypeDeclaration
use Rattle.ob_tree.specs.contracts.tree.TypeExpr as TypeExpr
use Rattle.ob_tree.specs.contracts.tree.TypedNames as TypedNames

ruleset leaves = (ident.the_field_send, ident_def.the_field_send, qualident.the_field_send, label_range.the_field_send, imported.the_field_send, command.the_field_send, text.the_send, span.the_field_send, boxed.the_send, items.the_send)

expr_send : IsSend Expr.the_row
expr_send = search (leaves, crosses, expression_knot.crosses, sendable) depth 60 fits 20000

designator_send : IsSend Designator.the_field.row
designator_send = search (leaves, crosses, expression_knot.crosses, sendable) depth 60 fits 20000

for_head_send : IsSend ForHead.the_field.row
for_head_send = search (expr_send, leaves, sendable) depth 20

statement_send : IsSend Statement.the_row
statement_send = search (expr_send, designator_send, for_head_send, leaves, crosses, statement_knot.crosses, sendable) depth 60 fits 20000

type_send : IsSend TypeExpr.the_row
type_send = search (expr_send, leaves, crosses, type_knot.crosses, sendable) depth 60 fits 20000

typed_names_send : IsSend TypedNames.the_row
typed_names_send = search (expr_send, leaves, crosses, type_knot.crosses, sendable) depth 60 fits 20000

formal_send : IsSend FormalType.the_row
formal_send = search (leaves, crosses, formal_knot.crosses, sendable) depth 60 fits 20000

section_send : IsSend FormalSection.the_field.row
section_send = search (formal_send, leaves, sendable) depth 20

formals_send : IsSend Formals.the_field.row
formals_send = search (section_send, leaves, sendable) depth 20

const_send : IsSend ConstDeclaration.the_field.row
const_send = search (expr_send, leaves, sendable) depth 20

type_declaration_send : IsSend TypeDeclaration.the_field.row
type_declaration_send = search (type_send, leaves, sendable) depth 20

returned_send : IsSend Returned.the_field.row
returned_send = search (expr_send, leaves, sendable) depth 20

declarations_send : IsSend Declarations.the_row
declarations_send = search (const_send, type_declaration_send, typed_names_send, formals_send, returned_send, statement_send, leaves, crosses, declarations_knot.crosses, sendable) depth 60 fits 20000

module_send : IsSend Module.the_field.row
module_send = search (declarations_send, statement_send, leaves, sendable) depth 20

-- as a field of another type, and alone
pub cell_field_send : IsSend Cell.the_field.row
cell_field_send = search (module_send, leaves, sendable) depth 20

pub cell_send : IsSend Cell.the_row
cell_send = search (cell_field_send, sendable)
