-- What is begun has its text's meaning.
use Rattle.std.proofs.Common.{◌≡◌, ℕ, zero, suc, Bool, true, false, List, [], ◌∷◌, None, Ok, inr, if◌then◌else◌, refl, sym, ap, ◌∙◌, subst, arith}
use Rattle.std.specs.Prelude.{Vec}
use Rattle.std.specs.Str.{bytes_eq}
use Rattle.std.specs.declared.alloc.Global.{Global}
use Rattle.std.proofs.lemmas.Slice.Eq.{bytes_eq-Decides}
use Rattle.ob_base.specs.declared.fault.Fault as base_fault
use Rattle.ob_base.specs.declared.fault.Refused as base
use Rattle.ob_base.specs.declared.fault.Refused.TheVariants as refused
use Rattle.ob_tree.specs.declared.tree.Cell.{Cell}
use Rattle.ob_check_scope.specs.Rule.{answer}
use Rattle.ob_check_scope.proofs.Exact.{found}
use Rattle.ob_mean.specs.Programs.{Command, body_meaning, world_before}
use Rattle.ob_mean.specs.Runs.{supply}
use Rattle.ob_mean.specs.Values.{Value}
use Rattle.ob_session.specs.Session.{Session, Module, name_of, place_of, link_fault, with_module, installed, program_of}
use Rattle.ob_session.specs.Cells as cells
use Rattle.ob_session.specs.Cells.{Checked, OfModule, OfCommands, CommandName, checked_meaning, module_meaning, commands_by, all_ready, ran, unlinked}
use Rattle.ob_cell.specs.Texts.{cell_rule}
use Rattle.ob_link.specs.declared.command.LinkFault as link
use Rattle.ob_link.specs.Looking.{fault_seen, in_store}
use Rattle.ob_load.specs.declared.task.Task.{Task}
use Rattle.ob_load.specs.declared.task.Task.TheVariants.{Body, Commands}
use Rattle.ob_load.specs.MachineState.{MachineState, begun_in, state_of}
use Rattle.ob_load.specs.Parts.{told, told_fault}
use Rattle.ob_load.specs.Tasks.{task_run}
use Rattle.ob_cell.specs.Planned as planning
use Rattle.ob_cell.specs.Planned.{IsPlanned, IsStaticRefusal}
use Rattle.ob_cell.specs.declared.planned.Plan.{Plan}
use Rattle.ob_cell.specs.declared.planned.Plan.TheVariants as plan
use Rattle.ob_cell.specs.declared.planned.Planned.{Planned}
use Rattle.jk_language.specs.declared.outcome.Fault.{Fault}
use Rattle.jk_language.specs.declared.outcome.LinkFault.{LinkFault}
use Rattle.jk_language.specs.declared.outcome.Refusal.TheVariants.{Compile}
use Rattle.jk_language.specs.Beginning.{IsFresh}
use Rattle.jk_language.specs.Parts.{Line}
use Rattle.ob_cell.specs.Codes.{code_number}
use Rattle.ob_cell.specs.Oberon.{spoken_oberon, IsTreeOf, IsBroken, IsUnlinked, IsRefusedFor, DoesNotLink}
use Rattle.ob_cell.proofs.Lawful.{cell_means}

-- ---- a task that is begun means what its cell does

equal_name : (a : List ℕ) → bytes_eq a a ≡ true
equal_name a = let d = bytes_eq-Decides a a in grind (arith, d)

-- a module keeps its place where it is loaded
place_kept : (ms : List Module) (m : Module) → place_of (with_module ms m) (name_of m) ≡ place_of ms (name_of m)
place_kept [] m = ap (λ b. if b then zero else suc zero) (equal_name (name_of m))
place_kept (x ∷ ms) m = by (bytes_eq (name_of x) (name_of m)) refl (place_kept ms m)
  where
    by : (b : Bool) → bytes_eq (name_of x) (name_of m) ≡ b → place_of (with_module ms m) (name_of m) ≡ place_of ms (name_of m) → place_of (if b then m ∷ ms else x ∷ with_module ms m) (name_of m) ≡ (if b then zero else suc (place_of ms (name_of m)))
    by true t later = ap (λ c. if c then zero else suc (place_of ms (name_of m))) (equal_name (name_of m))
    by false t later = ap (λ c. if c then zero else suc (place_of (with_module ms m) (name_of m))) t ∙ ap suc later

-- a module that links means what its body does once it is loaded
body_means : (s : Session) (m : Module) (lines : List Line) (n : ℕ) → link_fault s.modules m.imports ≡ None → task_run (installed s m).modules (installed s m).store (Body (place_of s.modules (name_of m))) lines n ≡ checked_meaning s (OfModule m) lines n
unfolding task_run checked_meaning
body_means s m lines n links =
    ap (λ p. ran (installed s m).modules (supply n lines) (body_meaning (program_of (installed s m).modules) p (supply n lines) (world_before (installed s m).store))) (sym (place_kept s.modules m))
    ∙ ap (λ f. module_meaning f s m lines n) (sym links)

-- commands that were all looked up mean what they do one after the other
commands_mean : (s : Session) (names : List CommandName) (cs : Vec Command Global) (lines : List Line) (n : ℕ) → all_ready s names ≡ cells.Runs cs.items → task_run s.modules s.store (Commands cs) lines n ≡ checked_meaning s (OfCommands names) lines n
unfolding task_run checked_meaning
commands_mean s names cs lines n h = ap (λ r. commands_by r s lines n) (sym h)

-- ---- machines

fresh : (s began : Session) (text : List ℕ) (tree : Cell) (checked : Checked) (task : Task) (m : MachineState) → IsTreeOf text tree → answer (cell_rule s tree) ≡ Ok checked → ((lines : List Line) (n : ℕ) → task_run began.modules began.store task lines n ≡ checked_meaning s checked lines n) → m ≡ begun_in began task → IsFresh spoken_oberon s text (state_of m)
fresh s began text tree checked task m is keeps means e = subst (λ (x : MachineState). IsFresh spoken_oberon s text (state_of x)) (sym e) (record {
  lines = refl;
  turns = refl;
  shown = refl;
  quiet = refl;
  on = refl;
  goes = λ lines n. ap told (means lines n) ∙ sym (cell_means s text tree checked is (found (cell_rule s tree) checked keeps) lines n);
})

pub fresh_module : (s : Session) (text : List ℕ) (tree : Cell) (p : Planned) (m : MachineState) → IsTreeOf text tree → IsPlanned s tree (plan.Module p) → m ≡ begun_in (installed s p.«module») (Body (place_of s.modules (name_of p.«module»))) → IsFresh spoken_oberon s text (state_of m)
fresh_module s text tree p m is h e =
    fresh s (installed s p.«module») text tree (OfModule p.«module») (Body (place_of s.modules (name_of p.«module»))) m is h.0 (λ lines n. body_means s p.«module» lines n h.1.links) e

pub fresh_commands : (s : Session) (text : List ℕ) (tree : Cell) (cs : Vec Command Global) (m : MachineState) → IsTreeOf text tree → IsPlanned s tree (plan.Commands cs) → m ≡ begun_in s (Commands cs) → IsFresh spoken_oberon s text (state_of m)
fresh_commands s text tree cs m is h e =
    fresh s s text tree (OfCommands h.0) (Commands cs) m is h.1 (λ lines n. commands_mean s h.0 cs lines n h.2) e

-- ---- refusals

does_not_link : (s : Session) (c : Checked) (fault : cells.LinkFault) → planning.IsUnlinked s c fault → DoesNotLink s c fault
unfolding checked_meaning
does_not_link s (OfModule m) fault h = λ lines n. ap (λ f. module_meaning f s m lines n) h.1 ∙ ap (λ f. unlinked s f) (sym h.2)
does_not_link s (OfCommands names) fault h = λ lines n. ap (λ r. commands_by r s lines n) h

pub refused_link : (s : Session) (text : List ℕ) (tree : Cell) (fault : link.LinkFault) (shown : LinkFault) → IsTreeOf text tree → IsPlanned s tree (plan.Unlinked fault) → shown ≡ told_fault (fault_seen fault) → IsUnlinked s text shown
unfolding IsTreeOf IsUnlinked
refused_link s text tree fault shown is h e =
    (tree, is, h.0, found (cell_rule s tree) h.0 h.1, fault_seen fault, does_not_link s h.0 (fault_seen fault) h.2, e)

pub refused_rule : (s : Session) (text : List ℕ) (tree : Cell) (fault : base_fault.Fault) (shown : Fault) → IsTreeOf text tree → IsStaticRefusal s tree (refused.Fault fault) → shown.number ≡ code_number fault.code → IsRefusedFor s text (Compile shown)
unfolding IsTreeOf IsBroken
refused_rule s text tree fault shown is h e = (fault.code, e, inr (tree, is, h))

-- ---- plans over the modules of a session

pub planned_in : (s : Session) (cell seen : Cell) (ms : List Module) (p q : Plan) → ms ≡ s.modules → seen ≡ cell → p ≡ q → ((store : Value) → IsPlanned (in_store ms store) seen p) → IsPlanned s cell q
planned_in s cell seen ms p q e g f h = subst (λ (x : Plan). IsPlanned s cell x) f (subst (λ (xs : List Module). IsPlanned (in_store xs s.store) cell p) e (subst (λ (t : Cell). IsPlanned (in_store ms s.store) t p) g (h s.store)))

pub refused_in : (s : Session) (cell seen : Cell) (ms : List Module) (p q : base.Refused) → ms ≡ s.modules → seen ≡ cell → p ≡ q → ((store : Value) → IsStaticRefusal (in_store ms store) seen p) → IsStaticRefusal s cell q
refused_in s cell seen ms p q e g f h = subst (λ (x : base.Refused). IsStaticRefusal s cell x) f (subst (λ (xs : List Module). IsStaticRefusal (in_store xs s.store) cell p) e (subst (λ (t : Cell). IsStaticRefusal (in_store ms s.store) t p) g (h s.store)))
