-- To be believed.
-- The name and the value of an error.
use Rattle.std.specs.Prelude.{ℕ, List, [], ◌++◌, codes, decimal, flat_map}
use Rattle.std.specs.Char.{encode_utf8}
use Rattle.jk_language.specs.declared.outcome.Fault.{Fault}
use Rattle.jk_language.specs.declared.outcome.LinkFault.{LinkFault}
use Rattle.jk_language.specs.declared.outcome.LinkFault.TheVariants.{NotLoaded, NoCommand, OtherKey}
use Rattle.jk_language.specs.declared.outcome.Refusal.{Refusal}
use Rattle.jk_language.specs.declared.outcome.Refusal.TheVariants.{Compile, Link}
use Rattle.jk_language.specs.declared.outcome.Trap.{Trap}
use Rattle.jp_msg.specs.declared.message.Failure.{Failure}
use Rattle.jk_log.specs.declared.mark.Cause.{Cause}
use Rattle.jk_log.specs.declared.mark.Cause.TheVariants.{Memory, Interrupted, Restarted}

-- a refusal by compiling: its number, line and column
unfoldable pub compile_failure : Fault → Failure
compile_failure fault = record {
  ename = codes "CompileError";
  evalue = codes "compile error " ++ decimal fault.number ++ codes " at " ++ decimal fault.line ++ codes ":" ++ decimal fault.column;
}

-- 30 and the module that is not loaded, 31 and the command that its module does not have, or 32 and the module that is not
-- loaded with the key that was recorded for it
unfoldable pub link_value : LinkFault → List ℕ
link_value (NotLoaded home) = codes "link error 30: " ++ flat_map encode_utf8 home
link_value (NoCommand home name) = codes "link error 31: " ++ flat_map encode_utf8 home ++ codes "." ++ flat_map encode_utf8 name
link_value (OtherKey home) = codes "link error 32: " ++ flat_map encode_utf8 home

abbrev pub link_failure : LinkFault → Failure
link_failure fault = record { ename = codes "LinkError"; evalue = link_value fault }

abbrev pub refusal_failure : Refusal → Failure
refusal_failure (Compile fault) = compile_failure fault
refusal_failure (Link fault) = link_failure fault

-- a trap: its number, its module, whose name has characters up to U+00FF, and its line
unfoldable pub trap_failure : Trap → Failure
trap_failure trap = record {
  ename = codes "Trap";
  evalue = codes "trap " ++ decimal trap.number ++ codes " in " ++ flat_map encode_utf8 trap.«module» ++ codes ", line " ++ decimal trap.line;
}

-- a stop
unfoldable pub cause_failure : Cause → Failure
cause_failure Memory = record { ename = codes "Memory"; evalue = [] }
cause_failure Interrupted = record { ename = codes "Interrupted"; evalue = [] }
cause_failure Restarted = record { ename = codes "Restarted"; evalue = [] }
