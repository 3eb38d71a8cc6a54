-- What the code answers about commands, in the words of the definitions.
use Rattle.std.specs.Prelude.{List}
use Rattle.ob_mean.specs.Values.{Value, Nothing}
use Rattle.ob_session.specs.Session.{Session, Module}
use Rattle.ob_session.specs.Cells as cells
use Rattle.ob_link.specs.declared.command.LinkFault.{LinkFault}
use Rattle.ob_link.specs.declared.command.LinkFault.TheVariants.{NotLoaded, NoCommand, OtherKey}
use Rattle.ob_link.specs.declared.command.Looked.{Looked}
use Rattle.ob_link.specs.declared.command.Looked.TheVariants.{Found, Missing}
use Rattle.ob_link.specs.declared.command.Ready.{Ready}
use Rattle.ob_link.specs.declared.command.Ready.TheVariants.{Runs, Faulty}

abbrev pub fault_seen : LinkFault → cells.LinkFault
fault_seen (NotLoaded home) = cells.NotLoaded home
fault_seen (NoCommand home name) = cells.NoCommand home name
fault_seen (OtherKey name) = cells.OtherKey name

abbrev pub looked_seen : Looked → cells.Looked
looked_seen (Found command) = cells.Found command
looked_seen (Missing fault) = cells.Missing (fault_seen fault)

abbrev pub ready_seen : Ready → cells.Ready
ready_seen (Runs commands) = cells.Runs commands.items
ready_seen (Faulty fault) = cells.Faulty (fault_seen fault)

-- a session of these modules
abbrev pub in_store : List Module → Value → Session
in_store modules store = record { modules = modules; store = store }

-- one that has no variables, by which look-ups don't go
abbrev pub storeless : List Module → Session
storeless modules = in_store modules Nothing
