use Rattle.std.proofs.Common.{refl}
use Rattle.matchit.proofs.OnLiterals.{matchit_on_literals}
use Rattle.js_rest.specs.Routes.{table, with_route}
use Rattle.js_rest.proofs.route.routes_law.Goals as goal

pub returns-clause-version : goal.returns-clause-version
unfolding matchit_on_literals table with_route
returns-clause-version c = refl

pub returns-clause-shutdown : goal.returns-clause-shutdown
unfolding matchit_on_literals table with_route
returns-clause-shutdown c = refl

pub returns-clause-specs : goal.returns-clause-specs
unfolding matchit_on_literals table with_route
returns-clause-specs c = refl

pub returns-clause-kernels : goal.returns-clause-kernels
unfolding matchit_on_literals table with_route
returns-clause-kernels c = refl

pub returns-clause-kernel : goal.returns-clause-kernel
unfolding matchit_on_literals table with_route
returns-clause-kernel c = refl

pub returns-clause-interrupt : goal.returns-clause-interrupt
unfolding matchit_on_literals table with_route
returns-clause-interrupt c = refl

pub returns-clause-restart : goal.returns-clause-restart
unfolding matchit_on_literals table with_route
returns-clause-restart c = refl

pub returns-clause-channels : goal.returns-clause-channels
unfolding matchit_on_literals table with_route
returns-clause-channels c = refl

pub returns-clause-sessions : goal.returns-clause-sessions
unfolding matchit_on_literals table with_route
returns-clause-sessions c = refl

pub returns-clause-session : goal.returns-clause-session
unfolding matchit_on_literals table with_route
returns-clause-session c = refl

pub returns-clause-root : goal.returns-clause-root
unfolding matchit_on_literals table with_route
returns-clause-root c = refl

pub returns-clause-below : goal.returns-clause-below
unfolding matchit_on_literals table with_route
returns-clause-below c = refl

pub returns-clause-none : goal.returns-clause-none
unfolding matchit_on_literals table with_route
returns-clause-none c = refl

pub returns-clause-other : goal.returns-clause-other
unfolding matchit_on_literals table with_route
returns-clause-other c = refl

pub returns-clause-page : goal.returns-clause-page
unfolding matchit_on_literals table with_route
returns-clause-page c = refl

pub returns-clause-nothing : goal.returns-clause-nothing
unfolding matchit_on_literals table with_route
returns-clause-nothing c = refl

pub returns-clause-icon : goal.returns-clause-icon
unfolding matchit_on_literals table with_route
returns-clause-icon c = refl
