use Rattle.nfs_streams.proofs.Steps.{arrival, quiet}
use Rattle.nfs_streams.proofs.places.admit_next.Goals as goal

pub returns-in-Here-clause-moves : goal.returns-in-Here-clause-moves
returns-in-Here-clause-moves g c = λ n o same st. c.admit.ensures.moves n o same (arrival _ c.in-Here.ensures st)

pub returns-in-Nobody-clause-moves : goal.returns-in-Nobody-clause-moves
returns-in-Nobody-clause-moves g c = λ n o same st. quiet _ c.in-Nobody.ensures st

pub returns-in-Waiting-clause-moves : goal.returns-in-Waiting-clause-moves
returns-in-Waiting-clause-moves g c = λ n o same st. quiet _ c.in-Waiting.ensures st
