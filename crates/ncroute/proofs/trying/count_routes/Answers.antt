use Rattle.std.proofs.Common.{refl}
use Rattle.ncroute.proofs.trying.count_routes.Goals.{in-Ok, in-Err}
use Rattle.ncroute.proofs.trying.count_routes.Goals as goal

pub returns-clause-finished : goal.returns-clause-finished
returns-clause-finished g c = λ size is.
    elim c.match-cover_routes.branch [
      | in-Ok w ↦ rw w.result-is (rw (← c.console.view_is) (record { answered = w.in-Ok.ensures.finished size is; tells = refl }))
      | in-Err w ↦ rw w.result-is tt
    ]

pub returns-clause-stopped : goal.returns-clause-stopped
returns-clause-stopped g c = λ size is.
    elim c.match-cover_routes.branch [
      | in-Ok w ↦ rw w.result-is tt
      | in-Err w ↦ rw w.result-is (rw (← c.console.view_is) (record { answered = w.in-Err.ensures.broken_off size is; tells = refl }))
    ]
