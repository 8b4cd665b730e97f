use Rattle.ncroute.proofs.requests.answer.Goals as goal

pub returns-in-Check-clause-finished : goal.returns-in-Check-clause-finished
returns-in-Check-clause-finished g c = rw c.in-Check.is (rw c.as_slice.ensures.value at c.run_on_all.ensures.finished)

pub returns-in-Check-clause-stopped : goal.returns-in-Check-clause-stopped
returns-in-Check-clause-stopped g c = rw c.in-Check.is (rw c.as_slice.ensures.value at c.run_on_all.ensures.stopped)

pub returns-in-Lint-clause-finished : goal.returns-in-Lint-clause-finished
returns-in-Lint-clause-finished g c = rw c.in-Lint.is (rw c.as_slice-in-Lint.ensures.value at c.run_on_all-in-Lint.ensures.finished)

pub returns-in-Lint-clause-stopped : goal.returns-in-Lint-clause-stopped
returns-in-Lint-clause-stopped g c = rw c.in-Lint.is (rw c.as_slice-in-Lint.ensures.value at c.run_on_all-in-Lint.ensures.stopped)

pub returns-in-List-clause-stopped : goal.returns-in-List-clause-stopped
returns-in-List-clause-stopped g c = rw c.in-List.is c.run_on.ensures.stopped
