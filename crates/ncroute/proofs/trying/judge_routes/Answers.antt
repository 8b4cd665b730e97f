use Rattle.ncroute.proofs.trying.judge_routes.Goals as goal

pub returns-in-Ok-clause-finished : goal.returns-in-Ok-clause-finished
returns-in-Ok-clause-finished g c = λ size text is.
    let v = is.verified in
    rw (← c.console.view_is) (record {
      filter = v.filter;
      is_filter = record { program = _; translates = v.translates; safe = rw v.size_is at v.safe };
      answered = c.in-Ok.ensures.finished size text v;
      quiet = c.in-Ok.ensures.quiet;
    })

pub returns-clause-stopped : goal.returns-clause-stopped
returns-clause-stopped g c = λ size text is.
    let v = is.verified in
    rw (← c.console.view_is) (record {
      filter = v.filter;
      is_filter = record { program = _; translates = v.translates; safe = rw v.size_is at v.safe };
      answered = c.in-Err.ensures.broken_off size text v;
      quiet = c.in-Err.ensures.quiet;
    })
