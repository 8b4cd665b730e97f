-- What is told of a use is that of its event, and of what differs.
use Rattle.std.proofs.Common.{ℕ, List, ◌++◌, ap, sym, ◌∙◌}
use Rattle.router_operator.specs.Reloading.{put_words}
use Rattle.router_operator.proofs.operator.Operator.put_next.Goals as goal

pub returns-clause-ok : goal.returns-clause-ok
returns-clause-ok g c = (
  c.in_ok-replied.replied,
  c.in_ok-replied.differs.items,
  c.in_ok-replied.ensures.ok,
  sym c.is_refused-refused.ensures ∙ c.if-refused.false,
  c.in_ok-push_put.ensures.ok
      ∙ ap (λ (told : List ℕ). c.args.out.now.items ++ put_words c.args.used.now c.in_ok-replied.replied told) c.as_slice.ensures.value,
)
