use Rattle.std.proofs.Common.{◌≡◌, [], inl, inr, refl, subst}
use Rattle.std.proofs.KnownBytes.{Consumes-nil}
use Rattle.std.proofs.lemmas.Result.{err_from_is_err_and}
use Rattle.link_handshake.specs.declared.said.Said.{Said}
use Rattle.link_handshake.specs.declared.said.Said.TheVariants as said
use Rattle.neighbour_session.specs.Greeting.{IsWelcome, TakesSaid}
use Rattle.neighbour_session.proofs.Meeting.{greeting_came, read_on, unheard}
use Rattle.neighbour_session.proofs.greeting.meet.Goals as goal

pub loop-init : goal.loop-init
loop-init g c = record { next = tt; finite = tt; read = ([], Consumes-nil c.args.input.now.left); before = inr refl }

pub returns-in_err-said-clause-unmet : goal.returns-in_err-said-clause-unmet
returns-in_err-said-clause-unmet g c =
    let p = err_from_is_err_and c.from_residual.result c.from_residual.ensures.1 in
    rw (p.1, p.2)
    (unheard c.in_err-said.field-0.0 c.args.domain c.args.neighbour c.loop.input c.take_said.new.input c.in_err-said.ensures.end)

pub returns-in-Some-hear-clause-met : goal.returns-in-Some-hear-clause-met
returns-in-Some-hear-clause-met g c =
    let m = c.in-Some-hear.meeting in
    let is : c.in_ok-said.said ≡ said.Greeting m.greeting = c.in-Some-hear.ensures.0 in
    record {
      of = subst (λ (s : Said). IsWelcome c.args.domain c.args.neighbour s) is c.in_ok-skipped.ensures.ok;
      answers = c.in-Some-hear.ensures.1;
      comes = greeting_came c.args.first c.loop.before c.args.input.now c.loop.input m.greeting c.take_said.new.input c.loop.invariant.before
          c.loop.invariant.read
          (subst (λ (s : Said). TakesSaid c.loop.before s c.loop.input c.take_said.new.input) is c.in_ok-said.ensures.said);
    }

pub loop-preserved : goal.loop-preserved
loop-preserved g c = record {
  next = tt;
  finite = tt;
  read = read_on c.args.input.now.left c.loop.before c.in_ok-said.said c.loop.input c.take_said.new.input c.loop.invariant.read
      c.in_ok-said.ensures.said;
  before = inl c.take_said.ensures.taken;
}
