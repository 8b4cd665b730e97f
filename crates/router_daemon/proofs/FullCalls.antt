-- Calls that a full history had no room for.
use Rattle.std.proofs.Common.{◌≡◌, ◌∙◌, ap, inl, inr, subst, ℕ, ◌≤◌, List, ◌++◌, append_assoc, arith}
use Rattle.neighbour_session.specs.Calls.{IsUnopened, Opens as Up}
use Rattle.neighbour_session.specs.declared.ends.SessionEnd.{SessionEnd}
use Rattle.neighbour_session.specs.declared.ends.SessionEnd.TheVariants as end
use Rattle.route_history.specs.declared.entry.Entry.{Entry}
use Rattle.route_history.specs.declared.fault.CallFault.{CallFault}
use Rattle.route_history.specs.declared.fault.CallFault.TheVariants as fault
use Rattle.slot_lock.specs.Calls.{Refused}
use Rattle.slot_lock.specs.Passes.{PassView, RouterView}
use Rattle.slot_lock.specs.declared.answer.Answer.{Answer}
use Rattle.router_daemon.specs.Links.{IsOwed}
use Rattle.router_daemon.specs.Sessions.{HasWaited, OpensLater, OpensNever}

-- one such call, and then another
full_both : (r : RouterView) (a b c : PassView) → Refused fault.Full r a b → Refused fault.Full r b c → Refused fault.Full r a c
full_both r a b c h k = record {
  begins = record {
    rest = h.begins.rest ++ k.begins.rest;
    is = k.begins.is ∙ ap (λ (l : List Entry). l ++ k.begins.rest) h.begins.is ∙ append_assoc a.fragment.seen h.begins.rest k.begins.rest;
  };
  legal = k.legal;
  full = k.full;
  whole = k.whole;
  on = omega (arith, h.on, k.on);
  mine = k.mine ∙ h.mine;
  shares = k.shares ∙ h.shares;
  alone = λ all. k.alone (h.shares ∙ all) ∙ h.alone all;
}

pub waited_more : (r : RouterView) (a b c : PassView) → HasWaited r a b → Refused fault.Full r b c → HasWaited r a c
waited_more r a b c h k = inr after
  where
    after : Refused fault.Full r a c
    after = elim h [ inl same ↦ subst (λ (p : PassView). Refused fault.Full r p c) same k | inr before ↦ full_both r a b c before k ]

pub waited_shares : (r : RouterView) (a b : PassView) → HasWaited r a b → b.fragment.shares ≡ a.fragment.shares
waited_shares r a b h = elim h [ inl same ↦ ap (λ (p : PassView). p.fragment.shares) same | inr before ↦ before.shares ]

-- an Up at a router that is this one, after such calls
pub opens_later : (at r : RouterView) (node : ℕ) (old mid : PassView) (session : ℕ) (a : Answer) (new : PassView) → at ≡ r → HasWaited r old mid →
    Up at node mid session a new → OpensLater r node old session a new
opens_later at r node old mid session a new named waited opens = record {
  mid = mid;
  waited = waited;
  opens = subst (λ (x : RouterView). Up x node mid session a new) named opens;
}

pub opens_never : (at r : RouterView) (node : ℕ) (old mid : PassView) (why : SessionEnd) (new : PassView) → at ≡ r → HasWaited r old mid →
    IsUnopened why at node mid new → (why ≡ end.Full → ⊥) → new.fragment.shares ≡ old.fragment.shares →
    OpensNever r node old why new
opens_never at r node old mid why new named waited unopened passes shares = record {
  mid = mid;
  waited = waited;
  unopened = subst (λ (x : RouterView). IsUnopened why x node mid new) named unopened;
  passes = passes;
  shares = shares;
}

-- why an Up was not entered that may be later
pub full_of : (why : SessionEnd) (r : RouterView) (node : ℕ) (old new : PassView) → why ≡ end.Full → IsUnopened why r node old new →
    Refused fault.Full r old new
full_of why r node old new is h = subst (λ (x : SessionEnd). IsUnopened x r node old new) is h

-- a Down that was refused, by a router that is this one
pub is_owed : (at r : RouterView) (why : CallFault) (old new : PassView) → at ≡ r → Refused why at old new → IsOwed r old new
is_owed at r why old new named h = (why, subst (λ (x : RouterView). Refused why x old new) named h)
