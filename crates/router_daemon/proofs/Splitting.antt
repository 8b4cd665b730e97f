-- A pass that has seen a legal history is split.
use Rattle.std.proofs.Common.{◌≡◌, sym, subst, ℕ, []}
use Rattle.route_history.specs.History.{IsLegal}
use Rattle.slot_lock.specs.Passes.{Fragment, IsPassOf, PassView, RouterView}
use Rattle.router_daemon.specs.Passes.{IsLegalPass}

-- what is left of it, at a router that is this one
pub legal_rest : (at r : RouterView) (old new : PassView) (n : ℕ) → at ≡ r → IsLegalPass r old → IsPassOf at new →
    new ≡ record old { fragment = record old.fragment { shares = n } } → IsLegalPass r new
legal_rest at r old new n named h of is = record {
  of = subst (λ (x : RouterView). IsPassOf x new) named of;
  legal = subst (λ (p : PassView). IsLegal r.opening p.fragment.seen) (sym is) h.legal;
}

-- the new one
pub legal_cut : (at r : RouterView) (old new : PassView) (n : ℕ) → at ≡ r → IsLegalPass r old → IsPassOf at new →
    new.fragment ≡ record { seen = old.fragment.seen; mine = []; failed_tries = 0; shares = n; forgot = old.fragment.forgot } → IsLegalPass r new
legal_cut at r old new n named h of is = record {
  of = subst (λ (x : RouterView). IsPassOf x new) named of;
  legal = subst (λ (p : Fragment). IsLegal r.opening p.seen) (sym is) h.legal;
}
