-- What the passes of a router have seen stays legal.
use Rattle.std.proofs.Common.{◌≡◌, ap, sym, subst, ℕ, Bool, true, false, if◌then◌else◌, nat_lt, List, length}
use Rattle.netchange_core.specs.OpeningView.{OpeningView}
use Rattle.route_history.specs.History.{IsLegal}
use Rattle.route_history.specs.declared.entry.Entry.{Entry}
use Rattle.route_session.specs.Calls.{StaysSound}
use Rattle.slot_lock.specs.Calls.{Merged}
use Rattle.slot_lock.specs.Passes.{Fragment, IsNew, IsPassOf, PassView, RouterView}
use Rattle.router_daemon.specs.Passes.{IsLegalPass}

pub legal_if : (o : OpeningView) (a b : List Entry) (c : Bool) → IsLegal o a → IsLegal o b → IsLegal o (if c then b else a)
legal_if o a b true la lb = lb
legal_if o a b false la lb = la

-- of two legal histories the longer one is legal
pub legal_merged : (o : OpeningView) (p q new : Fragment) → Merged p q new → IsLegal o p.seen → IsLegal o q.seen → IsLegal o new.seen
legal_merged o p q new j lp lq = subst (λ (x : Fragment). IsLegal o x.seen) (sym j.fragment)
    (legal_if o p.seen q.seen (nat_lt (length p.seen) (length q.seen)) lp lq)

-- a pass that took another one in
pub legal_after_merge : (r : RouterView) (p q new : PassView) → IsLegalPass r p → IsLegalPass r q → IsPassOf r new
    → Merged p.fragment q.fragment new.fragment → IsLegalPass r new
legal_after_merge r p q new hp hq of j = record { of = of; legal = legal_merged r.opening p.fragment q.fragment new.fragment j hp.legal hq.legal }

-- what a session does to a pass
pub legal_sound : (r : RouterView) (old new : PassView) → IsLegalPass r old → StaysSound r old new → IsLegalPass r new
legal_sound r old new h s = record { of = s.of; legal = s.legal h.legal }

-- a pass that has seen nothing
pub legal_new : (r : RouterView) (shares : ℕ) (p : PassView) → IsNew r shares p → IsLegalPass r p
legal_new r shares p h = record {
  of = h.of;
  legal = subst (λ (es : List Entry). IsLegal r.opening es) (sym (ap (λ (f : Fragment). f.seen) h.fragment)) tt;
}
