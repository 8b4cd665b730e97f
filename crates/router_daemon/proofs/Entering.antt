-- What a call of the router leaves of a pass that has seen a legal history, and how filters are set by calls.
use Rattle.std.proofs.Common.{◌≡◌, sym, subst, refl, ℕ, List, [], ◌∷◌, ◌++◌, Option, Some, None, Result, Ok, Err, Global}
use Rattle.std.proofs.lemmas.Result.{on_ok_weaker}
use Rattle.std.specs.Prelude.{IfErr, IfOk, OnOk, string_bytes}
use Rattle.std.specs.declared.sync.Arc.{Arc}
use Rattle.filter_verifier.specs.VerifiedView.{VerifiedView}
use Rattle.netchange_core.specs.declared.event.Event.{Event}
use Rattle.operator_cmds.specs.Script.{setting}
use Rattle.operator_cmds.specs.declared.event.Direction.{Direction}
use Rattle.route_history.specs.History.{IsLegal}
use Rattle.route_history.specs.declared.fault.CallFault.{CallFault}
use Rattle.route_history.specs.declared.fault.CallFault.TheVariants as fault
use Rattle.router_operator.specs.OperatorView.{Names, filter_of}
use Rattle.router_options.specs.declared.parts.FilterUse.{FilterUse}
use Rattle.slot_lock.specs.Calls.{Answered, Refused}
use Rattle.slot_lock.specs.Passes.{IsPassOf, PassView, RouterView}
use Rattle.slot_lock.specs.declared.answer.Answer.{Answer}
use Rattle.router_daemon.specs.Passes.{IsLegalPass}
use Rattle.router_daemon.specs.Uses.{SetsEach, SetsOne}
use Rattle.router_daemon.specs.declared.fault.DaemonFault.{DaemonFault}

pub legal_answered : (r : RouterView) (old new : PassView) (event : Event) (a : Answer) → IsPassOf r new → IsLegalPass r old →
    Answered r old event a new → IsLegalPass r new
legal_answered r old new event a of before h = record { of = of; legal = h.legal }

pub legal_refused : (why : CallFault) (r : RouterView) (old new : PassView) → IsPassOf r new → IsLegalPass r old →
    Refused why r old new → IsLegalPass r new
legal_refused fault.Full r old new of before h = record { of = of; legal = h.legal }
legal_refused fault.Memory r old new of before h =
    record { of = of; legal = subst (λ (p : PassView). IsLegal r.opening p.fragment.seen) (sym h.1) before.legal }

-- the filters of these uses were set, and then one more
pub sets_more : (r : RouterView) (way : Direction) (names : Names) (uses : List FilterUse) (used : FilterUse) (old mid new : PassView) →
    SetsEach r way names uses old mid → SetsOne r way (filter_of names (string_bytes used.name)) used.node mid new →
    SetsEach r way names (uses ++ used ∷ []) old new
sets_more r way names [] used old mid new before one =
    (new, subst (λ (p : PassView). SetsOne r way (filter_of names (string_bytes used.name)) used.node p new) before one, refl)
sets_more r way names (u ∷ uses) used old mid new before one =
    (before.0, before.1, sets_more r way names uses used before.0 mid new before.2 one)

-- one filter was set, by a call that may have failed
pub sets_one : (r : RouterView) (way : Direction) (found : Option VerifiedView) (filter : Arc VerifiedView Global) (node : ℕ) (old new : PassView)
    (entered : Result (Unit {0}) DaemonFault) → found ≡ Some filter.value →
    OnOk entered ((a : Answer) × Answered r old (setting way node filter) a new) → OnOk entered (SetsOne r way found node old new)
sets_one r way found filter node old new entered is h =
    on_ok_weaker entered (λ x. subst (λ (o : Option VerifiedView). SetsOne r way o node old new) (sym is) (filter, refl, x.0, x.1)) h

-- no filter has the name
pub sets_none : (r : RouterView) (way : Direction) (found : Option VerifiedView) (node : ℕ) (old : PassView) → found ≡ None →
    SetsOne r way found node old old
sets_none r way found node old is = subst (λ (o : Option VerifiedView). SetsOne r way o node old old) (sym is) refl

-- what a call leaves, answered or not
pub legal_called : (r : RouterView) (old new : PassView) (event : Event) (called : Result Answer CallFault) → IsPassOf r new →
    IsLegalPass r old → IfOk called (λ a. Answered r old event a new) → IfErr called (λ why. Refused why r old new) → IsLegalPass r new
legal_called r old new event (Ok a) of before answered refused = legal_answered r old new event a of before answered
legal_called r old new event (Err why) of before answered refused = legal_refused why r old new of before refused
