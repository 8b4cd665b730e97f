-- How the parts of a run make the whole.
use Rattle.std.proofs.Common.{◌≡◌, ◌∙◌, sym, ap, subst, refl, ℕ, List, [], Option, Some, None, Result, Ok, Err}
use Rattle.std.specs.Prelude.{IfErr, IfOk, IfSome, IsErrAnd, IsOkAnd, MatchResult, OnErr}
use Rattle.std.specs.declared.alloc.AllocError.{AllocError}
use Rattle.history_saver.specs.Folders.{FolderView}
use Rattle.history_saver.specs.Segments.{SegmentsView}
use Rattle.line_protocol.specs.declared.faults.StreamFault.{StreamFault}
use Rattle.route_history.specs.declared.entry.Entry.{Entry}
use Rattle.router_operator.specs.OperatorView.{Names, OperatorView}
use Rattle.router_operator.specs.Running.{IsBrokenOff, IsServed}
use Rattle.router_options.specs.PlanView.{PlanView}
use Rattle.slot_lock.specs.Passes.{PassView, RouterView}
use Rattle.router_daemon.specs.Passes.{IsLegalPass}
use Rattle.router_daemon.specs.Spares.{linked_nodes}
use Rattle.router_daemon.specs.Running.{Fails, HasOperator, IsEarly, IsOpened, IsWhy, Operated, Operates}
use Rattle.router_daemon.specs.Running.{RunsAsOne, RunsOperator, Saves, SavesTo, asked_for, operator_of}
use Rattle.router_daemon.specs.Uses.{BeginsWithFilters}
use Rattle.router_daemon.specs.declared.fault.DaemonFault.{DaemonFault}
use Rattle.router_daemon.specs.declared.fault.DaemonFault.TheVariants as fault

-- the operator's lines ended, in one way or the other, and left the operator with this pass
pub operated : (before after : OperatorView) (now : PassView) (answered : Result ℕ StreamFault) (known left held holds : Option (List ℕ)) →
    now ≡ after.pass →
    IfOk answered (λ refused. IfSome known (λ input. IsServed before after input left held holds refused)) →
    IfErr answered (λ why. IfSome known (λ input. IsBrokenOff why before after input left held holds)) →
    IfSome known (λ input. (end : OperatorView) × (end.pass ≡ now) × Operates before end answered input left held holds)
operated before after now answered None left held holds is served broken_off = tt
operated before after now (Ok refused) (Some input) left held holds is served broken_off = (after, sym is, served)
operated before after now (Err why) (Some input) left held holds is served broken_off = (after, sym is, broken_off)

-- the operator has a pass that was handed on
pub has_operator : (r : RouterView) (given p : PassView) (names : Names) (links : List ℕ) (answered : Result ℕ StreamFault)
    (known left held holds : Option (List ℕ)) (now : PassView) → p ≡ given → given.fragment.mine ≡ [] → IsLegalPass r p →
    IfSome known (λ input. (end : OperatorView) × (end.pass ≡ now) × Operates (operator_of r p names links) end answered input left held holds) →
    IfSome known (λ input. HasOperator r given.fragment.seen names links answered input left held holds now)
has_operator r given p names links answered None left held holds now same no_calls legal h = tt
has_operator r given p names links answered (Some input) left held holds now same no_calls legal (end, now_is, operates) = record {
  pass = p;
  legal = legal;
  seen = ap (λ (v : PassView). v.fragment.seen) same;
  no_calls = ap (λ (v : PassView). v.fragment.mine) same ∙ no_calls;
  after = end;
  operates = operates;
  now_is = now_is;
}

-- a fault that comes before a line is read leaves the streams as they were
pub early_fails : (operates : Result ℕ StreamFault → Type 0) (untouched : Type 0) (why : DaemonFault) → IsEarly why → untouched →
    Fails operates untouched why
early_fails operates untouched (fault.Stream why) early left = absurd early
early_fails operates untouched (fault.Call why) early left = left
early_fails operates untouched (fault.Lock why) early left = left
early_fails operates untouched (fault.Save why) early left = absurd early
early_fails operates untouched (fault.NotBegun why) early left = left
early_fails operates untouched fault.NotStarted early left = left
early_fails operates untouched fault.Memory early left = left

-- the exit of a `?` with such a fault, where the streams are as they were
module _ {T X Y : Type 0} (plan : PlanView) (names : Names) (remaining : X → Option (List ℕ)) (contents : Y → Option (List ℕ)) (reader : X) (writer : Y) where
  pub exits_early : (r : Result T DaemonFault) (why : DaemonFault) → IsErrAnd r (λ given. given ≡ why) → IsEarly why →
      IfErr r (Fails (λ answered. IfSome (remaining reader) (λ input. Operated plan names answered input (remaining reader) (contents writer)
      (contents writer))) ((reader ≡ reader) × (writer ≡ writer)))
  exits_early (Ok x) why is early = absurd is
  exits_early (Err given) why is early =
      let operates = λ (answered : Result ℕ StreamFault).
      IfSome (remaining reader) (λ input. Operated plan names answered input (remaining reader) (contents writer) (contents writer)) in
      subst (λ (w : DaemonFault). Fails operates ((reader ≡ reader) × (writer ≡ writer)) w) (sym is)
      (early_fails operates ((reader ≡ reader) × (writer ≡ writer)) why early (refl, refl))

-- how a run that began fails
ran_fails : (operates : Result ℕ StreamFault → Type 0) (untouched : Type 0) (answered : Result ℕ StreamFault) (why : DaemonFault) →
    operates answered → IsWhy answered why → Fails operates untouched why
ran_fails operates untouched answered (fault.Stream why) served is = subst operates is served
ran_fails operates untouched answered (fault.Call why) served is = absurd is
ran_fails operates untouched answered (fault.Lock why) served is = absurd is
ran_fails operates untouched answered (fault.Save why) served is = (is.0, subst operates is.1 served)
ran_fails operates untouched answered (fault.NotBegun why) served is = absurd is
ran_fails operates untouched answered fault.NotStarted served is = absurd is
ran_fails operates untouched answered fault.Memory served is = absurd is

-- a history that begins with some entries begins with none
from_none : (r : RouterView) (entries : List Entry) (most : Option (Option ℕ)) (saved : Option SegmentsView) → SavesTo r entries most saved →
    SavesTo r [] most saved
from_none r entries None None h = tt
from_none r entries (Some most) (Some s) (p, h) = (
  p,
  record {
    legal = h.legal;
    begins = record { rest = p.fragment.seen; is = refl };
    keeps = h.keeps;
    whole = h.whole;
    none_left = h.none_left;
    has = h.has;
  },
)
from_none r entries None (Some s) h = absurd h
from_none r entries (Some most) None h = absurd h

-- The router is opened as the plan says, and the pass of who opened it has set the filters.
module _ (plan : PlanView) (names : Names) (r : RouterView) (first : PassView) (nodes : List ℕ) (known left held holds : Option (List ℕ))
    (given : Option (Option FolderView)) (is_opened : IsOpened plan r) (sets : BeginsWithFilters r plan names first)
    (entries : List Entry) (seen : entries ≡ first.fragment.seen) (are : nodes ≡ linked_nodes plan) where
  -- its operator, said of the plan
  runs_operator : (answered : Result ℕ StreamFault) (input : List ℕ) (now : PassView) → HasOperator r entries names nodes answered input left held holds now
      → RunsOperator plan names answered input left held holds r now
  runs_operator answered input now h = record {
    is_opened = is_opened;
    first = first;
    sets = sets;
    operator = subst (λ (l : List ℕ). HasOperator r first.fragment.seen names l answered input left held holds now) are
        (subst (λ (l : List Entry). HasOperator r l names nodes answered input left held holds now) seen h);
  }

  abbrev Kept : Result ℕ StreamFault → PassView → Type 0
  Kept answered now = IfSome known (λ input. HasOperator r entries names nodes answered input left held holds now)

  was_operated : (answered : Result ℕ StreamFault) (now : PassView) → Kept answered now →
      IfSome known (λ input. Operated plan names answered input left held holds)
  was_operated answered now h = split known h
    where
      split : (k : Option (List ℕ)) → IfSome k (λ input. HasOperator r entries names nodes answered input left held holds now) →
          IfSome k (λ input. Operated plan names answered input left held holds)
      split None g = tt
      split (Some input) g = (r, now, runs_operator answered input now g)

  as_one : (answered : Result ℕ StreamFault) (refused : ℕ) (now : PassView) (saved : Option SegmentsView) → answered ≡ Ok refused →
      SavesTo r now.fragment.seen (asked_for plan given) saved → Kept answered now →
      IfSome known (λ input. RunsAsOne plan names given saved refused input left held holds)
  as_one answered refused now saved is saves h = split known h
    where
      split : (k : Option (List ℕ)) → IfSome k (λ input. HasOperator r entries names nodes answered input left held holds now) →
          IfSome k (λ input. RunsAsOne plan names given saved refused input left held holds)
      split None g = tt
      split (Some input) g = (
        r,
        now,
        subst (λ (a : Result ℕ StreamFault). RunsOperator plan names a input left held holds r now) is
            (runs_operator answered input now g),
        saves,
      )

  -- How the operator's lines ended is an end `o`, which has an answer and a pass.
  module _ {O : Type 0} (answered_of : O → Result ℕ StreamFault) (pass_of : O → PassView) where
    pub run_is_one : (ran : Result O AllocError) (refused : ℕ) (begun : Option (Option ℕ)) (saved : Option SegmentsView) → begun ≡ asked_for plan given →
        IfOk ran (λ o. Kept (answered_of o) (pass_of o)) →
        IsOkAnd ran (λ o. (answered_of o ≡ Ok refused) × SavesTo r (pass_of o).fragment.seen begun saved) →
        IfSome known (λ input. RunsAsOne plan names given saved refused input left held holds)
    run_is_one (Ok o) refused begun saved same h (is, saves) =
        as_one (answered_of o) refused (pass_of o) saved is
        (subst (λ (f : Option (Option ℕ)). SavesTo r (pass_of o).fragment.seen f saved) same saves) h
    run_is_one (Err why) refused begun saved same h ends = absurd ends

    pub run_saves : (ran : Result O AllocError) (refused : ℕ) (begun : Option (Option ℕ)) (saved : Option SegmentsView) → begun ≡ asked_for plan given →
        IsOkAnd ran (λ o. (answered_of o ≡ Ok refused) × SavesTo r (pass_of o).fragment.seen begun saved) → Saves plan given saved
    run_saves (Ok o) refused begun saved same (is, saves) = (
      r,
      is_opened,
      from_none r (pass_of o).fragment.seen (asked_for plan given) saved
          (subst (λ (f : Option (Option ℕ)). SavesTo r (pass_of o).fragment.seen f saved) same saves),
    )
    run_saves (Err why) refused begun saved same ends = absurd ends

    pub run_fails : (untouched : Type 0) (ran : Result O AllocError) (why : DaemonFault) → IfOk ran (λ o. Kept (answered_of o) (pass_of o)) →
        OnErr ran untouched → MatchResult ran (λ o. IsWhy (answered_of o) why) (λ _. why ≡ fault.Memory) →
        Fails (λ answered. IfSome known (λ input. Operated plan names answered input left held holds)) untouched why
    run_fails untouched (Ok o) why h left_so ends =
        ran_fails (λ answered. IfSome known (λ input. Operated plan names answered input left held holds)) untouched
        (answered_of o) why (was_operated (answered_of o) (pass_of o) h) ends
    run_fails untouched (Err failed) why h left_so ends =
        subst
        (λ (f : DaemonFault).
        Fails (λ answered. IfSome known (λ input. Operated plan names answered input left held holds)) untouched f)
        (sym ends) left_so
