-- A pass stays sound through a call.
use Rattle.std.proofs.Common.{◌≡◌, ◌∙◌, sym, ap, refl, subst, ℕ, ◌≤◌, ⊎_elim, Ok, Err, Result}
use Rattle.std.proofs.Common.{IfOk, IfErr, List, [], ◌∷◌, ◌++◌, length, length-append, arith}
use Rattle.std.proofs.lemmas.Bool.Decides.{nat_tests}
use Rattle.netchange_core.specs.declared.event.Event.{Event}
use Rattle.route_history.specs.declared.entry.Entry.{Entry}
use Rattle.route_history.specs.declared.fault.CallFault.{CallFault}
use Rattle.route_history.specs.declared.fault.CallFault.TheVariants as fault
use Rattle.route_history.specs.Calls.{entry}
use Rattle.route_history.specs.Positions.{times}
use Rattle.netchange_core.specs.declared.reply.Reply.{Reply}
use Rattle.lock_rule.specs.declared.rule.Fragment.{Fragment}
use Rattle.lock_rule.specs.declared.rule.View.{View}
use Rattle.lock_rule.specs.Entering.{Enters, EntersNot}
use Rattle.slot_lock.specs.Passes.{IsOwn, IsSound}
use Rattle.slot_lock.specs.Trying.{AcquiredAfterTries}
use Rattle.lock_rule.specs.Steps.{Acquired, Seated}
use Rattle.lock_rule.specs.Views.{held_history, released, released_at, released_with, with_failed_tries, with_held}
use Rattle.lock_rule.proofs.Releasing.{more_within, single, zero_or_more}
use Rattle.lock_rule.proofs.Keeping.{times_append}
use Rattle.lock_rule.proofs.Prefixes.{shorter}

at_most_once : (x n : ℕ) → times x (n ∷ []) ≤ 1
at_most_once x n = grind (arith, nat_tests)

-- a new position, above all that the caller has seen, is its own too
own_more : (p : Fragment) (log : List Entry) (e : Entry) → IsOwn p → length p.seen ≤ length log →
    IsOwn (record p { seen = log ++ e ∷ []; mine = p.mine ++ length log ∷ [] })
own_more p log e own le = record {
  within = more_within p.mine p.seen log (log ++ e ∷ []) own.within le (length-append log (e ∷ []));
  once = λ x.
      let sum = times_append x p.mine (length log ∷ []) in let before = own.once x in let last = at_most_once x (length log) in
      ⊎_elim (λ none_here. omega arith)
      (λ some_here. ⊎_elim (λ none_before. omega arith)
      (λ some_before. let below = own.within x some_before in let is = single x (length log) some_here in absurd (omega arith))
      (zero_or_more (times x p.mine)))
      (zero_or_more (times x (length log ∷ [])));
}

own_longer : (p : Fragment) (log : List Entry) (first : ℕ) → IsOwn p → length p.seen ≤ length log → IsOwn (record p { seen = log; forgot = first })
own_longer p log first own le = record { within = λ x there. let below = own.within x there in omega arith; once = own.once }

entered : (m mid new : Seated) (event : Event) (at : ℕ) (reply : Reply) (n : ℕ) → IsSound m n → Acquired m mid → Enters mid event at reply new →
    IsSound new n
entered m mid new event at reply n s acquired h =
    let log = acquired.holding.log in
    let e = entry event reply in
    let v = with_held m.0 log acquired.holding.journal.first in
    let view : mid.0 ≡ v = acquired.view in
    let is_at : at ≡ length log = h.position ∙ ap (λ (v : View). length (held_history v)) view in
    let is : new ≡ (released_with v (log ++ e ∷ []) (m.0.fragment.mine ++ length log ∷ []), []) =
    h.after ∙ (λ i. (released_with (view i) (held_history (view i) ++ e ∷ []) ((view i).fragment.mine ++ is_at i ∷ []), [])) in
    subst (λ (u : Seated). IsSound u n) (sym is) (record {
      slots = refl;
      held = refl;
      incoming = s.incoming;
      shares = s.shares;
      some_shares = s.some_shares;
      at_most = s.at_most;
      own = own_more m.0.fragment log e s.own (shorter m.0.fragment.seen log acquired.begins);
    })

shown : (m mid new : Seated) (n first : ℕ) → IsSound m n → Acquired m mid → new ≡ (released_at mid.0 (held_history mid.0) mid.0.fragment.mine first, []) →
    IsSound new n
shown m mid new n first s acquired h =
    let log = acquired.holding.log in
    let v = with_held m.0 log acquired.holding.journal.first in
    let view : mid.0 ≡ v = acquired.view in
    let is : new ≡ (released_at v log m.0.fragment.mine first, []) =
    h ∙ (λ i. (released_at (view i) (held_history (view i)) (view i).fragment.mine first, [])) in
    subst (λ (u : Seated). IsSound u n) (sym is) (record {
      slots = refl;
      held = refl;
      incoming = s.incoming;
      shares = s.shares;
      some_shares = s.some_shares;
      at_most = s.at_most;
      own = own_longer m.0.fragment log first s.own (shorter m.0.fragment.seen log acquired.begins);
    })

left : (m mid new : Seated) (n : ℕ) → IsSound m n → Acquired m mid → new ≡ (released mid.0, []) → IsSound new n
left m mid new n s acquired h =
    let v = with_held m.0 acquired.holding.log acquired.holding.journal.first in
    let view : mid.0 ≡ v = acquired.view in
    let is : new ≡ (released v, []) = h ∙ (λ i. (released (view i), [])) in
    subst (λ (u : Seated). IsSound u n) (sym is) (record {
      slots = refl;
      held = refl;
      incoming = s.incoming;
      shares = s.shares;
      some_shares = s.some_shares;
      at_most = s.at_most;
      own = s.own;
    })

pub sound_after : (m mid new : Seated) (event : Event) (r : Result (ℕ × Reply) CallFault) (n : ℕ) → IsSound m n → Acquired m mid →
    IfOk r (λ a. Enters mid event a.0 a.1 new) → IfErr r (λ f. EntersNot f mid new) → IsSound new n
sound_after m mid new event (Ok a) n s acquired ok err = entered m mid new event a.0 a.1 n s acquired ok
sound_after m mid new event (Err fault.Full) n s acquired ok err = shown m mid new n err.first s acquired err.now
sound_after m mid new event (Err fault.Memory) n s acquired ok err = left m mid new n s acquired err

pub sound_after_tries : (m mid new : Seated) (event : Event) (r : Result (ℕ × Reply) CallFault) (n : ℕ) → IsSound m n → AcquiredAfterTries m mid →
    IfOk r (λ a. Enters mid event a.0 a.1 new) → IfErr r (λ f. EntersNot f mid new) → IsSound new n
sound_after_tries m mid new event r n s late = sound_after (with_failed_tries late.tries m.0, []) mid new event r n (record {
  slots = refl;
  held = s.held;
  incoming = s.incoming;
  shares = s.shares;
  some_shares = s.some_shares;
  at_most = s.at_most;
  own = record { within = s.own.within; once = s.own.once };
}) late.acquired
