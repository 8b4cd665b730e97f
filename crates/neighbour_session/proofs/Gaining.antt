-- A pass gains calls, and then more.
use Rattle.std.proofs.Common.{◌≡◌, ◌∙◌, sym, ap, subst, refl, ℕ, zero, suc, ◌+◌, ◌<◌, ◌≤◌, Option, Some, None, List, [], ◌∷◌, ◌++◌}
use Rattle.std.proofs.Common.{append_assoc, append-nil, length, length-append, arith}
use Rattle.std.specs.Prelude.{All, AllPairs}
use Rattle.std.proofs.lemmas.List.Elements.{All-nil, All-cons, All-append, All-head, All-tail, All-weaker}
use Rattle.std.proofs.lemmas.List.Kept.{AllPairs-cons}
use Rattle.std.proofs.lemmas.Option.{slice_get_within}
use Rattle.std.specs.List.{AllZip}
use Rattle.netchange_core.specs.declared.message.Message.{Message}
use Rattle.route_history.specs.declared.entry.Entry.{Entry}
use Rattle.route_history.specs.Beginning.{Begins}
use Rattle.route_session.specs.declared.ends.Cause.{Cause}
use Rattle.route_session.specs.declared.ends.Cause.TheVariants as cause
use Rattle.route_session.specs.Calls.{Gained, IsCauseAt, IsCauseIn, IsFresh, StandsAt, StaysSound}
use Rattle.route_session.specs.LinkTrace.{Rose, LinkTrace, ended_now, grown}
use Rattle.slot_lock.specs.Passes.{Fragment, IsPassOf, PassView, RouterView}

begins_further : (xs ys zs : List Entry) → Begins xs ys → Begins ys zs → Begins xs zs
begins_further xs ys zs a b = record {
  rest = a.rest ++ b.rest;
  is = b.is ∙ ap (λ (l : List Entry). l ++ b.rest) a.is ∙ append_assoc xs a.rest b.rest;
}

-- what stands in a history stands in a longer one
stands_before : (xs more : List Entry) (k : ℕ) (e : Entry) → StandsAt xs k e → StandsAt (xs ++ more) k e
stands_before [] more k e h = cc
stands_before (x ∷ xs) more zero e h = h
stands_before (x ∷ xs) more (suc k) e h = stands_before xs more k e h

stand_longer : (xs ys : List Entry) (ks : List ℕ) (es : List Entry) → Begins xs ys → AllZip (StandsAt xs) ks es → AllZip (StandsAt ys) ks es
stand_longer xs ys [] [] b h = h
stand_longer xs ys [] (e ∷ es) b h = absurd h
stand_longer xs ys (k ∷ ks) [] b h = absurd h
stand_longer xs ys (k ∷ ks) (e ∷ es) b h =
    (subst (λ (l : List Entry). StandsAt l k e) (sym b.is) (stands_before xs b.rest k e h.0), stand_longer xs ys ks es b h.1)

-- positions at which something stands are below the length
stand_below : (xs : List Entry) (ks : List ℕ) (es : List Entry) → AllZip (StandsAt xs) ks es → All (λ k. k < length xs) ks
stand_below xs [] [] h = All-nil (λ k. k < length xs)
stand_below xs [] (e ∷ es) h = absurd h
stand_below xs (k ∷ ks) [] h = absurd h
stand_below xs (k ∷ ks) (e ∷ es) h =
    All-cons (λ k. k < length xs) k ks (slice_get_within xs k e h.0) (stand_below xs ks es h.1)

pub no_shorter : (xs ys : List Entry) → Begins xs ys → length xs ≤ length ys
no_shorter xs ys b = let lengths : length ys ≡ length xs + length b.rest = ap length b.is ∙ length-append xs b.rest in omega arith

-- numbers that rise below a bound, and then ones that rise from it on
rise_both : (n : ℕ) (xs ys : List ℕ) → AllPairs (λ a b. a < b) xs → All (λ x. x < n) xs → AllPairs (λ a b. a < b) ys →
    All (λ y. n ≤ y) ys → AllPairs (λ a b. a < b) (xs ++ ys)
rise_both n [] ys rising below more above = more
rise_both n (x ∷ xs) ys rising below more above =
    AllPairs-cons (λ a b. a < b) x (xs ++ ys)
    (All-append (λ y. x < y) xs ys (λ k d inside. rising 0 (suc k) d (omega arith) (omega (arith, inside)))
    (All-weaker (λ y. n ≤ y) (λ y. x < y) (λ y from. omega (arith, from, All-head (λ x. x < n) x xs below)) ys above))
    (rise_both n xs ys (λ i j d before inside. rising (suc i) (suc j) d (omega (arith, before)) (omega (arith, inside)))
    (All-tail (λ x. x < n) x xs below) more above)

pub zip_both : {A B : Type 0} (R : A → B → Type 0) (xs : List A) (ys : List B) (xs' : List A) (ys' : List B) → AllZip R xs ys →
    AllZip R xs' ys' → AllZip R (xs ++ xs') (ys ++ ys')
zip_both R [] [] xs' ys' h k = k
zip_both R [] (y ∷ ys) xs' ys' h k = absurd h
zip_both R (x ∷ xs) [] xs' ys' h k = absurd h
zip_both R (x ∷ xs) (y ∷ ys) xs' ys' h k = (h.0, zip_both R xs ys xs' ys' h.1 k)

pub gained_none : (p : Fragment) → Gained p [] p
gained_none p = record {
  positions = [];
  mine = sym (append-nil p.mine);
  stand = tt;
  rising = λ i j d before inside. absurd (omega arith);
  after = All-nil (λ position. length p.seen ≤ position);
  begins = record { rest = []; is = sym (append-nil p.seen) };
  failed_tries = omega arith;
  shares = refl;
}

pub gained_both : (a : Fragment) (xs : List Entry) (b : Fragment) (ys : List Entry) (c : Fragment) → Gained a xs b → Gained b ys c → Gained a (xs ++ ys) c
gained_both a xs b ys c g h = record {
  positions = g.positions ++ h.positions;
  mine = h.mine ∙ ap (λ (l : List ℕ). l ++ h.positions) g.mine ∙ append_assoc a.mine g.positions h.positions;
  stand = zip_both (StandsAt c.seen) g.positions xs h.positions ys (stand_longer b.seen c.seen g.positions xs h.begins g.stand) h.stand;
  rising = rise_both (length b.seen) g.positions h.positions g.rising (stand_below b.seen g.positions xs g.stand) h.rising h.after;
  after = All-append (λ position. length a.seen ≤ position) g.positions h.positions g.after
      (All-weaker (λ position. length b.seen ≤ position) (λ position. length a.seen ≤ position)
      (λ position from. omega (arith, from, no_shorter a.seen b.seen g.begins)) h.positions h.after);
  begins = begins_further a.seen b.seen c.seen g.begins h.begins;
  failed_tries = omega (arith, g.failed_tries, h.failed_tries);
  shares = h.shares ∙ g.shares;
}

-- messages that a link told of, and more
pub grown_none : (o : Option (List Message)) → o ≡ grown o []
grown_none None = refl
grown_none (Some ms) = ap Some (sym (append-nil ms))

pub grown_both : (o : Option (List Message)) (xs ys : List Message) → grown (grown o xs) ys ≡ grown o (xs ++ ys)
grown_both None xs ys = refl
grown_both (Some ms) xs ys = ap Some (append_assoc ms xs ys)

-- why a run of calls ended, where calls came before it that were not refused
pub cause_after : (c : Cause) (r : RouterView) (xs ys : List Entry) (new : Fragment) → All IsFresh xs → IsCauseIn c r ys new →
    IsCauseIn c r (xs ++ ys) new
cause_after cause.Turns r xs ys new fresh h = All-append IsFresh xs ys fresh h
cause_after cause.LinkEnded r xs ys new fresh h = All-append IsFresh xs ys fresh h
cause_after cause.LinkFault r xs ys new fresh h = All-append IsFresh xs ys fresh h
cause_after cause.Stale r xs ys new fresh h = record {
  before = xs ++ h.before;
  last = h.last;
  calls_are = ap (λ (l : List Entry). xs ++ l) h.calls_are ∙ sym (append_assoc xs h.before (h.last ∷ []));
  stale_at_last = h.stale_at_last;
  fresh_before = All-append IsFresh xs h.before fresh h.fresh_before;
}
cause_after cause.Full r xs ys new fresh h = (All-append IsFresh xs ys fresh h.0, h.1, h.2)
cause_after cause.Memory r xs ys new fresh h = All-append IsFresh xs ys fresh h

pub told_after : (c : Cause) (t m u : LinkTrace) → m.ended ≡ t.ended → m.failures ≡ t.failures → IsCauseAt c m u → IsCauseAt c t u
told_after cause.Turns t m u ended failures h = (h.0 ∙ ended, h.1 ∙ failures)
told_after cause.LinkEnded t m u ended failures h = (h.0 ∙ ap ended_now ended, h.1 ∙ failures)
told_after cause.LinkFault t m u ended failures h = (h.0 ∙ ended, subst (λ n. Rose n u.failures) failures h.1)
told_after cause.Stale t m u ended failures h = (h.0 ∙ ended, h.1 ∙ failures)
told_after cause.Full t m u ended failures h = (h.0 ∙ ended, h.1 ∙ failures)
told_after cause.Memory t m u ended failures h = (h.0 ∙ ended, h.1 ∙ failures)

-- a pass stays right, and then again
pub sound_same : (r : RouterView) (p : PassView) → IsPassOf r p → StaysSound r p p
sound_same r p of = record { of = of; own = λ x. x; legal = λ x. x }

pub sound_both : (r : RouterView) (a b c : PassView) → StaysSound r a b → StaysSound r b c → StaysSound r a c
sound_both r a b c g h = record { of = h.of; own = λ x. h.own (g.own x); legal = λ x. h.legal (g.legal x) }
