-- Passes of jobs, merged one after another.
use Rattle.std.proofs.Common.{◌≡◌, ◌∙◌, ap, sym, subst, arith, ◌<◌, ℕ, List, [], ◌∷◌, ◌++◌, append_assoc, append-nil, get_or, length}
use Rattle.std.specs.Prelude.{flat_map}
use Rattle.std.proofs.lemmas.Grind.{flat_map-append}
use Rattle.std.proofs.lemmas.List.Elements.{All-get_or, All-nil, All-push, All-weaker}
use Rattle.std.proofs.lemmas.List.Sums.{sum_by_push}
use Rattle.route_history.specs.declared.entry.Entry.{Entry}
use Rattle.route_history.specs.Beginning.{Begins}
use Rattle.route_session.specs.declared.job.Finished.{Finished}
use Rattle.route_session.specs.Jobs.{AreBack, Gathered, failed_tries_back, mine_back, shares_back}
use Rattle.route_session.proofs.Gaining.{begins_further, begins_whole}
use Rattle.slot_lock.specs.Passes.{Fragment}
use Rattle.slot_lock.specs.Calls.{Merged}
use Rattle.slot_lock.specs.Passes.{IsPassOf, RouterView}

pub gathered_none : {L : Type 0} (p : Fragment) → Gathered {L = L} p [] p
gathered_none p = record {
  shares = omega arith;
  failed_tries = omega arith;
  mine = sym (append-nil p.mine);
  begins = begins_whole p.seen;
  each_begins = All-nil (λ f. Begins f.pass.fragment.seen p.seen);
}

-- the positions of one job more
mine_more : {L : Type 0} (fs : List (Finished L)) (f : Finished L) → flat_map mine_back fs ++ f.pass.fragment.mine ≡ flat_map mine_back (fs ++ f ∷ [])
mine_more fs f = sym (flat_map-append mine_back fs (f ∷ []) ∙ ap (λ (l : List ℕ). flat_map mine_back fs ++ l) (append-nil f.pass.fragment.mine))

pub gathered_one : {L : Type 0} (old p : Fragment) (fs : List (Finished L)) (f : Finished L) (new : Fragment) →
    Gathered old fs p → Merged p f.pass.fragment new → Gathered old (fs ++ f ∷ []) new
gathered_one old p fs f new g j =
    let shares = ap (λ (q : Fragment). q.shares) j.fragment in
    let failed_tries = ap (λ (q : Fragment). q.failed_tries) j.fragment in
    let seen = ap (λ (q : Fragment). q.seen) j.fragment in
    let further : Begins p.seen new.seen = subst (λ (l : List Entry). Begins p.seen l) (sym seen) j.agree.first in
    let other : Begins f.pass.fragment.seen new.seen = subst (λ (l : List Entry). Begins f.pass.fragment.seen l) (sym seen) j.agree.second in
    record {
      shares = omega (arith, shares, g.shares, sum_by_push shares_back fs f);
      failed_tries = omega (arith, failed_tries, g.failed_tries, sum_by_push failed_tries_back fs f);
      mine = ap (λ (q : Fragment). q.mine) j.fragment ∙ ap (λ (l : List ℕ). l ++ f.pass.fragment.mine) g.mine
          ∙ append_assoc old.mine (flat_map mine_back fs) f.pass.fragment.mine ∙ ap (λ (l : List ℕ). old.mine ++ l) (mine_more fs f);
      begins = begins_further old.seen p.seen new.seen g.begins further;
      each_begins = All-push (λ x. Begins x.pass.fragment.seen new.seen) fs f
          (All-weaker (λ x. Begins x.pass.fragment.seen p.seen) (λ x. Begins x.pass.fragment.seen new.seen)
          (λ x b. begins_further x.pass.fragment.seen p.seen new.seen b further) fs g.each_begins)
          other;
    }

-- the pass of the job at hand is one of the router
pub of_router : {L : Type 0} (r : RouterView) (fs : List (Finished L)) (f : Finished L) (k : ℕ) → AreBack r fs → k < length fs →
    f ≡ get_or fs k f → IsPassOf r f.pass
of_router r fs f k back below is =
    subst (λ (x : Finished _). IsPassOf r x.pass) (sym is) (All-get_or (λ x. IsPassOf r x.pass) fs k f below back)
