-- A neighbour whose Up was entered, and what became of its session.
use Rattle.std.proofs.Common.{◌≡◌, ◌∙◌, ap, inl, inr, refl, subst, sym, ℕ, ◌+◌, ◌-◌, ◌<◌, ◌≤◌, arith}
use Rattle.message_streams.specs.Views.{ReaderView}
use Rattle.neighbour_session.specs.declared.ends.SessionEnd.{SessionEnd}
use Rattle.slot_lock.specs.Calls.{Merged}
use Rattle.slot_lock.specs.Passes.{Fragment, PassView, RouterView}
use Rattle.slot_lock.specs.declared.answer.Answer.{Answer}
use Rattle.router_daemon.specs.Sessions.{IsOver, OpensLater, OpensNever, ServesNeighbour, one_less, part_of}
use Rattle.router_daemon.proofs.FullCalls.{waited_shares}

-- the share that was given away came back
came_back : (old mid other new : ℕ) → 1 < old → mid ≡ old - 1 → 1 ≤ other → new ≡ mid + other → old ≤ new
came_back old mid other new some mid_is more new_is = omega (arith, some, mid_is, more, new_is)

-- its Up was entered, a share was cut off, the session was served, and the pass of who wrote came back
pub serves : (r : RouterView) (neighbour : ℕ) (input : ReaderView) (old : PassView) (session : ℕ) (a : Answer)
    (up cut writing mid new : PassView) (why : SessionEnd) (other : Fragment) → 1 < old.fragment.shares →
    OpensLater r neighbour old session a up → up.fragment.shares ≡ old.fragment.shares → cut ≡ one_less up → writing.fragment ≡ part_of up →
    IsOver r session input cut why mid → mid.fragment.shares ≡ cut.fragment.shares → 1 ≤ other.shares →
    Merged mid.fragment other new.fragment → ServesNeighbour r neighbour input old why new
serves r neighbour input old session a up cut writing mid new why other some opens same is part over kept more merged =
    let shares : mid.fragment.shares ≡ old.fragment.shares - 1 = kept ∙ ap (λ (p : PassView). p.fragment.shares) is
    ∙ ap (λ (n : ℕ). n - 1) same in
    record {
      mid = mid;
      served = inr (
        opens.mid,
        opens.waited,
        record {
          session = session;
          answer = a;
          up = up;
          opens = opens.opens;
          writing = writing;
          part = part;
          over = subst (λ (p : PassView). IsOver r session input p why mid) is over;
          shares = shares ∙ ap (λ (n : ℕ). n - 1) (sym (waited_shares r old opens.mid opens.waited));
        },
      );
      back = inr (other, merged);
      shares = came_back old.fragment.shares mid.fragment.shares other.shares new.fragment.shares some shares more
          (ap (λ (p : Fragment). p.shares) merged.fragment);
    }

-- no session was opened for it
pub unserved : (r : RouterView) (neighbour : ℕ) (input : ReaderView) (old : PassView) (why : SessionEnd) (new : PassView) →
    OpensNever r neighbour old why new → ServesNeighbour r neighbour input old why new
unserved r neighbour input old why new h = record {
  mid = new;
  served = inl h;
  back = inl refl;
  shares = let same : new.fragment.shares ≡ old.fragment.shares = h.shares in omega (arith, same);
}
