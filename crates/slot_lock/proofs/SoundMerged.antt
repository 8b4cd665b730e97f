-- A pass is sound after another was merged into it.
use Rattle.std.proofs.Common.{◌≡◌, sym, refl, subst, ℕ, ◌+◌, arith}
use Rattle.lock_rule.specs.declared.rule.Fragment.{Fragment}
use Rattle.lock_rule.specs.declared.rule.View.{View}
use Rattle.slot_lock.specs.Passes.{IsOwn, IsSound}
use Rattle.lock_rule.specs.Steps.{Agree, Merges, Seated, merged}
use Rattle.lock_rule.specs.Views.{longer, with_incoming}
use Rattle.lock_rule.proofs.Keeping.{times_append}
use Rattle.lock_rule.proofs.Longer.{within_longer, within_merged}

own_merged : (p q : Fragment) → IsOwn p → IsOwn q → Agree p q → IsOwn (merged p q)
own_merged p q a b both = record {
  within = within_merged p.mine q.mine (longer p.seen q.seen) (within_longer p.mine p.seen (longer p.seen q.seen) a.within both.first)
      (within_longer q.mine q.seen (longer p.seen q.seen) b.within both.second);
  once = λ x. let sum = times_append x p.mine q.mine in let most = both.apart x in omega arith;
}

pub sound_merged : (m : Seated) (v : View) (w : Seated) (n k : ℕ) → IsSound m n → IsOwn v.fragment → v.fragment.shares ≡ k →
    Merges (with_incoming m.0 v, m.1) w → IsSound w (n + k)
sound_merged m v w n k s own shares h =
    subst (λ (u : Seated). IsSound u (n + k)) (sym h.after) (record {
      slots = s.slots;
      held = s.held;
      incoming = refl;
      shares = let a = s.shares in omega arith;
      some_shares = let a = s.some_shares in omega arith;
      at_most = let a = s.shares in let most = h.agree.shares in omega arith;
      own = own_merged m.0.fragment v.fragment s.own own h.agree;
    })
