-- Phases of a run: stretches in each of which all is received that waited or was on its way when it began.
use mathlib.Core.Logic.{inl, inr}
use Rattle.std.specs.Prelude.{◌≡◌, ◌⊎◌, ℕ, suc, zero, ◌+◌, ◌-◌, ◌<◌, ◌≤◌, max, nat_lt, if◌then◌else◌, true, length}
use Rattle.routing_domain.specs.Changes.{is_pair}
use Rattle.routing_domain.specs.Domain.{Domain, are_linked, imported, pending, topology}
use Rattle.routing_domain.specs.Rest.{IsRest}
use Rattle.routing_domain.specs.Runs.{IsStep, Runs}

-- Of the messages on a link the first so many are awaited. How many are, after one was left out that stood behind so many: where it was
-- awaited, the later one about its node, behind so many more, is awaited in its place, and all before that.
abbrev pub awaited_without : ℕ → ℕ → ℕ → ℕ
awaited_without n before between = if nat_lt before n then max (n - 1) (before + between + 1) else n

-- how many still are after a step, and after a run
abbrev pub awaited_after : (d e : Domain) → IsStep d e → ℕ → ℕ → ℕ → ℕ
awaited_after d e (inl r) u w n = if is_pair r.from r.to u w then n - 1 else n
awaited_after d e (inr (inl s)) u w n = n
awaited_after d e (inr (inr x)) u w n = if is_pair x.from x.to u w then awaited_without n (length x.before) (length x.between) else n

abbrev pub awaited : (k : ℕ) → (d e : Domain) → Runs k d e → ℕ → ℕ → ℕ → ℕ
awaited zero d e run u w n = n
awaited (suc k) d e run u w n = awaited k (run.0) e (run.2) u w (awaited_after d (run.0) (run.1) u w n)

-- a phase: a run after which nothing is awaited any more of what was pending on any link when it began
pub record IsPhase (d e : Domain) : Type 0 where
  pub steps : ℕ
  pub run : Runs steps d e
  pub all : (u w : ℕ) → u < d.size → w < d.size → awaited steps d e run u w (length (pending d u w)) ≡ 0

-- so many phases, one after another, and then any steps
abbrev pub Phases : ℕ → Domain → Domain → Type 0
Phases zero d e = (k : ℕ) × Runs k d e
Phases (suc j) d e = (c : Domain) × (IsPhase d c) × (Phases j c e)

-- each distance at rest is at most so much
abbrev pub AreWithin : ℕ → Domain → Type 0
AreWithin j d = (v : ℕ) → v < d.size → (a : ℕ → ℕ) → IsRest (topology d v) v a → (u : ℕ) → u < d.size → a u ≤ j

-- What is out of reach of a destination counts up to a bound and no farther: each route at rest is at most so long; and each neighbour of a
-- node that is out of reach is nearer than that, or what it tells passes an import filter that lets through only what is nearer.
pub record CountsUpTo (k : ℕ) (d : Domain) (v : ℕ) (a : ℕ → ℕ) : Type 0 where
  pub routes : (u : ℕ) → u < d.size → (a u ≤ k) ⊎ (a u ≡ d.size)
  pub limits : (u w : ℕ) → u < d.size → w < d.size → are_linked d u w ≡ true → a u ≡ d.size →
      (a w < k) ⊎ ((x : ℕ) → x ≤ d.size → (imported d u w v x < k) ⊎ (imported d u w v x ≡ d.size))
