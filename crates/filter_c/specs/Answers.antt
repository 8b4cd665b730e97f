-- What C reads of runs, in numbers. (This project's own choice.)
use Rattle.std.specs.Prelude.{ℕ, suc, zero, ◌≡◌, ◌≢◌, ◌≤◌, ◌<◌, ◌⊎◌, ◌↔◌, Bool, true, false, List, get_or, length}
use Rattle.std.specs.List.{list_any}
use Rattle.code_file.specs.Spelling.{spelling}
use Rattle.prefix_patterns.specs.Bits.{prefix_bits}
use Rattle.filter_code.specs.declared.instruction.Instr.{Instr}
use Rattle.filter_code.specs.declared.instruction.Instr.TheVariants as instr
use Rattle.filter_code.specs.declared.outcome.Outcome.{Outcome}
use Rattle.filter_code.specs.declared.outcome.Outcome.TheVariants as outcome
use Rattle.filter_code.specs.Machine.{EndsAfter, outcome_of}
use Rattle.filter_code.specs.RouteView.{RouteView}
use Rattle.filter_verifier.specs.Bounds.{cost, peak}
use Rattle.filter_verifier.specs.VerifiedView.{VerifiedView}
use Rattle.filter_machine.specs.Verdicts.{announced}
use Rattle.filter_c.specs.declared.answer.Answer.{Answer}
use Rattle.filter_c.specs.declared.answer.CRoute.{CRoute}
use Rattle.filter_c.specs.declared.bounds.Bounds.{Bounds}

-- the outcome that a verdict and a metric tell: 0 rejects, and any other number accepts with the metric
abbrev pub outcome_given : ℕ → ℕ → Outcome
outcome_given zero metric = outcome.Reject
outcome_given (suc n) metric = outcome.Accept metric

-- the route to the first bits of an address, in a domain of the filter's size
abbrev pub route_to : VerifiedView → ℕ → ℕ → ℕ → RouteView
route_to v address len metric = announced (prefix_bits address len) metric v.size

-- The verdict 2 says that there is no such route in a domain of that size. Any other answer, which is 0 or 1, is the outcome of the filter's
-- code for the route, after that many steps, which are within the budget, and a metric is never lowered. What no verdict speaks of is 0.
abbrev pub IsAnswer : VerifiedView → ℕ → ℕ → ℕ → Answer → Type 0
IsAnswer v address len metric a =
    (a.verdict ≤ 2)
    × ((a.verdict ≡ 2) ↔ ((32 < len) ⊎ (v.size < metric)))
    × (len ≤ 32 → metric ≤ v.size → outcome_given a.verdict a.metric ≡ outcome_of v.program (route_to v address len metric))
    × (len ≤ 32 → metric ≤ v.size → EndsAfter v.program (route_to v address len metric) a.steps (outcome_given a.verdict a.metric))
    × (a.steps ≤ cost v.program.instrs 0)
    × (a.verdict ≡ 1 → (metric ≤ a.metric) × (a.metric ≤ v.size))
    × (a.verdict ≢ 1 → a.metric ≡ 0)
    × (a.verdict ≡ 2 → a.steps ≡ 0)

-- Each route that has room for its answer is answered at its place, and what is behind is as it was.
pub record AreAnswers (v : VerifiedView) (routes : List CRoute) (old new : List Answer) : Type 0 where
  pub room : length new ≡ length old
  pub answered : (i : ℕ) (r : CRoute) (a : Answer) → i < length routes → i < length old
      → IsAnswer v (get_or routes i r).address (get_or routes i r).length (get_or routes i r).metric (get_or new i a)
  pub kept : (i : ℕ) (a : Answer) → length routes ≤ i → get_or new i a ≡ get_or old i a

-- instructions that read the prefix of the route, and that read a metric: the received one or the current one
abbrev pub reads_prefix : Instr → Bool
reads_prefix instr.Net = true
reads_prefix i = false

abbrev pub reads_metric : Instr → Bool
reads_metric instr.Metric = true
reads_metric instr.Received = true
reads_metric i = false

-- the size, the budget, the depth, the number of bytes of the code file, and whether some instruction reads the prefix, or a metric
abbrev pub AreBounds : VerifiedView → Bounds → Type 0
AreBounds v b =
    (b.size ≡ v.size)
    × (b.budget ≡ cost v.program.instrs 0)
    × (b.depth ≡ peak v.program.instrs 0 0)
    × (b.code_size ≡ length (spelling v.program))
    × (b.reads_prefix ≡ list_any reads_prefix v.program.instrs)
    × (b.reads_metric ≡ list_any reads_metric v.program.instrs)
