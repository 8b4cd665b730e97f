-- One number more.
use Rattle.std.proofs.Common.{◌≡◌, ℕ, suc, ◌+◌, Bool, List, ◌++◌, sym, ap, ◌∙◌, append_assoc, arith}
use Rattle.domain_cmds.specs.Failures.{count_below, lists_below, one_if, sum_below}

one_up : (n : ℕ) → n + 1 ≡ suc n
one_up n = omega arith

pub count_more : (n : ℕ) (test : ℕ → Bool) → count_below (n + 1) test ≡ count_below n test + one_if (test n)
count_more n test = ap (λ k. count_below k test) (one_up n)

pub sum_more : (n : ℕ) (f : ℕ → ℕ) → sum_below (n + 1) f ≡ sum_below n f + f n
sum_more n f = ap (λ k. sum_below k f) (one_up n)

pub lists_more : {X : Type 0} (n : ℕ) (list : ℕ → List X) → lists_below (n + 1) list ≡ lists_below n list ++ list n
lists_more n list = ap (λ k. lists_below k list) (one_up n)

-- what was added at the numbers so far, and what is added at one more
pub one_list_more : {X : Type 0} (list : ℕ → List X) (n : ℕ) (old mid new : List X) → mid ≡ old ++ lists_below n list → new ≡ mid ++ list n
    → new ≡ old ++ lists_below (n + 1) list
one_list_more {X} list n old mid new first next =
    next ∙ ap (λ (l : List X). l ++ list n) first ∙ append_assoc old (lists_below n list) (list n)
    ∙ ap (λ (l : List X). old ++ l) (sym (lists_more n list))
