-- A run comes to each place at most once, so that its steps are counted one by one.
use Rattle.std.proofs.Common.{◌≡◌, ℕ, zero, suc, ◌+◌, ◌-◌, ◌<◌, ◌≤◌, ◌==◌, ◌||◌, Bool, true}
use Rattle.std.proofs.Common.{false, length, refl, sym, ap, ◌∙◌, add-zero, add-one, arith}
use Rattle.std.proofs.lemmas.Bool.Decides.{nat_tests}
use Rattle.filter_code.specs.CodeView.{CodeView}
use Rattle.filter_code.specs.Machine.{Config, State, Going, Ended, after, next, step}
use Rattle.filter_code.specs.RouteView.{RouteView}
use Rattle.filter_code.specs.declared.outcome.Outcome.{Outcome}
use Rattle.filter_code.proofs.Runs.{step_moves}
use Rattle.filter_traces.specs.Hits.{comes_to, comes_within, counted_up, is_at}
use Rattle.filter_traces.proofs.Runs.{after_more, stays}

-- one state more
comes-suc : (program : CodeView) (route : RouteView) (place n : ℕ)
    → comes_within program route place (n + 1) ≡ (comes_within program route place n || is_at place (after program route n))
unfolding comes_within
comes-suc program route place n = rw add-one refl

pub comes_nowhere : (program : CodeView) (route : RouteView) (place : ℕ) → comes_within program route place 0 ≡ false
unfolding comes_within
comes_nowhere program route place = refl

-- a place before another one is not that
elsewhere : (pc place : ℕ) → pc < place → (pc == place) ≡ false
elsewhere pc place less = grind (arith, nat_tests)

here_is : (pc place : ℕ) → (pc == place) ≡ true → pc ≤ place
here_is pc place same = grind (arith, nat_tests)

-- A run that has come to a configuration has not been at its place before, nor at a later one.
passed_from : (program : CodeView) (route : RouteView) (n place : ℕ) (c : Config) (state : State) → after program route n ≡ state
    → ((d : Config) → after program route n ≡ Going d → d.pc ≤ place → comes_within program route place n ≡ false)
    → next program route state ≡ Going c → c.pc ≤ place
    → (comes_within program route place n || is_at place (after program route n)) ≡ false
passed_from program route n place c (Going d) at earlier on le =
    let moved : d.pc < c.pc = (step_moves program route d c on).on in
    let before : d.pc < place = omega arith in
    ap (λ (b : Bool). b || is_at place (after program route n)) (earlier d at (omega arith))
    ∙ (ap (is_at place) at ∙ elsewhere d.pc place before)
passed_from program route n place c (Ended end) at earlier on le = cc

passed : (program : CodeView) (route : RouteView) (n place : ℕ) (c : Config) → after program route n ≡ Going c → c.pc ≤ place
    → comes_within program route place n ≡ false
unfolding comes_within after
passed program route zero place c here le = refl
passed program route (suc n) place c here le =
    passed_from program route n place c (after program route n) refl (λ d at less. passed program route n place d at less) here le

-- what is counted for two things of which at most one is so
merged : (b e : Bool) (old : ℕ) → (e ≡ true → b ≡ false) → counted_up e (counted_up b old) ≡ counted_up (b || e) old
merged false e old apart = refl
merged true false old apart = refl
merged true true old apart = let no : ⊥ = cc (apart refl) in absurd no

-- one step more is counted
pub counted_more : (program : CodeView) (route : RouteView) (n k old : ℕ) (c : Config) → after program route n ≡ Going c
    → counted_up (c.pc == k) (counted_up (comes_within program route k n) old) ≡ counted_up (comes_within program route k (n + 1)) old
counted_more program route n k old c here =
    merged (comes_within program route k n) (c.pc == k) old (λ same. passed program route n k c here (here_is c.pc k same))
    ∙ ap (λ (b : Bool). counted_up b old) (sym (comes-suc program route k n ∙ ap (λ (s : State). comes_within program route k n || is_at k s) here))

-- what has ended comes nowhere else
or_false : (b : Bool) → (b || false) ≡ b
or_false false = refl
or_false true = refl

comes_stays : (program : CodeView) (route : RouteView) (place n more : ℕ) (end : Outcome) → after program route n ≡ Ended end
    → comes_within program route place (n + more) ≡ comes_within program route place n
comes_stays program route place n zero end e = rw add-zero refl
comes_stays program route place n (suc more) end e =
    let next_one : n + suc more ≡ (n + more) + 1 = omega arith in
    ap (comes_within program route place) next_one
    ∙ (comes-suc program route place (n + more)
    ∙ (ap (λ (s : State). comes_within program route place (n + more) || is_at place s) (stays program route n more end e)
    ∙ (or_false (comes_within program route place (n + more)) ∙ comes_stays program route place n more end e)))

-- where a step ends the run, that is all
pub ended_count : (program : CodeView) (route : RouteView) (n : ℕ) (c : Config) (end : Outcome) → n ≤ length program.instrs
    → after program route n ≡ Going c → step program route c ≡ Ended end
    → (k : ℕ) → comes_within program route k (n + 1) ≡ comes_to program route k
ended_count program route n c end few here ends k =
    let all : (n + 1) + (length program.instrs - n) ≡ length program.instrs + 1 = omega arith in
    sym (rw all at (comes_stays program route k (n + 1) (length program.instrs - n) end (after_more program route n c (Ended end) here ends)))

-- what is counted at a place after one step more
pub one_more_count : (program : CodeView) (route : RouteView) (n : ℕ) (c : Config) → after program route n ≡ Going c
    → (k place first mid now : ℕ) → place ≡ c.pc → mid ≡ counted_up (comes_within program route k n) first
    → now ≡ counted_up (place == k) mid → now ≡ counted_up (comes_within program route k (n + 1)) first
one_more_count program route n c here k place first mid now at so_far more =
    more ∙ (ap (λ (p : ℕ). counted_up (p == k) mid) at ∙ (ap (counted_up (c.pc == k)) so_far ∙ counted_more program route n k first c here))
