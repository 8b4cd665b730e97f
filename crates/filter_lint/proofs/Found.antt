-- Warnings that are found at one instruction after another.
use Rattle.std.proofs.Common.{◌≡◌, ℕ, zero, suc, ◌+◌, List, [], ◌++◌, Option, Some, None, IfSome, refl, sym, ap, ◌∙◌, add-one}
use Rattle.std.specs.Prelude.{All, Bool, option_to_list, true}
use Rattle.std.proofs.lemmas.List.Elements.{All-append, All-cons, All-nil}
use Rattle.filter_diff.specs.declared.mark.Mark.{Mark}
use Rattle.filter_lint.specs.Commands.{reached_up_to, was_reached}
use Rattle.filter_lint.specs.Finding.{all_of, below}
use Rattle.filter_lint.specs.SurveyedFilters.{SurveyedFilterView}
use Rattle.filter_lint.specs.declared.warning.Warning.{Warning}

below_suc : (said : ℕ → Option Warning) (n : ℕ) → below said (suc n) ≡ below said n ++ option_to_list (said n)
unfolding below
below_suc said n = refl

-- none yet
pub none_below : (said : ℕ → Option Warning) → below said 0 ≡ []
unfolding below
none_below said = refl

-- one instruction more
pub one_more : (said : ℕ → Option Warning) (n : ℕ) (before after : List Warning) → before ≡ below said n
    → after ≡ before ++ option_to_list (said n) → after ≡ below said (n + 1)
one_more said n before after so_far grown =
    grown ∙ (ap (λ (all : List Warning). all ++ option_to_list (said n)) so_far ∙ (sym (below_suc said n) ∙ ap (below said) (sym (add-one n))))

-- the command before the first instruction, and before the next one
pub none_before : (source : SurveyedFilterView) (marks : List Mark) → was_reached source marks 0 ≡ true
unfolding was_reached
none_before source marks = refl

reached_suc : (source : SurveyedFilterView) (marks : List Mark) (n : ℕ)
    → was_reached source marks (suc n) ≡ reached_up_to source marks n (was_reached source marks n)
unfolding was_reached
reached_suc source marks n = refl

pub next_reached : (source : SurveyedFilterView) (marks : List Mark) (n : ℕ) (was is : Bool) → was ≡ was_reached source marks n
    → is ≡ reached_up_to source marks n was → is ≡ was_reached source marks (n + 1)
next_reached source marks n was is before after =
    after ∙ (ap (reached_up_to source marks n) before ∙ (sym (reached_suc source marks n) ∙ ap (was_reached source marks) (sym (add-one n))))

-- what holds of each holds of all
each_as_list : (P : Warning → Type 0) (o : Option Warning) → IfSome o P → All P (option_to_list o)
each_as_list P None h = All-nil P
each_as_list P (Some w) h = All-cons P w [] h (All-nil P)

pub all_below : (P : Warning → Type 0) (said : ℕ → Option Warning) → ((k : ℕ) → IfSome (said k) P) → (n : ℕ) → All P (below said n)
unfolding below
all_below P said each zero = All-nil P
all_below P said each (suc n) = All-append P (below said n) (option_to_list (said n)) (all_below P said each n) (each_as_list P (said n) (each n))

-- the same where more than one may be said of each
of_suc : (said : ℕ → List Warning) (n : ℕ) → all_of said (suc n) ≡ all_of said n ++ said n
unfolding all_of
of_suc said n = refl

pub none_of : (said : ℕ → List Warning) → all_of said 0 ≡ []
unfolding all_of
none_of said = refl

pub more_of : (said : ℕ → List Warning) (n : ℕ) (before after : List Warning) → before ≡ all_of said n → after ≡ before ++ said n
    → after ≡ all_of said (n + 1)
more_of said n before after so_far grown =
    grown ∙ (ap (λ (all : List Warning). all ++ said n) so_far ∙ (sym (of_suc said n) ∙ ap (all_of said) (sym (add-one n))))

pub each_of : (P : Warning → Type 0) (said : ℕ → List Warning) → ((k : ℕ) → All P (said k)) → (n : ℕ) → All P (all_of said n)
unfolding all_of
each_of P said each zero = All-nil P
each_of P said each (suc n) = All-append P (all_of said n) (said n) (each_of P said each n) (each n)
