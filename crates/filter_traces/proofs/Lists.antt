-- How the lines on commands grow, and that they depend on the counts alone.
use Rattle.std.proofs.Common.{◌≡◌, ℕ, zero, suc, ◌+◌, ◌<◌, Bool, List, ◌++◌, refl, sym, ap, ◌∙◌, append_assoc, add-one, arith}
use Rattle.std.proofs.lemmas.List.{append-nil}
use Rattle.filter_traces.specs.Commands.{chosen_line, chosen_lines}
use Rattle.filter_traces.specs.TracedView.{TracedView}

pub none_chosen : (t : TracedView) (is_reached : Bool) (count : ℕ → ℕ) (start : List ℕ) → start ≡ start ++ chosen_lines t is_reached count 0
unfolding chosen_lines
none_chosen t is_reached count start = sym (append-nil start)

pub chosen_more : (t : TracedView) (is_reached : Bool) (count : ℕ → ℕ) (n given : ℕ) (start now text : List ℕ)
    → now ≡ start ++ chosen_lines t is_reached count n → given ≡ count n → text ≡ now ++ chosen_line t is_reached n given
    → text ≡ start ++ chosen_lines t is_reached count (n + 1)
unfolding chosen_lines
chosen_more t is_reached count n given start now text so_far same more =
    rw add-one
    (more ∙ (ap (λ (k : ℕ). now ++ chosen_line t is_reached n k) same
    ∙ (ap (λ (x : List ℕ). x ++ chosen_line t is_reached n (count n)) so_far ∙ simp append_assoc)))

-- counts that agree below n
pub same_lines : (t : TracedView) (is_reached : Bool) (f g : ℕ → ℕ) (n : ℕ) → ((k : ℕ) → k < n → f k ≡ g k)
    → chosen_lines t is_reached f n ≡ chosen_lines t is_reached g n
unfolding chosen_lines
same_lines t is_reached f g zero same = refl
same_lines t is_reached f g (suc n) same =
    ap (λ (x : List ℕ). x ++ chosen_line t is_reached n (f n)) (same_lines t is_reached f g n (λ k less. same k (omega arith)))
    ∙ ap (λ (count : ℕ). chosen_lines t is_reached g n ++ chosen_line t is_reached n count) (same n (omega arith))
