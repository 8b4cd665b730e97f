-- Definitions are put in, one after another.
use Rattle.std.proofs.Common.{◌≡◌, ℕ, suc, ◌+◌, ◌≤◌, ◌++◌, List, [], ◌∷◌, inl, inr, refl, sym, ◌∙◌, ap, subst, length, drop, append_assoc, append-nil, zero}
use Rattle.std.proofs.lemmas.List.{drop_all, drop_more}
use Rattle.std.proofs.lemmas.Option.{get_or_from_slice_get, slice_get_within}
use Rattle.std.specs.Prelude.{Some, slice_get}
use Rattle.bird_import.specs.Conversions.{IsDefinedHere}
use Rattle.bird_import.specs.Rules.{IsDefined}
use Rattle.bird_import.specs.Steps.{Becomes, BecomesWithin, Reaches}
use Rattle.bird_import.specs.declared.step.Rule.TheVariants as rule
use Rattle.bird_import.specs.declared.word.Word.{Word}
use Rattle.bird_import.proofs.Reached.{no_step, one_step}

-- no step is made
pub unchanged : (config : List Word) (depth : ℕ) (words : List Word) → Becomes config depth words words
unchanged config depth words = (0, no_step config (BecomesWithin config depth) words)

-- so many steps, and then so many
more_steps : (config : List Word) (Becoming : List Word → List Word → Type 0) (n m : ℕ) (before mid after : List Word)
    → Reaches config Becoming n before mid → Reaches config Becoming m mid after → (k : ℕ) × Reaches config Becoming k before after
unfolding Reaches
more_steps config Becoming n zero before mid after first second = (n, subst (λ list. Reaches config Becoming n before list) (sym second) first)
more_steps config Becoming n (suc m) before mid after first second =
    let so_far = more_steps config Becoming n m before mid second.0 first second.1 in
    (suc so_far.0, one_step config Becoming so_far.0 before second.0 after so_far.1 second.2)

pub becomes_on : (config : List Word) (depth : ℕ) (before mid after : List Word) → Becomes config depth before mid
    → Becomes config depth mid after → Becomes config depth before after
becomes_on config depth before mid after first second =
    more_steps config (BecomesWithin config depth) first.0 second.0 before mid after first.1 second.1

-- one step that puts in a definition
define_one : (config : List Word) (depth : ℕ) (before front new back : List Word) (word : Word)
    → Becomes config depth before (front ++ word ∷ back) → IsDefined config (word ∷ []) new → Becomes config depth before (front ++ new ++ back)
define_one config depth before front new back word so_far is = (
  suc so_far.0,
  one_step config (BecomesWithin config depth) so_far.0 before (front ++ word ∷ back) (front ++ new ++ back) so_far.1
      (inl (rule.Defined, record { front = front; old = word ∷ []; new = new; back = back; was = refl; is = refl; way = is })),
)

-- one word further
cut_at : (words : List Word) (at : ℕ) (word : Word) → slice_get words at ≡ Some word → drop at words ≡ word ∷ drop (at + 1) words
cut_at words at word is =
    drop_more words at word (slice_get_within words at word is)
    ∙ ap (λ first. first ∷ drop (at + 1) words) (get_or_from_slice_get words at word word is)

pub further : (config words before after : List Word) (at : ℕ) (word : Word) → slice_get words at ≡ Some word
    → IsDefinedHere config word before after → ((depth : ℕ) → Becomes config depth words (before ++ drop at words))
    → (depth : ℕ) → Becomes config depth words (after ++ drop (at + 1) words)
further config words before after at word is (inl same) so_far depth =
    let whole : before ++ drop at words ≡ after ++ drop (at + 1) words =
    ap (λ list. before ++ list) (cut_at words at word is) ∙ sym (append_assoc before (word ∷ []) (drop (at + 1) words))
    ∙ ap (λ list. list ++ drop (at + 1) words) (sym same) in
    subst (λ list. Becomes config depth words list) whole (so_far depth)
further config words before after at word is (inr defined) so_far depth =
    let here : Becomes config depth words (before ++ word ∷ drop (at + 1) words) =
    subst (λ list. Becomes config depth words (before ++ list)) (cut_at words at word is) (so_far depth) in
    subst (λ list. Becomes config depth words (list ++ drop (at + 1) words)) (sym defined.2)
    (define_one config depth words before defined.0 (drop (at + 1) words) word here defined.1)

-- no word is left
pub all_defined : (config words done : List Word) (at : ℕ) → length words ≤ at → ((depth : ℕ) → Becomes config depth words (done ++ drop at words))
    → (depth : ℕ) → Becomes config depth words done
all_defined config words done at past so_far depth =
    subst (λ list. Becomes config depth words list) (ap (λ list. done ++ list) (drop_all at words past) ∙ append-nil done) (so_far depth)
