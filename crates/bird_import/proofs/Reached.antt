-- How steps follow one another, and conversions.
use Rattle.std.proofs.Common.{Option, subst, sym, ◌≡◌, ℕ, suc, ◌+◌, ◌-◌, ◌++◌, List, [], Some, refl, add-one}
use Rattle.std.specs.Prelude.{IfOk, IfSome, Result, Ok, Err, slice_get}
use Rattle.bird_import.specs.Conversions.{IsCallee, IsNext, words_of}
use Rattle.bird_import.specs.Functions.{IsCallOf}
use Rattle.bird_import.specs.Judged.{HasConversion, HaveConversions}
use Rattle.bird_import.specs.Steps.{Becomes, BecomesWithin, IsCallWritten, IsPart, Reaches, Replaces, Writes}
use Rattle.bird_import.specs.declared.config.Config.{Config}
use Rattle.bird_import.specs.declared.conversions.Conversion.{Conversion}
use Rattle.bird_import.specs.declared.conversions.Next.{Next}
use Rattle.bird_import.specs.declared.conversions.Next.TheVariants.{Done, Stuck, Words}
use Rattle.bird_import.specs.declared.items.Item.{Item}
use Rattle.bird_import.specs.declared.word.Word.{Word}

-- no step
pub no_step : (config : List Word) (Becoming : List Word → List Word → Type 0) (words : List Word) → Reaches config Becoming 0 words words
unfolding Reaches
no_step config Becoming words = refl

-- what a function's words become that is called where functions may call functions once more
pub less_deep : (config : List Word) (depth less : ℕ) (before after : List Word) → depth ≡ less + 1 → Becomes config less before after
    → BecomesWithin config depth before after
unfolding BecomesWithin
less_deep config depth less before after is becomes = rw (is, add-one) becomes

-- no item
pub no_conversion : (config : Config) (items : List Item) (conversions : List Conversion) → conversions ≡ [] → HaveConversions config items 0 conversions
unfolding HaveConversions
no_conversion config items conversions none = none

-- one more
pub one_conversion : (config : Config) (items : List Item) (n : ℕ) (one : Item) (before after : List Conversion) → slice_get items n ≡ Some one
    → HaveConversions config items n before → HasConversion config one.kind one before after → HaveConversions config items (n + 1) after
unfolding HaveConversions
one_conversion config items n one before after is conversions more = rw add-one (one, before, is, conversions, more)

-- a part of some words is written as another
pub replaced : (Way : List Word → List Word → List Word → List Word → Type 0) (words front old new back after : List Word)
    → words ≡ front ++ (old ++ back) → after ≡ front ++ new ++ back → Way front old new back → Replaces Way words after
replaced Way words front old new back after was is way = record {
  front = front;
  old = old;
  new = new;
  back = back;
  was = was;
  is = is;
  way = way;
}

-- what holds of a value that there is
pub of_some : {A : Type 0} (P : A → Type 0) (made : Option A) (value : A) → made ≡ Some value → IfSome made P → P value
of_some P made value is holds = subst (λ m. IfSome m P) is holds

-- the words of an item are those of a function that is called
pub callee : (config : List Word) (one : Item) (depth : ℕ) (source : List Word) (less : ℕ) → source ≡ words_of config one → depth ≡ less + 1
    → IsCallee config depth source less
callee config one depth source less is deep = record { part = record { at = one.from; len = one.to - one.from; is = is }; deep = deep }

-- what stands for a call of a function, whose words have become others, is written in its place
called : (config : List Word) (Becoming : List Word → List Word → Type 0) (source function words after : List Word) → IsPart config source
    → Becoming source function → Replaces (λ front old new back. IsCallOf source function front old new) words after
    → Replaces (IsCallWritten config Becoming) words after
called config Becoming source function words after part becomes step = record {
  front = step.front;
  old = step.old;
  new = step.new;
  back = step.back;
  was = step.was;
  is = step.is;
  way = record { source = source; part = part; function = function; becomes = becomes; call = step.way };
}

-- more is said of the words that come next
next_more : (P Q : List Word → Type 0) → ((words : List Word) → P words → Q words) → (next : Next) → IsNext P next → IsNext Q next
next_more P Q more (Words after) is = more after.items is
next_more P Q more (Stuck reason) is = is
next_more P Q more Done is = is

pub more_of_next : {E : Type 0} (P Q : List Word → Type 0) (next : Result Next E) → ((words : List Word) → P words → Q words)
    → IfOk next (IsNext P) → IfOk next (IsNext Q)
more_of_next P Q (Ok next) more is = next_more P Q more next is
more_of_next P Q (Err error) more is = is

-- a copy of a function's words has become others, and so have these
within_depth : (config : List Word) (depth less : ℕ) (source copy function slice : List Word) → IsCallee config depth source less
    → copy ≡ source → slice ≡ function → Becomes config less copy function → BecomesWithin config depth source slice
within_depth config depth less source copy function slice of same sliced becomes =
    let whole : Becomes config less source function = subst (λ list. Becomes config less list function) same becomes in
    less_deep config depth less source slice of.deep (subst (λ list. Becomes config less source list) (sym sliced) whole)

-- so what comes next is a call that is written
pub call_is_next : {E : Type 0} (config words : List Word) (depth less : ℕ) (source copy function slice : List Word) (next : Result Next E)
    → IsCallee config depth source less → copy ≡ source → slice ≡ function → Becomes config less copy function
    → IfOk next (IsNext (Replaces (λ front old new back. IsCallOf source slice front old new) words))
    → IfOk next (IsNext (Replaces (IsCallWritten config (BecomesWithin config depth)) words))
call_is_next config words depth less source copy function slice next of same sliced becomes is =
    let within = within_depth config depth less source copy function slice of same sliced becomes in
    more_of_next (Replaces (λ front old new back. IsCallOf source slice front old new) words)
    (Replaces (IsCallWritten config (BecomesWithin config depth)) words) next
    (λ after step. called config (BecomesWithin config depth) source slice words after of.part within step) is

pub one_step : (config : List Word) (Becoming : List Word → List Word → Type 0) (n : ℕ) (before mid after : List Word)
    → Reaches config Becoming n before mid → Writes config Becoming mid after → Reaches config Becoming (suc n) before after
unfolding Reaches
one_step config Becoming n before mid after steps step = (mid, steps, step)

-- one more step, of the words that are there
pub steps_on : (config : List Word) (Becoming : List Word → List Word → Type 0) (n : ℕ) (before mid slice after : List Word) → slice ≡ mid
    → Reaches config Becoming n before mid → Writes config Becoming slice after → Reaches config Becoming (n + 1) before after
steps_on config Becoming n before mid slice after same steps step =
    rw add-one (one_step config Becoming n before mid after steps (subst (λ list. Writes config Becoming list after) same step))
