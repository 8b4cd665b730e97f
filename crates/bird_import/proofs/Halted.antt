-- Where the steps from the words of a filter go no further.
use Rattle.std.proofs.Common.{◌≡◌, ℕ, zero, suc, ◌+◌, ◌*◌, ◌<◌, ◌≤◌, ◌⊎◌, List, Option, Some, None, ◌∙◌, length, subst, inl, inr, add-one, refl, arith}
use Rattle.std.proofs.Math.Nat.{mul-le-mul_right}
use Rattle.std.specs.Prelude.{IfOk, IfSome, Result, Ok, Err, slice_get}
use Rattle.bird_import.specs.Conversions.{words_of}
use Rattle.bird_import.specs.Indices.{kind_of_word}
use Rattle.bird_import.specs.Reasons.{why_of, why_of_next}
use Rattle.bird_import.specs.Steps.{BecomesWithin, Reaches}
use Rattle.bird_import.specs.Stuck.{Calls, Halts, Hinder, Hinders, IsCallBy, IsCalled, IsFunctionNamed}
use Rattle.bird_import.specs.Stuck.{IsFunctionOf, IsOutside, IsStuck, IsTooDeep, IsUsed}
use Rattle.bird_import.proofs.Below.{same_some}
use Rattle.bird_import.proofs.Reached.{no_step}
use Rattle.bird_import.specs.declared.config.Config.{Config}
use Rattle.bird_import.specs.declared.conversions.Next.{Next}
use Rattle.bird_import.specs.declared.conversions.ConversionOutcome.{ConversionOutcome}
use Rattle.bird_import.specs.declared.items.Item.{Item}
use Rattle.bird_import.specs.declared.reason.Why.{Why}
use Rattle.bird_import.specs.declared.reason.Why.TheVariants as why
use Rattle.bird_import.specs.declared.reason.Why.TheVariants.{TooLong}
use Rattle.bird_import.specs.declared.word.Word.{Word}
use Rattle.bird_import.specs.declared.word.WordKind.TheVariants as kind

-- what stands in words hinders
pub by_hinders : (config : Config) (depth : ℕ) (words : List Word) (why : Why) → Hinders config words why → Halts config depth words why
unfolding Halts
by_hinders config zero words why is = inl is
by_hinders config (suc depth) words why is = inl is

-- a call is too deep
pub by_depth : (config : Config) (depth : ℕ) (words : List Word) (why : Why) → IsTooDeep config depth words why → Halts config depth words why
unfolding Halts
by_depth config zero words why is = inr is
by_depth config (suc depth) words why is = inr (inl is)

by_call_within : (config : Config) (depth : ℕ) (words : List Word) (one : Item) (why : Why) → Calls config words one
    → IsStuck config depth (words_of config.words.now one) why → Halts config (suc depth) words why
unfolding Halts
by_call_within config depth words one why calls is = inr (inr (one, calls, is))

-- the steps of a function go no further
pub by_call : (config : Config) (depth less : ℕ) (words : List Word) (one : Item) (why : Why) → depth ≡ less + 1 → Calls config words one
    → IsStuck config less (words_of config.words.now one) why → Halts config depth words why
by_call config depth less words one why deep calls is = rw (deep, add-one) (by_call_within config less words one why calls is)

-- so they do where the words of a function are copied first
pub by_copy : (config : Config) (depth less : ℕ) (words : List Word) (one : Item) (copy source : List Word) (why : Why) → depth ≡ less + 1
    → Calls config words one → copy ≡ source → source ≡ words_of config.words.now one → IsStuck config less copy why → Halts config depth words why
by_copy config depth less words one copy source why deep calls same is stuck =
    by_call config depth less words one why deep calls (subst (λ list. IsStuck config less list why) (same ∙ is) stuck)

-- a call is refused
pub by_refusal : (config : Config) (depth : ℕ) (words : List Word) (why : Why) → Hinders config words why ⊎ IsTooDeep config depth words why
    → Halts config depth words why
by_refusal config depth words why (inl is) = by_hinders config depth words why is
by_refusal config depth words why (inr is) = by_depth config depth words why is

-- the item at an index is the function of a name
pub function_here : (config : Config) (name : List ℕ) (k : ℕ) (one : Item) → slice_get config.items.now k ≡ Some one → IsFunctionNamed name one
    → IsFunctionOf config name k one
function_here config name k one is named = record { is = is; named = named }

-- it is not
pub no_function : (config : Config) (name : List ℕ) (k : ℕ) (there : Item) → slice_get config.items.now k ≡ Some there
    → (IsFunctionNamed name there → ⊥) → (one : Item) → IsFunctionOf config name k one → ⊥
no_function config name k there is not one of_name =
    not (subst (λ item. IsFunctionNamed name item) (same_some (slice_get config.items.now k) one there of_name.is is) of_name.named)

-- the word that calls a function is a name among the words
pub used_by : (words : List Word) (k : ℕ) (word : Word) → IsCallBy words k word → IsUsed word.bytes.now word words
used_by words k word call =
    let is_name : kind_of_word (Some word) ≡ kind.Name = subst (λ found. kind_of_word found ≡ kind.Name) call.is call.call.is.0 in
    (k, call.is, (is_name, refl))

calls_by : (config : Config) (words : List Word) (k : ℕ) (word : Word) (one : Item) → IsCallBy words k word → IsCalled config word.bytes.now one
    → Calls config words one
calls_by config words k word one call called = record { name = word.bytes.now; k = k; is_call = call.call; is_called = called }

-- the words of a function that is called are none of the configuration's
pub outside : (config : Config) (depth : ℕ) (words : List Word) (k : ℕ) (word : Word) (one : Item) (why : Why) → IsCallBy words k word
    → IsCalled config word.bytes.now one → why ≡ TooLong → IsOutside config one → Hinders config words why ⊎ IsTooDeep config depth words why
outside config depth words k word one why call called is out = rw is (inr (one, calls_by config words k word one call called, inr out))

-- or it is called too deep
pub too_deep : (config : Config) (depth : ℕ) (words : List Word) (k : ℕ) (word : Word) (one : Item) (why : Why) → IsCallBy words k word
    → IsCalled config word.bytes.now one → why ≡ TooLong → depth ≡ 0 → Hinders config words why ⊎ IsTooDeep config depth words why
too_deep config depth words k word one why call called is deep = rw is (inr (one, calls_by config words k word one call called, inl deep))

-- the steps go no further at the words with which they begin
pub at_once : (config : Config) (depth : ℕ) (before slice : List Word) (why : Why) → slice ≡ before → Hinders config slice why
    → IsStuck config depth before why
at_once config depth before slice why same is =
    inr (
      before,
      (0, no_step config.words.now (BecomesWithin config.words.now depth) before),
      subst (λ list. Halts config depth list why) same (by_hinders config depth slice why is),
    )

-- what hinders whatever else the configuration has
pub hinders_of : (config : Config) (words : List Word) (why : Why) → Hinder words why → Hinders config words why
hinders_of config words (why.Unknown name) is = absurd is
hinders_of config words (why.Foreign name) is = absurd is
hinders_of config words (why.Property name) is = absurd is
hinders_of config words why.Strange is = absurd is
hinders_of config words (why.DefinedLater name) is = absurd is
hinders_of config words (why.DefinedTwice name) is = absurd is
hinders_of config words (why.OneWord name) is = absurd is
hinders_of config words (why.UnknownCall name) is = absurd is
hinders_of config words (why.FunctionArguments name) is = is
hinders_of config words (why.FunctionShape name) is = is
hinders_of config words why.EarlyReturn is = is
hinders_of config words (why.SetVariable name) is = is
hinders_of config words why.PrintDoesMore is = is
hinders_of config words why.CaseLabels is = is
hinders_of config words why.Unclosed is = absurd is
hinders_of config words (why.LeftOpen name) is = absurd is
hinders_of config words why.SameName is = absurd is
hinders_of config words why.NoName is = absurd is
hinders_of config words (why.Unset name) is = absurd is
hinders_of config words (why.NoValue name) is = absurd is
hinders_of config words (why.TwoMeanings name) is = absurd is
hinders_of config words (why.OutOfScope name) is = is
hinders_of config words why.Ipv6 is = absurd is
hinders_of config words why.TooLong is = absurd is
hinders_of config words why.Unwritten is = is

-- more is said of a reason
more_of_some : (P Q : Why → Type 0) (found : Option Why) → ((why : Why) → P why → Q why) → IfSome found P → IfSome found Q
more_of_some P Q (Some why) more is = more why is
more_of_some P Q None more is = is

pub more_of_why : {E : Type 0} (P Q : Why → Type 0) (next : Result Next E) → ((why : Why) → P why → Q why)
    → IfOk next (λ found. IfSome (why_of_next found) P) → IfOk next (λ found. IfSome (why_of_next found) Q)
more_of_why P Q (Ok next) more is = more_of_some P Q (why_of_next next) more is
more_of_why P Q (Err error) more is = is

module _ (config : Config) (depth n : ℕ) (before words : List Word) (steps : Reaches config.words.now (BecomesWithin config.words.now depth) n before words) where
  -- the steps go no further at the words that are there
  pub stuck_at : (slice : List Word) (why : Why) → slice ≡ words → Halts config depth slice why → IsStuck config depth before why
  stuck_at slice why same halts = inr (words, (n, steps), subst (λ list. Halts config depth list why) same halts)

  -- there are too many words
  pub by_words : (outcome : ConversionOutcome) → why_of outcome ≡ Some TooLong → 65536 < length words → IfSome (why_of outcome) (IsStuck config depth before)
  by_words outcome is long = rw is (inl (inl (words, (n, steps), long)))

  -- there are too many steps
  pub by_steps : (outcome : ConversionOutcome) → why_of outcome ≡ Some TooLong → 65536 ≤ n → IfSome (why_of outcome) (IsStuck config depth before)
  by_steps outcome is long = rw is (inl (inr (n, words, inl long, steps)))

  -- they go through too many words
  pub by_work : (outcome : ConversionOutcome) (made : ℕ) (slice : List Word) → why_of outcome ≡ Some TooLong → slice ≡ words → made ≤ n
      → 33554432 < made * length slice → IfSome (why_of outcome) (IsStuck config depth before)
  by_work outcome made slice is same few long =
      let many : made * length words ≤ n * length words = mul-le-mul_right (length words) few in
      let past : 33554432 < made * length words = subst (λ (list : List Word). 33554432 < made * length list) same long in
      let more : 33554432 < n * length words = omega (arith, many, past) in
      rw is (inl (inr (n, words, inr more, steps)))
