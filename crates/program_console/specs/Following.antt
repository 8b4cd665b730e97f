-- How things of one kind, as sources, follow one another, each of which leaves a state to the next one. (This project's own choice.)
use Rattle.std.specs.Prelude.{◌≡◌, ◌||◌, ℕ, zero, suc, Bool, List, Some, length, slice_get}
use Rattle.program_console.specs.Streaming.{Streams}

-- `DoesOne earlier one before after state` says what is done with one of them in a state, and the state behind it; `start` is the first state.
module _ {A B : Type 0} (start : B) (DoesOne : B → A → Streams → Streams → B → Type 0) where
  -- It was done with the first n of some of them, in order.
  unfoldable pub DoesFirst : List A → ℕ → Streams → Streams → B → Type 0
  DoesFirst all zero before after state = (after ≡ before) × (state ≡ start)
  DoesFirst all (suc n) before after state = (one : A) × (mid : Streams) × (earlier : B) × (slice_get all n ≡ Some one)
      × DoesFirst all n before mid earlier × DoesOne earlier one mid after state

  -- It was done with all of them.
  abbrev pub DoesAll : List A → Streams → Streams → B → Type 0
  DoesAll all before after state = DoesFirst all (length all) before after state

  -- `CutsOne earlier one before after` says how a fault cuts it with one of them: here behind the first of them.
  pub record CutsLater (CutsOne : B → A → Streams → Streams → Type 0) (all : List A) (before after : Streams) : Type 0 where
    pub n : ℕ
    pub one : A
    pub is_one : slice_get all n ≡ Some one
    pub mid : Streams
    pub earlier : B
    pub first : DoesFirst all n before mid earlier
    pub cut : CutsOne earlier one mid after

-- `FindsOne one before after found` says what is done with one of them, and whether something is found of it: it is kept whether something was
-- found of one so far.
module _ {A : Type 0} (FindsOne : A → Streams → Streams → Bool → Type 0) where
  abbrev pub FindsNext : Bool → A → Streams → Streams → Bool → Type 0
  FindsNext earlier one before after found = (own : Bool) × FindsOne one before after own × (found ≡ (earlier || own))
