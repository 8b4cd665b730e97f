-- What a router's file says twice. (This project's own choice.)
use Rattle.std.specs.Prelude.{◌≡◌, ◌<◌, ◌&&◌, ◌||◌, ℕ, Bool, false, List, Option, Some, None, find, length, slice_get, take}
use Rattle.std.specs.Str.{bytes_eq}
use Rattle.router_files.specs.Files.{StatementView, statement_of}
use Rattle.router_files.specs.Options.{name_of, stands_once}
use Rattle.router_files.specs.Said.{SaidView, Named}
use Rattle.router_files.specs.declared.again.Again.{Again}

-- the name that is given to a filter
abbrev pub filter_named : SaidView → Option (List ℕ)
filter_named (Named name file) = Some name
filter_named _ = None

abbrev pub are_one : Option (List ℕ) → Option (List ℕ) → Bool
are_one (Some one) (Some other) = bytes_eq one other
are_one _ _ = false

abbrev pub have_one_name : SaidView → SaidView → Bool
have_one_name one other = are_one (filter_named one) (filter_named other)

-- both say an option that one line alone may say, or give one name to a filter
abbrev pub says_again : StatementView → StatementView → Bool
says_again one other =
    bytes_eq (name_of one.option) (name_of other.option) && (stands_once one.option || have_one_name one.said other.said)

-- the first earlier statement that the one of this index says again
abbrev pub first_said : List StatementView → ℕ → StatementView → Option StatementView
first_said statements n one = find (says_again one) (take n statements)

-- no statement before this index says again what an earlier one says
abbrev pub NoneBefore : List StatementView → ℕ → Type 0
NoneBefore statements end =
    (n : ℕ) (one : StatementView) → n < end → slice_get statements n ≡ Some one → first_said statements n one ≡ None

abbrev pub NoneAgain : List StatementView → Type 0
NoneAgain statements = NoneBefore statements (length statements)

-- This is the first that does, and what it says again.
pub record IsAgain (statements : List StatementView) (again : Again) : Type 0 where
  pub n : ℕ
  pub later : slice_get statements n ≡ Some (statement_of again.later.now)
  pub earlier : first_said statements n (statement_of again.later.now) ≡ Some (statement_of again.earlier.now)
  pub first : NoneBefore statements n
