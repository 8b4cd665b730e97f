-- What a link tells of itself. (This project's own choice.)
use Rattle.std.specs.Prelude.{◌≡◌, ℕ, ◌+◌, ◌-◌, ◌^◌, ◌<◌, Bool, true, Option, Some, None, List, [], ◌∷◌, ◌++◌}
use Rattle.std.specs.Option.{option_or}
use Rattle.netchange_core.specs.declared.message.Message.{Message}

-- The messages that it handed out and that it was given, in order; the first message that it did not take, if there is one; how often
-- it answered that no message was there; whether it answered that it has ended; how often it failed; and whether it is closed. None
-- where the link does not tell.
pub record LinkTrace : Type 0 where
  pub handed : Option (List Message)
  pub given : Option (List Message)
  pub first_refused : Option (Option Message)
  pub nothings : Option ℕ
  pub ended : Option Bool
  pub failures : Option ℕ
  pub closed : Bool

-- messages with more after them; what is untold stays untold
abbrev pub grown : Option (List Message) → List Message → Option (List Message)
grown None more = None
grown (Some messages) more = Some (messages ++ more)

-- the first message that was not taken, after one more that was not
abbrev pub refuse : Option (Option Message) → Message → Option (Option Message)
refuse None m = None
refuse (Some first) m = Some (option_or first (Some m))

-- and after a writer that ended with these messages unsent, of which the first was not taken
abbrev pub refuse_first : Option (Option Message) → List Message → Option (Option Message)
refuse_first first [] = first
refuse_first first (m ∷ more) = refuse first m

-- a count with so many more; what is untold stays untold
abbrev pub counted : Option ℕ → ℕ → Option ℕ
counted None more = None
counted (Some n) more = Some (n + more)

-- that it has ended, if that is told
abbrev pub ended_now : Option Bool → Option Bool
ended_now None = None
ended_now (Some b) = Some true

-- a count that is told rose; it is told no more once it cannot rise, which is at the largest number of 64 bits
abbrev pub Rose : Option ℕ → Option ℕ → Type 0
Rose None now = now ≡ None
Rose (Some before) None = before ≡ 2 ^ 64 - 2
Rose (Some before) (Some now) = before < now

-- the link that is closed
abbrev pub closed : LinkTrace → LinkTrace
closed t = record t { closed = true }
