-- A line that people are told, if there was memory for it.
use Rattle.std.proofs.Common.{◌≡◌, sym, subst, refl, ℕ, List, [], append-nil, Option, Some, None, Result, Ok, Err, Global}
use Rattle.std.specs.Io.KnownBytes.{Appends}
use Rattle.std.specs.Prelude.{IfOk, MatchResult, String, string_bytes}
use Rattle.std.specs.declared.alloc.AllocError.{AllocError}
use Rattle.line_protocol.specs.Runs.{AppendsFront}

none_more : (held : Option (List ℕ)) → Appends held held []
none_more None = tt
none_more (Some xs) = sym (append-nil xs)

pub tells : {X : Type 0} (contents : X → Option (List ℕ)) (old new : X) (line : Result (String Global) AllocError) (text : List ℕ) →
    MatchResult line (λ told. AppendsFront (contents old) (contents new) (string_bytes told)) (λ _. new ≡ old) →
    IfOk line (λ told. string_bytes told ≡ text) → AppendsFront (contents old) (contents new) text
tells contents old new (Ok told) text got is = subst (λ (l : List ℕ). AppendsFront (contents old) (contents new) l) is got
tells contents old new (Err why) text got is =
    ([], text, refl, subst (λ x. Appends (contents old) (contents x) []) (sym got) (none_more (contents old)))

-- the same of a line of the log, at some time
pub logs : {X : Type 0} (contents : X → Option (List ℕ)) (old new : X) (line : Result (String Global) AllocError) (text : List ℕ → List ℕ) →
    MatchResult line (λ told. AppendsFront (contents old) (contents new) (string_bytes told)) (λ _. new ≡ old) →
    IfOk line (λ told. (time : List ℕ) × (string_bytes told ≡ text time)) → (time : List ℕ) × AppendsFront (contents old) (contents new) (text time)
logs contents old new (Ok told) text got (time, is) = (time, tells contents old new (Ok told) (text time) got is)
logs contents old new (Err why) text got is = ([], tells contents old new (Err why) (text []) got tt)
