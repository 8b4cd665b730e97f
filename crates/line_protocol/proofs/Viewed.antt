-- A run of a service is a run of what contracts see of it.
use Rattle.std.proofs.Common.{ℕ, Bool, true, false, List, [], ◌∷◌, Option, Some, None, IfSome, ap, inr}
use Rattle.std.specs.Prelude.{MatchBool, ⊤}
use Rattle.line_protocol.specs.Answers.{Answer, is_end}
use Rattle.line_protocol.specs.Lines.{numbered}
use Rattle.line_protocol.specs.Runs.{Finishes, Reaches, Runs, RunsFront, Stops}
use Rattle.line_protocol.specs.declared.faults.StreamFault.{StreamFault}
use Rattle.line_protocol.specs.declared.faults.StreamFault.TheVariants.{Read, Write, Memory, TooLong}

-- The service is seen by `view`, and it answers as `answers` says of what is seen.
module _ {S V : Type 0} (view : S → V) (answers : V → ℕ → List ℕ → Answer → V → Type 0) where
  abbrev pub of_service : S → ℕ → List ℕ → Answer → S → Type 0
  of_service before number line answer after = answers (view before) number line answer (view after)

  either : (b : Bool) (P Q P' Q' : Type 0) → (P → P') → (Q → Q') → MatchBool b P Q → MatchBool b P' Q'
  either true P Q P' Q' f g h = f h
  either false P Q P' Q' f g h = g h

  whole_run : (s : S) (lines : List (ℕ × List ℕ)) (given : List Answer) (after : S) → Runs of_service s lines given after
      → Runs answers (view s) lines given (view after)
  whole_run s [] [] after h = ap view h
  whole_run s [] (a ∷ more) after h = absurd h
  whole_run s (l ∷ ls) [] after h = absurd h
  whole_run s (l ∷ ls) (a ∷ more) after h =
      (view h.0, h.1, either (is_end a.reply) _ _ _ _ (λ p. (p.0, ap view p.1)) (λ q. whole_run h.0 ls more after q) h.2)

  front_run : (s : S) (lines : List (ℕ × List ℕ)) (given : List Answer) (after : S) → RunsFront of_service s lines given after
      → RunsFront answers (view s) lines given (view after)
  front_run s lines [] after h = ap view h
  front_run s [] (a ∷ more) after h = absurd h
  front_run s (l ∷ ls) (a ∷ more) after h =
      (view h.0, h.1, either (is_end a.reply) _ _ _ _ (λ p. (p.0, ap view p.1)) (λ q. front_run h.0 ls more after q) h.2)

  pub finishes : {limit : ℕ} (s after : S) (input : List ℕ) (left held holds : Option (List ℕ)) (n : ℕ)
      → Finishes of_service limit s after input left held holds n → Finishes answers limit (view s) (view after) input left held holds n
  finishes s after input left held holds n f = record {
    given = f.given;
    run = whole_run s (numbered input) f.given after f.run;
    written = f.written;
    counted = f.counted;
    read = f.read;
    consumed = f.consumed;
    within = f.within;
    to_end = f.to_end;
  }

  reaches : (limit : ℕ) (fault : StreamFault) (s now : S) (read : List ℕ) (given : List Answer) (after : S)
      → Reaches of_service (λ _ _. ⊤) limit fault s now read given after → Reaches answers (λ _ _. ⊤) limit fault (view s) (view now) read given (view after)
  reaches limit Read s now read given after h = (ap view h.0, whole_run s _ given after h.1)
  reaches limit Write s now read given after h = inr tt
  reaches limit Memory s now read given after h = inr tt
  reaches limit TooLong s now read given after h = (h.0, ap view h.1, whole_run s _ given after h.2)

  pub stops : {limit : ℕ} (fault : StreamFault) (s now : S) (input : List ℕ) (left held holds : Option (List ℕ))
      → Stops of_service (λ _ _. ⊤) limit fault s now input left held holds → Stops answers (λ _ _. ⊤) limit fault (view s) (view now) input left held holds
  stops fault s now input left held holds f = record {
    given = f.given;
    after = view f.after;
    run = front_run s (numbered input) f.given f.after f.run;
    written = f.written;
    read = f.read;
    consumed = f.consumed;
    reach = reaches _ fault s now f.read f.given f.after f.reach;
  }

-- Of bytes that are known, more follows.
pub if_known : {P Q : List ℕ → Type 0} (known : Option (List ℕ)) → ((input : List ℕ) → P input → Q input) → IfSome known P
    → IfSome known Q
if_known None f h = h
if_known (Some input) f h = f input h
