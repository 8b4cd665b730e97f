-- How the engine's steps add up to a run over the whole input.
use Rattle.std.proofs.Common.{◌≡◌, ℕ, ◌+◌, ◌-◌, ◌<◌, ◌≤◌, Bool, false, List, [], ◌∷◌, ◌++◌, Option, length, take, drop}
use Rattle.std.proofs.Common.{slice_index, refl, sym, ap, ◌∙◌, inl, ◌⊎◌, ⊎_elim, subst, append_assoc, append-nil}
use Rattle.std.proofs.Common.{take-append-drop, Result, Ok, Err, IfOk, OnErr, arith}
use Rattle.std.specs.Str.Lines.{lines, strip_carriage_return}
use Rattle.std.specs.Io.KnownBytes.{Appends}
use Rattle.std.proofs.lemmas.Bool.{cases_lt}
use Rattle.std.proofs.lemmas.List.Concat.{flat_map-append}
use Rattle.line_protocol.specs.Answers.{Answer, text_of}
use Rattle.line_protocol.specs.Lines.{answerable_from}
use Rattle.line_protocol.specs.Steps.{Advances, AnswersFront, BreaksOff, EndsOff, NoneEnds}
use Rattle.line_protocol.specs.Runs.{AppendsFront, IsLeft, IsWritten, RunsFront}
use Rattle.line_protocol.specs.declared.faults.StreamFault.{StreamFault}
use Rattle.line_protocol.specs.declared.faults.StreamFault.TheVariants.{Write, Memory}
use Rattle.line_protocol.proofs.LineLemmas.{open_text, lines_more, whole_more, lines-append, lines-last}
use Rattle.line_protocol.proofs.RunLemmas.{Advances-none, Advances-append, RunsFront-append, answerable_from-append}

module _ {S : Type 0} (answers : S → ℕ → List ℕ → Answer → S → Type 0) where
  -- no line of these bytes is answered yet
  pub front-none : (before : S) (bytes : List ℕ) (first already : ℕ) →
      AnswersFront answers before before bytes 0 [] first first already already false
  front-none before bytes first already = record {
    advances = Advances-none answers before first already;
    within = omega arith;
    whole = inl refl;
    low = omega arith;
  }

  -- the next line of these bytes is answered
  pub front-more : (before mid after : S) (bytes : List ℕ) (at feed : ℕ) (given more : List Answer)
      (first number next already refused total : ℕ) (over : Bool)
      → at ≤ feed → feed < length bytes → slice_index bytes feed ≡ 10 → NoneEnds bytes at feed
      → AnswersFront answers before mid bytes at given first number already refused false
      → Advances answers mid after (strip_carriage_return (take (feed - at) (drop at bytes)) ∷ []) more number next refused total over
      → AnswersFront answers before after bytes (feed + 1) (given ++ more) first next already total over
  front-more before mid after bytes at feed given more first number next already refused total over order inside is_feed none
      front line = record {
        advances = rw (lines_more bytes at feed order inside is_feed front.whole none)
            (Advances-append answers before mid after (lines (take at bytes))
            (strip_carriage_return (take (feed - at) (drop at bytes)) ∷ []) given more first number next already refused total
            over front.advances line);
        within = omega arith;
        whole = whole_more bytes feed inside is_feed;
        low = omega (arith, front.low, line.next_number);
      }

-- what further answers add to the text
pub text-more : (old mid new : List ℕ) (given more : List Answer) → mid ≡ old ++ text_of given → new ≡ mid ++ text_of more →
    new ≡ old ++ text_of (given ++ more)
text-more old mid new given more first second =
    second ∙ ap (λ t. t ++ text_of more) first ∙ append_assoc old (text_of given) (text_of more) ∙ ap (λ t. old ++ t)
    (sym (flat_map-append (λ answer. answer.text) given more))

-- no line ends in two parts, one after the other
pub none-more : (text : List ℕ) (from mid to : ℕ) → NoneEnds text from mid → NoneEnds text mid to → NoneEnds text from to
none-more text from mid to front back k low high =
    ⊎_elim (λ (h : k < mid). front k low h) (λ (h : mid ≤ k). back k h high) (cases_lt k mid)

-- one turn of the loop over the lines of some bytes
pub turn : {S : Type 0} (answers : S → ℕ → List ℕ → Answer → S → Type 0) (before mid after : S) (bytes : List ℕ)
    (at from feed : ℕ) (line : List ℕ) (first number next already refused total : ℕ) (over : Bool) (old had new : List ℕ)
    → at ≤ from → from ≤ feed → feed < length bytes → slice_index bytes feed ≡ 10 → NoneEnds bytes at from → NoneEnds bytes from feed
    → line ≡ strip_carriage_return (take (feed - at) (drop at bytes))
    → (given : List Answer) × AnswersFront answers before mid bytes at given first number already refused false
    × (had ≡ old ++ text_of given)
    → (more : List Answer) × Advances answers mid after (line ∷ []) more number next refused total over × (new ≡ had ++ text_of more)
    → (all : List Answer) × AnswersFront answers before after bytes (feed + 1) all first next already total over
    × (new ≡ old ++ text_of all)
turn answers before mid after bytes at from feed line first number next already refused total over old had new order later
    inside is_feed none_a none_b is_line (given, front, text) (more, step, grown) =
    let none = none-more bytes at from feed none_a none_b in
    let step' = rw is_line at step in (
      given ++ more,
      front-more answers before mid after bytes at feed given more first number next already refused total over
          (omega arith) inside is_feed none front step',
      text-more old had new given more text grown,
    )

-- a failed writer got a front of the text
pub written_front : (fault : StreamFault) (held holds : Option (List ℕ)) (text : List ℕ) →
    (fault ≡ Write) × AppendsFront held holds text → IsWritten fault held holds text
written_front fault held holds text p = rw p.0 p.1

module _ {S : Type 0} (answers : S → ℕ → List ℕ → Answer → S → Type 0) (refuses : S → S → Type 0) where
  -- some front of these bytes is answered, and the service is left so
  abbrev pub SomeFront : S → S → List ℕ → ℕ → ℕ → ℕ → ℕ → Bool → List ℕ → List ℕ → Type 0
  SomeFront before now bytes first next already refused over old new =
      (after : S) × (at : ℕ) × (given : List Answer) × AnswersFront answers before after bytes at given first next already
      refused over × (new ≡ old ++ text_of given) × IsLeft refuses after now

  -- what was answered, whether it ended well or not
  pub either_front : {E : Type 0} (result : Result ℕ E) (before now : S) (bytes : List ℕ) (first next already refused : ℕ)
      (over : Bool) (old new : List ℕ)
      → IfOk result (λ at. (given : List Answer) × AnswersFront answers before now bytes at given first next already refused
      over × (new ≡ old ++ text_of given))
      → OnErr result (SomeFront before now bytes first next already refused over old new)
      → SomeFront before now bytes first next already refused over old new
  either_front (Ok at) before now bytes first next already refused over old new (given, front, text) err = (now, at, given, front, text, inl refl)
  either_front (Err e) before now bytes first next already refused over old new ok err = err

  -- where a fault comes after some answers, the first lines are answered
  pub break_off : (fault : StreamFault) (before now : S) (bytes : List ℕ) (first next already refused : ℕ) (over : Bool)
      (old new : List ℕ) (held holds : Option (List ℕ))
      → SomeFront before now bytes first next already refused over old new → old ≡ [] → (fault ≡ Write) ⊎ (fault ≡ Memory) →
      IsWritten fault held holds new
      → BreaksOff answers refuses fault before now bytes first held holds
  break_off fault before now bytes first next already refused over old new held holds (after, at, given, front, text, left_so) none kind written =
      let all : (left : List ℕ) → answerable_from first (lines (bytes ++ left)) ≡ answerable_from first
      (lines (take at bytes)) ++ answerable_from (first + length (lines (take at bytes))) (lines (drop at bytes ++ left)) =
      λ left. ap (λ t. answerable_from first (lines (t ++ left))) (sym (take-append-drop at bytes))
      ∙ ap (λ t. answerable_from first (lines t)) (append_assoc (take at bytes) (drop at bytes) left)
      ∙ ap (answerable_from first) (lines-append (take at bytes) (drop at bytes ++ left) front.whole)
      ∙ answerable_from-append first (lines (take at bytes)) (lines (drop at bytes ++ left)) in
      let same : new ≡ text_of given = text ∙ ap (λ t. t ++ text_of given) none in
      record {
        given = given;
        after = after;
        run = λ left. subst (λ ls. RunsFront answers before ls given after) (sym (all left))
            (RunsFront-append answers before after (answerable_from first (lines (take at bytes)))
            (answerable_from (first + length (lines (take at bytes))) (lines (drop at bytes ++ left))) given
            front.advances.run);
        written = subst (IsWritten fault held holds) same written;
        kind = kind;
        left = left_so;
      }

  -- the last line, which no line feed ends
  pub rest_told : (before after : S) (bytes : List ℕ) (first next already refused : ℕ) (over : Bool) (old new : List ℕ)
      (held holds : Option (List ℕ))
      → NoneEnds bytes 0 (length bytes) → 0 < length bytes → old ≡ []
      → (given : List Answer) × Advances answers before after (bytes ∷ []) given first next already refused over
      × (new ≡ old ++ text_of given)
      → Appends held holds new
      → (given : List Answer) × Advances answers before after (lines bytes) given first next already refused over
      × Appends held holds (text_of given)
  rest_told before after bytes first next already refused over old new held holds none some empty (given, step, text) written =
      let line = lines-last bytes (open_text bytes none) some in
      let same : new ≡ text_of given = text ∙ ap (λ t. t ++ text_of given) empty in
      (given, rw line step, subst (Appends held holds) same written)

  -- the same, where it could not be written
  pub rest_broken : (fault : StreamFault) (before after : S) (bytes : List ℕ) (first next already refused : ℕ) (over : Bool)
      (old new : List ℕ) (held holds : Option (List ℕ))
      → NoneEnds bytes 0 (length bytes) → 0 < length bytes → old ≡ []
      → (given : List Answer) × Advances answers before after (bytes ∷ []) given first next already refused over
      × (new ≡ old ++ text_of given)
      → (fault ≡ Write) × AppendsFront held holds new
      → EndsOff answers refuses fault before after bytes first held holds
  rest_broken fault before after bytes first next already refused over old new held holds none some empty (given, step, text) written =
      let line = lines-last bytes (open_text bytes none) some in
      let same : new ≡ text_of given = text ∙ ap (λ t. t ++ text_of given) empty in
      let front = RunsFront-append answers before after (answerable_from first (bytes ∷ [])) [] given step.run in
      record {
        given = given;
        after = after;
        run = rw line (subst (λ ls. RunsFront answers before ls given after) (append-nil (answerable_from first (bytes ∷ []))) front);
        written = subst (IsWritten fault held holds) same (written_front fault held holds new written);
        kind = inl written.0;
        left = inl refl;
      }
