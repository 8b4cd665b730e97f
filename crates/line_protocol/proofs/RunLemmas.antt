-- Runs of a service over lines, joined and extended.
use Rattle.std.proofs.Common.{◌≡◌, ℕ, ◌+◌, Bool, true, false, cond, ◌||◌, MatchBool, List, [], ◌∷◌, ◌++◌, length, refl, sym, ap}
use Rattle.std.proofs.Common.{◌∙◌, subst, append-nil, length-append, arith}
use Rattle.std.specs.List.{enumerate_from}
use Rattle.std.proofs.lemmas.List.Elements.{filter-append}
use Rattle.std.proofs.lemmas.List.Folds.{list_any-append}
use Rattle.std.proofs.lemmas.List.Sums.{sum_by-append}
use Rattle.std.proofs.lemmas.Bool.{false≢true}
use Rattle.line_protocol.specs.Answers.{Answer, is_refusal, is_end, is_over, text_of}
use Rattle.line_protocol.specs.Lines.{answerable_from, is_skipped}
use Rattle.line_protocol.specs.Runs.{Runs, RunsFront}
use Rattle.line_protocol.specs.Steps.{Advances}
use Rattle.line_protocol.specs.declared.answers.LineReply.{LineReply}
use Rattle.line_protocol.specs.declared.answers.LineReply.TheVariants.{Answered, Refused, Ended}

-- a reply counts as a refusal or not
abbrev pub refused_by : LineReply → ℕ
refused_by reply = cond (is_refusal reply) 1 0

or_false : (b : Bool) → (b || false) ≡ b
or_false true = refl
or_false false = refl

enumerate_from-append : (n : ℕ) (xs ys : List (List ℕ)) →
    enumerate_from n (xs ++ ys) ≡ enumerate_from n xs ++ enumerate_from (n + length xs) ys
enumerate_from-append n [] ys = ap (λ m. enumerate_from m ys) (omega arith)
enumerate_from-append n (x ∷ xs) ys =
    let same : (n + 1) + length xs ≡ n + length (x ∷ xs) = omega arith in
    ap (λ rest. (n, x) ∷ rest) (enumerate_from-append (n + 1) xs ys ∙ ap (λ m. enumerate_from (n + 1) xs ++ enumerate_from m ys) same)

-- the lines of two parts, one after the other
pub answerable_from-append : (n : ℕ) (xs ys : List (List ℕ)) →
    answerable_from n (xs ++ ys) ≡ answerable_from n xs ++ answerable_from (n + length xs) ys
answerable_from-append n xs ys = rw (enumerate_from-append n xs ys, filter-append) refl

pub is_over-append : (given more : List Answer) → is_over (given ++ more) ≡ (is_over given || is_over more)
is_over-append given more = list_any-append (λ answer. is_end answer.reply) given more

module _ {S : Type 0} (answers : S → ℕ → List ℕ → Answer → S → Type 0) where
  one_line : (before after : S) (line : ℕ × List ℕ) (answer : Answer) → answers before line.0 line.1 answer after →
      (reply : LineReply) → answer.reply ≡ reply
      → Runs answers before (line ∷ []) (answer ∷ []) after
  one_line before after line answer h Answered e = (after, h, rw e refl)
  one_line before after line answer h Refused e = (after, h, rw e refl)
  one_line before after line answer h Ended e = (after, h, rw e (refl, refl))

  -- the service answered one line
  pub answered : (before after : S) (number : ℕ) (line old new : List ℕ) (reply : LineReply) (already refused : ℕ) (over : Bool) →
      is_skipped line ≡ false
      → (text : List ℕ) × (new ≡ old ++ text) × answers before number line (record { text = text; reply = reply }) after
      → refused ≡ already + refused_by reply → over ≡ is_end reply
      → (given : List Answer) × Advances answers before after (line ∷ []) given number (number + 1) already refused over
      × (new ≡ old ++ text_of given)
  answered before after number line old new reply already refused over shown (text, grown, told) counted ended =
      let answer : Answer = record { text = text; reply = reply } in
      let all : answerable_from number (line ∷ []) ≡ (number, line) ∷ [] = rw shown refl in (
        answer ∷ [],
        record {
          run = rw all (one_line before after (number, line) answer told reply refl);
          counted = omega arith;
          ended = ended ∙ sym (or_false (is_end reply));
          next_number = refl;
        },
        grown ∙ ap (λ t. old ++ t) (sym (append-nil text)),
      )

  append_at : (before mid after last : S) (line : ℕ × List ℕ) (answer : Answer) (xs ys : List (ℕ × List ℕ))
      (given more : List Answer) (v : Bool) → is_end answer.reply ≡ v
      → answers before line.0 line.1 answer mid
      → MatchBool (is_end answer.reply) ((given ≡ []) × (after ≡ mid)) (Runs answers mid xs given after) →
      (is_end answer.reply || is_over given) ≡ false
      → (Runs answers mid xs given after → is_over given ≡ false → Runs answers mid (xs ++ ys) (given ++ more) last)
      → Runs answers before (line ∷ (xs ++ ys)) (answer ∷ (given ++ more)) last
  append_at before mid after last line answer xs ys given more true e told run not_over next = absurd (false≢true (sym (rw e at not_over)))
  append_at before mid after last line answer xs ys given more false e told run not_over next =
      (mid, told, rw e (next (rw e at run) (rw e at not_over)))

  -- lines after lines, none of which ended the stream
  pub Runs-append : (before mid after : S) (xs ys : List (ℕ × List ℕ)) (given more : List Answer)
      → Runs answers before xs given mid → is_over given ≡ false → Runs answers mid ys more after →
      Runs answers before (xs ++ ys) (given ++ more) after
  Runs-append before mid after [] ys [] more run not_over later = subst (λ s. Runs answers s ys more after) run later
  Runs-append before mid after [] ys (answer ∷ given) more run not_over later = absurd run
  Runs-append before mid after (line ∷ xs) ys [] more run not_over later = absurd run
  Runs-append before mid after (line ∷ xs) ys (answer ∷ given) more (next, told, run) not_over later =
      append_at before next mid after line answer xs ys given more (is_end answer.reply) refl told run not_over
      (λ r o. Runs-append next mid after xs ys given more r o later)

  over_at : (before mid after : S) (line : ℕ × List ℕ) (answer : Answer) (xs ys : List (ℕ × List ℕ)) (given : List Answer)
      (v : Bool) → is_end answer.reply ≡ v
      → answers before line.0 line.1 answer mid
      → MatchBool (is_end answer.reply) ((given ≡ []) × (after ≡ mid)) (Runs answers mid xs given after) →
      (is_end answer.reply || is_over given) ≡ true
      → (Runs answers mid xs given after → is_over given ≡ true → Runs answers mid (xs ++ ys) given after)
      → Runs answers before (line ∷ (xs ++ ys)) (answer ∷ given) after
  over_at before mid after line answer xs ys given true e told run over next = (mid, told, rw e (rw e at run))
  over_at before mid after line answer xs ys given false e told run over next = (mid, told, rw e (next (rw e at run) (rw e at over)))

  -- once the stream is over, further lines change nothing
  pub Runs-over : (before after : S) (xs ys : List (ℕ × List ℕ)) (given : List Answer)
      → Runs answers before xs given after → is_over given ≡ true → Runs answers before (xs ++ ys) given after
  Runs-over before after [] ys [] run over = absurd (false≢true over)
  Runs-over before after [] ys (answer ∷ given) run over = absurd run
  Runs-over before after (line ∷ xs) ys [] run over = absurd run
  Runs-over before after (line ∷ xs) ys (answer ∷ given) (next, told, run) over =
      over_at before next after line answer xs ys given (is_end answer.reply) refl told run over
      (λ r o. Runs-over next after xs ys given r o)

  RunsFront-none : (before : S) (ys : List (ℕ × List ℕ)) → RunsFront answers before ys [] before
  RunsFront-none before [] = refl
  RunsFront-none before (y ∷ ys) = refl

  front_at : (before mid after : S) (line : ℕ × List ℕ) (answer : Answer) (xs ys : List (ℕ × List ℕ)) (given : List Answer)
      (v : Bool) → is_end answer.reply ≡ v
      → answers before line.0 line.1 answer mid
      → MatchBool (is_end answer.reply) ((given ≡ []) × (after ≡ mid)) (Runs answers mid xs given after)
      → (Runs answers mid xs given after → RunsFront answers mid (xs ++ ys) given after)
      → RunsFront answers before (line ∷ (xs ++ ys)) (answer ∷ given) after
  front_at before mid after line answer xs ys given true e told run next = (mid, told, rw e (rw e at run))
  front_at before mid after line answer xs ys given false e told run next = (mid, told, rw e (next (rw e at run)))

  -- what answers some lines answers the first of more lines
  pub RunsFront-append : (before after : S) (xs ys : List (ℕ × List ℕ)) (given : List Answer)
      → Runs answers before xs given after → RunsFront answers before (xs ++ ys) given after
  RunsFront-append before after [] ys [] run = subst (λ s. RunsFront answers before ys [] s) (sym run) (RunsFront-none before ys)
  RunsFront-append before after [] ys (answer ∷ given) run = absurd run
  RunsFront-append before after (line ∷ xs) ys [] run = absurd run
  RunsFront-append before after (line ∷ xs) ys (answer ∷ given) (next, told, run) =
      front_at before next after line answer xs ys given (is_end answer.reply) refl told run
      (λ r. RunsFront-append next after xs ys given r)

  later_at : (before mid last : S) (line : ℕ × List ℕ) (answer : Answer) (xs ys : List (ℕ × List ℕ)) (given more : List Answer)
      (after : S) (v : Bool) → is_end answer.reply ≡ v
      → answers before line.0 line.1 answer mid
      → MatchBool (is_end answer.reply) ((given ≡ []) × (after ≡ mid)) (Runs answers mid xs given after) →
      (is_end answer.reply || is_over given) ≡ false
      → (Runs answers mid xs given after → is_over given ≡ false → RunsFront answers mid (xs ++ ys) (given ++ more) last)
      → RunsFront answers before (line ∷ (xs ++ ys)) (answer ∷ (given ++ more)) last
  later_at before mid last line answer xs ys given more after true e told run not_over next = absurd (false≢true (sym (rw e at not_over)))
  later_at before mid last line answer xs ys given more after false e told run not_over next =
      (mid, told, rw e (next (rw e at run) (rw e at not_over)))

  -- the first of some lines, after lines none of which ended the stream
  pub RunsFront-after : (before mid after : S) (xs ys : List (ℕ × List ℕ)) (given more : List Answer)
      → Runs answers before xs given mid → is_over given ≡ false → RunsFront answers mid ys more after →
      RunsFront answers before (xs ++ ys) (given ++ more) after
  RunsFront-after before mid after [] ys [] more run not_over later = subst (λ s. RunsFront answers s ys more after) run later
  RunsFront-after before mid after [] ys (answer ∷ given) more run not_over later = absurd run
  RunsFront-after before mid after (line ∷ xs) ys [] more run not_over later = absurd run
  RunsFront-after before mid after (line ∷ xs) ys (answer ∷ given) more (next, told, run) not_over later =
      later_at before next after line answer xs ys given more mid (is_end answer.reply) refl told run not_over
      (λ r o. RunsFront-after next mid after xs ys given more r o later)

  -- nothing is answered yet
  pub Advances-none : (before : S) (first already : ℕ) → Advances answers before before [] [] first first already already false
  Advances-none before first already = record { run = refl; counted = omega arith; ended = refl; next_number = omega arith }

  -- lines after lines, none of which ended the stream
  pub Advances-append : (before mid after : S) (xs ys : List (List ℕ)) (given more : List Answer)
      (first next last already refused total : ℕ) (over : Bool)
      → Advances answers before mid xs given first next already refused false →
      Advances answers mid after ys more next last refused total over
      → Advances answers before after (xs ++ ys) (given ++ more) first last already total over
  Advances-append before mid after xs ys given more first next last already refused total over front back = record {
    run = rw (answerable_from-append, ← front.next_number)
        (Runs-append before mid after (answerable_from first xs) (answerable_from next ys) given more front.run
        (sym front.ended) back.run);
    counted = rw (sum_by-append (λ answer. cond (is_refusal answer.reply) 1 0) given more) (omega (arith, front.counted, back.counted));
    ended = back.ended ∙ sym (ap (λ b. b || is_over more) (sym front.ended)) ∙ sym (is_over-append given more);
    next_number = rw length-append (omega (arith, front.next_number, back.next_number));
  }
