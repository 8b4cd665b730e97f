-- How the engine's turns add up to a run over the whole input.
use Rattle.std.proofs.Common.{◌≡◌, ℕ, ◌+◌, ◌-◌, ◌≤◌, Bool, true, false, List, [], ◌∷◌, ◌++◌, Option, None, Some, IfSome, length}
use Rattle.std.proofs.Common.{take, drop, refl, sym, ap, ◌∙◌, inl, inr, ◌⊎◌, ⊎_elim, subst, append_assoc, append-nil}
use Rattle.std.proofs.Common.{take-append-drop, length-append, length-take, arith}
use Rattle.std.specs.Str.Lines.{lines}
use Rattle.std.specs.Io.KnownBytes.{Appends, Consumes, IsAtEnd, Keeps}
use Rattle.std.proofs.KnownBytes.{Appends-nil, Appends-trans, Consumes-nil, Consumes-trans, Consumes-kept}
use Rattle.std.proofs.lemmas.Bool.{false≢true}
use Rattle.std.proofs.lemmas.List.{take_rest, take_at}
use Rattle.std.proofs.lemmas.List.Concat.{flat_map-append}
use Rattle.line_protocol.specs.Answers.{Answer, text_of}
use Rattle.line_protocol.specs.Lines.{answerable_from, numbered, whole_lines}
use Rattle.line_protocol.specs.Steps.{Advances, AnswersFront, BreaksOff, EndsOff, IsWhole, NoneEnds}
use Rattle.line_protocol.specs.Runs.{Finishes, IsLeft, IsReadFault, IsWritten, Runs, RunsFront, Stops}
use Rattle.line_protocol.specs.declared.faults.StreamFault.{StreamFault}
use Rattle.line_protocol.specs.declared.faults.StreamFault.TheVariants.{Read, Write, Memory, TooLong}
use Rattle.line_protocol.proofs.LineLemmas.{IsOpen, open_part, lines-append, whole_lines-append, whole_lines-cut}
use Rattle.line_protocol.proofs.RunLemmas.{Advances-none, Advances-append, Runs-over, RunsFront-append, RunsFront-after}
use Rattle.line_protocol.proofs.RunLemmas.{answerable_from-append}

-- Of the bytes that were read the whole lines `front` are answered; `back` is what was read after them.
pub record Done {S : Type 0} (answers : S → ℕ → List ℕ → Answer → S → Type 0) (start now : S)
    (known left held holds : Option (List ℕ)) (front back : List ℕ) (given : List Answer) (total number refused : ℕ)
    (over : Bool) : Type 0 where
  pub advances : Advances answers start now (lines front) given 1 number 0 refused over
  pub whole : IsWhole front
  pub consumed : Consumes known left (front ++ back)
  pub all : total ≡ length (front ++ back)
  pub low : number ≤ 1 + length front
  pub written : Appends held holds (text_of given)

-- the whole lines read so far are answered, and after them the begun line was read
abbrev pub UnderWay : {S : Type 0} → (S → ℕ → List ℕ → Answer → S → Type 0) → S → S → Option (List ℕ) → Option (List ℕ) →
    Option (List ℕ) → Option (List ℕ) → List ℕ → ℕ → ℕ → ℕ → Type 0
UnderWay answers start now known left held holds begun total number refused =
    (front : List ℕ) × (given : List Answer) × Done answers start now known left held holds front begun given total number
    refused false × IsOpen begun

whole-append : (front back : List ℕ) → IsWhole front → IsWhole back → IsWhole (front ++ back)
whole-append front back a (inl none) = subst IsWhole (sym (ap (λ t. front ++ t) none ∙ append-nil front)) a
whole-append front back a (inr (most, e)) = inr (front ++ most, ap (λ t. front ++ t) e ∙ sym (append_assoc front most (10 ∷ [])))

-- the answered lines of an input that begins with whole lines
numbered_cut : (input front rest : List ℕ) → input ≡ front ++ rest → IsWhole front
    → numbered input ≡ answerable_from 1 (lines front) ++ answerable_from (1 + length (lines front)) (lines rest)
numbered_cut input front rest e whole =
    ap numbered e ∙ ap (answerable_from 1) (lines-append front rest whole) ∙ answerable_from-append 1 (lines front) (lines rest)

-- what was read is at the front of the input
input_cut : (input : List ℕ) (left : Option (List ℕ)) (front back : List ℕ) → Consumes (Some input) left (front ++ back) →
    (rest : List ℕ) × (input ≡ front ++ rest)
input_cut input None front back h = absurd h
input_cut input (Some rest) front back h = (back ++ rest, h ∙ append_assoc front back rest)

module _ {S : Type 0} (answers : S → ℕ → List ℕ → Answer → S → Type 0) (start : S) (known held : Option (List ℕ)) where
  -- nothing is read yet
  pub begins : (number refused : ℕ) → number ≡ 1 → refused ≡ 0 → UnderWay answers start start known known held held [] 0 number refused
  begins number refused first none =
      rw (first, none) (
        [],
        [],
        record {
          advances = Advances-none answers start 1 0;
          whole = inl refl;
          consumed = Consumes-nil known;
          all = refl;
          low = omega arith;
          written = Appends-nil held;
        },
        λ k d h. absurd (omega arith),
      )

  -- one block more, of which the first `at` bytes are answered
  pub step : (now after : S) (left left' holds holds' : Option (List ℕ)) (front begun more bytes excess : List ℕ) (at : ℕ)
      (given found : List Answer) (total total' number number' refused refused' : ℕ) (over : Bool)
      → Done answers start now known left held holds front begun given total number refused false
      → Consumes left left' more → begun ++ more ≡ bytes ++ excess → total' ≡ total + length more
      → AnswersFront answers now after bytes at found number number' refused refused' over → Appends holds holds' (text_of found)
      → Done answers start after known left' held holds' (front ++ take at bytes) (drop at bytes ++ excess)
      (given ++ found) total' number' refused' over
  step now after left left' holds holds' front begun more bytes excess at given found total total' number number' refused
      refused' over done read cut sum block written =
      let same : (front ++ begun) ++ more ≡ (front ++ take at bytes) ++ (drop at bytes ++ excess) =
      append_assoc front begun more ∙ ap (λ t. front ++ t) (cut ∙ ap (λ t. t ++ excess) (sym (take-append-drop at bytes))
      ∙ append_assoc (take at bytes) (drop at bytes) excess)
      ∙ sym (append_assoc front (take at bytes) (drop at bytes ++ excess)) in
      let long = length-append (front ++ begun) more in
      let both = ap length same in
      let room = length-append front (take at bytes) in
      let cut_len = length-take at bytes in
      record {
        advances = rw (lines-append front (take at bytes) done.whole)
            (Advances-append answers start now after (lines front) (lines (take at bytes)) given found 1 number number' 0
            refused refused' over done.advances block.advances);
        whole = whole-append front (take at bytes) done.whole block.whole;
        consumed = subst (Consumes known left') same (Consumes-trans known left left' (front ++ begun) more done.consumed read);
        all = omega (arith, done.all);
        low = omega (arith, done.low, block.low, block.within);
        written = subst (Appends held holds') (sym (flat_map-append (λ answer. answer.text) given found))
            (Appends-trans held holds holds' (text_of given) (text_of found) done.written written);
      }

  -- the same, where no line has ended after the answered ones
  pub next : (now after : S) (left left' holds holds' : Option (List ℕ)) (begun more block : List ℕ) (at : ℕ)
      (total total' number number' refused refused' : ℕ)
      → UnderWay answers start now known left held holds begun total number refused
      → Consumes left left' more → begun ++ more ≡ block → total' ≡ total + length more
      → (found : List Answer) × AnswersFront answers now after block at found number number' refused refused' false
      × Appends holds holds' (text_of found)
      → NoneEnds block at (length block)
      → UnderWay answers start after known left' held holds' (drop at block) total' number' refused'
  next now after left left' holds holds' begun more block at total total' number number' refused refused'
      (front, given, done, begun_open) read cut sum (found, told, written) none =
      let end : take (length block - at) (drop at block) ≡ drop at block = take_rest block at in
      let done' = step now after left left' holds holds' front begun more block [] at given found total total' number number'
      refused refused' false done read (cut ∙ sym (append-nil block)) sum told written in (
        front ++ take at block,
        given ++ found,
        subst (λ back. Done answers start after known left' held holds' (front ++ take at block) back (given ++ found) total'
            number' refused' false) (append-nil (drop at block)) done',
        subst IsOpen end (open_part block at (length block) (omega arith) none),
      )

module _ {S : Type 0} (answers : S → ℕ → List ℕ → Answer → S → Type 0) (refuses : S → S → Type 0)
    (limit : ℕ) (start : S) (held : Option (List ℕ)) where
  -- an answer ended the stream
  pub finish_over : (known : Option (List ℕ)) (after : S) (left holds : Option (List ℕ)) (front back : List ℕ)
      (given : List Answer) (total number refused : ℕ)
      → Done answers start after known left held holds front back given total number refused true → total ≤ limit
      → IfSome known (λ input. Finishes answers limit start after input left held holds refused)
  finish_over None after left holds front back given total number refused done short = tt
  finish_over (Some input) after left holds front back given total number refused done short =
      let (rest, e) = input_cut input left front back done.consumed in
      record {
        given = given;
        run = rw (numbered_cut input front rest e done.whole)
            (Runs-over answers start after (answerable_from 1 (lines front))
            (answerable_from (1 + length (lines front)) (lines rest)) given done.advances.run (sym done.advances.ended));
        written = done.written;
        counted = omega (arith, done.advances.counted);
        read = front ++ back;
        consumed = done.consumed;
        within = omega (arith, done.all);
        to_end = λ not_over. absurd (false≢true (sym not_over ∙ sym done.advances.ended));
      }

  -- the reader came to its end, and the last line is answered
  pub finish_end : (known : Option (List ℕ)) (now after : S) (left left' holds holds' : Option (List ℕ)) (begun : List ℕ)
      (total number number' refused refused' : ℕ) (over : Bool)
      → UnderWay answers start now known left held holds begun total number refused
      → Consumes left left' [] → IsAtEnd left'
      → (found : List Answer) × Advances answers now after (lines begun) found number number' refused refused' over
      × Appends holds holds' (text_of found)
      → total ≤ limit
      → IfSome known (λ input. Finishes answers limit start after input left' held holds' refused')
  finish_end None now after left left' holds holds' begun total number number' refused refused' over
      (front, given, done, begun_open) none end (found, told, written) short = tt
  finish_end (Some input) now after None left' holds holds' begun total number number' refused refused' over
      (front, given, done, begun_open) none end (found, told, written) short = absurd done.consumed
  finish_end (Some input) now after (Some rest) None holds holds' begun total number number' refused refused' over
      (front, given, done, begun_open) none end (found, told, written) short = absurd none
  finish_end (Some input) now after (Some rest) (Some last) holds holds' begun total number number' refused refused' over
      (front, given, done, begun_open) none end (found, told, written) short =
      let all : input ≡ front ++ begun = done.consumed ∙ ap (λ t. (front ++ begun) ++ t) (none ∙ end) ∙ append-nil (front ++ begun) in
      let whole = Advances-append answers start now after (lines front) (lines begun) given found 1 number number' 0 refused
      refused' over done.advances told in
      record {
        given = given ++ found;
        run = rw (all, lines-append front begun done.whole) whole.run;
        written = subst (Appends held holds') (sym (flat_map-append (λ answer. answer.text) given found))
            (Appends-trans held holds holds' (text_of given) (text_of found) done.written written);
        counted = omega (arith, whole.counted);
        read = front ++ begun;
        consumed = done.consumed ∙ ap (λ t. (front ++ begun) ++ t) none;
        within = omega (arith, done.all);
        to_end = λ _. ap Some end;
      }

  -- what was read cannot be read on, or there is no room for more
  pub stop_read : (fault : StreamFault) (known : Option (List ℕ)) (now : S) (left left' holds : Option (List ℕ))
      (begun : List ℕ) (total number refused : ℕ)
      → UnderWay answers start now known left held holds begun total number refused → IsReadFault fault × Keeps left left'
      → IfSome known (λ input. Stops answers refuses limit fault start now input left' held holds)
  stop_read fault None now left left' holds begun total number refused (front, given, done, begun_open) (kind, kept) = tt
  stop_read fault (Some input) now left left' holds begun total number refused (front, given, done, begun_open) (kind, kept) =
      let consumed = Consumes-kept (Some input) left left' (front ++ begun) done.consumed kept in
      let (rest, e) = input_cut input left' front begun consumed in
      let reached : Runs answers start (numbered (whole_lines (front ++ begun))) given now =
      rw (whole_lines-cut front begun done.whole begun_open) done.advances.run in
      record {
        given = given;
        after = now;
        run = rw (numbered_cut input front rest e done.whole)
            (RunsFront-append answers start now (answerable_from 1 (lines front))
            (answerable_from (1 + length (lines front)) (lines rest)) given done.advances.run);
        written = ⊎_elim (λ (is : fault ≡ Read). rw is done.written) (λ (is : fault ≡ Memory). rw is done.written) kind;
        read = front ++ begun;
        consumed = consumed;
        reach = ⊎_elim (λ (is : fault ≡ Read). rw is (refl, reached)) (λ (is : fault ≡ Memory). rw is (inl refl)) kind;
      }

  -- what is written after a text
  written_after : (fault : StreamFault) (holds holds' : Option (List ℕ)) (text more : List ℕ) → (fault ≡ Write) ⊎ (fault ≡ Memory)
      → Appends held holds text → IsWritten fault holds holds' more → IsWritten fault held holds' (text ++ more)
  written_after fault holds holds' text more (inl is) first later =
      let (front, back, e, written) = rw is at later in
      rw is (
        text ++ front,
        back,
        ap (λ t. text ++ t) e ∙ sym (append_assoc text front back),
        Appends-trans held holds holds'
            text front first written,
      )
  written_after fault holds holds' text more (inr is) first later =
      rw is (Appends-trans held holds holds' text more first (rw is at later))

  -- after the answered lines the first of further ones are answered, and then a fault came
  stop_at : (fault : StreamFault) (input read rest : List ℕ) (now last after : S) (left' holds holds' : Option (List ℕ))
      (front : List ℕ) (given found : List Answer) (number refused : ℕ)
      → Consumes (Some input) left' read → input ≡ front ++ rest → IsWhole front →
      Advances answers start now (lines front) given 1 number 0 refused false
      → RunsFront answers now (answerable_from number (lines rest)) found after → Appends held holds (text_of given)
      → IsWritten fault holds holds' (text_of found) → (fault ≡ Write) ⊎ (fault ≡ Memory) → IsLeft refuses after last
      → Stops answers refuses limit fault start last input left' held holds'
  stop_at fault input read rest now last after left' holds holds' front given found number refused consumed e whole done run
      first later kind left_so =
      record {
        given = given ++ found;
        after = after;
        run = rw (numbered_cut input front rest e whole, ← done.next_number)
            (RunsFront-after answers start now after (answerable_from 1 (lines front)) (answerable_from number (lines rest))
            given found done.run (sym done.ended) run);
        written = subst (IsWritten fault held holds') (sym (flat_map-append (λ answer. answer.text) given found))
            (written_after fault holds holds' (text_of given) (text_of found) kind first later);
        read = read;
        consumed = consumed;
        reach = ⊎_elim (λ (is : fault ≡ Write). rw is left_so) (λ (is : fault ≡ Memory). rw is left_so) kind;
      }

  -- the answers to a block could not be written, or the service found no memory
  pub stop_block : (fault : StreamFault) (known : Option (List ℕ)) (now last : S) (left left' holds holds' : Option (List ℕ))
      (begun more bytes excess : List ℕ) (total number refused : ℕ)
      → UnderWay answers start now known left held holds begun total number refused → Consumes left left' more →
      begun ++ more ≡ bytes ++ excess
      → BreaksOff answers refuses fault now last bytes number holds holds'
      → IfSome known (λ input. Stops answers refuses limit fault start last input left' held holds')
  stop_block fault None now last left left' holds holds' begun more bytes excess total number refused
      (front, given, done, begun_open) read cut broken = tt
  stop_block fault (Some input) now last left None holds holds' begun more bytes excess total number refused
      (front, given, done, begun_open) read cut broken =
      absurd (Consumes-trans (Some input) left None (front ++ begun) more done.consumed read)
  stop_block fault (Some input) now last left (Some rest) holds holds' begun more bytes excess total number refused
      (front, given, done, begun_open) read cut broken =
      let consumed = Consumes-trans (Some input) left (Some rest) (front ++ begun) more done.consumed read in
      let e : input ≡ front ++ (bytes ++ (excess ++ rest)) =
      consumed ∙ ap (λ t. t ++ rest) (append_assoc front begun more ∙ ap (λ t. front ++ t) cut) ∙ append_assoc front (bytes ++ excess) rest
      ∙ ap (λ t. front ++ t) (append_assoc bytes excess rest) in
      stop_at fault input ((front ++ begun) ++ more) (bytes ++ (excess ++ rest)) now last broken.after (Some rest) holds holds'
      front given broken.given number refused
      consumed e done.whole done.advances (broken.run (excess ++ rest)) done.written broken.written broken.kind broken.left

  -- the same of the last line
  pub stop_rest : (fault : StreamFault) (known : Option (List ℕ)) (now last : S) (left left' holds holds' : Option (List ℕ))
      (begun : List ℕ) (total number refused : ℕ)
      → UnderWay answers start now known left held holds begun total number refused → Consumes left left' [] → IsAtEnd left'
      → EndsOff answers refuses fault now last begun number holds holds'
      → IfSome known (λ input. Stops answers refuses limit fault start last input left' held holds')
  stop_rest fault None now last left left' holds holds' begun total number refused (front, given, done, begun_open) none end broken = tt
  stop_rest fault (Some input) now last left None holds holds' begun total number refused (front, given, done, begun_open) none end broken =
      absurd (Consumes-trans (Some input) left None (front ++ begun) [] done.consumed none)
  stop_rest fault (Some input) now last left (Some rest) holds holds' begun total number refused
      (front, given, done, begun_open) none end broken =
      let consumed = subst (Consumes (Some input) (Some rest)) (append-nil (front ++ begun))
      (Consumes-trans (Some input) left (Some rest) (front ++ begun) [] done.consumed none) in
      let e : input ≡ front ++ begun = consumed ∙ ap (λ t. (front ++ begun) ++ t) end ∙ append-nil (front ++ begun) in
      stop_at fault input (front ++ begun) begun now last broken.after (Some rest) holds holds' front given broken.given number refused
      consumed e done.whole done.advances broken.run done.written broken.written broken.kind broken.left

  -- the lines that ended in what was read
  ends_run : (now : S) (front back : List ℕ) (given : List Answer) (number refused : ℕ) (over : Bool)
      → Advances answers start now (lines front) given 1 number 0 refused over → IsWhole front → (over ≡ false → IsOpen back)
      → Runs answers start (numbered (whole_lines (front ++ back))) given now
  ends_run now front back given number refused true done whole open_back =
      let e = whole_lines-append front back whole in
      rw (numbered_cut (whole_lines (front ++ back)) front (whole_lines back) e whole)
      (Runs-over answers start now (answerable_from 1 (lines front))
      (answerable_from (1 + length (lines front)) (lines (whole_lines back))) given done.run (sym done.ended))
  ends_run now front back given number refused false done whole open_back = rw (whole_lines-cut front back whole (open_back refl)) done.run

  -- more came than the limit allows
  pub stop_long : (known : Option (List ℕ)) (now : S) (left holds : Option (List ℕ)) (front bytes excess : List ℕ) (at : ℕ)
      (given : List Answer) (total number refused : ℕ) (over : Bool)
      → Done answers start now known left held holds front (drop at bytes ++ excess) given total number refused over
      → (over ≡ false → NoneEnds bytes at (length bytes)) → total ≡ limit + 1 → length excess ≡ 1
      → IfSome known (λ input. Stops answers refuses limit TooLong start now input left held holds)
  stop_long None now left holds front bytes excess at given total number refused over done none long one = tt
  stop_long (Some input) now left holds front bytes excess at given total number refused over done none long one =
      let back = drop at bytes in
      let (rest, e) = input_cut input left front (back ++ excess) done.consumed in
      let same : front ++ (back ++ excess) ≡ (front ++ back) ++ excess = sym (append_assoc front back excess) in
      let both = ap length same in
      let parts = length-append (front ++ back) excess in
      let long_as : length (front ++ back) ≡ limit = omega (arith, done.all) in
      let kept : take limit (front ++ (back ++ excess)) ≡ front ++ back =
      ap (take limit) same ∙ take_at (front ++ back) excess limit long_as in
      let open_back = λ (go : over ≡ false). subst IsOpen (take_rest bytes at)
      (open_part bytes at (length bytes) (omega arith) (none go)) in
      record {
        given = given;
        after = now;
        run = rw (numbered_cut input front rest e done.whole)
            (RunsFront-append answers start now (answerable_from 1 (lines front))
            (answerable_from (1 + length (lines front)) (lines rest)) given done.advances.run);
        written = done.written;
        read = front ++ (back ++ excess);
        consumed = done.consumed;
        reach = (
          omega (arith, done.all),
          refl,
          rw kept
              (ends_run now front back given number refused over done.advances done.whole open_back),
        );
      }
