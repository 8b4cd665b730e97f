-- Sets that are put into lists one after another.
use Rattle.std.proofs.Common.{◌≡◌, ℕ, zero, suc, ◌+◌, ◌<◌, ◌≤◌, ◌↔◌, ◌⊎◌, inl, inr, List, [], ◌∷◌, ◌++◌, length, map, take, get_or, Vec, Global}
use Rattle.std.proofs.Common.{Bool, true, false, refl, sym, ap, subst, ◌∙◌, arith, length-append}
use Rattle.std.specs.Prelude.{slice_index_or}
use Rattle.std.specs.List.{Any}
use Rattle.std.proofs.lemmas.List.{append-nil}
use Rattle.filter_syntax.specs.declared.tree.command.Command.{Command}
use Rattle.filter_syntax.specs.declared.tree.expr.Expr.{Expr}
use Rattle.filter_syntax.specs.declared.tree.op.Op.{Op}
use Rattle.filter_syntax.specs.declared.tree.op.Suffix.{Suffix}
use Rattle.filter_syntax.specs.Syntax.{ExprView, RangeView, SetPatternView, chain_of, of_patterns, pattern_of}
use Rattle.filter_syntax.specs.Syntax.{range_of, suffixed, suffixes_of, view, view_more}
use Rattle.filter_syntax.specs.SyntaxCommands.{commands_of, parts_of, view_command, view_label, view_part}
use Rattle.filter_syntax.specs.declared.tree.command.Label.{Label}
use Rattle.filter_types.proofs.Lists.{map_next}
use Rattle.filter_compiler.specs.Limits.{AreTooMany}
use Rattle.filter_compiler.specs.SetOrder.{Sets, SetCounts, no_sets, none_before, past, with_sets}
use Rattle.filter_compiler.specs.Translation.{command_sets, commands_sets, label_sets, one_set, parts_sets, ranges_set, sets_of}
use Rattle.filter_compiler.specs.Written.{Gathers, HoldsSets, IsCounted, TooManySets}
use Rattle.filter_compiler.specs.declared.sets.SetLists.{SetLists}
use Rattle.filter_compiler.proofs.Puts.{past_both, past_none}
use Rattle.filter_compiler.proofs.Trees.{chain_push, parts_push, sets_assoc, sets_push, without_more}

pub gathers_none : (a : SetLists) → Gathers a a no_sets
gathers_none a = record {
  counts = λ n counted. subst (λ m. IsCounted m a.numbers) (past_none n) counted;
  holds = λ before h. subst (HoldsSets a) (sym (without_more before)) h;
}

pub gathers_then : {a b c : SetLists} {s t : Sets} → Gathers a b s → Gathers b c t → Gathers a c (with_sets s t)
gathers_then {a} {b} {c} {s} {t} first second = record {
  counts = λ n counted. subst (λ m. IsCounted m c.numbers) (past_both n s t) (second.counts (past n s) (first.counts n counted));
  holds = λ before h. subst (HoldsSets c) (sets_assoc before s t) (second.holds (with_sets before s) (first.holds before h));
}

pub as_sets : {a b : SetLists} {s t : Sets} → s ≡ t → Gathers a b s → Gathers a b t
as_sets {a} {b} is gathers = subst (Gathers a b) is gathers

-- an operand more of a chain, and a command more
pub chain_gathers : {a b c : SetLists} (left : ExprView) (xs : List (ℕ × Op × Expr)) (i : ℕ) (x : ℕ × Op × Expr) → i < length xs
    → x ≡ get_or xs i x → Gathers a b (sets_of (chain_of left (view_more (take i xs)))) → Gathers b c (sets_of (view x.2))
    → Gathers a c (sets_of (chain_of left (view_more (take (i + 1) xs))))
chain_gathers left xs i x low is first second =
    let f : (ℕ × Op × Expr) → (ℕ × Op × ExprView) = λ p. (p.0, p.1, view p.2) in
    as_sets
    (ap sets_of (chain_push left (map f (take i xs)) (f x)) ∙ ap (λ l. sets_of (chain_of left l)) (sym (map_next f xs i x low is)))
    (gathers_then first second)

pub command_gathers : {a b c : SetLists} (xs : List Command) (i : ℕ) (x : Command) → i < length xs → x ≡ get_or xs i x
    → Gathers a b (commands_sets (commands_of (map view_command (take i xs)))) → Gathers b c (command_sets (view_command x))
    → Gathers a c (commands_sets (commands_of (map view_command (take (i + 1) xs))))
command_gathers xs i x low is first second =
    as_sets
    (sets_push (map view_command (take i xs)) (view_command x)
    ∙ ap (λ l. commands_sets (commands_of l)) (sym (map_next view_command xs i x low is)))
    (gathers_then first second)

-- a part of a `case` more
pub parts_gathers : {a b c d : SetLists} (xs : List (Label × Vec Command Global)) (i : ℕ) (x : Label × Vec Command Global) → i < length xs
    → x ≡ get_or xs i x → Gathers a b (parts_sets (parts_of (map view_part (take i xs)))) → Gathers b c (label_sets (view_label x.0))
    → Gathers c d (commands_sets (commands_of (map view_command x.1.items)))
    → Gathers a d (parts_sets (parts_of (map view_part (take (i + 1) xs))))
parts_gathers xs i x low is first second third =
    as_sets
    (parts_push (map view_part (take i xs)) (view_part x) ∙ ap (λ l. parts_sets (parts_of l)) (sym (map_next view_part xs i x low is)))
    (gathers_then first (gathers_then second third))

-- a suffix has no sets
pub suffixes_sets : (inner : ExprView) (suffixes : List Suffix) → sets_of (suffixes_of inner suffixes) ≡ sets_of inner
suffixes_sets inner [] = refl
suffixes_sets inner (x ∷ rest) = suffixes_sets (suffixed inner x) rest

-- some element of a list and one more
module _ {X : Type 0} (P : X → Type 0) where
  any_push : (xs : List X) (y : X) (i : ℕ) (x : X) → i < length (xs ++ y ∷ []) → slice_index_or (xs ++ y ∷ []) i x ≡ x → P x → Any P xs ⊎ P y
  any_push [] y zero x low is p = inr (subst P (sym is) p)
  any_push [] y (suc i) x low is p = absurd (omega arith)
  any_push (z ∷ xs) y zero x low is p = inl (zero, x, omega arith, is, p)
  any_push (z ∷ xs) y (suc i) x low is p = later (any_push xs y i x (omega arith) is p)
    where
      later : Any P xs ⊎ P y → Any P (z ∷ xs) ⊎ P y
      later (inl a) = let low' : suc a.0 < length (z ∷ xs) = (let l = a.2 in omega arith) in inl (suc a.0, a.1, low', a.3, a.4)
      later (inr p') = inr p'

  any_before : (xs : List X) (y : X) (i : ℕ) (x : X) → i < length xs → slice_index_or xs i x ≡ x → P x → Any P (xs ++ y ∷ [])
  any_before [] y i x low is p = absurd (omega arith)
  any_before (z ∷ xs) y zero x low is p = (zero, x, omega arith, is, p)
  any_before (z ∷ xs) y (suc i) x low is p =
      let a = any_before xs y i x (omega arith) is p in
      let low' : suc a.0 < length ((z ∷ xs) ++ y ∷ []) = (let l = a.2 in omega arith) in
      (suc a.0, a.1, low', a.3, a.4)

  any_last : (xs : List X) (y : X) → P y → Any P (xs ++ y ∷ [])
  any_last [] y p = (zero, y, omega arith, refl, p)
  any_last (z ∷ xs) y p =
      let a = any_last xs y p in
      let low' : suc a.0 < length ((z ∷ xs) ++ y ∷ []) = (let l = a.2 in omega arith) in
      (suc a.0, a.1, low', a.3, a.4)

-- one more set, within the limits or past one of them
module _ {X : Type 0} (many large : ℕ) (sets : List (List X)) (set : List X) where
  one_set_more : length (sets ++ set ∷ []) ≡ length sets + 1
  one_set_more = omega (arith, length-append sets (set ∷ []))

  pub still_many : AreTooMany many large sets → AreTooMany many large (sets ++ set ∷ [])
  still_many (inl over) = let n = one_set_more in let over' : many < length (sets ++ set ∷ []) = omega arith in inl over'
  still_many (inr a) = inr (any_before (λ s. large < length s) sets set a.0 a.1 a.2 a.3 a.4)

  pub still_few : length sets < many → length set ≤ large → AreTooMany many large (sets ++ set ∷ []) → AreTooMany many large sets
  still_few few small (inl over) = let n = one_set_more in let l : many < length (sets ++ set ∷ []) = over in absurd (omega arith)
  still_few few small (inr a) = one_of (any_push (λ s. large < length s) sets set a.0 a.1 a.2 a.3 a.4)
    where
      one_of : Any (λ s. large < length s) sets ⊎ (large < length set) → AreTooMany many large sets
      one_of (inl before) = inr before
      one_of (inr here) = absurd (omega arith)

  pub now_many : (many ≤ length sets) ⊎ (large < length set) → AreTooMany many large (sets ++ set ∷ [])
  now_many (inl full) = let n = one_set_more in let over : many < length (sets ++ set ∷ []) = omega arith in inl over
  now_many (inr here) = inr (any_last (λ s. large < length s) sets set here)

not_both : (b : Bool) → b ≡ false → b ≡ true → ⊥
not_both b is not = cc

-- one more set of patterns or of ints, whose list and number are these: past a limit
module _ (old new : SetLists) (set : Sets)
    (after : (n : SetCounts) → IsCounted n old.numbers → IsCounted (past n set) new.numbers) where
  counts : (before : Sets) → HoldsSets old before → IsCounted (past none_before (with_sets before set)) new.numbers
  counts before h =
      subst (λ n. IsCounted n new.numbers) (past_both none_before before set) (after (past none_before before) h.counted)

  pub put_past : ((before : Sets) → HoldsSets old before → TooManySets (with_sets before set)) → new.too_many ≡ true → new.kept ≡ false
      → Gathers old new set
  put_past many is lost = record {
    counts = after;
    holds = λ before h. record {
      counted = counts before h;
      too_many = (λ e. many before h, λ m. is);
      patterns = λ k. absurd (not_both new.kept lost k);
      ints = λ k. absurd (not_both new.kept lost k);
    };
  }

  -- within the limits: it is kept, or memory was refused, or what came before is not kept
  pub put_within : ((before : Sets) → HoldsSets old before → TooManySets before ↔ TooManySets (with_sets before set))
      → new.too_many ≡ old.too_many → (new.kept ≡ true → old.kept ≡ true)
      → (new.kept ≡ true → new.patterns.items ≡ old.patterns.items ++ set.patterns)
      → (new.kept ≡ true → new.ints.items ≡ old.ints.items ++ set.ints) → Gathers old new set
  put_within still same kept patterns ints = record {
    counts = after;
    holds = λ before h. record {
      counted = counts before h;
      too_many = (λ e. (still before h).0 (h.too_many.0 (sym same ∙ e)), λ m. same ∙ h.too_many.1 ((still before h).1 m));
      patterns = λ k. patterns k ∙ ap (λ l. l ++ set.patterns) (h.patterns (kept k));
      ints = λ k. ints k ∙ ap (λ l. l ++ set.ints) (h.ints (kept k));
    };
  }

-- a set of patterns
module _ (old : SetLists) (set : List SetPatternView) (before : Sets) (h : HoldsSets old before) where
  pub many_patterns : (64 ≤ old.numbers.patterns) ⊎ (1024 < length (map pattern_of set)) → TooManySets (with_sets before (one_set (of_patterns set)))
  many_patterns (inl many) =
      let c = h.counted.patterns in
      let over : 64 ≤ length before.patterns = omega arith in
      inl (now_many 64 1024 before.patterns (map pattern_of set) (inl over))
  many_patterns (inr large) = inl (now_many 64 1024 before.patterns (map pattern_of set) (inr large))

  pub few_patterns : old.numbers.patterns < 64 → length (map pattern_of set) ≤ 1024
      → TooManySets before ↔ TooManySets (with_sets before (one_set (of_patterns set)))
  few_patterns few small = (there, back)
    where
      room : length before.patterns < 64
      room = let c = h.counted.patterns in omega arith

      there : TooManySets before → TooManySets (with_sets before (one_set (of_patterns set)))
      there (inl m) = inl (still_many 64 1024 before.patterns (map pattern_of set) m)
      there (inr m) = inr (subst (AreTooMany 64 1024) (sym (append-nil before.ints)) m)

      back : TooManySets (with_sets before (one_set (of_patterns set))) → TooManySets before
      back (inl m) = inl (still_few 64 1024 before.patterns (map pattern_of set) room small m)
      back (inr m) = inr (subst (AreTooMany 64 1024) (append-nil before.ints) m)

-- a set of ints
module _ (old : SetLists) (set : List RangeView) (before : Sets) (h : HoldsSets old before) where
  pub many_ranges : (64 ≤ old.numbers.ints) ⊎ (1024 < length (map range_of set)) → TooManySets (with_sets before (ranges_set set))
  many_ranges (inl many) =
      let c = h.counted.ints in
      let over : 64 ≤ length before.ints = omega arith in
      inr (now_many 64 1024 before.ints (map range_of set) (inl over))
  many_ranges (inr large) = inr (now_many 64 1024 before.ints (map range_of set) (inr large))

  pub few_ranges : old.numbers.ints < 64 → length (map range_of set) ≤ 1024
      → TooManySets before ↔ TooManySets (with_sets before (ranges_set set))
  few_ranges few small = (there, back)
    where
      room : length before.ints < 64
      room = let c = h.counted.ints in omega arith

      there : TooManySets before → TooManySets (with_sets before (ranges_set set))
      there (inl m) = inl (subst (AreTooMany 64 1024) (sym (append-nil before.patterns)) m)
      there (inr m) = inr (still_many 64 1024 before.ints (map range_of set) m)

      back : TooManySets (with_sets before (ranges_set set)) → TooManySets before
      back (inl m) = inl (subst (AreTooMany 64 1024) (append-nil before.patterns) m)
      back (inr m) = inr (still_few 64 1024 before.ints (map range_of set) room small m)
