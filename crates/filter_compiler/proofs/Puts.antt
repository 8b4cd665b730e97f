-- Parts that are put into an output one after another.
use Rattle.std.proofs.Common.{◌≡◌, ℕ, ◌+◌, List, [], ◌++◌, length, sym, ap, subst, ◌∙◌, arith, append_assoc, length-append}
use Rattle.std.proofs.lemmas.List.{append-nil}
use Rattle.filter_code.specs.declared.instruction.Instr.{Instr}
use Rattle.filter_compiler.specs.SetOrder.{Sets, SetCounts, no_sets, past, with_sets}
use Rattle.filter_compiler.specs.declared.numbers.SetNumbers.{SetNumbers}
use Rattle.filter_compiler.specs.declared.output.Output.{Output}
use Rattle.filter_compiler.specs.Written.{Emits, IsCounted, TranslatedPart, Puts, Holds, code_alone}

abbrev counts_of : ℕ → ℕ → SetCounts
counts_of patterns ints = record { patterns = patterns; ints = ints }

-- the same numbers
same_counts : (a b c d : ℕ) → a ≡ c → b ≡ d → counts_of a b ≡ counts_of c d
same_counts a b c d e f = ap (λ (m : ℕ). counts_of m b) e ∙ ap (counts_of c) f

-- the numbers after no sets, and after those of two parts
pub past_none : (n : SetCounts) → n ≡ past n no_sets
past_none n = same_counts n.patterns n.ints (n.patterns + 0) (n.ints + 0) (omega arith) (omega arith)

pub past_both : (n : SetCounts) (s t : Sets) → past (past n s) t ≡ past n (with_sets s t)
past_both n s t =
    same_counts _ _ _ _ (omega (arith, length-append s.patterns t.patterns)) (omega (arith, length-append s.ints t.ints))

-- instructions and others
pub nothing : (a : Output) → Puts a a []
nothing a = record { holds = λ before h. subst (Holds a) (sym (append-nil before)) h }

pub puts_then : {a b c : Output} {x y : List Instr} → Puts a b x → Puts b c y → Puts a c (x ++ y)
puts_then {a} {b} {c} {x} {y} first second = record {
  holds = λ before h. subst (Holds c) (append_assoc before x y) (second.holds (before ++ x) (first.holds before h));
}

-- parts with the same code wherever they stand
pub as_part : (a b : Output) (k l : SetNumbers) (p q : TranslatedPart) → ((n : SetCounts) → p.code n ≡ q.code n) → p.sets ≡ q.sets
    → Emits a b k l p → Emits a b k l q
as_part a b k l p q codes sets emits = record {
  puts = λ n counted. subst (Puts a b) (codes n) (emits.puts n counted);
  counts = λ n counted. subst (λ s. IsCounted (past n s) l) sets (emits.counts n counted);
}

-- instructions alone
pub alone : {a b : Output} {k : SetNumbers} {x : List Instr} → Puts a b x → Emits a b k k (code_alone x)
alone {a} {b} {k} {x} puts = record {
  puts = λ n counted. puts;
  counts = λ n counted. subst (λ m. IsCounted m k) (past_none n) counted;
}

-- one part and another one
abbrev pub joined : TranslatedPart → TranslatedPart → TranslatedPart
joined p q = record { code = λ n. p.code n ++ q.code (past n p.sets); sets = with_sets p.sets q.sets }

pub then : {a b c : Output} {k l m : SetNumbers} {p q : TranslatedPart} → Emits a b k l p → Emits b c l m q → Emits a c k m (joined p q)
then {a} {b} {c} {k} {l} {m} {p} {q} first second = record {
  puts = λ n counted. puts_then (first.puts n counted) (second.puts (past n p.sets) (first.counts n counted));
  counts = λ n counted.
      subst (λ s. IsCounted s m) (past_both n p.sets q.sets) (second.counts (past n p.sets) (first.counts n counted));
}

-- a part with instructions after it, and with instructions before it
abbrev pub with_code : TranslatedPart → List Instr → TranslatedPart
with_code p instrs = record { code = λ n. p.code n ++ instrs; sets = p.sets }

pub then_code : {a b c : Output} {k l : SetNumbers} {p : TranslatedPart} {instrs : List Instr} → Emits a b k l p → Puts b c instrs
    → Emits a c k l (with_code p instrs)
then_code first second = record { puts = λ n counted. puts_then (first.puts n counted) second; counts = first.counts }

abbrev pub code_with : List Instr → TranslatedPart → TranslatedPart
code_with instrs p = record { code = λ n. instrs ++ p.code n; sets = p.sets }

pub code_then : {a b c : Output} {k l : SetNumbers} {instrs : List Instr} {p : TranslatedPart} → Puts a b instrs → Emits b c k l p
    → Emits a c k l (code_with instrs p)
code_then first second = record { puts = λ n counted. puts_then first (second.puts n counted); counts = second.counts }
