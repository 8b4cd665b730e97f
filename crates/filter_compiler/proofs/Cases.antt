-- Questions for sets, and the parts of a `case`, that are put into an output.
use Rattle.std.proofs.Common.{◌≡◌, ℕ, ◌+◌, ◌<◌, min, Bool, true, false, List, [], ◌∷◌, ◌++◌, length, replicate, refl, sym, ap, subst, ◌∙◌, arith}
use Rattle.std.proofs.Common.{append_assoc, length-append}
use Rattle.filter_code.specs.declared.instruction.Instr.{Instr}
use Rattle.filter_code.specs.declared.instruction.Instr.TheVariants as instr
use Rattle.filter_syntax.specs.declared.tree.op.Membership.{Membership}
use Rattle.filter_syntax.specs.declared.tree.op.Membership.TheVariants as membership
use Rattle.filter_syntax.specs.Syntax.{ExprView, RangeView, SetPatternView, of_patterns, of_ranges}
use Rattle.filter_syntax.specs.SyntaxCommands.{CommandsView, DeclView, PartsView, case, else_label, no_commands, part_then, ranges_label}
use Rattle.filter_compiler.specs.InstructionPlaces.{all_at}
use Rattle.filter_compiler.specs.SetOrder.{SetCounts, no_sets, past, with_sets}
use Rattle.filter_compiler.specs.Translation.{commands_code, commands_sets, expression_code, has_labelled, member_code, one_set, opening_code}
use Rattle.filter_compiler.specs.Translation.{opening_sets, parts_code, parts_sets, ranges_set, sets_of}
use Rattle.filter_compiler.specs.declared.numbers.SetNumbers.{SetNumbers}
use Rattle.filter_compiler.specs.declared.output.Output.{Output}
use Rattle.filter_compiler.specs.Written.{Emits, Holds, IsCounted, TranslatedPart, Puts, command_part, commands_part}
use Rattle.filter_compiler.specs.Written.{labelled_part, member_part, parts_part, Notes}
use Rattle.filter_compiler.proofs.Jumps.{jump_over}
use Rattle.filter_compiler.proofs.Puts.{as_part, joined, past_both, past_none, puts_then, then}
use Rattle.filter_compiler.proofs.Trees.{numbered, sets_assoc}

-- the question for a set of either kind
pub asks_patterns : {a b c : Output} {k l : SetNumbers} (op : Membership) (set : List SetPatternView) → Puts a b []
    → (c.kept ≡ true → k.patterns < 64) → Puts b c (member_code op (instr.Member k.patterns))
    → ((n : SetCounts) → IsCounted n k → IsCounted (past n (one_set (of_patterns set))) l) → Emits a c k l (member_part op (of_patterns set))
asks_patterns op set first low second after = record {
  puts = λ n counted. numbered n.patterns (λ i. instr.Member i) op first low counted.patterns second;
  counts = after;
}

pub asks_ranges : {a b c : Output} {k l : SetNumbers} (op : Membership) (set : List RangeView) → Puts a b []
    → (c.kept ≡ true → k.ints < 64) → Puts b c (member_code op (instr.InSet k.ints))
    → ((n : SetCounts) → IsCounted n k → IsCounted (past n (ranges_set set)) l) → Emits a c k l (member_part op (of_ranges set))
asks_ranges op set first low second after = record {
  puts = λ n counted. numbered n.ints (λ i. instr.InSet i) op first low counted.ints second;
  counts = after;
}

-- a question has as many places as instructions, whatever it asks
pub same_places : (op : Membership) (at : ℕ) (x y : Instr) → all_at at (member_code op x) ≡ all_at at (member_code op y)
same_places membership.In at x y = refl
same_places membership.NotIn at x y = refl

-- a labelled part of a `case` up to its last command
pub part_emits : {a b d : Output} {k m l : SetNumbers} (decls : List DeclView) (argument : List Instr) (ranges : List RangeView)
    (commands : CommandsView) → ((n : ℕ) → k.ints ≡ min n 255 → Puts a b (argument ++ instr.InSet n ∷ []))
    → ((n : SetCounts) → IsCounted n k → IsCounted (past n (ranges_set ranges)) m)
    → Emits b d m l (jump_over (λ n. instr.JumpIfNot (n + 1)) (commands_part decls commands))
    → Emits a d k l (labelled_part decls argument ranges commands)
part_emits {a} {b} {d} {k} {m} {l} decls argument ranges commands asked after rest = record {
  puts = λ n counted. puts_then (asked n.ints counted.ints) (rest.puts (past n (ranges_set ranges)) (after n counted));
  counts = λ n counted.
      subst (λ x. IsCounted x l) (past_both n (ranges_set ranges) (commands_sets commands))
      (rest.counts (past n (ranges_set ranges)) (after n counted));
}

-- a labelled part with the parts after it
pub ranges_emits : {a b d : Output} {k m l : SetNumbers} (decls : List DeclView) (argument other : List Instr) (ranges : List RangeView)
    (commands : CommandsView) (more : PartsView) → Emits a b k m (labelled_part decls argument ranges commands)
    → Emits b d m l (jump_over instr.Jump (parts_part decls argument other more))
    → Emits a d k l (parts_part decls argument other (part_then (ranges_label ranges) commands more))
ranges_emits {a} {b} {d} {k} {m} {l} decls argument other ranges commands more first second =
    as_part a d k l
    (joined (labelled_part decls argument ranges commands) (jump_over instr.Jump (parts_part decls argument other more)))
    (parts_part decls argument other (part_then (ranges_label ranges) commands more))
    (λ n.
    let n1 = past n (ranges_set ranges) in
    let code = commands_code decls n1 commands in
    let t = argument ++ instr.InSet n.ints ∷ [] in
    let tail = λ (x : SetCounts). instr.Jump (length (parts_code decls argument other x more)) ∷ parts_code decls argument other x more in
    ap (λ x. (t ++ instr.JumpIfNot (length code + 1) ∷ code) ++ tail x) (sym (past_both n (ranges_set ranges) (commands_sets commands)))
    ∙ append_assoc t (instr.JumpIfNot (length code + 1) ∷ code) (tail (past n1 (commands_sets commands))))
    (sets_assoc (ranges_set ranges) (commands_sets commands) (parts_sets more)) (then first second)

-- an `else` part with the parts after it
pub else_emits : {a b : Output} {k m l : SetNumbers} (decls : List DeclView) (argument other : List Instr) (commands : CommandsView)
    (more : PartsView) → ((n : SetCounts) → IsCounted n k → IsCounted (past n (commands_sets commands)) m)
    → ((n : SetCounts) → IsCounted n k → Emits a b m l (parts_part decls argument (commands_code decls n commands) more))
    → Emits a b k l (parts_part decls argument other (part_then else_label commands more))
else_emits {a} {b} {k} {m} {l} decls argument other commands more after rest = record {
  puts = λ n counted. (rest n counted).puts (past n (commands_sets commands)) (after n counted);
  counts = λ n counted.
      subst (λ x. IsCounted x l) (past_both n (commands_sets commands) (parts_sets more))
      ((rest n counted).counts (past n (commands_sets commands)) (after n counted));
}

-- past the limit instructions need not be counted, where none are kept
not_both : (b : Bool) → b ≡ false → b ≡ true → ⊥
not_both b is not = cc

past_limit : (a b : Output) (code : List Instr) → 1024 < a.length → b.length ≡ a.length → b.kept ≡ false → Puts a b code
past_limit a b code long same lost = record {
  holds = λ before h. record {
    counted = omega (arith, length-append before code, h.counted);
    short = λ k. absurd (not_both b.kept lost k);
    instrs = λ k. absurd (not_both b.kept lost k);
  };
}

pub cut_emits : (a b : Output) (k l : SetNumbers) (part : TranslatedPart) → 1024 < a.length → b.length ≡ a.length → b.kept ≡ false
    → ((n : SetCounts) → IsCounted n k → IsCounted (past n part.sets) l) → Emits a b k l part
cut_emits a b k l part long same lost after = record { puts = λ n counted. past_limit a b (part.code n) long same lost; counts = after }

pub cut_notes : (a b : Output) (places : List ℕ) → b.kept ≡ false → Notes a b places
cut_notes a b places lost = record {
  went_on = λ k. absurd (not_both b.kept lost k);
  noted = λ k. absurd (not_both b.kept lost k);
  each = λ k. absurd (not_both b.kept lost k);
}

-- a `case`
module _ {a b : Output} {k m l : SetNumbers} (decls : List DeclView) (argument : ExprView) (parts : PartsView)
    (after : (n : SetCounts) → IsCounted n k → IsCounted (past n (sets_of argument)) m) where
  pub labelled_case : has_labelled parts ≡ true
      → ((n : SetCounts) → IsCounted n k → Emits a b m l (parts_part decls (expression_code decls n argument) [] parts))
      → Emits a b k l (command_part decls (case argument parts))
  labelled_case is rest = record {
    puts = λ n counted.
        let first = past n (sets_of argument) in
        let e = expression_code decls n argument in
        subst (λ x. Puts a b (opening_code x e first.ints (parts_code decls e [] (past first (opening_sets x)) parts))) (sym is)
        ((rest n counted).puts (past first no_sets) (subst (λ x. IsCounted x m) (past_none first) (after n counted)));
    counts = λ n counted.
        let first = past n (sets_of argument) in
        subst (λ x. IsCounted (past n (with_sets (sets_of argument) (with_sets (opening_sets x) (parts_sets parts)))) l) (sym is)
        (subst (λ x. IsCounted x l) (past_both n (sets_of argument) (parts_sets parts)) ((rest n counted).counts first (after n counted)));
  }

  pub opened_case : has_labelled parts ≡ false
      → ((n : SetCounts) → IsCounted n k
      → Emits a b m l (parts_part decls (expression_code decls n argument) [] (part_then (ranges_label []) no_commands parts)))
      → Emits a b k l (command_part decls (case argument parts))
  opened_case is rest = record {
    puts = λ n counted.
        let first = past n (sets_of argument) in
        let e = expression_code decls n argument in
        subst (λ x. Puts a b (opening_code x e first.ints (parts_code decls e [] (past first (opening_sets x)) parts))) (sym is)
        (subst (λ x. Puts a b (opening_code false e first.ints (parts_code decls e [] x parts))) (sym (past_none (past first (ranges_set []))))
        ((rest n counted).puts first (after n counted)));
    counts = λ n counted.
        let first = past n (sets_of argument) in
        subst (λ x. IsCounted (past n (with_sets (sets_of argument) (with_sets (opening_sets x) (parts_sets parts)))) l) (sym is)
        (subst (λ x. IsCounted x l) (past_both n (sets_of argument) (with_sets (ranges_set []) (parts_sets parts)))
        ((rest n counted).counts first (after n counted)));
  }
