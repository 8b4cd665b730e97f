-- Places of instructions that are put into an output one after another.
use Rattle.std.proofs.Common.{◌≡◌, ℕ, ◌+◌, ◌<◌, List, [], ◌∷◌, ◌++◌, length, take, get_or, true, refl, sym, ap, subst, ◌∙◌, arith}
use Rattle.std.proofs.Common.{add-one, append_assoc, length-append}
use Rattle.std.specs.Prelude.{flat_map, replicate}
use Rattle.std.proofs.Math.Seq.{take-suc}
use Rattle.std.proofs.lemmas.List.{append-nil, flat_map_more, length-set, replicate-append-replicate}
use Rattle.filter_code.specs.declared.instruction.Instr.{Instr}
use Rattle.filter_compiler.specs.declared.output.Output.{Output}
use Rattle.filter_compiler.specs.Mapped.{Mapped}
use Rattle.filter_compiler.specs.Written.{Notes, patched}

-- places with others that are the same
pub as_noted : {a b : Output} {ps qs : List ℕ} → ps ≡ qs → Notes a b ps → Notes a b qs
as_noted {a} {b} is notes = subst (Notes a b) is notes

-- an output that keeps the same
pub kept_same : (a b : Output) → (b.kept ≡ true → a.kept ≡ true) → (b.kept ≡ true → b.mapped ≡ a.mapped) → Notes a b []
kept_same a b went_on same = record {
  went_on = went_on;
  noted = λ k. ap (λ (m : Mapped). m.places) (same k) ∙ sym (append-nil a.mapped.places);
  each = λ k e.
      ap (λ (m : Mapped). length m.places) (same k) ∙ (e ∙ sym (ap (λ (m : Mapped). length m.instrs) (same k)));
}

pub no_notes : (a : Output) → Notes a a []
no_notes a = kept_same a a (λ k. k) (λ k. refl)

-- one more instruction is kept
pub one_note : (a b : Output) (at : ℕ) (instr : Instr) → (b.kept ≡ true → a.kept ≡ true)
    → (b.kept ≡ true → b.mapped ≡ record { instrs = a.mapped.instrs ++ instr ∷ []; places = a.mapped.places ++ at ∷ [] })
    → Notes a b (at ∷ [])
one_note a b at instr went_on more = record {
  went_on = went_on;
  noted = λ k. ap (λ (m : Mapped). m.places) (more k);
  each = λ k e.
      ap (λ (m : Mapped). length m.places) (more k)
      ∙ (omega (arith, length-append a.mapped.places (at ∷ []), length-append a.mapped.instrs (instr ∷ []), e)
      ∙ sym (ap (λ (m : Mapped). length m.instrs) (more k)));
}

-- some places, and then others
pub then_notes : {a b c : Output} {ps qs : List ℕ} → Notes a b ps → Notes b c qs → Notes a c (ps ++ qs)
then_notes {a} {b} {c} {ps} {qs} first second = record {
  went_on = λ k. first.went_on (second.went_on k);
  noted = λ k.
      second.noted k
      ∙ (ap (λ l. l ++ qs) (first.noted (second.went_on k)) ∙ append_assoc a.mapped.places ps qs);
  each = λ k e. second.each k (first.each (second.went_on k) e);
}

-- an instruction is replaced where it stands
pub patch_notes : {a c d : Output} {ps : List ℕ} (at : ℕ) (instr : Instr) → Notes a c ps → d ≡ patched c at instr → Notes a d ps
patch_notes {a} {c} {d} {ps} at instr notes is =
    subst (λ o. Notes a o ps) (sym is) (record {
      went_on = notes.went_on;
      noted = notes.noted;
      each = λ k e. notes.each k e ∙ sym (length-set c.mapped.instrs at instr);
    })

-- one more element of a list, and the places that it gives
pub next_notes : {X : Type 0} (f : X → List ℕ) {a b c : Output} (xs : List X) (i : ℕ) (x : X) → i < length xs → x ≡ get_or xs i x
    → Notes a b (flat_map f (take i xs)) → Notes b c (f x) → Notes a c (flat_map f (take (i + 1) xs))
next_notes f {a} {b} {c} xs i x low is so_far more =
    let taken : take (i + 1) xs ≡ take i xs ++ x ∷ [] =
    ap (λ n. take n xs) (add-one i) ∙ (take-suc xs i x low ∙ ap (λ y. take i xs ++ y ∷ []) (sym is)) in
    as_noted (flat_map_more f [] (take i xs) x ∙ ap (flat_map f) (sym taken)) (then_notes so_far more)

-- the same place once more
pub times_notes : {a b c : Output} (ps : List ℕ) (n at : ℕ) → Notes a b (ps ++ replicate n at) → Notes b c (at ∷ [])
    → Notes a c (ps ++ replicate (n + 1) at)
times_notes {a} {b} {c} ps n at so_far more =
    as_noted (append_assoc ps (replicate n at) (at ∷ []) ∙ ap (λ l. ps ++ l) (replicate-append-replicate n 1 at))
    (then_notes so_far more)
