-- No byte of what stands in a page as data is an opening bracket.
use Rattle.std.proofs.Common.{◌≡◌, ◌≢◌, ℕ, Bool, true, false, not, ◌&&◌, nat_eq, List, [], ◌∷◌, All, inl, inr, refl, sym, ap, subst, ◌∙◌, flat_map}
use Rattle.std.proofs.lemmas.Bool.{and_parts, cases_eq, cond-false, eq-eqb, ne_eqb, true≢false}
use Rattle.std.proofs.lemmas.List.Elements.{All-append, All-cons, All-nil}
use Rattle.domain_reports.specs.Pages.{IsNoBracket, unbracketed_byte}

differs : (a b : ℕ) → not (nat_eq a b) ≡ true → a ≢ b
differs a b e same = true≢false (sym e ∙ ap not (eq-eqb a b same))

abbrev are_no_brackets : List ℕ → Bool
are_no_brackets [] = true
are_no_brackets (b ∷ bs) = not (nat_eq b 60) && are_no_brackets bs

literal : (bs : List ℕ) → are_no_brackets bs ≡ true → All IsNoBracket bs
literal [] e = All-nil IsNoBracket
literal (b ∷ bs) e = let parts = and_parts _ _ e in All-cons IsNoBracket b bs (differs b 60 parts.0) (literal bs parts.1)

one : (byte : ℕ) → All IsNoBracket (unbracketed_byte byte)
one byte = elim (cases_eq byte 60) [
  | inl is ↦ subst (λ (n : ℕ). All IsNoBracket (unbracketed_byte n)) (sym is) (literal (unbracketed_byte 60) refl)
  | inr other ↦ subst (All IsNoBracket) (sym (cond-false _ _ _ (ne_eqb byte 60 other))) (All-cons IsNoBracket byte [] other (All-nil IsNoBracket))
]

pub all_without : (bytes : List ℕ) → All IsNoBracket (flat_map unbracketed_byte bytes)
all_without [] = All-nil IsNoBracket
all_without (b ∷ bs) = All-append IsNoBracket (unbracketed_byte b) (flat_map unbracketed_byte bs) (one b) (all_without bs)
