-- What is read of sets and of operands of one word is spelled so, and fits.
use Rattle.std.proofs.Common.{◌≡◌, refl, sym, ap, subst, ◌∙◌, ℕ, zero, suc, ◌≤◌, List, [], ◌∷◌, ◌++◌, Some, inl, inr, append_assoc}
use Rattle.std.proofs.Common.{append-nil, arith}
use Rattle.filter_tokens.specs.Lexemes.{Lexeme}
use Rattle.filter_tokens.specs.declared.symbol.Symbol.{Symbol}
use Rattle.filter_tokens.specs.declared.symbol.Symbol.TheVariants as symbols
use Rattle.expression_parser.specs.Readers.{turns, symbol, a_number}
use Rattle.expression_parser.specs.Reading.{an_attribute, a_set_pattern, adds_set_pattern, set_patterns_from, set_after_first}
use Rattle.expression_parser.specs.Reading.{pattern_set_of, ranges_from, range_set_from, set_of, defined_of, keyword_of}
use Rattle.expression_parser.specs.Reading.{single_of, a_single, atom_of}
use Rattle.filter_syntax.specs.Syntax.{SetPatternView, SetView, ExprView, Fits, FitsSetPattern, FitsSetPatterns}
use Rattle.filter_syntax.specs.Syntax.{FitsSet, attribute_symbol, rank, spelling, spelling_set_pattern}
use Rattle.filter_syntax.specs.Syntax.{spelling_ranges, spelling_set_patterns, spelling_set}
use Rattle.expression_parser.proofs.Ranges.{ranges_sound}
use Rattle.expression_parser.proofs.SoundWords.{an_attribute_found, number_found, set_pattern_sound}
use Rattle.expression_parser.proofs.Steps.{bind_some, symbol_found, some_is, with_some_cases}

-- more patterns after some, up to where no comma follows
record IsMore (xs : List SetPatternView) (ws : List Lexeme) (y : List SetPatternView × List Lexeme) : Type 0 where
  more : List SetPatternView
  all : y.0 ≡ xs ++ more
  fits : FitsSetPatterns more
  spelled : (rest : List Lexeme) → y.1 ≡ Lexeme.symbol symbols.RightBracket ∷ rest → ws ≡ spelling_set_patterns more ++ rest

no_more : (xs : List SetPatternView) (ws : List Lexeme) (y : List SetPatternView × List Lexeme) → Some (xs, ws) ≡ Some y → IsMore xs ws y
no_more xs ws y e =
    let P : (List SetPatternView × List Lexeme) → Type 0 = IsMore xs ws in
    subst P (some_is e) (record { more = []; all = sym (append-nil xs); fits = tt; spelled = λ rest k. k })

-- one turn that went on
set_pattern_turn : (xs : List SetPatternView) (ws : List Lexeme) (z : List SetPatternView × List Lexeme) → adds_set_pattern xs ws ≡ Some (Some z) →
    (x : SetPatternView) × (z.0 ≡ xs ++ (x ∷ [])) × FitsSetPattern x × (ws ≡ Lexeme.symbol symbols.Comma ∷ (spelling_set_pattern x ++ z.1))
set_pattern_turn xs ws z e = elim (with_some_cases (symbol symbols.Comma ws) _ _ (Some z) e) [
  | inl p ↦ absurd (cc (p.1))
  | inr p ↦
      let (x, first, e1) = bind_some (a_set_pattern p.0) _ (Some z) p.2 in
      let a = set_pattern_sound p.0 x first in
      let b : (xs ++ (x.0 ∷ []), x.1) ≡ z = some_is (some_is e1) in
      let Q : (List SetPatternView × List Lexeme) → Type 0 =
      λ z. (x : SetPatternView) × (z.0 ≡ xs ++ (x ∷ [])) × FitsSetPattern x × (ws ≡ Lexeme.symbol symbols.Comma ∷ (spelling_set_pattern x ++ z.1)) in
      subst Q b (x.0, refl, a.fits, symbol_found symbols.Comma ws p.0 p.1 ∙ ap (λ v. Lexeme.symbol symbols.Comma ∷ v) a.spelled)
]

set_patterns_sound : (n : ℕ) (xs : List SetPatternView) (ws : List Lexeme) (y : List SetPatternView × List Lexeme) → turns adds_set_pattern n xs ws ≡ Some y → IsMore xs ws y
set_patterns_sound zero xs ws y e = no_more xs ws y e
set_patterns_sound (suc n) xs ws y e =
    let (r, first, e1) = bind_some (adds_set_pattern xs ws) _ y e in
    elim (with_some_cases r _ _ y e1) [
      | inl p ↦ no_more xs ws y p.1
      | inr p ↦
          let one : adds_set_pattern xs ws ≡ Some (Some p.0) = first ∙ ap Some p.1 in
          let t = set_pattern_turn xs ws p.0 one in
          let g = set_patterns_sound n p.0.0 p.0.1 y p.2 in
          record {
            more = t.0 ∷ g.more;
            all = g.all ∙ (ap (λ v. v ++ g.more) t.1 ∙ append_assoc xs (t.0 ∷ []) g.more);
            fits = (t.2, g.fits);
            spelled = λ rest k. t.3 ∙ (ap (λ v. Lexeme.symbol symbols.Comma ∷ (spelling_set_pattern t.0 ++ v)) (g.spelled rest k)
                ∙ ap (λ v. Lexeme.symbol symbols.Comma ∷ v) (sym (append_assoc (spelling_set_pattern t.0) (spelling_set_patterns g.more) rest)));
          }
    ]

-- a set of prefixes after its first pattern
record IsBehind (first : SetPatternView) (ws : List Lexeme) (x : SetView × List Lexeme) : Type 0 where
  more : List SetPatternView
  all : x.0 ≡ SetView.of_patterns (first ∷ more)
  fits : FitsSetPatterns more
  spelled : ws ≡ spelling_set_patterns more ++ x.1

after_sound : (first : SetPatternView) (ws : List Lexeme) (x : SetView × List Lexeme) → set_after_first first ws ≡ Some x → IsBehind first ws x
after_sound first ws x e =
    let (y, e1, e2) = bind_some (set_patterns_from (first ∷ []) ws) _ x e in
    let (rest, e3, e4) = bind_some (symbol symbols.RightBracket y.1) _ x e2 in
    let g = set_patterns_sound _ (first ∷ []) ws y e1 in
    let Q : (SetView × List Lexeme) → Type 0 = IsBehind first ws in
    subst Q (some_is e4) (record {
      more = g.more;
      all = ap SetView.of_patterns g.all;
      fits = g.fits;
      spelled = g.spelled rest (symbol_found symbols.RightBracket y.1 rest e3);
    })

-- a set after its bracket
pub record IsSet (ws : List Lexeme) (x : SetView × List Lexeme) : Type 0 where
  pub spelled : Lexeme.symbol symbols.LeftBracket ∷ ws ≡ spelling_set x.0 ++ x.1
  pub fits : FitsSet x.0

pattern_set_sound : (ws : List Lexeme) (x : SetView × List Lexeme) → pattern_set_of ws ≡ Some x → IsSet ws x
pattern_set_sound ws x e =
    let (first, e1, e2) = bind_some (a_set_pattern ws) _ x e in
    let a = set_pattern_sound ws first e1 in
    let b = after_sound first.0 first.1 x e2 in
    let Q : SetView → Type 0 = λ set. IsSet ws (set, x.1) in
    subst Q (sym b.all) (record {
      spelled = ap (λ v. Lexeme.symbol symbols.LeftBracket ∷ v) (a.spelled ∙ (ap (λ v. spelling_set_pattern first.0 ++ v) b.spelled
          ∙ sym (append_assoc (spelling_set_pattern first.0) (spelling_set_patterns b.more) x.1)));
      fits = (a.fits, b.fits);
    })

range_set_sound : (low : ℕ) (ws : List Lexeme) (x : SetView × List Lexeme) → range_set_from low ws ≡ Some x → IsSet (Lexeme.number low ∷ ws) x
range_set_sound low ws x e =
    let (y, e1, e2) = bind_some (ranges_from low ws) _ x e in
    let (rest, e3, e4) = bind_some (symbol symbols.RightBracket y.1) _ x e2 in
    let g = ranges_sound low ws y e1 in
    let Q : (SetView × List Lexeme) → Type 0 = IsSet (Lexeme.number low ∷ ws) in
    subst Q (some_is e4) (record {
      spelled = ap (λ v. Lexeme.symbol symbols.LeftBracket ∷ v) (g.spelled
          ∙ (ap (λ v. spelling_ranges y.0 ++ v) (symbol_found symbols.RightBracket y.1 rest e3)
          ∙ sym (append_assoc (spelling_ranges y.0) (Lexeme.symbol symbols.RightBracket ∷ []) rest)));
      fits = g.fits;
    })

pub set_sound : (ws : List Lexeme) (x : SetView × List Lexeme) → set_of ws ≡ Some x → IsSet ws x
set_sound ws x e = elim (with_some_cases (a_number ws) _ _ x e) [
  | inl p ↦ pattern_set_sound ws x p.1
  | inr p ↦ let Q : List Lexeme → Type 0 = λ v. IsSet v x in subst Q (sym (number_found ws p.0 p.1)) (range_set_sound p.0.0 p.0.1 x p.2)
]

-- an operand that no suffix follows yet
pub record IsAtom (ws : List Lexeme) (x : ExprView × List Lexeme) : Type 0 where
  pub spelled : ws ≡ spelling x.0 ++ x.1
  pub fits : (depth : ℕ) → Fits x.0 depth
  pub low : rank x.0 ≤ 0

-- a word that spells a tree
record IsWord (w : Lexeme) (t : ExprView) : Type 0 where
  spelled : w ∷ [] ≡ spelling t
  fits : (depth : ℕ) → Fits t depth
  low : rank t ≤ 0

keyword_sound : (k : Symbol) (t : ExprView) → keyword_of k ≡ Some t → IsWord (Lexeme.symbol k) t
keyword_sound symbols.True t e = let P : ExprView → Type 0 = IsWord (Lexeme.symbol symbols.True) in
    subst P (some_is e) (record { spelled = refl; fits = λ d. tt; low = omega arith })
keyword_sound symbols.False t e = let P : ExprView → Type 0 = IsWord (Lexeme.symbol symbols.False) in
    subst P (some_is e) (record { spelled = refl; fits = λ d. tt; low = omega arith })
keyword_sound symbols.Net t e = let P : ExprView → Type 0 = IsWord (Lexeme.symbol symbols.Net) in
    subst P (some_is e) (record { spelled = refl; fits = λ d. tt; low = omega arith })
keyword_sound symbols.RipMetric t e =
    let P : ExprView → Type 0 = IsWord (Lexeme.symbol symbols.RipMetric) in subst P (some_is e)
    (record { spelled = refl; fits = λ d. tt; low = omega arith })
keyword_sound _ t e = absurd (cc)

single_sound : (w : Lexeme) (t : ExprView) → single_of w ≡ Some t → IsWord w t
single_sound (Lexeme.number n) t e = let P : ExprView → Type 0 = IsWord (Lexeme.number n) in
    subst P (some_is e) (record { spelled = refl; fits = λ d. tt; low = omega arith })
single_sound (Lexeme.address a) t e = let P : ExprView → Type 0 = IsWord (Lexeme.address a) in
    subst P (some_is e) (record { spelled = refl; fits = λ d. tt; low = omega arith })
single_sound (Lexeme.prefix p) t e = let P : ExprView → Type 0 = IsWord (Lexeme.prefix p) in
    subst P (some_is e) (record { spelled = refl; fits = λ d. tt; low = omega arith })
single_sound (Lexeme.name s) t e = let P : ExprView → Type 0 = IsWord (Lexeme.name s) in
    subst P (some_is e) (record { spelled = refl; fits = λ d. tt; low = omega arith })
single_sound (Lexeme.symbol k) t e = keyword_sound k t e
single_sound Lexeme.quote t e = absurd (cc)

a_single_sound : (ws : List Lexeme) (x : ExprView × List Lexeme) → a_single ws ≡ Some x → IsAtom ws x
a_single_sound [] x e = absurd (cc)
a_single_sound (w ∷ ws) x e =
    let (t, e1, e2) = bind_some (single_of w) _ x e in
    let a = single_sound w t e1 in
    let P : (ExprView × List Lexeme) → Type 0 = IsAtom (w ∷ ws) in
    subst P (some_is e2) (record { spelled = ap (λ v. v ++ ws) a.spelled; fits = a.fits; low = a.low })

defined_sound : (ws : List Lexeme) (x : ExprView × List Lexeme) → defined_of ws ≡ Some x → IsAtom (Lexeme.symbol symbols.Defined ∷ ws) x
defined_sound ws x e =
    let (after, e1, e2) = bind_some (symbol symbols.LeftParen ws) _ x e in
    let (a, e3, e4) = bind_some (an_attribute after) _ x e2 in
    let (rest, e5, e6) = bind_some (symbol symbols.RightParen a.1) _ x e4 in
    let f : ws ≡ Lexeme.symbol symbols.LeftParen ∷ after = symbol_found symbols.LeftParen ws after e1 in
    let g : after ≡ Lexeme.symbol (attribute_symbol a.0) ∷ a.1 = an_attribute_found after a e3 in
    let h : a.1 ≡ Lexeme.symbol symbols.RightParen ∷ rest = symbol_found symbols.RightParen a.1 rest e5 in
    let P : (ExprView × List Lexeme) → Type 0 = IsAtom (Lexeme.symbol symbols.Defined ∷ ws) in
    subst P (some_is e6) (record { spelled = cc; fits = λ d. tt; low = omega arith })

pub atom_sound : (ws : List Lexeme) (x : ExprView × List Lexeme) → atom_of ws ≡ Some x → IsAtom ws x
atom_sound ws x e = elim (with_some_cases (symbol symbols.Defined ws) _ _ x e) [
  | inl p ↦ a_single_sound ws x p.1
  | inr p ↦ let Q : List Lexeme → Type 0 = λ v. IsAtom v x in subst Q (sym (symbol_found symbols.Defined ws p.0 p.1)) (defined_sound p.0 x p.2)
]
