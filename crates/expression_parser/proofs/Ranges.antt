-- Ranges of ints: the loop over them; what is read of them is spelled so, and fits; what fits is read as it is spelled.
use Rattle.std.proofs.Common.{◌≡◌, refl, sym, ap, subst, ◌∙◌, ℕ, zero, suc, ◌≤◌, ◌<◌, nat_le, Bool, true, false, List, [], ◌∷◌, ◌++◌, length}
use Rattle.std.proofs.Common.{Option, Some, None, inl, inr, if◌then◌else◌, append_assoc, append-nil, length-append, arith}
use Rattle.filter_tokens.specs.Lexemes.{Lexeme}
use Rattle.filter_tokens.specs.declared.symbol.Symbol.TheVariants as symbols
use Rattle.prefix_patterns.specs.Reading.{◌>>=◌}
use Rattle.expression_parser.specs.Readers.{turns, symbol, a_number}
use Rattle.expression_parser.specs.Reading.{from_to_of, range_up_from, range_from, a_range, adds_range, more_ranges, ranges_from}
use Rattle.filter_syntax.specs.Syntax.{RangeView, FitsMoreRanges, FitsRange, FitsRanges, spelling_more_ranges, spelling_range, spelling_ranges}
use Rattle.expression_parser.proofs.SoundWords.{number_found}
use Rattle.expression_parser.proofs.Steps.{bind_some, symbol_found, some_is, with_some_cases}
use Rattle.expression_parser.proofs.Turns.{Goes, goes_on, ends, refuses, starts}

-- ---- the loop

-- one more range was read
pub range_on : {xs : List RangeView} {x : RangeView} {ws rest after : List Lexeme} {answer : Option (List RangeView × List Lexeme)} →
    symbol symbols.Comma ws ≡ Some rest → a_range rest ≡ Some (x, after) → length after < length ws →
    Goes adds_range xs ws answer → Goes adds_range (xs ++ (x ∷ [])) after answer
range_on {xs = xs} {x = x} {ws = ws} {after = after} {answer = answer} comma found shorter g =
    goes_on adds_range xs (xs ++ (x ∷ [])) ws after answer (rw comma (rw found refl)) shorter g

-- no comma follows
pub range_ends : {xs : List RangeView} {ws : List Lexeme} {answer : Option (List RangeView × List Lexeme)} →
    symbol symbols.Comma ws ≡ None → Goes adds_range xs ws answer → answer ≡ Some (xs, ws)
range_ends {xs = xs} {ws = ws} {answer = answer} comma g = ends adds_range xs ws answer (rw comma refl) g

-- what follows the comma is no range
pub range_stops : {xs : List RangeView} {ws rest : List Lexeme} {answer : Option (List RangeView × List Lexeme)} →
    symbol symbols.Comma ws ≡ Some rest → a_range rest ≡ None → Goes adds_range xs ws answer → answer ≡ None
range_stops {xs = xs} {ws = ws} {answer = answer} comma none g = refuses adds_range xs ws answer refl (rw comma (rw none refl)) g

-- ---- what is read

-- a range
pub record IsRange (ws : List Lexeme) (x : RangeView × List Lexeme) : Type 0 where
  pub spelled : ws ≡ spelling_range x.0 ++ x.1
  pub fits : FitsRange x.0

from_to_found : (l h : ℕ) (x : RangeView) → from_to_of l h ≡ Some x → (x ≡ RangeView.from_to l h) × (l ≤ h)
from_to_found l h x e = go (nat_le l h) refl e
  where
    go : (b : Bool) → nat_le l h ≡ b → (if b then Some (RangeView.from_to l h) else None) ≡ Some x → (x ≡ RangeView.from_to l h) × (l ≤ h)
    go true t k = (sym (some_is k), grind arith)
    go false t k = absurd (cc)

up_sound : (low : ℕ) (ws : List Lexeme) (x : RangeView × List Lexeme) → range_up_from low ws ≡ Some x
    → IsRange (Lexeme.number low ∷ Lexeme.symbol symbols.DotDot ∷ ws) x
up_sound low ws x e =
    let (high, first, e1) = bind_some (a_number ws) _ x e in
    let (found, second, e2) = bind_some (from_to_of low high.0) _ x e1 in
    let a : ws ≡ Lexeme.number high.0 ∷ high.1 = number_found ws high first in
    let f : (found ≡ RangeView.from_to low high.0) × (low ≤ high.0) = from_to_found low high.0 found second in
    let P : (RangeView × List Lexeme) → Type 0 = IsRange (Lexeme.number low ∷ Lexeme.symbol symbols.DotDot ∷ ws) in
    let Q : RangeView → Type 0 = λ r. IsRange (Lexeme.number low ∷ Lexeme.symbol symbols.DotDot ∷ ws) (r, high.1) in
    subst P (some_is e2) (subst Q (sym f.0) (record { spelled = cc; fits = f.1 }))

from_sound : (low : ℕ) (ws : List Lexeme) (x : RangeView × List Lexeme) → range_from low ws ≡ Some x → IsRange (Lexeme.number low ∷ ws) x
from_sound low ws x e =
    let P : (RangeView × List Lexeme) → Type 0 = IsRange (Lexeme.number low ∷ ws) in
    elim (with_some_cases (symbol symbols.DotDot ws) _ _ x e) [
      | inl p ↦ subst P (some_is p.1) (record { spelled = refl; fits = tt })
      | inr p ↦
          let Q : List Lexeme → Type 0 = λ v. IsRange (Lexeme.number low ∷ v) x in
          subst Q (sym (symbol_found symbols.DotDot ws p.0 p.1)) (up_sound low p.0 x p.2)
    ]

range_sound : (ws : List Lexeme) (x : RangeView × List Lexeme) → a_range ws ≡ Some x → IsRange ws x
range_sound ws x e =
    let (low, first, e1) = bind_some (a_number ws) _ x e in
    let Q : List Lexeme → Type 0 = λ v. IsRange v x in
    subst Q (sym (number_found ws low first)) (from_sound low.0 low.1 x e1)

-- more ranges after some, up to where no comma follows
record IsMore (xs : List RangeView) (ws : List Lexeme) (y : List RangeView × List Lexeme) : Type 0 where
  more : List RangeView
  all : y.0 ≡ xs ++ more
  fits : FitsMoreRanges more
  spelled : ws ≡ spelling_more_ranges more ++ y.1

no_more : (xs : List RangeView) (ws : List Lexeme) (y : List RangeView × List Lexeme) → Some (xs, ws) ≡ Some y → IsMore xs ws y
no_more xs ws y e =
    let P : (List RangeView × List Lexeme) → Type 0 = IsMore xs ws in
    subst P (some_is e) (record { more = []; all = sym (append-nil xs); fits = tt; spelled = refl })

-- one turn that went on
range_turn : (xs : List RangeView) (ws : List Lexeme) (z : List RangeView × List Lexeme) → adds_range xs ws ≡ Some (Some z) →
    (x : RangeView) × (z.0 ≡ xs ++ (x ∷ [])) × FitsRange x × (ws ≡ Lexeme.symbol symbols.Comma ∷ (spelling_range x ++ z.1))
range_turn xs ws z e = elim (with_some_cases (symbol symbols.Comma ws) _ _ (Some z) e) [
  | inl p ↦ absurd (cc (p.1))
  | inr p ↦
      let (x, first, e1) = bind_some (a_range p.0) _ (Some z) p.2 in
      let a = range_sound p.0 x first in
      let b : (xs ++ (x.0 ∷ []), x.1) ≡ z = some_is (some_is e1) in
      let Q : (List RangeView × List Lexeme) → Type 0 =
      λ z. (x : RangeView) × (z.0 ≡ xs ++ (x ∷ [])) × FitsRange x × (ws ≡ Lexeme.symbol symbols.Comma ∷ (spelling_range x ++ z.1)) in
      subst Q b (x.0, refl, a.fits, symbol_found symbols.Comma ws p.0 p.1 ∙ ap (λ v. Lexeme.symbol symbols.Comma ∷ v) a.spelled)
]

more_sound : (n : ℕ) (xs : List RangeView) (ws : List Lexeme) (y : List RangeView × List Lexeme) → turns adds_range n xs ws ≡ Some y → IsMore xs ws y
more_sound zero xs ws y e = no_more xs ws y e
more_sound (suc n) xs ws y e =
    let (r, first, e1) = bind_some (adds_range xs ws) _ y e in
    elim (with_some_cases r _ _ y e1) [
      | inl p ↦ no_more xs ws y p.1
      | inr p ↦
          let one : adds_range xs ws ≡ Some (Some p.0) = first ∙ ap Some p.1 in
          let t = range_turn xs ws p.0 one in
          let g = more_sound n p.0.0 p.0.1 y p.2 in
          record {
            more = t.0 ∷ g.more;
            all = g.all ∙ (ap (λ v. v ++ g.more) t.1 ∙ append_assoc xs (t.0 ∷ []) g.more);
            fits = (t.2, g.fits);
            spelled = t.3 ∙ (ap (λ v. Lexeme.symbol symbols.Comma ∷ (spelling_range t.0 ++ v)) g.spelled
                ∙ ap (λ v. Lexeme.symbol symbols.Comma ∷ v) (sym (append_assoc (spelling_range t.0) (spelling_more_ranges g.more) y.1)));
          }
    ]

-- ranges
pub record AreRanges (ws : List Lexeme) (x : List RangeView × List Lexeme) : Type 0 where
  pub spelled : ws ≡ spelling_ranges x.0 ++ x.1
  pub fits : FitsRanges x.0

pub ranges_sound : (low : ℕ) (ws : List Lexeme) (x : List RangeView × List Lexeme) → ranges_from low ws ≡ Some x → AreRanges (Lexeme.number low ∷ ws) x
ranges_sound low ws x e =
    let (first, e1, e2) = bind_some (range_from low ws) _ x e in
    let a = from_sound low ws first e1 in
    let g = more_sound _ (first.0 ∷ []) first.1 x e2 in
    let Q : List RangeView → Type 0 = λ xs. AreRanges (Lexeme.number low ∷ ws) (xs, x.1) in
    subst Q (sym g.all) (record {
      spelled = a.spelled ∙ (ap (λ v. spelling_range first.0 ++ v) g.spelled
          ∙ sym (append_assoc (spelling_range first.0) (spelling_more_ranges g.more) x.1));
      fits = (a.fits, g.fits);
    })

-- ---- what is spelled

le_true : (a b : ℕ) → a ≤ b → nat_le a b ≡ true
le_true a b h = grind arith

-- the first int of a range, and the lexemes after it
abbrev pub first_int : RangeView → ℕ
first_int (RangeView.one n) = n
first_int (RangeView.from_to l h) = l

abbrev pub after_int : RangeView → List Lexeme
after_int (RangeView.one n) = []
after_int (RangeView.from_to l h) = Lexeme.symbol symbols.DotDot ∷ Lexeme.number h ∷ []

from_back : (x : RangeView) (rest : List Lexeme) → FitsRange x → symbol symbols.DotDot rest ≡ None
    → range_from (first_int x) (after_int x ++ rest) ≡ Some (x, rest)
from_back (RangeView.one n) rest f none = rw none refl
from_back (RangeView.from_to l h) rest f none = rw (le_true l h f) refl

range_back : (x : RangeView) (rest : List Lexeme) → FitsRange x → symbol symbols.DotDot rest ≡ None → a_range (spelling_range x ++ rest) ≡ Some (x, rest)
range_back (RangeView.one n) rest f none = from_back (RangeView.one n) rest f none
range_back (RangeView.from_to l h) rest f none = from_back (RangeView.from_to l h) rest f none

no_dots : (more : List RangeView) (rest : List Lexeme) → symbol symbols.DotDot rest ≡ None → symbol symbols.DotDot (spelling_more_ranges more ++ rest) ≡ None
no_dots [] rest none = none
no_dots (x ∷ more) rest none = refl

more_back : (xs more : List RangeView) (rest : List Lexeme) (answer : Option (List RangeView × List Lexeme)) → FitsMoreRanges more →
    symbol symbols.DotDot rest ≡ None → Goes adds_range xs (spelling_more_ranges more ++ rest) answer → Goes adds_range (xs ++ more) rest answer
more_back xs [] rest answer f none g =
    let P : List RangeView → Type 0 = λ v. Goes adds_range v rest answer in subst P (sym (append-nil xs)) g
more_back xs (x ∷ more) rest answer f none g =
    let after : List Lexeme = spelling_more_ranges more ++ rest in
    let same : (spelling_range x ++ spelling_more_ranges more) ++ rest ≡ spelling_range x ++ after =
    append_assoc (spelling_range x) (spelling_more_ranges more) rest in
    let h : length after < length (spelling_more_ranges (x ∷ more) ++ rest) =
    omega (arith, ap length same, length-append (spelling_range x) after) in
    let t : Goes adds_range (xs ++ (x ∷ [])) after answer =
    range_on {ws = spelling_more_ranges (x ∷ more) ++ rest} {rest = (spelling_range x ++ spelling_more_ranges more) ++ rest} refl
    (ap a_range same ∙ range_back x after f.0 (no_dots more rest none)) h g in
    let P : List RangeView → Type 0 = λ v. Goes adds_range v rest answer in
    subst P (append_assoc xs (x ∷ []) more) (more_back (xs ++ (x ∷ [])) more rest answer f.1 none t)

-- ranges are read where neither `..` nor a comma follows
pub ranges_back : (x : RangeView) (more : List RangeView) (rest : List Lexeme) → FitsRange x → FitsMoreRanges more →
    symbol symbols.DotDot rest ≡ None → symbol symbols.Comma rest ≡ None →
    ranges_from (first_int x) ((after_int x ++ spelling_more_ranges more) ++ rest) ≡ Some (x ∷ more, rest)
ranges_back x more rest f g none comma =
    let after : List Lexeme = spelling_more_ranges more ++ rest in
    let loop = more_back (x ∷ []) more rest (more_ranges (x ∷ []) after) g none (starts adds_range (x ∷ []) after) in
    let e : more_ranges (x ∷ []) after ≡ Some (x ∷ more, rest) = range_ends comma loop in
    ap (ranges_from (first_int x)) (append_assoc (after_int x) (spelling_more_ranges more) rest)
    ∙ (ap (λ r. r >>= λ first. more_ranges (first.0 ∷ []) first.1) (from_back x after f (no_dots more rest none)) ∙ e)
