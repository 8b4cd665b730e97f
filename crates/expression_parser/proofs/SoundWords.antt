-- What is read of suffixes, sets and operands of one word is spelled so, and fits.
use Rattle.std.proofs.Common.{◌≡◌, refl, sym, ap, subst, ℕ, ◌≤◌, ◌&&◌, nat_le, List, [], ◌∷◌, ◌++◌, Bool, true, false, Some, None, inl}
use Rattle.std.proofs.Common.{inr, if◌then◌else◌, codes, arith}
use Rattle.std.specs.Cmp.Lexicographic.{pointwise, same_text}
use Rattle.std.specs.Prelude.{nat_eq}
use Rattle.prefix_patterns.specs.Matching.{HasOrderedLengths}
use Rattle.filter_tokens.specs.Lexemes.{Lexeme}
use Rattle.filter_tokens.specs.declared.symbol.Symbol.{Symbol}
use Rattle.filter_tokens.specs.declared.symbol.Symbol.TheVariants as symbols
use Rattle.filter_syntax.specs.declared.tree.expr.Attribute.{Attribute}
use Rattle.filter_syntax.specs.declared.tree.op.Suffix.{Suffix}
use Rattle.filter_syntax.specs.declared.tree.op.Suffix.TheVariants as suffix
use Rattle.expression_parser.specs.Reading.{attribute_of, an_attribute, mask_suffix, mask_of, suffix_of, between_of, braces_of, lengths_of}
use Rattle.expression_parser.specs.Reading.{a_set_pattern}
use Rattle.expression_parser.specs.Readers.{symbol, word, a_number, a_prefix}
use Rattle.filter_syntax.specs.Syntax.{SetPatternView, FitsSetPattern, FitsSuffix, attribute_symbol, spelling_set_pattern, spelling_suffix}
use Rattle.expression_parser.proofs.Steps.{bind_given, bind_some, symbol_found, some_is, with_some_cases}

-- what a word was found before
name_found : (wanted : List ℕ) (ws rest : List Lexeme) → word wanted ws ≡ Some rest → ws ≡ Lexeme.name wanted ∷ rest
name_found wanted [] rest e = absurd (cc)
name_found wanted (Lexeme.name text ∷ ws) rest e = go (pointwise nat_eq text wanted) refl e
  where
    go : (b : Bool) → pointwise nat_eq text wanted ≡ b → (if b then Some ws else None) ≡ Some rest →
        Lexeme.name text ∷ ws ≡ Lexeme.name wanted ∷ rest
    go true s h = let a : text ≡ wanted = same_text text wanted (sym s) in let b : ws ≡ rest = some_is h in cc
    go false s h = absurd (cc)
name_found wanted (Lexeme.symbol k ∷ ws) rest e = absurd (cc)
name_found wanted (Lexeme.number n ∷ ws) rest e = absurd (cc)
name_found wanted (Lexeme.address a ∷ ws) rest e = absurd (cc)
name_found wanted (Lexeme.prefix bits ∷ ws) rest e = absurd (cc)
name_found wanted (Lexeme.quote ∷ ws) rest e = absurd (cc)

pub number_found : (ws : List Lexeme) (x : ℕ × List Lexeme) → a_number ws ≡ Some x → ws ≡ Lexeme.number x.0 ∷ x.1
number_found [] x e = absurd (cc)
number_found (Lexeme.number n ∷ ws) x e = let P : (ℕ × List Lexeme) → Type 0 = λ y. Lexeme.number n ∷ ws ≡ Lexeme.number y.0 ∷ y.1 in
    subst P (some_is e) refl
number_found (_ ∷ ws) x e = absurd (cc)

prefix_found : (ws : List Lexeme) (x : List Bool × List Lexeme) → a_prefix ws ≡ Some x → ws ≡ Lexeme.prefix x.0 ∷ x.1
prefix_found [] x e = absurd (cc)
prefix_found (Lexeme.prefix p ∷ ws) x e = let P : (List Bool × List Lexeme) →
    Type 0 = λ y. Lexeme.prefix p ∷ ws ≡ Lexeme.prefix y.0 ∷ y.1 in subst P (some_is e) refl
prefix_found (_ ∷ ws) x e = absurd (cc)

attribute_found : (k : Symbol) (a : Attribute) → attribute_of k ≡ Some a → k ≡ attribute_symbol a
attribute_found symbols.Net a e = let P : Attribute → Type 0 = λ b. symbols.Net ≡ attribute_symbol b in subst P (some_is e) refl
attribute_found symbols.RipMetric a e = let P : Attribute → Type 0 = λ b. symbols.RipMetric ≡ attribute_symbol b in subst P (some_is e) refl
attribute_found _ a e = absurd (cc)

pub an_attribute_found : (ws : List Lexeme) (x : Attribute × List Lexeme) → an_attribute ws ≡ Some x →
    ws ≡ Lexeme.symbol (attribute_symbol x.0) ∷ x.1
an_attribute_found [] x e = absurd (cc)
an_attribute_found (Lexeme.symbol k ∷ ws) x e =
    let (a, found, same) = bind_some (attribute_of k) (λ a. Some (a, ws)) x e in
    let P : (Attribute × List Lexeme) → Type 0 = λ y. Lexeme.symbol k ∷ ws ≡ Lexeme.symbol (attribute_symbol y.0) ∷ y.1 in
    subst P (some_is same) (ap (λ k. Lexeme.symbol k ∷ ws) (attribute_found k a found))
an_attribute_found (_ ∷ ws) x e = absurd (cc)

-- a suffix after its dot
pub record IsSuffix (ws : List Lexeme) (x : Suffix × List Lexeme) : Type 0 where
  pub spelled : Lexeme.symbol symbols.Dot ∷ ws ≡ spelling_suffix x.0 ++ x.1
  pub fits : FitsSuffix x.0

mask_found : (n : ℕ) (s : Suffix) → mask_suffix n ≡ Some s → (s ≡ suffix.Mask n) × (n ≤ 32)
mask_found n s e = go (nat_le n 32) refl e
  where
    go : (b : Bool) → nat_le n 32 ≡ b → (if b then Some (suffix.Mask n) else None) ≡ Some s → (s ≡ suffix.Mask n) × (n ≤ 32)
    go true t h = (sym (some_is h), grind arith)
    go false t h = absurd (cc)

mask_sound : (ws : List Lexeme) (x : Suffix × List Lexeme) → mask_of ws ≡ Some x → IsSuffix (Lexeme.name (codes "mask") ∷ ws) x
mask_sound ws x e =
    let (after, first, e1) = bind_some (symbol symbols.LeftParen ws) _ x e in
    let (n, second, e2) = bind_some (a_number after) _ x e1 in
    let (s, third, e3) = bind_given (mask_suffix n.0) n.1 _ x e2 in
    let (rest, fourth, e4) = bind_some (symbol symbols.RightParen n.1) _ x e3 in
    let a : ws ≡ Lexeme.symbol symbols.LeftParen ∷ after = symbol_found symbols.LeftParen ws after first in
    let b : after ≡ Lexeme.number n.0 ∷ n.1 = number_found after n second in
    let d : n.1 ≡ Lexeme.symbol symbols.RightParen ∷ rest = symbol_found symbols.RightParen n.1 rest fourth in
    let f : (s ≡ suffix.Mask n.0) × (n.0 ≤ 32) = mask_found n.0 s third in
    let P : (Suffix × List Lexeme) → Type 0 = IsSuffix (Lexeme.name (codes "mask") ∷ ws) in
    let Q : Suffix → Type 0 = λ s. IsSuffix (Lexeme.name (codes "mask") ∷ ws) (s, rest) in
    subst P (some_is e4) (subst Q (sym f.0) (record { spelled = cc; fits = f.1 }))

pub suffix_sound : (ws : List Lexeme) (x : Suffix × List Lexeme) → suffix_of ws ≡ Some x → IsSuffix ws x
suffix_sound ws x e =
    let P : (Suffix × List Lexeme) → Type 0 = IsSuffix ws in
    elim (with_some_cases (symbol symbols.Ip ws) _ _ x e) [
      | inr p ↦ subst P (some_is p.2) (record { spelled = ap (λ v. Lexeme.symbol symbols.Dot ∷ v) (symbol_found symbols.Ip ws p.0 p.1); fits = tt })
      | inl q ↦ elim (with_some_cases (word (codes "len") ws) _ _ x q.1) [
        | inr p ↦ subst P (some_is p.2) (record {
          spelled = ap (λ v. Lexeme.symbol symbols.Dot ∷ v) (name_found (codes "len") ws p.0 p.1);
          fits = tt;
        })
        | inl r ↦
            let (rest, first, e1) = bind_some (word (codes "mask") ws) _ x r.1 in
            let Q : List Lexeme → Type 0 = λ v. IsSuffix v x in
            subst Q (sym (name_found (codes "mask") ws rest first)) (mask_sound rest x e1)
      ]
    ]

-- a pattern
pub record IsSetPattern (ws : List Lexeme) (x : SetPatternView × List Lexeme) : Type 0 where
  pub spelled : ws ≡ spelling_set_pattern x.0 ++ x.1
  pub fits : FitsSetPattern x.0

between_found : (p : List Bool) (l h : ℕ) (x : SetPatternView) → between_of p l h ≡ Some x → (x ≡ SetPatternView.between p l h) × HasOrderedLengths l h
between_found p l h x e = go (nat_le l h) (nat_le h 32) refl refl e
  where
    go : (a b : Bool) → nat_le l h ≡ a → nat_le h 32 ≡ b → (if a && b then Some (SetPatternView.between p l h) else None) ≡ Some x →
        (x ≡ SetPatternView.between p l h) × HasOrderedLengths l h
    go true true s t k = (sym (some_is k), record { order = grind arith; limit = grind arith })
    go true false s t k = absurd (cc)
    go false b s t k = absurd (cc)

braces_sound : (p : List Bool) (ws : List Lexeme) (x : SetPatternView × List Lexeme) → braces_of p ws ≡ Some x →
    IsSetPattern (Lexeme.prefix p ∷ Lexeme.symbol symbols.LeftBrace ∷ ws) x
braces_sound p ws x e =
    let (low, first, e1) = bind_some (a_number ws) _ x e in
    let (comma, second, e2) = bind_some (symbol symbols.Comma low.1) _ x e1 in
    let (high, third, e3) = bind_some (a_number comma) _ x e2 in
    let (rest, fourth, e4) = bind_some (symbol symbols.RightBrace high.1) _ x e3 in
    let (found, fifth, e5) = bind_some (between_of p low.0 high.0) _ x e4 in
    let a : ws ≡ Lexeme.number low.0 ∷ low.1 = number_found ws low first in
    let b : low.1 ≡ Lexeme.symbol symbols.Comma ∷ comma = symbol_found symbols.Comma low.1 comma second in
    let d : comma ≡ Lexeme.number high.0 ∷ high.1 = number_found comma high third in
    let g : high.1 ≡ Lexeme.symbol symbols.RightBrace ∷ rest = symbol_found symbols.RightBrace high.1 rest fourth in
    let f : (found ≡ SetPatternView.between p low.0 high.0) × HasOrderedLengths low.0 high.0 = between_found p low.0 high.0 found fifth in
    let P : (SetPatternView × List Lexeme) → Type 0 = IsSetPattern (Lexeme.prefix p ∷ Lexeme.symbol symbols.LeftBrace ∷ ws) in
    let Q : SetPatternView → Type 0 = λ s. IsSetPattern (Lexeme.prefix p ∷ Lexeme.symbol symbols.LeftBrace ∷ ws) (s, rest) in
    subst P (some_is e5) (subst Q (sym f.0) (record { spelled = cc; fits = f.1 }))

lengths_sound : (p : List Bool) (ws : List Lexeme) (x : SetPatternView × List Lexeme) → lengths_of p ws ≡ Some x → IsSetPattern (Lexeme.prefix p ∷ ws) x
lengths_sound p ws x e =
    let P : (SetPatternView × List Lexeme) → Type 0 = IsSetPattern (Lexeme.prefix p ∷ ws) in
    elim (with_some_cases (symbol symbols.Plus ws) _ _ x e) [
      | inr f ↦ subst P (some_is f.2) (record { spelled = ap (λ v. Lexeme.prefix p ∷ v) (symbol_found symbols.Plus ws f.0 f.1); fits = tt })
      | inl g ↦ elim (with_some_cases (symbol symbols.Minus ws) _ _ x g.1) [
        | inr f ↦ subst P (some_is f.2) (record { spelled = ap (λ v. Lexeme.prefix p ∷ v) (symbol_found symbols.Minus ws f.0 f.1); fits = tt })
        | inl h ↦ elim (with_some_cases (symbol symbols.LeftBrace ws) _ _ x h.1) [
          | inr f ↦
              let Q : List Lexeme → Type 0 = λ v. IsSetPattern (Lexeme.prefix p ∷ v) x in
              subst Q (sym (symbol_found symbols.LeftBrace ws f.0 f.1)) (braces_sound p f.0 x f.2)
          | inl k ↦ subst P (some_is k.1) (record { spelled = refl; fits = tt })
        ]
      ]
    ]

pub set_pattern_sound : (ws : List Lexeme) (x : SetPatternView × List Lexeme) → a_set_pattern ws ≡ Some x → IsSetPattern ws x
set_pattern_sound ws x e =
    let (p, first, e1) = bind_some (a_prefix ws) _ x e in
    let Q : List Lexeme → Type 0 = λ v. IsSetPattern v x in
    subst Q (sym (prefix_found ws p first)) (lengths_sound p.0 p.1 x e1)
