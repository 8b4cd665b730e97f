-- A place that the tree of a text keeps is one of the bytes of the text.
use Rattle.std.proofs.Common.{◌≡◌, ◌⊎◌, inl, inr, ℕ, zero, suc, ◌<◌, ◌≤◌, Some, None, List, [], ◌∷◌}
use Rattle.std.proofs.Common.{◌++◌, length, map, refl, sym, ap, subst, ◌∙◌, append_assoc, arith}
use Rattle.std.specs.Prelude.{Contains}
use Rattle.std.proofs.lemmas.List.Elements.{Contains-append_cases, Contains-append_left, Contains-append_right}
use Rattle.filter_tokens.specs.Tokenization.{AreInOrder}
use Rattle.filter_tokens.specs.declared.token.Token.{Token}
use Rattle.filter_syntax.specs.Placed.{AreAt, Kept, joined}
use Rattle.filter_syntax.specs.Placed.{IsPlaced, command_kept, decl_kept}
use Rattle.filter_syntax.specs.Places.{body_of, decls_of}
use Rattle.filter_syntax.specs.declared.tree.decl.Decl.{Decl}
use Rattle.filter_syntax.specs.declared.tree.filter.Filter.{Filter}
use Rattle.filter_types.specs.Faults.{KeepsPlace}

-- a place that is kept is that of a token
record IsTokenAt (tokens : List Token) (at : ℕ) : Type 0 where
  token : Token
  inside : Contains tokens token
  from : at ≡ token.from

later : (t : Token) (ts : List Token) (at : ℕ) → IsTokenAt ts at → IsTokenAt (t ∷ ts) at
later t ts at h = record {
  token = h.token;
  inside = (suc h.inside.0, omega (arith, h.inside.1), h.inside.2);
  from = h.from;
}

kept_token : (kept : Kept) (tokens : List Token) (at : ℕ) → AreAt kept tokens → Contains kept (Some at) → IsTokenAt tokens at
kept_token [] tokens at h k = absurd (omega (arith, k.1))
kept_token (p ∷ kept) [] at h k = absurd h
kept_token (None ∷ kept) (t ∷ ts) at h (zero, low, is) = absurd cc
kept_token (None ∷ kept) (t ∷ ts) at h (suc i, low, is) = later t ts at (kept_token kept ts at h (i, omega (arith, low), is))
kept_token (Some n ∷ kept) (t ∷ ts) at h (zero, low, is) =
    let same : n ≡ at = cc in record { token = t; inside = (0, omega arith, refl); from = sym same ∙ h.0 }
kept_token (Some n ∷ kept) (t ∷ ts) at h (suc i, low, is) = later t ts at (kept_token kept ts at h.1 (i, omega (arith, low), is))

-- tokens in order begin before the end
ends_after : (from : ℕ) (tokens : List Token) (to : ℕ) → AreInOrder from tokens to → from ≤ to
ends_after from [] to h = h
ends_after from (t ∷ ts) to h = omega (arith, h.0, h.1, ends_after t.to ts to h.2)

begins_before : (from : ℕ) (tokens : List Token) (to : ℕ) (t : Token) → AreInOrder from tokens to → Contains tokens t → t.from < to
begins_before from [] to t h k = absurd (omega (arith, k.1))
begins_before from (x ∷ xs) to t h (zero, low, is) =
    subst (λ (y : Token). y.from < to) is (omega (arith, h.1, ends_after x.to xs to h.2))
begins_before from (x ∷ xs) to t h (suc i, low, is) = begins_before x.to xs to t h.2 (i, omega (arith, low), is)

joined_both : (xs ys : List Decl) → joined (map decl_kept (xs ++ ys)) ≡ joined (map decl_kept xs) ++ joined (map decl_kept ys)
joined_both [] ys = refl
joined_both (x ∷ xs) ys =
    ap (λ (k : Kept). decl_kept x ++ k) (joined_both xs ys) ∙ sym (append_assoc (decl_kept x) (joined (map decl_kept xs)) (joined (map decl_kept ys)))

-- the token of a place that a filter keeps
token_of : (text : List ℕ) (filter : Filter) (at : ℕ) → IsPlaced text filter → KeepsPlace filter at → IsTokenAt filter.tokens.items at
token_of text filter at placed kept =
    let commands = joined (map command_kept (body_of filter)) in
    let head = joined (map decl_kept placed.head) in
    let inner = joined (map decl_kept placed.inner) in
    let all : joined (map decl_kept (decls_of filter)) ++ commands ≡ head ++ (inner ++ commands) =
    ap (λ (ds : List Decl). joined (map decl_kept ds) ++ commands) placed.declared
    ∙ ap (λ (k : Kept). k ++ commands) (joined_both placed.head placed.inner) ∙ append_assoc head inner commands in
    by_case (Contains-append_cases head (inner ++ commands) (Some at) (subst (λ (k : Kept). Contains k (Some at)) all kept)) where
      in_back : IsTokenAt placed.back at → IsTokenAt filter.tokens.items at
      in_back h = record {
        token = h.token;
        inside = subst (λ (ts : List Token). Contains ts h.token) (sym placed.cut)
            (Contains-append_right placed.front (placed.brace ∷ placed.back) h.token
            (suc h.inside.0, omega (arith, h.inside.1), h.inside.2));
        from = h.from;
      }

      in_front : IsTokenAt placed.front at → IsTokenAt filter.tokens.items at
      in_front h = record {
        token = h.token;
        inside = subst (λ (ts : List Token). Contains ts h.token) (sym placed.cut)
            (Contains-append_left placed.front (placed.brace ∷ placed.back) h.token h.inside);
        from = h.from;
      }

      by_case : Contains (joined (map decl_kept placed.head)) (Some at)
          ⊎ Contains (joined (map decl_kept placed.inner) ++ joined (map command_kept (body_of filter))) (Some at)
          → IsTokenAt filter.tokens.items at
      by_case (inl k) =
          in_front (kept_token (None ∷ None ∷ joined (map decl_kept placed.head)) placed.front at placed.head_placed
          (Contains-append_right (None ∷ None ∷ []) (joined (map decl_kept placed.head)) (Some at) k))
      by_case (inr k) =
          let whole : (joined (map decl_kept placed.inner) ++ joined (map command_kept (body_of filter))) ++ None ∷ []
          ≡ joined (map decl_kept placed.inner) ++ (joined (map command_kept (body_of filter)) ++ None ∷ []) =
          append_assoc (joined (map decl_kept placed.inner)) (joined (map command_kept (body_of filter))) (None ∷ []) in
          in_back (kept_token _ placed.back at placed.body_placed
          (subst (λ (l : Kept). Contains l (Some at)) whole
          (Contains-append_left (joined (map decl_kept placed.inner) ++ joined (map command_kept (body_of filter))) (None ∷ []) (Some at) k)))

-- and that place is a byte of the text
pub byte_of : (text : List ℕ) (filter : Filter) (at : ℕ) → AreInOrder 0 filter.tokens.items (length text) → IsPlaced text filter
    → KeepsPlace filter at → at < length text
byte_of text filter at order placed kept =
    let found = token_of text filter at placed kept in
    let below = begins_before 0 filter.tokens.items (length text) found.token order found.inside in
    omega (arith, found.from, below)
