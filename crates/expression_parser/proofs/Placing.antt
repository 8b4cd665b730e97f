-- The places that the parts of a tree keep, put together as the parts are read.
use Rattle.std.proofs.Common.{◌≡◌, refl, sym, ap, subst, ◌∙◌, ℕ, List, [], ◌∷◌, ◌++◌, map, Some, None, append_assoc}
use Rattle.std.proofs.lemmas.List.{append-nil}
use Rattle.filter_tokens.specs.declared.token.Token.{Token}
use Rattle.std.specs.Prelude.{Result, Ok, Err, IfOk}
use Rattle.expression_parser.specs.declared.input.Input.{Input}
use Rattle.filter_syntax.specs.declared.tree.op.Op.{Op}
use Rattle.filter_syntax.specs.declared.tree.set.SetPattern.{SetPattern}
use Rattle.filter_syntax.specs.declared.tree.set.SetRange.{SetRange}
use Rattle.filter_syntax.specs.declared.tree.expr.Attribute.{Attribute}
use Rattle.filter_syntax.specs.declared.tree.expr.Expr.{Expr}
use Rattle.filter_syntax.specs.declared.tree.expr.Expr.TheFolds.{fold-roll-Expr}
use Rattle.filter_syntax.specs.declared.tree.expr.Expr.TheOpen.{Expr-F}
use Rattle.filter_syntax.specs.declared.tree.expr.Expr.TheVariants as e
use Rattle.filter_syntax.specs.Placed.{Kept, AreAt, joined, operand_kept, kept_more, next_pattern_kept}
use Rattle.filter_syntax.specs.Placed.{set_pattern_kept, set_patterns_kept, next_range_kept, range_kept}
use Rattle.filter_syntax.specs.Placed.{ranges_kept, expr_kept, expr_kept_step}
use Rattle.expression_parser.specs.Steps.{Spans, Grown}

at_both : (a b : Kept) (s t : List Token) → AreAt a s → AreAt b t → AreAt (a ++ b) (s ++ t)
at_both [] b [] t h k = k
at_both [] b (x ∷ s) t h k = absurd h
at_both (p ∷ a) b [] t h k = absurd h
at_both (None ∷ a) b (x ∷ s) t h k = at_both a b s t h k
at_both (Some at ∷ a) b (x ∷ s) t h k = (h.0, at_both a b s t h.1 k)

-- one part after another
pub spans_both : {a b : Kept} {x y z : Input} → Spans a x y → Spans b y z → Spans (a ++ b) x z
spans_both {a} {b} {x} {y} {z} h k = record {
  tokens = h.tokens ++ k.tokens;
  whole = h.whole ∙ ap (λ (ts : List Token). h.tokens ++ ts) k.whole ∙ sym (append_assoc h.tokens k.tokens z.tokens.now);
  same_text = k.same_text ∙ h.same_text;
  placed = at_both a b h.tokens k.tokens h.placed k.placed;
}

-- nothing was read
pub spans_none : {x : Input} → Spans [] x x
spans_none {x} = record { tokens = []; whole = refl; same_text = refl; placed = tt }

-- a token whose place no part keeps
not_kept : (at : ℕ) (ts : List Token) → AreAt (Some at ∷ []) ts → AreAt (None ∷ []) ts
not_kept at [] h = absurd h
not_kept at (t ∷ ts) h = h.1

pub unkept : {at : ℕ} {x y : Input} → Spans (Some at ∷ []) x y → Spans (None ∷ []) x y
unkept {at} h = record { tokens = h.tokens; whole = h.whole; same_text = h.same_text; placed = not_kept at h.tokens h.placed }

last_not_kept : (kept : Kept) (at : ℕ) (ts : List Token) → AreAt (kept ++ Some at ∷ []) ts → AreAt (kept ++ None ∷ []) ts
last_not_kept [] at [] h = absurd h
last_not_kept [] at (t ∷ ts) h = h.1
last_not_kept (p ∷ kept) at [] h = absurd h
last_not_kept (None ∷ kept) at (t ∷ ts) h = last_not_kept kept at ts h
last_not_kept (Some p ∷ kept) at (t ∷ ts) h = (h.0, last_not_kept kept at ts h.1)

pub unkept_last : (kept : Kept) (at : ℕ) {x y : Input} → Spans (kept ++ Some at ∷ []) x y → Spans (kept ++ None ∷ []) x y
unkept_last kept at h =
    record { tokens = h.tokens; whole = h.whole; same_text = h.same_text; placed = last_not_kept kept at h.tokens h.placed }

-- what follows from a fact of each answer
pub ok_map : {A E : Type 0} {P Q : A → Type 0} (r : Result A E) → ((x : A) → P x → Q x) → IfOk r P → IfOk r Q
ok_map (Ok x) f h = f x h
ok_map (Err e) f h = tt

pub ok_map2 : {A E : Type 0} {P Q R : A → Type 0} (r : Result A E) → ((x : A) → P x → Q x → R x) → IfOk r P → IfOk r Q → IfOk r R
ok_map2 (Ok x) f h k = f x h k
ok_map2 (Err e) f h k = tt

-- what keeps the same
pub spans_as : {a b : Kept} {x y : Input} → b ≡ a → Spans a x y → Spans b x y
spans_as {x = x} {y = y} e h = subst (λ (k : Kept). Spans k x y) (sym e) h

-- a token whose place a part keeps
pub spans_at : {at first : ℕ} {x y : Input} → at ≡ first → Spans (Some first ∷ []) x y → Spans (Some at ∷ []) x y
spans_at e h = spans_as (ap (λ (n : ℕ). Some n ∷ []) e) h

-- the list has not grown yet
pub grown_none : {A : Type 0} {kept_of : A → Kept} {old : List A} {x : Input} → Grown kept_of old old x x
grown_none {old = old} = record { more = []; whole = sym (append-nil old); spans = spans_none }

joined_more : {A : Type 0} (kept_of : A → Kept) (xs : List A) (one : A) →
    joined (map kept_of (xs ++ one ∷ [])) ≡ joined (map kept_of xs) ++ kept_of one
joined_more kept_of [] one = append-nil (kept_of one)
joined_more kept_of (x ∷ xs) one =
    ap (λ (k : Kept). kept_of x ++ k) (joined_more kept_of xs one) ∙ sym (append_assoc (kept_of x) (joined (map kept_of xs)) (kept_of one))

-- one more was read
pub grown_more : {A : Type 0} {kept_of : A → Kept} {old new all : List A} {one : A} {x y z : Input} → Grown kept_of old new x y
    → Spans (kept_of one) y z → all ≡ new ++ one ∷ [] → Grown kept_of old all x z
grown_more {kept_of = kept_of} {old = old} {new = new} {one = one} g s e = record {
  more = g.more ++ one ∷ [];
  whole = e ∙ ap (λ xs. xs ++ one ∷ []) g.whole ∙ append_assoc old g.more (one ∷ []);
  spans = spans_as (joined_more kept_of g.more one) (spans_both g.spans s);
}

-- the first token
pub spans_one : {x y : Input} {t : Token} → x.tokens.now ≡ t ∷ y.tokens.now → y.source.now.text.now ≡ x.source.now.text.now → Spans (Some t.from ∷ []) x y
spans_one {t = t} e same = record { tokens = t ∷ []; whole = e; same_text = same; placed = (refl, tt) }

-- what parts keep that hold no others
pub kept_defined : (at : ℕ) (a : Attribute) → expr_kept (e.Defined at a) ≡ Some at ∷ None ∷ None ∷ None ∷ []
kept_defined at a = ap expr_kept (sym (e.rolls-Defined at a)) ∙ fold-roll-Expr Kept expr_kept_step (Expr-F.Defined at a)

-- an operator of a chain and the operand at its right
abbrev pub right_kept : ℕ × Op × Expr → Kept
right_kept x = Some x.0 ∷ expr_kept x.2

pub rights_kept : (xs : List (ℕ × Op × Expr)) → joined (map operand_kept (kept_more xs)) ≡ joined (map right_kept xs)
rights_kept [] = refl
rights_kept (x ∷ xs) = ap (λ (k : Kept). Some x.0 ∷ (expr_kept x.2 ++ k)) (rights_kept xs)

-- the patterns of a set, after the first
pub set_grown : (at : ℕ) (first : SetPattern) (old all : List SetPattern) {x y z : Input} {start : Input} {end : ℕ} → old ≡ first ∷ []
    → Grown next_pattern_kept old all x y → Spans (Some end ∷ []) y z → Spans (Some at ∷ set_pattern_kept first) start x
    → Spans (Some at ∷ (set_patterns_kept all ++ None ∷ [])) start z
set_grown at first old all e g last front =
    let is : all ≡ first ∷ g.more = g.whole ∙ ap (λ (xs : List SetPattern). xs ++ g.more) e in
    spans_as (ap (λ (xs : List SetPattern). Some at ∷ (set_patterns_kept xs ++ None ∷ [])) is) (spans_both (spans_both front g.spans) (unkept last))

-- ranges, after the first
pub ranges_grown : (first : SetRange) (old all : List SetRange) {x y start : Input} → old ≡ first ∷ [] → Grown next_range_kept old all x y
    → Spans (range_kept first) start x → Spans (ranges_kept all) start y
ranges_grown first old all e g front =
    let is : all ≡ first ∷ g.more = g.whole ∙ ap (λ (xs : List SetRange). xs ++ g.more) e in
    spans_as (ap ranges_kept is) (spans_both front g.spans)
