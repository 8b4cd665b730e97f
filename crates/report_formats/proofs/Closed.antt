-- No byte of what stands within quotes ends it, begins an element or is a control character.
use Rattle.std.proofs.Common.{◌≡◌, ◌≢◌, ℕ, ◌+◌, ◌/◌, ◌%◌, ◌<◌, ◌≤◌, Bool, true, false, cond, not, ◌&&◌, ◌||◌, ◌==◌, nat_eq, nat_lt, nat_le}
use Rattle.std.proofs.Common.{List, [], ◌∷◌, Option, None, codes, inl, inr, refl, sym, ap, subst, ◌∙◌, arith, flat_map}
use Rattle.std.specs.Char.{encode_utf8}
use Rattle.std.specs.Prelude.{All, if◌then◌else◌}
use Rattle.std.proofs.lemmas.Bool.{and_parts, cases_eq, cases_lt, cond-false, eq-eqb, leb-true, lt-ltb, ne_eqb, true≢false}
use Rattle.std.proofs.lemmas.Bool.Decides.{nat_tests}
use Rattle.std.proofs.lemmas.List.Elements.{All-append, All-cons, All-nil}
use Rattle.std.proofs.lemmas.Str.{encode_ascii}
use lib.Dec.{ltb}
use Rattle.report_formats.specs.Escaping.{IsClosed, entity_of, entity_or_kept, escaped, is_left_out}

-- a byte of a character that is not ASCII
high : (b : ℕ) → 128 ≤ b → IsClosed b
high b h = record { is_no_quote = λ e. omega arith; is_no_bracket = λ e. omega arith; is_no_control = omega arith }

by_test : (P : List ℕ → Type 0) (b : Bool) (xs ys : List ℕ) → P xs → P ys → P (cond b xs ys)
by_test P true xs ys p q = p
by_test P false xs ys p q = q

one : (b : ℕ) → IsClosed b → All IsClosed (b ∷ [])
one b h = All-cons IsClosed b [] h (All-nil IsClosed)

more : (b : ℕ) (bs : List ℕ) → 128 ≤ b → All IsClosed bs → All IsClosed (b ∷ bs)
more b bs h all = All-cons IsClosed b bs (high b h) all

encoded_high : (c : ℕ) → 128 ≤ c → All IsClosed (encode_utf8 c)
unfolding encode_utf8
encoded_high c h =
    let not_one : ltb c 128 ≡ false = grind (arith, nat_tests) in
    let b : ℕ = 128 + c % 64 in
    let a : ℕ = 128 + (c / 64) % 64 in
    let d : ℕ = 128 + (c / 4096) % 64 in
    let last : All IsClosed (b ∷ []) = one b (high b (omega arith)) in
    let lasts : All IsClosed (a ∷ b ∷ []) = more a (b ∷ []) (omega arith) last in
    let two : All IsClosed ((192 + c / 64) ∷ b ∷ []) = more (192 + c / 64) (b ∷ []) (omega arith) last in
    let three : All IsClosed ((224 + c / 4096) ∷ a ∷ b ∷ []) = more (224 + c / 4096) (a ∷ b ∷ []) (omega arith) lasts in
    let four : All IsClosed ((240 + c / 262144) ∷ d ∷ a ∷ b ∷ []) =
    more (240 + c / 262144) (d ∷ a ∷ b ∷ []) (omega arith) (more d (a ∷ b ∷ []) (omega arith) lasts) in
    let is : encode_utf8 c ≡ cond (ltb c 2048) ((192 + c / 64) ∷ b ∷ [])
    (cond (ltb c 65536) ((224 + c / 4096) ∷ a ∷ b ∷ []) ((240 + c / 262144) ∷ d ∷ a ∷ b ∷ [])) =
    cond-false _ _ _ not_one in
    subst (All IsClosed) (sym is)
    (by_test (All IsClosed) (ltb c 2048) _ _ two (by_test (All IsClosed) (ltb c 65536) _ _ three four))

encoded : (c : ℕ) → c ≢ 34 → c ≢ 60 → 32 ≤ c → All IsClosed (encode_utf8 c)
encoded c no_quote no_bracket no_control = elim (cases_lt c 128) [
  | inl small ↦ subst (All IsClosed) (sym (encode_ascii c small))
      (one c (record { is_no_quote = no_quote; is_no_bracket = no_bracket; is_no_control = no_control }))
  | inr large ↦ encoded_high c large
]

-- a character that is kept, or left out
left_out_below : (c : ℕ) → c < 32 → is_left_out c ≡ true
left_out_below c low =
    ap (λ (b : Bool). b || (nat_le 127 c && nat_lt c 160) || c == 0xfffe || c == 0xffff) (lt-ltb c 32 low)

by_kept : (c : ℕ) (b : Bool) → is_left_out c ≡ b → c ≢ 34 → c ≢ 60 → All IsClosed (encode_utf8 (if b then 0xfffd else c))
by_kept c true e no_quote no_bracket = encoded_high 0xfffd (omega arith)
by_kept c false e no_quote no_bracket = elim (cases_lt c 32) [
  | inl low ↦ absurd (true≢false (sym (left_out_below c low) ∙ e))
  | inr no_control ↦ encoded c no_quote no_bracket no_control
]

-- what stands for another one
abbrev are_closed : List ℕ → Bool
are_closed [] = true
are_closed (b ∷ bs) = (not (nat_eq b 34) && (not (nat_eq b 60) && nat_le 32 b)) && are_closed bs

differs : (a b : ℕ) → not (nat_eq a b) ≡ true → a ≢ b
differs a b e same = true≢false (sym e ∙ ap not (eq-eqb a b same))

literal : (bs : List ℕ) → are_closed bs ≡ true → All IsClosed bs
literal [] e = All-nil IsClosed
literal (b ∷ bs) e =
    let parts = and_parts _ _ e in
    let first = and_parts _ _ parts.0 in
    let second = and_parts _ _ first.1 in
    All-cons IsClosed b bs (record {
      is_no_quote = differs b 34 first.0;
      is_no_bracket = differs b 60 second.0;
      is_no_control = leb-true 32 b second.1;
    }) (literal bs parts.1)

passed_over : {A : Type 0} (b : Bool) (x y : A) → b ≡ false → (if b then x else y) ≡ y
passed_over true x y e = absurd (true≢false e)
passed_over false x y e = refl

by_entity : (c : ℕ) → c ≢ 34 → c ≢ 38 → c ≢ 60 → c ≢ 62 → entity_of c ≡ None
by_entity c a b d e = passed_over (c == 34) _ _ (ne_eqb c 34 a) ∙ passed_over (c == 38) _ _ (ne_eqb c 38 b)
    ∙ passed_over (c == 60) _ _ (ne_eqb c 60 d) ∙ passed_over (c == 62) _ _ (ne_eqb c 62 e)

one_closed : (c : ℕ) → All IsClosed (escaped c)
one_closed c = elim (cases_eq c 34) [
  | inl is ↦ subst (λ (n : ℕ). All IsClosed (escaped n)) (sym is) (literal (codes "&quot;") refl)
  | inr no_quote ↦ elim (cases_eq c 38) [
    | inl is ↦ subst (λ (n : ℕ). All IsClosed (escaped n)) (sym is) (literal (codes "&amp;") refl)
    | inr no_and ↦ elim (cases_eq c 60) [
      | inl is ↦ subst (λ (n : ℕ). All IsClosed (escaped n)) (sym is) (literal (codes "&lt;") refl)
      | inr no_bracket ↦ elim (cases_eq c 62) [
        | inl is ↦ subst (λ (n : ℕ). All IsClosed (escaped n)) (sym is) (literal (codes "&gt;") refl)
        | inr no_end ↦ subst (λ (o : Option (List ℕ)). All IsClosed (entity_or_kept c o)) (sym (by_entity c no_quote no_and no_bracket no_end))
            (by_kept c (is_left_out c) refl no_quote no_bracket)
      ]
    ]
  ]
]

pub all_closed : (cs : List ℕ) → All IsClosed (flat_map escaped cs)
all_closed [] = All-nil IsClosed
all_closed (c ∷ cs) = All-append IsClosed (escaped c) (flat_map escaped cs) (one_closed c) (all_closed cs)
