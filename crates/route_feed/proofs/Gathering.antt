-- The lines that tell what changed, gathered.
use Rattle.std.proofs.Common.{◌≡◌, ◌∙◌, sym, ap, subst, refl, ℕ, suc, zero, ◌<◌, Bool, true, false, Option, Some, None, List, [], ◌∷◌, ◌++◌, arith, rules}
use Rattle.std.proofs.lemmas.List.Elements.{All-append, All-cons, All-head, All-nil, All-tail}
use Rattle.std.specs.Prelude.{◌==◌, All, if◌then◌else◌, not}
use Rattle.std.specs.Bool.{beq}
use Rattle.std.specs.Cmp.{booleans_Decides}
use Rattle.std.specs.Cmp.Lexicographic.{pointwise, pointwise_decides}
use Rattle.route_feed.specs.declared.hop.Hop.{Hop}
use Rattle.route_feed.specs.Changes.{are_same_below, change_of, changes_below, is_first, is_same}
use Rattle.route_feed.specs.Lines.{Change, with_change, with_changes}
use Rattle.route_feed.specs.Table.{is_had_below}

-- two prefixes that compare as the same are
pub same_prefix : (p q : List Bool) → pointwise beq p q ≡ true → p ≡ q
same_prefix p q = (pointwise_decides booleans_Decides p q).0

pub own_prefix : (p : List Bool) → pointwise beq p p ≡ true
own_prefix p = (pointwise_decides booleans_Decides p p).1 refl

pub same_hop : (one two : Option Hop) → is_same one two ≡ true → one ≡ two
same_hop None None h = refl
same_hop None (Some two) h = search rules
same_hop (Some one) None h = search rules
same_hop (Some one) (Some two) h = grind (arith, h)

own_hop : (one : Option Hop) → is_same one one ≡ true
own_hop None = refl
own_hop (Some one) = grind arith

pub other_hop : (one two : Option Hop) → is_same one two ≡ false → one ≡ two → ⊥
other_hop one two h e =
    let own : is_same one two ≡ true = subst (λ x. is_same one x ≡ true) e (own_hop one) in
    let both : true ≡ false = sym own ∙ h in search rules

pub with_both : (table : List Bool → Option Hop) (xs ys : List Change) (p : List Bool) →
    with_changes table (xs ++ ys) p ≡ with_changes (with_changes table xs) ys p
with_both table [] ys p = refl
with_both table (x ∷ xs) ys p = with_both (with_change table x) xs ys p

-- where no line is for a prefix, it is as it was
pub untouched : (table : List Bool → Option Hop) (cs : List Change) (p : List Bool) → All (λ c. c.prefix ≡ p → ⊥) cs →
    with_changes table cs p ≡ table p
untouched table [] p h = refl
untouched table (c ∷ cs) p h =
    untouched (with_change table c) cs p (All-tail (λ (d : Change). d.prefix ≡ p → ⊥) c cs h) ∙ other (pointwise beq c.prefix p) refl
  where
    other : (b : Bool) → pointwise beq c.prefix p ≡ b → (if b then c.hop else table p) ≡ table p
    other true e = absurd (All-head (λ (d : Change). d.prefix ≡ p → ⊥) c cs h (same_prefix c.prefix p e))
    other false e = refl

either : (b : Bool) (x y : Option Hop) → y ≡ x → (if b then x else y) ≡ x
either true x y e = refl
either false x y e = e

-- a node that has the prefix
had_by : (prefix : ℕ → List Bool) (p : List Bool) (n : ℕ) → is_had_below prefix p n ≡ true → (v : ℕ) × (v < n) × (prefix v ≡ p)
had_by prefix p zero h = search rules
had_by prefix p (suc v) h = one (pointwise beq (prefix v) p) refl h (λ g. had_by prefix p v g)
  where
    deeper : ((u : ℕ) × (u < v) × (prefix u ≡ p)) → (u : ℕ) × (u < suc v) × (prefix u ≡ p)
    deeper g = (g.0, omega (arith, g.1), g.2)

    one : (b : Bool) → pointwise beq (prefix v) p ≡ b → (if b then true else is_had_below prefix p v) ≡ true →
        (is_had_below prefix p v ≡ true → (u : ℕ) × (u < v) × (prefix u ≡ p)) → (u : ℕ) × (u < suc v) × (prefix u ≡ p)
    one true e g ih = (v, omega arith, same_prefix (prefix v) p e)
    one false e g ih = deeper (ih g)

-- packets for the prefix of a node
same_each : (old new : ℕ → Option Hop) (n : ℕ) → are_same_below old new n ≡ true → (v : ℕ) → v < n → old v ≡ new v
same_each old new zero h v le = absurd (let no : ⊥ = omega (arith, le) in no)
same_each old new (suc m) h v le = one (is_same (old m) (new m)) refl h (λ g below. same_each old new m g v below)
  where
    two : (b : Bool) → (v == m) ≡ b → old m ≡ new m → (v < m → old v ≡ new v) → old v ≡ new v
    two true q here ih = let at : v ≡ m = grind (arith, q) in subst (λ x. old x ≡ new x) (sym at) here
    two false q here ih = ih (grind (arith, q, le))

    one : (b : Bool) → is_same (old m) (new m) ≡ b → (if b then are_same_below old new m else false) ≡ true →
        (are_same_below old new m ≡ true → v < m → old v ≡ new v) → old v ≡ new v
    one true e g ih = two (v == m) refl (same_hop (old m) (new m) e) (ih g)
    one false e g ih = search rules

-- one node more: T is gathered of the lines for the nodes below it, q its prefix, and p any
step : (T told now : List Bool → Option Hop) (q p : List Bool) (old new : Option Hop) (equal same had had_there : Bool) →
    pointwise beq q p ≡ equal → is_same old new ≡ same → (q ≡ p → had ≡ had_there) → old ≡ told q → new ≡ now q →
    T p ≡ (if had_there then now p else told p) →
    with_changes T (if same then [] else (if not had then record { prefix = q; hop = new } ∷ [] else [])) p
    ≡ (if (if equal then true else had_there) then now p else told p)
step T told now q p old new true true had had_there e s h o n t =
    let here : q ≡ p = same_prefix q p e in
    t ∙ either had_there (now p) (told p) (ap told (sym here) ∙ sym o ∙ same_hop old new s ∙ n ∙ ap now here)
step T told now q p old new true false true had_there e s h o n t =
    let here : q ≡ p = same_prefix q p e in
    t ∙ ap (λ b. if b then now p else told p) (sym (h here))
step T told now q p old new true false false had_there e s h o n t = rw e (n ∙ ap now (same_prefix q p e))
step T told now q p old new false true had had_there e s h o n t = t
step T told now q p old new false false true had_there e s h o n t = t
step T told now q p old new false false false had_there e s h o n t = rw e t

module _ (prefix : ℕ → List Bool) (old new : ℕ → Option Hop) (told now : List Bool → Option Hop) where
  -- of the prefixes of the nodes so far what is new is gathered, and of all others what was told
  below : (n : ℕ) → ((v : ℕ) → v < n → old v ≡ told (prefix v)) → ((v : ℕ) → v < n → new v ≡ now (prefix v)) → (p : List Bool) →
      with_changes told (changes_below prefix old new n) p ≡ (if is_had_below prefix p n then now p else told p)
  below zero o n p = refl
  below (suc v) o n p =
      let T = with_changes told (changes_below prefix old new v) in
      with_both told (changes_below prefix old new v) (change_of prefix v (old v) (new v)) p
      ∙ step T told now (prefix v) p (old v) (new v) (pointwise beq (prefix v) p) (is_same (old v) (new v))
      (is_had_below prefix (prefix v) v) (is_had_below prefix p v) refl refl (λ e. ap (λ q. is_had_below prefix q v) e)
      (o v (omega arith)) (n v (omega arith))
      (below v (λ u le. o u (omega arith)) (λ u le. n u (omega arith)) p)

  -- where a prefix that no node has is told and is now the same, all is gathered
  pub all_gathered : (n : ℕ) → ((v : ℕ) → v < n → old v ≡ told (prefix v)) → ((v : ℕ) → v < n → new v ≡ now (prefix v)) →
      ((p : List Bool) → is_had_below prefix p n ≡ false → told p ≡ now p) → (p : List Bool) →
      with_changes told (changes_below prefix old new n) p ≡ now p
  all_gathered n o w others p = below n o w p ∙ rest (is_had_below prefix p n) refl
    where
      rest : (b : Bool) → is_had_below prefix p n ≡ b → (if b then now p else told p) ≡ now p
      rest true e = refl
      rest false e = others p e

  -- where packets for the prefix of each node go the same way, so do all
  pub all_still : (n : ℕ) → ((v : ℕ) → v < n → old v ≡ told (prefix v)) → ((v : ℕ) → v < n → new v ≡ now (prefix v)) →
      ((p : List Bool) → is_had_below prefix p n ≡ false → told p ≡ now p) → are_same_below old new n ≡ true → (p : List Bool) → told p ≡ now p
  all_still n o w others still p = one (is_had_below prefix p n) refl
    where
      here : ((v : ℕ) × (v < n) × (prefix v ≡ p)) → told p ≡ now p
      here h = ap told (sym h.2) ∙ sym (o h.0 h.1) ∙ same_each old new n still h.0 h.1 ∙ w h.0 h.1 ∙ ap now h.2

      one : (b : Bool) → is_had_below prefix p n ≡ b → told p ≡ now p
      one true e = here (had_by prefix p n e)
      one false e = others p e

  -- each line tells something new
  pub all_new : (n : ℕ) → ((v : ℕ) → v < n → old v ≡ told (prefix v)) →
      All (λ c. told c.prefix ≡ c.hop → ⊥) (changes_below prefix old new n)
  all_new zero o = All-nil (λ (c : Change). told c.prefix ≡ c.hop → ⊥)
  all_new (suc v) o = All-append (λ (c : Change). told c.prefix ≡ c.hop → ⊥) (changes_below prefix old new v) (change_of prefix v (old v) (new v))
      (all_new v (λ u le. o u (omega arith)))
      (one (is_same (old v) (new v)) (is_first prefix v) refl)
    where
      P : Change → Type 0
      P c = told c.prefix ≡ c.hop → ⊥

      one : (same first : Bool) → is_same (old v) (new v) ≡ same →
          All P (if same then [] else (if first then record { prefix = prefix v; hop = new v } ∷ [] else []))
      one true first e = All-nil P
      one false false e = All-nil P
      one false true e = All-cons P (record { prefix = prefix v; hop = new v }) [] (λ h. other_hop (old v) (new v) e (o v (omega arith) ∙ h)) (All-nil P)

  -- no line is for a prefix for which packets went nowhere, and go nowhere now
  pub none_for : (own : List Bool) → told own ≡ None → now own ≡ None → (n : ℕ) → ((v : ℕ) → v < n → old v ≡ told (prefix v)) →
      ((v : ℕ) → v < n → new v ≡ now (prefix v)) → All (λ c. c.prefix ≡ own → ⊥) (changes_below prefix old new n)
  none_for own was is zero o w = All-nil (λ (c : Change). c.prefix ≡ own → ⊥)
  none_for own was is (suc v) o w = All-append P (changes_below prefix old new v) (change_of prefix v (old v) (new v))
      (none_for own was is v (λ u le. o u (omega (arith, le))) (λ u le. w u (omega (arith, le))))
      (one (is_same (old v) (new v)) (is_first prefix v) refl)
    where
      P : Change → Type 0
      P c = c.prefix ≡ own → ⊥

      nowhere : prefix v ≡ own → old v ≡ new v
      nowhere e = o v (omega arith) ∙ ap told e ∙ was ∙ sym is ∙ ap now (sym e) ∙ sym (w v (omega arith))

      one : (same first : Bool) → is_same (old v) (new v) ≡ same →
          All P (if same then [] else (if first then record { prefix = prefix v; hop = new v } ∷ [] else []))
      one true first e = All-nil P
      one false false e = All-nil P
      one false true e = All-cons P (record { prefix = prefix v; hop = new v }) [] (λ h. other_hop (old v) (new v) e (nowhere h)) (All-nil P)
