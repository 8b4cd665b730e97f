-- What comes in over a link, one message after another, is never farther than what came before.
use Rattle.std.proofs.Common.{◌≡◌, ℕ, ◌≤◌, zero, suc, Bool, true, false, cond, nat_eq, All, List, [], ◌∷◌, ◌++◌, refl, sym, ap, subst, arith}
use Rattle.std.proofs.lemmas.Bool.{eqb-true}
use Rattle.std.proofs.lemmas.List.Elements.{All-append, All-cons, All-head, All-nil, All-tail}
use Rattle.netchange_core.specs.declared.message.Message.{Message}
use Rattle.netchange_core.specs.FilteredDistance.{filtered_distance}
use Rattle.netchange_core.specs.Next.{all_messages, message_of}
use Rattle.netchange_core.specs.OpeningView.{OpeningView}
use Rattle.filter_verifier.specs.VerifiedView.{VerifiedView}
use Rattle.std.specs.Prelude.{Option}
use Rattle.routing_domain.specs.Domain.{last_told}
use Rattle.routing_domain.proofs.Turning.{IsAbout}

-- each message about a node says what is no farther than what stood before it, as an import filter takes both
abbrev pub Falls : (ℕ → ℕ) → ℕ → ℕ → List Message → Type 0
Falls f v before [] = before ≡ before
Falls f v before (m ∷ ms) =
    (f (cond (nat_eq m.dest v) m.dist before) ≤ f before) × Falls f v (cond (nat_eq m.dest v) m.dist before) ms

-- so what stands in the end is no farther than what stands now
pub falls_to_the_end : (f : ℕ → ℕ) (v before : ℕ) (ms : List Message) → Falls f v before ms → f (last_told v before ms) ≤ f before
falls_to_the_end f v before [] t = omega arith
falls_to_the_end f v before (m ∷ ms) t =
    omega (arith, t.0, falls_to_the_end f v (cond (nat_eq m.dest v) m.dist before) ms (t.1))

-- more messages behind those
pub falls_on : (f : ℕ → ℕ) (v before : ℕ) (ms more : List Message) → Falls f v before ms → Falls f v (last_told v before ms) more →
    Falls f v before (ms ++ more)
falls_on f v before [] more t rest = rest
falls_on f v before (m ∷ ms) more t rest = (t.0, falls_on f v (cond (nat_eq m.dest v) m.dist before) ms more (t.1) rest)

-- what stood before may be farther
pub falls_from_farther : (f : ℕ → ℕ) (v before farther : ℕ) (ms : List Message) → f before ≤ f farther → Falls f v before ms → Falls f v farther ms
falls_from_farther f v before farther [] less t = refl
falls_from_farther f v before farther (m ∷ ms) less t = after (λ s. falls_from_farther f v before farther ms less s) (nat_eq m.dest v) t
  where
    after : (Falls f v before ms → Falls f v farther ms) → (b : Bool) → (f (cond b m.dist before) ≤ f before) × Falls f v (cond b m.dist before) ms →
        (f (cond b m.dist farther) ≤ f farther) × Falls f v (cond b m.dist farther) ms
    after on true s = (omega (arith, less, s.0), s.1)
    after on false s = (omega arith, on (s.1))

-- a message may be left out
pub falls_without : (f : ℕ → ℕ) (v before : ℕ) (xs : List Message) (m : Message) (ys : List Message) → Falls f v before (xs ++ m ∷ ys) →
    Falls f v before (xs ++ ys)
falls_without f v before [] m ys t = falls_from_farther f v (cond (nat_eq m.dest v) m.dist before) before ys (t.0) (t.1)
falls_without f v before (x ∷ xs) m ys t = (t.0, falls_without f v (cond (nat_eq x.dest v) x.dist before) xs m ys (t.1))

-- messages that all say one distance, which is no farther than what stood before
pub falls_once : (f : ℕ → ℕ) (v before dist : ℕ) (ms : List Message) → f dist ≤ f before → All (IsAbout v (λ x. x ≡ dist)) ms → Falls f v before ms
falls_once f v before dist [] less all = refl
falls_once f v before dist (m ∷ ms) less all =
    after (λ b near. falls_once f v b dist ms near (All-tail P m ms all)) (nat_eq m.dest v) (λ same. All-head P m ms all (eqb-true m.dest v same))
  where
    P : Message → Type 0
    P = IsAbout v (λ x. x ≡ dist)

    after : ((b : ℕ) → f dist ≤ f b → Falls f v b ms) → (b : Bool) → (b ≡ true → m.dist ≡ dist) → (f (cond b m.dist before) ≤ f before) × Falls f v (cond b m.dist before) ms
    after on true says = (subst (λ x. f x ≤ f before) (sym (says refl)) less, on m.dist (subst (λ x. f dist ≤ f x) (sym (says refl)) (omega arith)))
    after on false says = (omega arith, on before less)

-- who is told all distances is told one of each node
pub all_say : (o : OpeningView) (exports : Option VerifiedView) (dist : ℕ → ℕ) (v count : ℕ) →
    All (IsAbout v (λ x. x ≡ filtered_distance o exports v (dist v))) (all_messages o exports dist count)
all_say o exports dist v zero = All-nil (IsAbout v (λ x. x ≡ filtered_distance o exports v (dist v)))
all_say o exports dist v (suc u) =
    All-append P (all_messages o exports dist u) (message_of o exports u (dist u) ∷ []) (all_say o exports dist v u)
    (All-cons P (message_of o exports u (dist u)) [] (λ (about : u ≡ v). ap (λ w. filtered_distance o exports w (dist w)) about) (All-nil P))
  where
    P : Message → Type 0
    P = IsAbout v (λ x. x ≡ filtered_distance o exports v (dist v))
