-- What was told over a link, and each message on it behind the first so many, is as a predicate says.
use mathlib.Core.Logic.{inl, inr}
use Rattle.std.proofs.Common.{◌≡◌, ◌⊎◌, ⊎_elim, ℕ, ◌+◌, ◌-◌, ◌<◌, ◌≤◌, zero, suc, max, cond, nat_eq, All, List, [], ◌∷◌, ◌++◌, length, sym, ap, subst, ◌∙◌, arith, eq-eqb, le-ltb}
use Rattle.std.proofs.lemmas.Bool.{cases_lt, cond_both, eqb-true, lt-ltb}
use Rattle.std.proofs.lemmas.List.Elements.{All-append, All-cons, All-head, All-nil, All-tail}
use Rattle.netchange_core.specs.declared.message.Message.{Message}
use Rattle.routing_domain.specs.Domain.{last_told}
use Rattle.routing_domain.specs.Phases.{awaited_without}

-- of a message about a node
abbrev pub IsAbout : ℕ → (ℕ → Type 0) → Message → Type 0
IsAbout v L m = m.dest ≡ v → L m.dist

-- once so many messages came in, what stands for a node is as the predicate says, and each message about it that comes later
abbrev pub Turns : (ℕ → Type 0) → ℕ → ℕ → ℕ → List Message → Type 0
Turns L v zero before ms = (L before) × (All (IsAbout v L) ms)
Turns L v (suc n) before [] = L before
Turns L v (suc n) before (m ∷ ms) = Turns L v n (cond (nat_eq m.dest v) m.dist before) ms

-- one fewer, where there are any
abbrev pub fewer : ℕ → ℕ
fewer zero = zero
fewer (suc n) = n

one_fewer : (n : ℕ) → fewer n ≡ n - 1
one_fewer zero = omega arith
one_fewer (suc n) = omega arith

-- after one more message
told_next : (L : ℕ → Type 0) (v before : ℕ) (m : Message) → L before → IsAbout v L m → L (cond (nat_eq m.dest v) m.dist before)
told_next L v before m now says = cond_both (nat_eq m.dest v) m.dist before L (λ same. says (eqb-true m.dest v same)) (λ _. now)

pub turns_any : (L : ℕ → Type 0) (v n before : ℕ) (ms : List Message) → L before → All (IsAbout v L) ms → Turns L v n before ms
turns_any L v zero before ms now all = (now, all)
turns_any L v (suc n) before [] now all = now
turns_any L v (suc n) before (m ∷ ms) now all =
    turns_any L v n (cond (nat_eq m.dest v) m.dist before) ms (told_next L v before m now (All-head (IsAbout v L) m ms all))
    (All-tail (IsAbout v L) m ms all)

-- more messages are sent, and one is received
pub turns_grows : (L : ℕ → Type 0) (v n before : ℕ) (ms more : List Message) → Turns L v n before ms → All (IsAbout v L) more →
    Turns L v n before (ms ++ more)
turns_grows L v zero before ms more t all = (t.0, All-append (IsAbout v L) ms more (t.1) all)
turns_grows L v (suc n) before [] more t all = turns_any L v (suc n) before more t all
turns_grows L v (suc n) before (m ∷ ms) more t all = turns_grows L v n (cond (nat_eq m.dest v) m.dist before) ms more t all

pub hears_fewer : (L : ℕ → Type 0) (v n before : ℕ) (m : Message) (ms : List Message) → Turns L v n before (m ∷ ms) →
    Turns L v (fewer n) (cond (nat_eq m.dest v) m.dist before) ms
hears_fewer L v zero before m ms t =
    (told_next L v before m (t.0) (All-head (IsAbout v L) m ms (t.1)), All-tail (IsAbout v L) m ms (t.1))
hears_fewer L v (suc n) before m ms t = t

pub turns_hears : (L : ℕ → Type 0) (v n before : ℕ) (m : Message) (ms : List Message) → Turns L v n before (m ∷ ms) →
    Turns L v (n - 1) (cond (nat_eq m.dest v) m.dist before) ms
turns_hears L v n before m ms t =
    subst (λ k. Turns L v k (cond (nat_eq m.dest v) m.dist before) ms) (one_fewer n) (hears_fewer L v n before m ms t)

-- what stands once all came in
pub turns_in_the_end : (L : ℕ → Type 0) (v n before : ℕ) (ms : List Message) → length ms ≤ n → L (last_told v before ms) → Turns L v n before ms
turns_in_the_end L v zero before [] few now = (now, All-nil (IsAbout v L))
turns_in_the_end L v zero before (m ∷ ms) few now = absurd (omega (arith, few))
turns_in_the_end L v (suc n) before [] few now = now
turns_in_the_end L v (suc n) before (m ∷ ms) few now = turns_in_the_end L v n (cond (nat_eq m.dest v) m.dist before) ms (omega (arith, few)) now

-- what is so of each message is so without one
pub all_without : (P : Message → Type 0) (xs : List Message) (m : Message) (ys : List Message) → All P (xs ++ m ∷ ys) → All P (xs ++ ys)
all_without P [] m ys all = All-tail P m ys all
all_without P (x ∷ xs) m ys all =
    All-cons P x (xs ++ ys) (All-head P x (xs ++ m ∷ ys) all) (all_without P xs m ys (All-tail P x (xs ++ m ∷ ys) all))

-- how many are awaited after one was left out
abbrev pub IsAwaited : ℕ → ℕ → ℕ → ℕ → Type 0
IsAwaited n now before between = ((n ≤ before) × (now ≡ n)) ⊎ ((before < n) × (now ≡ max (n - 1) (before + between + 1)))

pub is_awaited : (n before between : ℕ) → IsAwaited n (awaited_without n before between) before between
is_awaited n before between =
    ⊎_elim
    (λ (one : before < n). inr (one, ap (λ t. cond t (max (n - 1) (before + between + 1)) n) (lt-ltb before n one)))
    (λ (none : n ≤ before). inl (none, ap (λ t. cond t (max (n - 1) (before + between + 1)) n) (le-ltb before n none)))
    (cases_lt before n)

-- more are awaited, and what was said before does not matter
turns_later : (L : ℕ → Type 0) (v n now b : ℕ) (ms : List Message) → n ≤ now → Turns L v n b ms → Turns L v now b ms
turns_later L v zero now b ms more t = turns_any L v now b ms (t.0) (t.1)
turns_later L v (suc n) zero b ms more t = absurd (omega (arith, more))
turns_later L v (suc n) (suc now) b [] more t = t
turns_later L v (suc n) (suc now) b (m ∷ ms) more t = turns_later L v n now (cond (nat_eq m.dest v) m.dist b) ms (omega (arith, more)) t

turns_forget : (L : ℕ → Type 0) (v n b c : ℕ) (ys : List Message) (later : Message) (zs : List Message) → later.dest ≡ v → length ys < n →
    Turns L v n b (ys ++ later ∷ zs) → Turns L v n c (ys ++ later ∷ zs)
turns_forget L v zero b c ys later zs about few t = absurd (omega (arith, few))
turns_forget L v (suc n) b c [] later zs about few t =
    subst (λ x. Turns L v n x zs)
    (ap (λ s. cond s later.dist b) (eq-eqb later.dest v about) ∙ sym (ap (λ s. cond s later.dist c) (eq-eqb later.dest v about))) t
turns_forget L v (suc n) b c (y ∷ ys) later zs about few t =
    turns_forget L v n (cond (nat_eq y.dest v) y.dist b) (cond (nat_eq y.dest v) y.dist c) ys later zs about (omega (arith, few)) t

without_first : (L : ℕ → Type 0) (v n now b : ℕ) (m : Message) (ys : List Message) (later : Message) (zs : List Message) → later.dest ≡ m.dest →
    n ≤ now → length ys < now → Turns L v n (cond (nat_eq m.dest v) m.dist b) (ys ++ later ∷ zs) → Turns L v now b (ys ++ later ∷ zs)
without_first L v n now b m ys later zs about more few t =
    cond_both (nat_eq m.dest v) m.dist b (λ x. Turns L v now x (ys ++ later ∷ zs) → Turns L v now b (ys ++ later ∷ zs))
    (λ same s. turns_forget L v now m.dist b ys later zs (about ∙ eqb-true m.dest v same) few s) (λ _ s. s)
    (turns_later L v n now (cond (nat_eq m.dest v) m.dist b) (ys ++ later ∷ zs) more t)

pub turns_without : (L : ℕ → Type 0) (v n now b : ℕ) (xs : List Message) (m : Message) (ys : List Message) (later : Message) (zs : List Message) →
    later.dest ≡ m.dest → IsAwaited n now (length xs) (length ys) → Turns L v n b (xs ++ m ∷ (ys ++ later ∷ zs)) → Turns L v now b (xs ++ (ys ++ later ∷ zs))
turns_without L v zero zero b xs m ys later zs about i t = (t.0, all_without (IsAbout v L) xs m (ys ++ later ∷ zs) (t.1))
turns_without L v zero (suc now) b xs m ys later zs about i t = absurd (omega (arith, i))
turns_without L v (suc n) now b [] m ys later zs about i t = without_first L v n now b m ys later zs about (omega (arith, i)) (omega (arith, i)) t
turns_without L v (suc n) zero b (x ∷ xs) m ys later zs about i t = absurd (omega (arith, i))
turns_without L v (suc n) (suc now) b (x ∷ xs) m ys later zs about i t =
    turns_without L v n now (cond (nat_eq x.dest v) x.dist b) xs m ys later zs about
    (⊎_elim
    (λ (past : (suc n ≤ length (x ∷ xs)) × (suc now ≡ suc n)). inl (omega (arith, past.0), omega (arith, past.1)))
    (λ (one : (length (x ∷ xs) < suc n) × (suc now ≡ max (suc n - 1) (length (x ∷ xs) + length ys + 1))). inr (omega (arith, one.0), omega (arith, one.0, one.1)))
    i)
    t
