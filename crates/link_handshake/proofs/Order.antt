-- The order of lines in one direction: what stands behind what.
use Rattle.std.proofs.Common.{◌≡◌, ◌≢◌, ℕ, List, [], ◌∷◌, ◌++◌, sym}
use Rattle.std.specs.Prelude.{⊤}
use Rattle.std.specs.List.{AllByRecursion}
use Rattle.netchange_core.specs.declared.message.Message.{Message}
use Rattle.link_handshake.specs.Links.{IsNotOf, IsOf, IsUnrepeated, IsUntold, Line}
use Rattle.link_handshake.specs.Links.Line.{broken, greets, idles, tells}
use Rattle.link_handshake.specs.declared.greeting.Greeting.{Greeting}
use Rattle.link_handshake.proofs.Each.{each_behind, each_snoc}

-- the number of the attempt that a line is of
abbrev pub number_of : Line → ℕ
number_of (greets g) = g.number
number_of (tells attempt m) = attempt
number_of idles = 0
number_of broken = 0

-- a line is a greeting of this number
abbrev pub IsGreetingOf : ℕ → Line → Type 0
IsGreetingOf n (greets g) = g.number ≡ n
IsGreetingOf n (tells attempt m) = ⊥
IsGreetingOf n idles = ⊥
IsGreetingOf n broken = ⊥

-- a line is a greeting that repeats this number
abbrev pub Repeats : ℕ → Line → Type 0
Repeats n (greets g) = g.heard ≡ n
Repeats n (tells attempt m) = ⊥
Repeats n idles = ⊥
Repeats n broken = ⊥

-- a line is a message
abbrev pub IsMessage : Line → Type 0
IsMessage (greets g) = ⊥
IsMessage (tells attempt m) = ⊤
IsMessage idles = ⊥
IsMessage broken = ⊥

-- a line is of this attempt if it is a message
abbrev pub TellsOf : ℕ → Line → Type 0
TellsOf n (greets g) = ⊤
TellsOf n (tells attempt m) = attempt ≡ n
TellsOf n idles = ⊤
TellsOf n broken = ⊤

-- a line is no greeting of this number
abbrev pub IsUngreeted : ℕ → Line → Type 0
IsUngreeted n (greets g) = g.number ≢ n
IsUngreeted n (tells attempt m) = ⊤
IsUngreeted n idles = ⊤
IsUngreeted n broken = ⊤

-- behind a greeting of this number all lines are of it
abbrev pub EndsIn : ℕ → List Line → Type 0
EndsIn n [] = ⊤
EndsIn n (x ∷ xs) = (IsGreetingOf n x → AllByRecursion (IsOf n) xs) × EndsIn n xs

-- behind a greeting that repeats this number all messages are of the attempt that it is of
abbrev pub Follows : ℕ → List Line → Type 0
Follows n [] = ⊤
Follows n (x ∷ xs) = (Repeats n x → AllByRecursion (TellsOf (number_of x)) xs) × Follows n xs

-- behind a message no greeting is of its attempt
abbrev pub Ordered : List Line → Type 0
Ordered [] = ⊤
Ordered (x ∷ xs) = (IsMessage x → AllByRecursion (IsUngreeted (number_of x)) xs) × Ordered xs

-- ---- one line more

pub ends_snoc : (n : ℕ) (xs : List Line) (x : Line) → EndsIn n xs → IsOf n x → EndsIn n (xs ++ x ∷ [])
ends_snoc n [] x e p = (λ h. tt, tt)
ends_snoc n (y ∷ xs) x e p = (λ h. each_snoc (IsOf n) xs x (e.0 h) p, ends_snoc n xs x (e.1) p)

pub follows_snoc : (n : ℕ) (xs : List Line) (x : Line) → Follows n xs → ((k : ℕ) → TellsOf k x) → Follows n (xs ++ x ∷ [])
follows_snoc n [] x f p = (λ h. tt, tt)
follows_snoc n (y ∷ xs) x f p = (λ h. each_snoc (TellsOf (number_of y)) xs x (f.0 h) (p (number_of y)), follows_snoc n xs x (f.1) p)

-- a message of the attempt that all is of
greeting_number : (n k : ℕ) (x : Line) → IsOf n x → Repeats k x → n ≡ number_of x
greeting_number n k (greets g) p h = sym p
greeting_number n k (tells attempt m) p h = absurd h
greeting_number n k idles p h = absurd h
greeting_number n k broken p h = absurd h

pub follows_told : (n k : ℕ) (m : Message) (xs : List Line) → Follows k xs → AllByRecursion (IsOf n) xs → Follows k (xs ++ tells n m ∷ [])
follows_told n k m [] f a = (λ h. tt, tt)
follows_told n k m (y ∷ xs) f a = (
  λ h. each_snoc (TellsOf (number_of y)) xs (tells n m) (f.0 h) (greeting_number n k y (a.0) h),
  follows_told n k m xs (f.1) (a.1),
)

pub ordered_snoc : (xs : List Line) (x : Line) → Ordered xs → ((k : ℕ) → IsUngreeted k x) → Ordered (xs ++ x ∷ [])
ordered_snoc [] x o p = (λ h. tt, tt)
ordered_snoc (y ∷ xs) x o p = (λ h. each_snoc (IsUngreeted (number_of y)) xs x (o.0 h) (p (number_of y)), ordered_snoc xs x (o.1) p)

-- a greeting of an attempt of which there is no message
untold_number : (n : ℕ) (x : Line) → IsUntold n x → IsMessage x → n ≢ number_of x
untold_number n (greets g) p h = absurd h
untold_number n (tells attempt m) p h = λ same. p (sym same)
untold_number n idles p h = absurd h
untold_number n broken p h = absurd h

pub ordered_greeted : (g : Greeting) (xs : List Line) → Ordered xs → AllByRecursion (IsUntold g.number) xs → Ordered (xs ++ greets g ∷ [])
ordered_greeted g [] o a = (λ h. tt, tt)
ordered_greeted g (y ∷ xs) o a = (
  λ h. each_snoc (IsUngreeted (number_of y)) xs (greets g) (o.0 h) (untold_number g.number y (a.0) h),
  ordered_greeted g xs (o.1) (a.1),
)

-- ---- numbers that stand nowhere

not_repeated : (n : ℕ) (x : Line) → IsUnrepeated n x → Repeats n x → ⊥
not_repeated n (greets g) p h = p h
not_repeated n (tells attempt m) p h = h
not_repeated n idles p h = h
not_repeated n broken p h = h

pub follows_none : (n : ℕ) (xs : List Line) → AllByRecursion (IsUnrepeated n) xs → Follows n xs
follows_none n [] a = tt
follows_none n (x ∷ xs) a = (λ h. absurd (not_repeated n x (a.0) h), follows_none n xs (a.1))

not_greeted : (n : ℕ) (x : Line) → IsNotOf n x → IsGreetingOf n x → ⊥
not_greeted n (greets g) p h = p h
not_greeted n (tells attempt m) p h = h
not_greeted n idles p h = h
not_greeted n broken p h = h

pub ends_none : (n : ℕ) (xs : List Line) → AllByRecursion (IsNotOf n) xs → EndsIn n xs
ends_none n [] a = tt
ends_none n (x ∷ xs) a = (λ h. absurd (not_greeted n x (a.0) h), ends_none n xs (a.1))

pub not_of_untold : (n : ℕ) (x : Line) → IsNotOf n x → IsUntold n x
not_of_untold n (greets g) p = tt
not_of_untold n (tells attempt m) p = p
not_of_untold n idles p = tt
not_of_untold n broken p = tt

-- ---- before a greeting there is no message of its attempt

ungreeted_untold : (g : Greeting) (x : Line) → (IsMessage x → g.number ≢ number_of x) → IsUntold g.number x
ungreeted_untold g (greets other) h = tt
ungreeted_untold g (tells attempt m) h = λ same. h tt (sym same)
ungreeted_untold g idles h = tt
ungreeted_untold g broken h = tt

pub untold_before : (g : Greeting) (xs rest : List Line) → Ordered (xs ++ greets g ∷ rest) → AllByRecursion (IsUntold g.number) xs
untold_before g [] rest o = tt
untold_before g (x ∷ xs) rest o = (
  ungreeted_untold g x (λ h. (each_behind (IsUngreeted (number_of x)) xs (greets g ∷ rest) (o.0 h)).0),
  untold_before g xs rest (o.1),
)
