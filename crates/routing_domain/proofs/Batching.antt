-- What a batch leaves out, one message at a time.
use Rattle.std.proofs.Common.{◌≡◌, ℕ, suc, zero, ◌+◌, ◌<◌, Bool, true, false, cond, nat_eq, List, [], ◌∷◌, ◌++◌, refl, sym, ap, subst, ◌∙◌, inl, inr}
use Rattle.std.proofs.Common.{append_assoc}
use Rattle.std.specs.Prelude.{◌||◌, length, take}
use Rattle.std.proofs.lemmas.Bool.{eqb-true}
use Rattle.netchange_core.specs.declared.message.Message.{Message}
use Rattle.netchange_core.specs.Next.{dequeued}
use Rattle.netchange_core.specs.World.{changed}
use Rattle.routing_domain.specs.Batches.{is_replaced, newest, sends_newest}
use Rattle.routing_domain.specs.Domain.{Domain, last_told, neighbour}
use Rattle.routing_domain.specs.Runs.{DropsOne, Runs, SendsSome}
use Rattle.routing_domain.specs.Steps.{sends, with_flight, with_router}
use Rattle.routing_domain.proofs.Dropping.{told_without}
use Rattle.routing_domain.proofs.Places.{flight_here}

-- the later message about the same node
record Replaced (m : Message) (ms : List Message) : Type 0 where
  pub between : List Message
  pub later : Message
  pub behind : List Message
  pub is : ms ≡ between ++ later ∷ behind
  pub about : later.dest ≡ m.dest

found_at : (m l : Message) (ls : List Message) (b : Bool) → nat_eq l.dest m.dest ≡ b → (b || is_replaced m ls) ≡ true →
    (is_replaced m ls ≡ true → Replaced m ls) → Replaced m (l ∷ ls)
found_at m l ls true e h rest = record { between = []; later = l; behind = ls; is = refl; about = eqb-true l.dest m.dest e }
found_at m l ls false e h rest =
    let f : Replaced m ls = rest h in
    record { between = l ∷ f.between; later = f.later; behind = f.behind; is = ap (λ xs. l ∷ xs) f.is; about = f.about }

found : (m : Message) (ms : List Message) → is_replaced m ms ≡ true → Replaced m ms
found m [] h = absurd cc
found m (l ∷ ls) h = found_at m l ls (nat_eq l.dest m.dest) refl h (found m ls)

-- what is known of a node after the newest
told_one : (m : Message) (ms : List Message) (v before : ℕ) (b : Bool) → is_replaced m ms ≡ b →
    ((c : ℕ) → last_told v c (newest ms) ≡ last_told v c ms) →
    last_told v before (cond b (newest ms) (m ∷ newest ms)) ≡ last_told v before (m ∷ ms)
told_one m ms v before true e rest =
    let f : Replaced m ms = found m ms e in
    rest before ∙ ap (last_told v before) f.is ∙ sym (told_without v before [] m f.between f.later f.behind f.about)
    ∙ sym (ap (λ xs. last_told v before (m ∷ xs)) f.is)
told_one m ms v before false e rest = rest (cond (nat_eq m.dest v) m.dist before)

pub newest_told : (v before : ℕ) (ms : List Message) → last_told v before (newest ms) ≡ last_told v before ms
newest_told v before [] = refl
newest_told v before (m ∷ ms) = told_one m ms v before (is_replaced m ms) refl (λ c. newest_told v c ms)

-- what is on its way is replaced twice
twice : (p q : Bool) (a b f : List Message) → cond p (cond q b (cond p (cond q a f) f)) (cond p (cond q a f) f) ≡ cond p (cond q b f) f
twice true true a b f = refl
twice true false a b f = refl
twice false q a b f = refl

with_twice : (d : Domain) (u w : ℕ) (a b : List Message) → with_flight (with_flight d u w a) u w b ≡ with_flight d u w b
with_twice d u w a b = λ i. record d { flight = λ x y. twice (nat_eq x u) (nat_eq y w) a b (d.flight x y) i }

-- a run from one domain to another
record Run (d e : Domain) : Type 0 where
  pub steps : ℕ
  pub run : Runs steps d e

drops : (d : Domain) (u w : ℕ) (p : List Message) (m : Message) (ms : List Message) → u < d.size → w < d.size → Replaced m ms →
    DropsOne (with_flight d u w (p ++ m ∷ ms)) (with_flight d u w (p ++ ms))
drops d u w p m ms from to f = record {
  from = u;
  to = w;
  before = p;
  message = m;
  between = f.between;
  later = f.later;
  behind = f.behind;
  member = from;
  member_there = to;
  flight = flight_here d u w (p ++ m ∷ ms) ∙ ap (λ xs. p ++ m ∷ xs) f.is;
  about = f.about;
  after = ap (λ xs. with_flight d u w (p ++ xs)) f.is ∙ sym (with_twice d u w (p ++ m ∷ ms) (p ++ (f.between ++ f.later ∷ f.behind)));
}

leaves_one : (d : Domain) (u w : ℕ) (p : List Message) (m : Message) (ms : List Message) (b : Bool) → is_replaced m ms ≡ b → u < d.size → w < d.size →
    ((q : List Message) → Run (with_flight d u w (q ++ ms)) (with_flight d u w (q ++ newest ms))) →
    Run (with_flight d u w (p ++ m ∷ ms)) (with_flight d u w (p ++ cond b (newest ms) (m ∷ newest ms)))
leaves_one d u w p m ms true e from to rest =
    let r = rest p in
    record { steps = suc r.steps; run = (with_flight d u w (p ++ ms), inr (inr (drops d u w p m ms from to (found m ms e))), r.run) }
leaves_one d u w p m ms false e from to rest =
    subst (λ (xs : List Message). Run (with_flight d u w xs) (with_flight d u w (p ++ m ∷ newest ms))) (append_assoc p (m ∷ []) ms)
    (subst (λ (xs : List Message). Run (with_flight d u w ((p ++ m ∷ []) ++ ms)) (with_flight d u w xs)) (append_assoc p (m ∷ []) (newest ms))
    (rest (p ++ m ∷ [])))

leaves : (d : Domain) (u w : ℕ) (p ms : List Message) → u < d.size → w < d.size →
    Run (with_flight d u w (p ++ ms)) (with_flight d u w (p ++ newest ms))
leaves d u w p [] from to = record { steps = zero; run = refl }
leaves d u w p (m ∷ ms) from to = leaves_one d u w p m ms (is_replaced m ms) refl from to (λ q. leaves d u w q ms from to)

pub batch_runs : (d : Domain) (u w max : ℕ) → u < d.size → w < d.size → 0 < length (take max (neighbour d u w).queue) →
    (k : ℕ) × (Runs (suc k) d (sends_newest d u w max))
batch_runs d u w max from to some =
    let left = leaves (with_router d u (changed (d.router u) w (dequeued max))) u w (d.flight u w) (take max (neighbour d u w).queue) from to in
    let sent : SendsSome d (sends d u w max) = record {
      from = u;
      to = w;
      max = max;
      member = from;
      member_there = to;
      some = some;
      after = refl;
    } in
    (left.steps, (sends d u w max, inr (inl sent), left.run))
