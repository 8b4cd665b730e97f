-- Messages are left out that later ones about the same node follow.
use Rattle.std.proofs.Common.{◌≡◌, ◌∙◌, sym, ap, subst, refl, ℕ, ◌+◌, ◌-◌, ◌<◌, ◌≤◌, List, [], ◌∷◌, ◌++◌, append_assoc, arith, length, length-append}
use Rattle.std.specs.Prelude.{cond, drop, false, take, true}
use Rattle.std.proofs.lemmas.List.{drop_at, take_all, take_at}
use Rattle.netchange_core.specs.declared.message.Message.{Message}
use Rattle.routing_domain.specs.Batches.{is_replaced, newest}
use Rattle.route_session.specs.Writes.{is_first_replaced}

-- Some messages were looked at, from the first on: those that are told stand in front, and what is behind was not looked at. So many were
-- left out.
pub record IsKeeping (messages now : List Message) (at left_out : ℕ) : Type 0 where
  pub front : List Message
  pub behind : List Message
  pub is : now ≡ front ++ behind
  pub looked_at : length front ≡ at
  pub told : newest messages ≡ front ++ newest behind
  pub counted : left_out + length now ≡ length messages

pub begins_keeping : (messages : List Message) → IsKeeping messages messages 0 0
begins_keeping messages = record { front = []; behind = messages; is = refl; looked_at = refl; told = refl; counted = omega arith }

-- what was not looked at
abbrev pub rest_of : List Message → ℕ → List Message
rest_of now at = take (length now - at) (drop at now)

not_looked_at : (now : List Message) (at : ℕ) (front behind : List Message) → now ≡ front ++ behind → length front ≡ at → rest_of now at ≡ behind
not_looked_at now at front behind is looked =
    let all : length now ≡ length front + length behind = ap length is ∙ length-append front behind in
    ap (take (length now - at)) (ap (drop at) is ∙ drop_at front behind at looked) ∙ take_all (length now - at) behind (omega (arith, all, looked))

-- the first of it is left out, or told
without_first : (m : Message) (later : List Message) → is_replaced m later ≡ true → newest (m ∷ later) ≡ newest later
without_first m later h = ap (λ c. cond c (newest later) (m ∷ newest later)) h

with_first : (m : Message) (later : List Message) → is_replaced m later ≡ false → newest (m ∷ later) ≡ m ∷ newest later
with_first m later h = ap (λ c. cond c (newest later) (m ∷ newest later)) h

-- something is behind, since not all was looked at
some_behind : (front behind : List Message) (at : ℕ) → at < length (front ++ behind) → length front ≡ at → behind ≡ [] → ⊥
some_behind front behind at within looked none =
    let all : length (front ++ behind) ≡ length front + length behind = length-append front behind in
    let nothing : length behind ≡ 0 = ap length none in
    absurd (omega (arith, within, looked, all, nothing))

left_out_first : (messages front behind : List Message) (at n : ℕ) → length front ≡ at → newest messages ≡ front ++ newest behind →
    n + length (front ++ behind) ≡ length messages → is_first_replaced behind ≡ true →
    IsKeeping messages (take at (front ++ behind) ++ drop (at + 1) (front ++ behind)) at (n + 1)
left_out_first messages front [] at n looked told counted h = absurd cc
left_out_first messages front (m ∷ later) at n looked told counted h =
    let shorter : length (front ++ m ∷ later) ≡ length front + length (m ∷ later) = length-append front (m ∷ later) in
    let left : take at (front ++ m ∷ later) ≡ front = take_at front (m ∷ later) at looked in
    let longer : length (front ++ m ∷ []) ≡ at + 1 = length-append front (m ∷ []) ∙ ap (λ x. x + 1) looked in
    let right : drop (at + 1) (front ++ m ∷ later) ≡ later =
    ap (drop (at + 1)) (sym (append_assoc front (m ∷ []) later)) ∙ drop_at (front ++ m ∷ []) later (at + 1) longer in
    let now : take at (front ++ m ∷ later) ++ drop (at + 1) (front ++ m ∷ later) ≡ front ++ later =
    ap (λ l. l ++ drop (at + 1) (front ++ m ∷ later)) left ∙ ap (λ l. front ++ l) right in
    record {
      front = front;
      behind = later;
      is = now;
      looked_at = looked;
      told = told ∙ ap (λ l. front ++ l) (without_first m later h);
      counted = omega (arith, counted, shorter, ap length now, length-append front later);
    }

pub leaves_first : (messages now new : List Message) (at n : ℕ) (i : IsKeeping messages now at n) → is_first_replaced (rest_of now at) ≡ true →
    new ≡ take at now ++ drop (at + 1) now → IsKeeping messages new at (n + 1)
leaves_first messages now new at n i h is =
    let first : is_first_replaced i.behind ≡ true = ap is_first_replaced (sym (not_looked_at now at i.front i.behind i.is i.looked_at)) ∙ h in
    let count : n + length (i.front ++ i.behind) ≡ length messages = ap (λ l. n + length l) (sym i.is) ∙ i.counted in
    let whole : new ≡ take at (i.front ++ i.behind) ++ drop (at + 1) (i.front ++ i.behind) =
    is ∙ ap (λ l. take at l ++ drop (at + 1) l) i.is in
    subst (λ l. IsKeeping messages l at (n + 1)) (sym whole)
    (left_out_first messages i.front i.behind at n i.looked_at i.told count first)

told_first : (messages now front behind : List Message) (at n : ℕ) → now ≡ front ++ behind → length front ≡ at → newest messages ≡ front ++ newest behind →
    n + length now ≡ length messages → is_first_replaced behind ≡ false → at < length now → IsKeeping messages now (at + 1) n
told_first messages now front [] at n is looked told counted h within =
    absurd (some_behind front [] at (subst (λ l. at < length l) is within) looked refl)
told_first messages now front (m ∷ later) at n is looked told counted h within = record {
  front = front ++ m ∷ [];
  behind = later;
  is = is ∙ sym (append_assoc front (m ∷ []) later);
  looked_at = length-append front (m ∷ []) ∙ ap (λ x. x + 1) looked;
  told = told ∙ ap (λ l. front ++ l) (with_first m later h) ∙ sym (append_assoc front (m ∷ []) (newest later));
  counted = counted;
}

pub tells_first : (messages now : List Message) (at n : ℕ) (i : IsKeeping messages now at n) → is_first_replaced (rest_of now at) ≡ false →
    at < length now → IsKeeping messages now (at + 1) n
tells_first messages now at n i h within =
    let first : is_first_replaced i.behind ≡ false = ap is_first_replaced (sym (not_looked_at now at i.front i.behind i.is i.looked_at)) ∙ h in
    told_first messages now i.front i.behind at n i.is i.looked_at i.told i.counted first within

-- all were looked at
ends_with : (messages now front behind : List Message) (at : ℕ) → now ≡ front ++ behind → length front ≡ at → newest messages ≡ front ++ newest behind →
    length now ≤ at → now ≡ newest messages
ends_with messages now front [] at is looked told all = is ∙ sym told
ends_with messages now front (m ∷ later) at is looked told all =
    let shorter : length (front ++ m ∷ later) ≡ length front + length (m ∷ later) = length-append front (m ∷ later) in
    absurd (omega (arith, looked, all, ap length is, shorter))

pub all_looked_at : (messages now : List Message) (at n : ℕ) → IsKeeping messages now at n → length now ≤ at → now ≡ newest messages
all_looked_at messages now at n i all = ends_with messages now i.front i.behind at i.is i.looked_at i.told all
