-- Turns, one after another.
use Rattle.std.proofs.Common.{◌≡◌, ◌∙◌, sym, ap, subst, refl, ℕ, ◌+◌, ◌≤◌, ◌<◌, Bool, true, false, Option}
use Rattle.std.proofs.Common.{Some, None, [], ◌∷◌, length, length-append, Ok, arith}
use Rattle.netchange_core.specs.declared.event.Event.{Event}
use Rattle.netchange_core.specs.declared.message.Message.{Message}
use Rattle.route_session.specs.declared.ends.Cause.{Cause}
use Rattle.route_session.specs.declared.ends.Cause.TheVariants as cause
use Rattle.route_session.specs.declared.link.Got.TheVariants as got
use Rattle.route_session.specs.Links.{Received}
use Rattle.route_session.specs.LinkTrace.{LinkTrace, counted}
use Rattle.route_session.specs.Turns.{Asked, ReadsByTurns, TakesByTurns, uncounted_read, uncounted_take}
use Rattle.slot_lock.specs.declared.answer.Answer.{Answer}
use Rattle.slot_lock.specs.Calls.{Answered}
use Rattle.slot_lock.specs.Passes.{Fragment, PassView, RouterView}

counted_none : (told : Option ℕ) → told ≡ counted told 0
counted_none None = refl
counted_none (Some n) = let same : n ≡ n + 0 = omega arith in ap Some same

counted_more : (told : Option ℕ) (n : ℕ) → counted (counted told n) 1 ≡ counted told (n + 1)
counted_more None n = refl
counted_more (Some k) n = let same : (k + n) + 1 ≡ k + (n + 1) = omega arith in ap Some same

asked_none : (may : ℕ → Bool → Type 0) → Asked may 0 0
asked_none may = record { answers = []; are = tt; turns_are = refl; goes_are = refl }

held_back : (may : ℕ → Bool → Type 0) (turn goes : ℕ) → Asked may turn goes → may turn false → Asked may (turn + 1) goes
held_back may turn goes a held = record {
  answers = false ∷ a.answers;
  are = (subst (λ (n : ℕ). may n false) (sym a.turns_are) held, a.are);
  turns_are = let before = a.turns_are in omega arith;
  goes_are = a.goes_are;
}

went : (may : ℕ → Bool → Type 0) (turn goes : ℕ) → Asked may turn goes → may turn true → Asked may (turn + 1) (goes + 1)
went may turn goes a goes_on = record {
  answers = true ∷ a.answers;
  are = (subst (λ (n : ℕ). may n true) (sym a.turns_are) goes_on, a.are);
  turns_are = let before = a.turns_are in omega arith;
  goes_are = let before = a.goes_are in omega arith;
}

-- a reader's turns so far, each of which is in a count
pub record ReadSoFar (may : ℕ → Bool → Type 0) (turns entered : ℕ) (t u : LinkTrace) : Type 0 where
  pub nothings : ℕ
  pub told : u.nothings ≡ counted t.nothings nothings
  pub asked : Asked may turns (entered + nothings)

pub no_turn_read : (may : ℕ → Bool → Type 0) (t : LinkTrace) → ReadSoFar may 0 0 t t
no_turn_read may t = record { nothings = 0; told = counted_none t.nothings; asked = asked_none may }

pub read_held_back : (may : ℕ → Bool → Type 0) (turn entered : ℕ) (t u : LinkTrace) → ReadSoFar may turn entered t u → may turn false →
    ReadSoFar may (turn + 1) entered t u
read_held_back may turn entered t u r held = record {
  nothings = r.nothings;
  told = r.told;
  asked = held_back may turn (entered + r.nothings) r.asked held;
}

pub read_nothing : (may : ℕ → Bool → Type 0) (turn entered : ℕ) (t u v : LinkTrace) → ReadSoFar may turn entered t u → may turn true →
    Received u (Ok got.Nothing) v → ReadSoFar may (turn + 1) entered t v
read_nothing may turn entered t u v r goes_on g =
    let sum : (entered + r.nothings) + 1 ≡ entered + (r.nothings + 1) = omega arith in
    record {
      nothings = r.nothings + 1;
      told = ap (λ (w : LinkTrace). w.nothings) g.1 ∙ ap (λ (o : Option ℕ). counted o 1) r.told ∙ counted_more t.nothings r.nothings;
      asked = subst (λ (n : ℕ). Asked may (turn + 1) n) sum (went may turn (entered + r.nothings) r.asked goes_on);
    }

pub read_message : (may : ℕ → Bool → Type 0) (turn entered : ℕ) (t u v : LinkTrace) (m : Message) → ReadSoFar may turn entered t u →
    may turn true → Received u (Ok (got.Message m)) v → ReadSoFar may (turn + 1) (entered + 1) t v
read_message may turn entered t u v m r goes_on g =
    let sum : (entered + r.nothings) + 1 ≡ (entered + 1) + r.nothings = omega arith in
    record {
      nothings = r.nothings;
      told = ap (λ (w : LinkTrace). w.nothings) g.1 ∙ r.told;
      asked = subst (λ (n : ℕ). Asked may (turn + 1) n) sum (went may turn (entered + r.nothings) r.asked goes_on);
    }

-- where a reader ends: after turns that are all in a count, or at one that is in none
pub read_so_far : (may : ℕ → Bool → Type 0) (turns used entered : ℕ) (t u : LinkTrace) (why : Cause) → uncounted_read why ≡ 0 →
    used ≤ turns → (why ≡ cause.Turns → used ≡ turns) → ReadSoFar may used entered t u → ReadsByTurns may turns why entered t u
read_so_far may turns used entered t u why counted_all within all r =
    let sum : entered + r.nothings ≡ entered + r.nothings + uncounted_read why = omega arith in
    record {
      used = used;
      within = within;
      all = all;
      nothings = r.nothings;
      told = r.told;
      asked = subst (λ (n : ℕ). Asked may used n) sum r.asked;
    }

pub read_cut_off : (may : ℕ → Bool → Type 0) (turns turn entered : ℕ) (t u v : LinkTrace) (why : Cause) → uncounted_read why ≡ 1 →
    turn < turns → ReadSoFar may turn entered t u → may turn true → v.nothings ≡ u.nothings → ReadsByTurns may turns why entered t v
read_cut_off may turns turn entered t u v why uncounted within r goes_on same =
    let sum : (entered + r.nothings) + 1 ≡ entered + r.nothings + uncounted_read why = omega arith in
    record {
      used = turn + 1;
      within = omega arith;
      all = λ by_turns. let none : uncounted_read why ≡ 0 = ap uncounted_read by_turns in absurd (omega arith);
      nothings = r.nothings;
      told = same ∙ r.told;
      asked = subst (λ (n : ℕ). Asked may (turn + 1) n) sum (went may turn (entered + r.nothings) r.asked goes_on);
    }

-- a writer's turns so far
pub record TakenSoFar (may : ℕ → Bool → Type 0) (turns : ℕ) (old new : Fragment) : Type 0 where
  pub takes : ℕ
  pub calls : length new.mine ≡ length old.mine + takes
  pub asked : Asked may turns takes

pub no_turn_taken : (may : ℕ → Bool → Type 0) (p : Fragment) → TakenSoFar may 0 p p
no_turn_taken may p = record { takes = 0; calls = omega arith; asked = asked_none may }

pub take_held_back : (may : ℕ → Bool → Type 0) (turn : ℕ) (old p : Fragment) → TakenSoFar may turn old p → may turn false →
    TakenSoFar may (turn + 1) old p
take_held_back may turn old p r held = record { takes = r.takes; calls = r.calls; asked = held_back may turn r.takes r.asked held }

pub take_made : (may : ℕ → Bool → Type 0) (turn : ℕ) (old : Fragment) (r : RouterView) (p q : PassView) (e : Event) (a : Answer) →
    TakenSoFar may turn old p.fragment → may turn true → Answered r p e a q → TakenSoFar may (turn + 1) old q.fragment
take_made may turn old r p q e a before goes_on h =
    let more = ap length h.mine ∙ length-append p.fragment.mine (a.at ∷ []) in
    let so_far = before.calls in
    record {
      takes = before.takes + 1;
      calls = omega arith;
      asked = went may turn before.takes before.asked goes_on;
    }

-- where a writer ends
pub taken_so_far : (may : ℕ → Bool → Type 0) (turns used : ℕ) (old p : Fragment) (why : Cause) → uncounted_take why ≡ 0 →
    used ≤ turns → (why ≡ cause.Turns → used ≡ turns) → TakenSoFar may used old p → TakesByTurns may turns why old p
taken_so_far may turns used old p why counted_all within all r =
    let sum : r.takes ≡ r.takes + uncounted_take why = omega arith in
    record {
      used = used;
      within = within;
      all = all;
      takes = r.takes;
      calls = r.calls;
      asked = subst (λ (n : ℕ). Asked may used n) sum r.asked;
    }

pub take_refused : (may : ℕ → Bool → Type 0) (turns turn : ℕ) (old p q : Fragment) (why : Cause) → uncounted_take why ≡ 1 →
    turn < turns → TakenSoFar may turn old p → may turn true → q.mine ≡ p.mine → TakesByTurns may turns why old q
take_refused may turns turn old p q why uncounted within r goes_on same =
    let sum : r.takes + 1 ≡ r.takes + uncounted_take why = omega arith in
    record {
      used = turn + 1;
      within = omega arith;
      all = λ by_turns. let none : uncounted_take why ≡ 0 = ap uncounted_take by_turns in absurd (omega arith);
      takes = r.takes;
      calls = ap length same ∙ r.calls;
      asked = subst (λ (n : ℕ). Asked may (turn + 1) n) sum (went may turn r.takes r.asked goes_on);
    }
