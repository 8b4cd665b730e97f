-- A link in order stays so, whatever its ends do and whatever is lost.
use mathlib.Core.Logic.{inl, inr}
use Rattle.std.proofs.Common.{◌≡◌, ◌⊎◌, ⊎_elim, ℕ, zero, suc, cond, Bool, true, false, List, [], ◌∷◌, ◌++◌, refl, sym, subst}
use Rattle.std.specs.List.{AllByRecursion}
use Rattle.std.proofs.lemmas.Bool.{cases_Bool}
use Rattle.netchange_core.specs.declared.message.Message.{Message}
use Rattle.link_handshake.specs.Ends.{begun, greeted_by, greeting_of, is_answered, ready}
use Rattle.link_handshake.specs.Events.{Action, AreFresh, ChoosesFresh, Event, acts, run}
use Rattle.link_handshake.specs.Events.Action.{Begins, Breaks, Greets, Hears, Idles, Loses, Restarts, Speaks, Tells}
use Rattle.link_handshake.specs.Events.Event.{Here, There}
use Rattle.link_handshake.specs.Links.{IsFresh, IsOpening, IsUntold, Line, Link, Opening, begins, greets_if, greets_there, hears_first, hears_one}
use Rattle.link_handshake.specs.Links.{opened, turned, way, without, writes, written}
use Rattle.link_handshake.specs.Links.Line.{broken, greets, idles, tells}
use Rattle.link_handshake.specs.declared.ends.End.{End}
use Rattle.link_handshake.specs.declared.greeting.Greeting.{Greeting}
use Rattle.link_handshake.proofs.Direction.{IsDirection, broken_written, first_leaves, greeted_receiver, greeted_sender}
use Rattle.link_handshake.proofs.Direction.{greeting_written, idle_written, message_written, renewed_receiver, renewed_sender, reply_leaves}
use Rattle.link_handshake.proofs.Direction.{reply_written}

-- both directions are in order
pub record IsOrderly (l : Link) : Type 0 where
  pub forth : IsDirection l.there l.here l.forth l.back.coming
  pub back : IsDirection l.here l.there l.back l.forth.coming

pub turned_orderly : (l : Link) → IsOrderly l → IsOrderly (turned l)
turned_orderly l o = record { forth = o.back; back = o.forth }

-- this end wrote no message in its attempt
abbrev IsSilent : Link → Type 0
IsSilent l = AllByRecursion (IsUntold l.here.number) (written l.forth)

-- ---- greetings that are written

greeting_orderly : (l : Link) → IsOrderly l → IsSilent l → IsOrderly (greets_there l)
greeting_orderly l o silent = record {
  forth = greeting_written l.there l.here l.forth l.back.coming l.speaker o.forth silent;
  back = reply_written l.here l.there l.back l.forth.coming (greets (greeting_of l.speaker l.here)) o.back (λ other. other);
}

greeting_if_orderly : (b : Bool) (l : Link) → IsOrderly l → IsSilent l → IsOrderly (greets_if b l)
greeting_if_orderly true l o silent = greeting_orderly l o silent
greeting_if_orderly false l o silent = o

-- ---- attempts that begin

renewed_orderly : (l : Link) (n heard : ℕ) → IsOrderly l → IsFresh n l → (heard ≡ l.here.heard) ⊎ (heard ≡ 0) →
    IsOrderly (record l { here = begun n heard })
renewed_orderly l n heard o fresh kept = record {
  forth = renewed_sender l.there l.here l.forth l.back.coming n heard o.forth fresh.some fresh.unheard fresh.unrepeated fresh.own;
  back = renewed_receiver l.here l.there l.back l.forth.coming n heard o.back kept fresh.unrepeated;
}

begins_orderly : (l : Link) (n heard : ℕ) → IsOrderly l → IsFresh n l → (heard ≡ l.here.heard) ⊎ (heard ≡ 0) → IsOrderly (begins l n heard)
begins_orderly l n heard o fresh kept =
    let m : IsOrderly (record l { here = begun n heard }) = renewed_orderly l n heard o fresh kept in
    greeting_orderly (record l { here = begun n heard }) m (m.forth.untold refl)

-- ---- lines that are heard

-- the link, where the first line on its way here left it
abbrev without_first : Link → Line → List Line → Link
without_first l x rest = record l { back = way (l.back.gone ++ x ∷ []) rest }

-- the direction back, as its first line shows it
shown_back : (l : Link) (x : Line) (rest : List Line) → l.back.coming ≡ x ∷ rest → IsOrderly l →
    IsDirection l.here l.there (way l.back.gone (x ∷ rest)) l.forth.coming
shown_back l x rest e o = subst (λ coming. IsDirection l.here l.there (way l.back.gone coming) l.forth.coming) e o.back

shown_forth : (l : Link) (x : Line) (rest : List Line) → l.back.coming ≡ x ∷ rest → IsOrderly l → IsDirection l.there l.here l.forth (x ∷ rest)
shown_forth l x rest e o = subst (λ coming. IsDirection l.there l.here l.forth coming) e o.forth

skipping_orderly : (l : Link) (x : Line) (rest : List Line) → l.back.coming ≡ x ∷ rest → IsOrderly l → IsOrderly (without_first l x rest)
skipping_orderly l x rest e o = record {
  forth = reply_leaves l.there l.here l.forth x rest (shown_forth l x rest e o);
  back = first_leaves l.here l.there l.back.gone x rest l.forth.coming (shown_back l x rest e o);
}

-- without a session, a greeting
answering_orderly : (l : Link) (g : Greeting) (rest : List Line) → l.back.coming ≡ greets g ∷ rest → l.here.is_up ≡ false → IsOrderly l →
    IsOrderly (greets_if (is_answered l.here g.number g.heard)
    (record l { here = greeted_by l.here g.number g.heard; back = way (l.back.gone ++ greets g ∷ []) rest }))
answering_orderly l g rest e waits o =
    greeting_if_orderly (is_answered l.here g.number g.heard)
    (record l { here = greeted_by l.here g.number g.heard; back = way (l.back.gone ++ greets g ∷ []) rest })
    (record {
      forth = greeted_sender l.there l.here l.forth g rest waits (shown_forth l (greets g) rest e o);
      back = greeted_receiver l.here l.there l.back.gone g rest l.forth.coming (shown_back l (greets g) rest e o);
    })
    (o.forth.untold waits)

-- a greeting, with or without one
abbrev AfterGreeting : Link → Greeting → List Line → End → Type 0
AfterGreeting l g rest e = IsOrderly (greets_if (is_answered e g.number g.heard)
    (record l { here = greeted_by e g.number g.heard; back = way (l.back.gone ++ greets g ∷ []) rest }))

greeted_orderly : (l : Link) (g : Greeting) (rest : List Line) (next : ℕ) → l.back.coming ≡ greets g ∷ rest → IsOrderly l →
    (l.here.is_up ≡ true → IsFresh next l) → AfterGreeting l g rest (ready l.here next)
greeted_orderly l g rest next e o fresh = ⊎_elim
    (λ (up : l.here.is_up ≡ true). subst (λ b. AfterGreeting l g rest (cond b (begun next l.here.heard) l.here)) (sym up)
    (answering_orderly (record l { here = begun next l.here.heard }) g rest e refl (renewed_orderly l next l.here.heard o (fresh up) (inl refl))))
    (λ (waits : l.here.is_up ≡ false). subst (λ b. AfterGreeting l g rest (cond b (begun next l.here.heard) l.here)) (sym waits)
    (answering_orderly l g rest e waits o))
    (cases_Bool l.here.is_up)

-- a part of a line, with or without a session
abbrev AfterBroken : Link → List Line → ℕ → Bool → Type 0
AfterBroken l rest next b = IsOrderly (greets_if b (record l { here = cond b (begun next l.here.heard) l.here; back = way (l.back.gone ++ broken ∷ []) rest }))

broken_orderly : (l : Link) (rest : List Line) (next : ℕ) → l.back.coming ≡ broken ∷ rest → IsOrderly l →
    (l.here.is_up ≡ true → IsFresh next l) → AfterBroken l rest next l.here.is_up
broken_orderly l rest next e o fresh = ⊎_elim
    (λ (up : l.here.is_up ≡ true). subst (AfterBroken l rest next) (sym up)
    (let m : IsOrderly (record l { here = begun next l.here.heard }) = renewed_orderly l next l.here.heard o (fresh up) (inl refl) in
    let n : IsOrderly (without_first (record l { here = begun next l.here.heard }) broken rest) =
    skipping_orderly (record l { here = begun next l.here.heard }) broken rest e m in
    greeting_orderly (without_first (record l { here = begun next l.here.heard }) broken rest) n (n.forth.untold refl)))
    (λ (waits : l.here.is_up ≡ false). subst (AfterBroken l rest next) (sym waits) (skipping_orderly l broken rest e o))
    (cases_Bool l.here.is_up)

hearing_one_orderly : (l : Link) (x : Line) (rest : List Line) (next : ℕ) → l.back.coming ≡ x ∷ rest → IsOrderly l →
    (l.here.is_up ≡ true → IsFresh next l) → IsOrderly (hears_one l x rest next)
hearing_one_orderly l (greets g) rest next e o fresh = greeted_orderly l g rest next e o fresh
hearing_one_orderly l (tells attempt m) rest next e o fresh = skipping_orderly l (tells attempt m) rest e o
hearing_one_orderly l idles rest next e o fresh = skipping_orderly l idles rest e o
hearing_one_orderly l broken rest next e o fresh = broken_orderly l rest next e o fresh

hearing_orderly : (l : Link) (coming : List Line) (next : ℕ) → l.back.coming ≡ coming → IsOrderly l →
    (l.here.is_up ≡ true → IsFresh next l) → IsOrderly (hears_first l coming next)
hearing_orderly l [] next e o fresh = o
hearing_orderly l (x ∷ rest) next e o fresh = hearing_one_orderly l x rest next e o fresh

-- ---- lines that are lost

losing_orderly : (l : Link) (count : ℕ) (gone coming : List Line) → IsOrderly (record l { forth = way gone coming }) →
    IsOrderly (record l { forth = without count gone coming })
losing_orderly l zero gone coming o = o
losing_orderly l (suc count) gone [] o = o
losing_orderly l (suc count) gone (x ∷ coming) o = losing_orderly l count (gone ++ x ∷ []) coming (record {
  forth = first_leaves l.there l.here gone x coming l.back.coming o.forth;
  back = reply_leaves l.here l.there l.back x coming o.back;
})

-- ---- lines that are written

telling_orderly : (l : Link) (m : Message) → IsOrderly l → IsOrderly (cond l.here.is_up (writes l (tells l.here.number m)) l)
telling_orderly l m o = ⊎_elim
    (λ (up : l.here.is_up ≡ true). subst (λ b. IsOrderly (cond b (writes l (tells l.here.number m)) l)) (sym up) (record {
      forth = message_written l.there l.here l.forth l.back.coming m up o.forth;
      back = reply_written l.here l.there l.back l.forth.coming (tells l.here.number m) o.back (λ other. tt);
    }))
    (λ (waits : l.here.is_up ≡ false). subst (λ b. IsOrderly (cond b (writes l (tells l.here.number m)) l)) (sym waits) o)
    (cases_Bool l.here.is_up)

greeting_again_orderly : (l : Link) → IsOrderly l → IsOrderly (cond l.here.is_up l (greets_there l))
greeting_again_orderly l o = ⊎_elim
    (λ (up : l.here.is_up ≡ true). subst (λ b. IsOrderly (cond b l (greets_there l))) (sym up) o)
    (λ (waits : l.here.is_up ≡ false). subst (λ b. IsOrderly (cond b l (greets_there l))) (sym waits)
    (greeting_orderly l o (o.forth.untold waits)))
    (cases_Bool l.here.is_up)

-- ---- all actions

pub acting_orderly : (l : Link) (a : Action) → IsOrderly l → ChoosesFresh a l → IsOrderly (acts l a)
acting_orderly l (Restarts n) o fresh = begins_orderly l n 0 o fresh (inr refl)
acting_orderly l (Begins n) o fresh = begins_orderly l n l.here.heard o fresh (inl refl)
acting_orderly l (Hears next) o fresh = hearing_orderly l l.back.coming next refl o fresh
acting_orderly l (Tells m) o fresh = telling_orderly l m o
acting_orderly l Greets o fresh = greeting_again_orderly l o
acting_orderly l Idles o fresh = record {
  forth = idle_written l.there l.here l.forth l.back.coming o.forth;
  back = reply_written l.here l.there l.back l.forth.coming idles o.back (λ other. tt);
}
acting_orderly l Breaks o fresh = record {
  forth = broken_written l.there l.here l.forth l.back.coming o.forth;
  back = reply_written l.here l.there l.back l.forth.coming broken o.back (λ other. tt);
}
acting_orderly l (Loses count) o fresh = losing_orderly l count l.forth.gone l.forth.coming o
acting_orderly l (Speaks speaker) o fresh = record { forth = o.forth; back = o.back }

-- ---- runs

pub opened_orderly : (p : Opening) → IsOpening p → IsOrderly (opened p)
opened_orderly p is = record {
  forth = record {
    some = is.some;
    known = inr (record { waits = refl; unheard = λ (e : 0 ≡ p.number). is.some (sym e); unrepeated = (λ (e : 0 ≡ p.number). is.some (sym e), tt) });
    last = (λ h. tt, tt);
    answers = (λ h. tt, tt);
    session = λ (up : false ≡ true). absurd cc;
    ordered = (λ h. tt, tt);
    untold = λ waits. (tt, tt);
  };
  back = record {
    some = is.some_there;
    known = inr (record {
      waits = refl;
      unheard = λ (e : 0 ≡ p.number_there). is.some_there (sym e);
      unrepeated = (λ (e : 0 ≡ p.number_there). is.some_there (sym e), tt);
    });
    last = (λ h. tt, tt);
    answers = (λ h. tt, tt);
    session = λ (up : false ≡ true). absurd cc;
    ordered = (λ h. tt, tt);
    untold = λ waits. (tt, tt);
  };
}

pub run_orderly : (events : List Event) (l : Link) → IsOrderly l → AreFresh events l → IsOrderly (run events l)
run_orderly [] l o fresh = o
run_orderly (Here a ∷ events) l o fresh = run_orderly events (acts l a) (acting_orderly l a o (fresh.0)) (fresh.1)
run_orderly (There a ∷ events) l o fresh =
    run_orderly events (turned (acts (turned l) a))
    (turned_orderly (acts (turned l) a) (acting_orderly (turned l) a (turned_orderly l o) (fresh.0)))
    (fresh.1)
