-- One direction of a link in order, and what each step at one of its ends leaves of it.
use mathlib.Core.Logic.{inl, inr}
use Rattle.std.proofs.Common.{◌≡◌, ◌≢◌, ◌⊎◌, ⊎_elim, ℕ, Bool, true, false, List, [], ◌∷◌, ◌++◌, refl, sym, ◌∙◌, subst, append_assoc}
use Rattle.std.specs.List.{AllByRecursion}
use Rattle.std.proofs.lemmas.Bool.{cases_eq, eqb-true, ne_eqb}
use Rattle.netchange_core.specs.declared.message.Message.{Message}
use Rattle.link_handshake.specs.Ends.{begun, greeted_by, greeting_of}
use Rattle.link_handshake.specs.Links.{IsNotOf, IsOf, IsUnrepeated, IsUntold, Line, Way, way, with_line, written}
use Rattle.link_handshake.specs.Links.Line.{broken, greets, idles, tells}
use Rattle.link_handshake.specs.declared.ends.End.{End}
use Rattle.link_handshake.specs.declared.ends.Speaker.{Speaker}
use Rattle.link_handshake.specs.declared.greeting.Greeting.{Greeting}
use Rattle.link_handshake.proofs.Each.{each_behind, each_snoc, each_weaker}
use Rattle.link_handshake.proofs.Order.{EndsIn, Follows, Ordered, TellsOf, ends_none, ends_snoc, follows_none, follows_snoc, follows_told}
use Rattle.link_handshake.proofs.Order.{not_of_untold, ordered_greeted, ordered_snoc}

-- the end that hears, r, has heard of the present attempt of the end that writes, s: so all that is on its way is of that attempt
pub record IsKnown (r s : End) (coming : List Line) : Type 0 where
  pub all : AllByRecursion (IsOf s.number) coming
  pub same : r.is_up ≡ true → r.heard ≡ s.number

-- or it has not: so the end that writes has no session, and nothing that is on its way to it says that its number was heard
pub record IsUnknown (r s : End) (replies : List Line) : Type 0 where
  pub waits : s.is_up ≡ false
  pub unheard : r.heard ≢ s.number
  pub unrepeated : AllByRecursion (IsUnrepeated s.number) replies

-- A direction in order. Behind the greeting of the present attempt all is of it; behind a greeting that answers the end that hears, all
-- messages are of the attempt that it is of; where that end is in session, all messages on their way are of the attempt that it is in
-- session with; behind a message no greeting is of its attempt; and an end without a session wrote no message in its attempt.
pub record IsDirection (r s : End) (f : Way) (replies : List Line) : Type 0 where
  pub some : s.number ≢ 0
  pub known : (IsKnown r s f.coming) ⊎ (IsUnknown r s replies)
  pub last : EndsIn s.number f.coming
  pub answers : Follows r.number f.coming
  pub session : r.is_up ≡ true → AllByRecursion (TellsOf r.heard) f.coming
  pub ordered : Ordered (written f)
  pub untold : s.is_up ≡ false → AllByRecursion (IsUntold s.number) (written f)

never : (A : Type 0) → false ≡ true → A
never A e = absurd cc

unlike : (A : Type 0) (b : Bool) → b ≡ false → b ≡ true → A
unlike A b p q = let e : false ≡ true = sym p ∙ q in never A e

-- ---- at the end that hears

-- it begins an attempt, and keeps in mind what it heard, or not
pub renewed_receiver : (r s : End) (f : Way) (replies : List Line) (n heard : ℕ) → IsDirection r s f replies → (heard ≡ r.heard) ⊎ (heard ≡ 0) →
    AllByRecursion (IsUnrepeated n) f.coming → IsDirection (begun n heard) s f replies
renewed_receiver r s f replies n heard d kept fresh = record {
  some = d.some;
  known = ⊎_elim
      (λ (k : IsKnown r s f.coming). inl (record { all = k.all; same = λ up. never (heard ≡ s.number) up }))
      (λ (u : IsUnknown r s replies). inr (record {
        waits = u.waits;
        unheard = λ same. ⊎_elim (λ (kept : heard ≡ r.heard). u.unheard (sym kept ∙ same)) (λ (none : heard ≡ 0). d.some (sym same ∙ none)) kept;
        unrepeated = u.unrepeated;
      }))
      d.known;
  last = d.last;
  answers = follows_none n f.coming fresh;
  session = λ up. never (AllByRecursion (TellsOf heard) f.coming) up;
  ordered = d.ordered;
  untold = d.untold;
}

-- all lines are written as they were once the first one left
moved : (P : List Line → Type 0) (gone : List Line) (x : Line) (rest : List Line) → P (gone ++ x ∷ rest) → P ((gone ++ x ∷ []) ++ rest)
moved P gone x rest p = subst P (sym (append_assoc gone (x ∷ []) rest)) p

-- without a session it hears a greeting
pub greeted_receiver : (r s : End) (gone : List Line) (g : Greeting) (rest replies : List Line) → IsDirection r s (way gone (greets g ∷ rest)) replies →
    IsDirection (greeted_by r g.number g.heard) s (way (gone ++ greets g ∷ []) rest) replies
greeted_receiver r s gone g rest replies d = record {
  some = d.some;
  known = ⊎_elim
      (λ (same : g.number ≡ s.number). inl (record { all = d.last.0 same; same = λ up. same }))
      (λ (other : g.number ≡ s.number → ⊥). inr (⊎_elim
      (λ (k : IsKnown r s (greets g ∷ rest)). absurd (other (k.all.0)))
      (λ (u : IsUnknown r s replies). record { waits = u.waits; unheard = other; unrepeated = u.unrepeated })
      d.known))
      (cases_eq g.number s.number);
  last = d.last.1;
  answers = d.answers.1;
  session = λ up. d.answers.0 (eqb-true g.heard r.number up);
  ordered = moved Ordered gone (greets g) rest d.ordered;
  untold = λ waits. moved (AllByRecursion (IsUntold s.number)) gone (greets g) rest (d.untold waits);
}

-- a line that changes nothing is heard, or the first line is lost
pub first_leaves : (r s : End) (gone : List Line) (x : Line) (rest replies : List Line) → IsDirection r s (way gone (x ∷ rest)) replies →
    IsDirection r s (way (gone ++ x ∷ []) rest) replies
first_leaves r s gone x rest replies d = record {
  some = d.some;
  known = ⊎_elim
      (λ (k : IsKnown r s (x ∷ rest)). inl (record { all = k.all.1; same = k.same }))
      (λ (u : IsUnknown r s replies). inr u)
      d.known;
  last = d.last.1;
  answers = d.answers.1;
  session = λ up. (d.session up).1;
  ordered = moved Ordered gone x rest d.ordered;
  untold = λ waits. moved (AllByRecursion (IsUntold s.number)) gone x rest (d.untold waits);
}

-- it writes a line, which says no more than that it heard what it heard
pub reply_written : (r s : End) (f : Way) (replies : List Line) (x : Line) → IsDirection r s f replies →
    (r.heard ≢ s.number → IsUnrepeated s.number x) → IsDirection r s f (replies ++ x ∷ [])
reply_written r s f replies x d says = record {
  some = d.some;
  known = ⊎_elim
      (λ (k : IsKnown r s f.coming). inl k)
      (λ (u : IsUnknown r s replies). inr (record {
        waits = u.waits;
        unheard = u.unheard;
        unrepeated = each_snoc (IsUnrepeated s.number) replies x u.unrepeated (says u.unheard);
      }))
      d.known;
  last = d.last;
  answers = d.answers;
  session = d.session;
  ordered = d.ordered;
  untold = d.untold;
}

-- ---- at the end that writes

-- a line to it leaves the other direction
pub reply_leaves : (r s : End) (f : Way) (x : Line) (replies : List Line) → IsDirection r s f (x ∷ replies) → IsDirection r s f replies
reply_leaves r s f x replies d = record {
  some = d.some;
  known = ⊎_elim
      (λ (k : IsKnown r s f.coming). inl k)
      (λ (u : IsUnknown r s (x ∷ replies)). inr (record { waits = u.waits; unheard = u.unheard; unrepeated = u.unrepeated.1 }))
      d.known;
  last = d.last;
  answers = d.answers;
  session = d.session;
  ordered = d.ordered;
  untold = d.untold;
}

-- without a session it hears a greeting
pub greeted_sender : (r s : End) (f : Way) (g : Greeting) (replies : List Line) → s.is_up ≡ false → IsDirection r s f (greets g ∷ replies) →
    IsDirection r (greeted_by s g.number g.heard) f replies
greeted_sender r s f g replies waits d = record {
  some = d.some;
  known = ⊎_elim
      (λ (k : IsKnown r s f.coming). inl (record { all = k.all; same = k.same }))
      (λ (u : IsUnknown r s (greets g ∷ replies)). inr (record {
        waits = ne_eqb g.heard s.number (u.unrepeated.0);
        unheard = u.unheard;
        unrepeated = u.unrepeated.1;
      }))
      d.known;
  last = d.last;
  answers = d.answers;
  session = d.session;
  ordered = d.ordered;
  untold = λ still. d.untold waits;
}

-- it begins an attempt, of which there is no line yet
pub renewed_sender : (r s : End) (f : Way) (replies : List Line) (n heard : ℕ) → IsDirection r s f replies → n ≢ 0 → r.heard ≢ n →
    AllByRecursion (IsUnrepeated n) replies → AllByRecursion (IsNotOf n) (written f) → IsDirection r (begun n heard) f replies
renewed_sender r s f replies n heard d some unheard unrepeated own = record {
  some = some;
  known = inr (record { waits = refl; unheard = unheard; unrepeated = unrepeated });
  last = ends_none n f.coming (each_behind (IsNotOf n) f.gone f.coming own);
  answers = d.answers;
  session = d.session;
  ordered = d.ordered;
  untold = λ waits. each_weaker (IsNotOf n) (IsUntold n) (not_of_untold n) (written f) own;
}

-- what a line has to be so that it can be written
pub record CanBeWritten (r s : End) (f : Way) (x : Line) : Type 0 where
  pub of : IsOf s.number x
  pub session : IsKnown r s f.coming → r.is_up ≡ true → TellsOf r.heard x
  pub unknown : s.is_up ≡ false → (k : ℕ) → TellsOf k x
  pub answers : Follows r.number (f.coming ++ x ∷ [])
  pub ordered : Ordered (written f ++ x ∷ [])
  pub untold : s.is_up ≡ false → IsUntold s.number x

joined : (P : List Line → Type 0) (f : Way) (x : Line) → P (written f ++ x ∷ []) → P (written (with_line f x))
joined P f x p = subst P (append_assoc f.gone f.coming (x ∷ [])) p

pub line_written : (r s : End) (f : Way) (replies : List Line) (x : Line) → IsDirection r s f replies → CanBeWritten r s f x →
    IsDirection r s (with_line f x) replies
line_written r s f replies x d can = record {
  some = d.some;
  known = ⊎_elim
      (λ (k : IsKnown r s f.coming). inl (record { all = each_snoc (IsOf s.number) f.coming x k.all can.of; same = k.same }))
      (λ (u : IsUnknown r s replies). inr u)
      d.known;
  last = ends_snoc s.number f.coming x d.last can.of;
  answers = can.answers;
  session = λ up. each_snoc (TellsOf r.heard) f.coming x (d.session up) (⊎_elim
      (λ (k : IsKnown r s f.coming). can.session k up)
      (λ (u : IsUnknown r s replies). can.unknown u.waits r.heard)
      d.known);
  ordered = joined Ordered f x can.ordered;
  untold = λ waits. joined (AllByRecursion (IsUntold s.number)) f x (each_snoc (IsUntold s.number) (written f) x (d.untold waits) (can.untold waits));
}

-- its greeting, where it wrote no message in its attempt
pub greeting_written : (r s : End) (f : Way) (replies : List Line) (who : Speaker) → IsDirection r s f replies →
    AllByRecursion (IsUntold s.number) (written f) → IsDirection r s (with_line f (greets (greeting_of who s))) replies
greeting_written r s f replies who d untold = line_written r s f replies (greets (greeting_of who s)) d (record {
  of = refl;
  session = λ k up. tt;
  unknown = λ waits k. tt;
  answers = follows_snoc r.number f.coming (greets (greeting_of who s)) d.answers (λ k. tt);
  ordered = ordered_greeted (greeting_of who s) (written f) d.ordered untold;
  untold = λ waits. tt;
})

-- a message, in session
pub message_written : (r s : End) (f : Way) (replies : List Line) (m : Message) → s.is_up ≡ true → IsDirection r s f replies →
    IsDirection r s (with_line f (tells s.number m)) replies
message_written r s f replies m up d = ⊎_elim
    (λ (k : IsKnown r s f.coming). line_written r s f replies (tells s.number m) d (record {
      of = refl;
      session = λ _ there. sym (k.same there);
      unknown = λ waits n. unlike (s.number ≡ n) s.is_up waits up;
      answers = follows_told s.number r.number m f.coming d.answers k.all;
      ordered = ordered_snoc (written f) (tells s.number m) d.ordered (λ n. tt);
      untold = λ waits. unlike (s.number ≢ s.number) s.is_up waits up;
    }))
    (λ (u : IsUnknown r s replies). unlike (IsDirection r s (with_line f (tells s.number m)) replies) s.is_up u.waits up)
    d.known

-- an empty line, and a part of a line
pub idle_written : (r s : End) (f : Way) (replies : List Line) → IsDirection r s f replies → IsDirection r s (with_line f idles) replies
idle_written r s f replies d = line_written r s f replies idles d (record {
  of = tt;
  session = λ k up. tt;
  unknown = λ waits k. tt;
  answers = follows_snoc r.number f.coming idles d.answers (λ k. tt);
  ordered = ordered_snoc (written f) idles d.ordered (λ k. tt);
  untold = λ waits. tt;
})

pub broken_written : (r s : End) (f : Way) (replies : List Line) → IsDirection r s f replies → IsDirection r s (with_line f broken) replies
broken_written r s f replies d = line_written r s f replies broken d (record {
  of = tt;
  session = λ k up. tt;
  unknown = λ waits k. tt;
  answers = follows_snoc r.number f.coming broken d.answers (λ k. tt);
  ordered = ordered_snoc (written f) broken d.ordered (λ k. tt);
  untold = λ waits. tt;
})
