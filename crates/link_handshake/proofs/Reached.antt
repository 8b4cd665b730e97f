-- What holds of each link that is reached.
use Rattle.std.proofs.Common.{◌≡◌, ⊎_elim, ℕ, cond, Bool, true, false, List, ◌∷◌, ◌++◌, Some, None, refl, sym, ◌∙◌, ap, subst}
use Rattle.std.specs.List.{AllByRecursion}
use Rattle.std.proofs.lemmas.Bool.{eqb-true}
use Rattle.std.proofs.lemmas.Option.{cond_some}
use Rattle.netchange_core.specs.declared.message.Message.{Message}
use Rattle.link_handshake.specs.Ends.{begun, heard_line, ready}
use Rattle.link_handshake.specs.Events.{IsReached}
use Rattle.link_handshake.specs.Links.{IsUntold, Line, Link, opened, said_of, turned}
use Rattle.link_handshake.specs.Links.Line.{broken, greets, idles, tells}
use Rattle.link_handshake.specs.declared.ends.End.{End}
use Rattle.link_handshake.specs.declared.greeting.Greeting.{Greeting}
use Rattle.link_handshake.specs.declared.said.Said.TheVariants as said
use Rattle.link_handshake.proofs.Acting.{IsOrderly, opened_orderly, run_orderly, turned_orderly}
use Rattle.link_handshake.proofs.Direction.{IsKnown, IsUnknown}
use Rattle.link_handshake.proofs.Order.{Ordered, TellsOf, untold_before}

pub reached_orderly : (l : Link) → IsReached l → IsOrderly l
reached_orderly l r = subst IsOrderly r.is (run_orderly r.events (opened r.opening) (opened_orderly r.opening r.opens) r.fresh)

-- ---- messages that are taken

said_some : (attempt heard : ℕ) (m n : Message) → attempt ≡ heard → m ≡ n → tells attempt m ≡ tells heard n
said_some attempt heard m n p q = ap (λ k. tells k m) p ∙ ap (λ t. tells heard t) q

taken_at : (l : Link) (x : Line) (rest : List Line) (next : ℕ) (m : Message) → (l.here.is_up ≡ true → AllByRecursion (TellsOf l.here.heard) (x ∷ rest)) →
    (heard_line l.here (said_of x) next).taken ≡ Some m → x ≡ tells l.here.heard m
taken_at l (greets g) rest next m session e = let f : None ≡ Some m = e in absurd cc
taken_at l (tells attempt n) rest next m session e =
    let found = cond_some l.here.is_up n m e in
    said_some attempt l.here.heard n m ((session found.0).0) found.1
taken_at l idles rest next m session e = let f : None ≡ Some m = e in absurd cc
taken_at l broken rest next m session e = let f : None ≡ Some m = e in absurd cc

pub taken_of_session : (l : Link) (x : Line) (rest : List Line) (next : ℕ) (m : Message) → IsOrderly l → l.back.coming ≡ x ∷ rest →
    (heard_line l.here (said_of x) next).taken ≡ Some m → x ≡ tells l.here.heard m
taken_of_session l x rest next m o e taken =
    taken_at l x rest next m (λ up. subst (AllByRecursion (TellsOf l.here.heard)) e (o.back.session up)) taken

-- ---- ends that come up

pub answers_present : (e : End) (g : Greeting) (next : ℕ) → (heard_line e (said.Greeting g) next).end.is_up ≡ true →
    (g.heard ≡ (heard_line e (said.Greeting g) next).end.number) × ((heard_line e (said.Greeting g) next).end.heard ≡ g.number)
answers_present e g next up = (eqb-true g.heard (ready e next).number up, refl)

stays : (A : Type 0) (b : Bool) → b ≡ false → b ≡ true → A
stays A b p q = let e : false ≡ true = sym p ∙ q in absurd cc

waiting_number : (e : End) (next : ℕ) → e.is_up ≡ false → (ready e next).number ≡ e.number
waiting_number e next waits = ap (λ b. (cond b (begun next e.heard) e).number) waits

waiting_up : (e : End) (next : ℕ) → e.is_up ≡ false → (ready e next).is_up ≡ false
waiting_up e next waits = ap (λ b. (cond b (begun next e.heard) e).is_up) waits ∙ waits

pub only_greetings : (e : End) (x : Line) (next : ℕ) → e.is_up ≡ false → (heard_line e (said_of x) next).end.is_up ≡ true →
    (g : Greeting) × (x ≡ greets g) × (g.heard ≡ e.number)
only_greetings e (greets g) next waits up = (g, refl, eqb-true g.heard (ready e next).number up ∙ waiting_number e next waits)
only_greetings e (tells attempt m) next waits up = stays ((g : Greeting) × (tells attempt m ≡ greets g) × (g.heard ≡ e.number)) e.is_up waits up
only_greetings e idles next waits up = stays ((g : Greeting) × (idles ≡ greets g) × (g.heard ≡ e.number)) e.is_up waits up
only_greetings e broken next waits up =
    stays ((g : Greeting) × (broken ≡ greets g) × (g.heard ≡ e.number)) (ready e next).is_up (waiting_up e next waits) up

-- an end that is up is known to the other: what it wrote before is on its way no more
pub known_here : (l : Link) → IsOrderly l → l.here.is_up ≡ true → IsKnown l.there l.here l.forth.coming
known_here l o up = ⊎_elim
    (λ (k : IsKnown l.there l.here l.forth.coming). k)
    (λ (u : IsUnknown l.there l.here l.back.coming). stays (IsKnown l.there l.here l.forth.coming) l.here.is_up u.waits up)
    o.forth.known

pub both_present : (l : Link) → IsOrderly l → l.here.is_up ≡ true → l.there.is_up ≡ true →
    (l.here.heard ≡ l.there.number) × (l.there.heard ≡ l.here.number)
both_present l o up there = ((known_here (turned l) (turned_orderly l o) there).same up, (known_here l o up).same there)

-- ---- messages that are not skipped

pub none_skipped : (l : Link) (g : Greeting) (rest : List Line) → IsOrderly l → l.back.coming ≡ greets g ∷ rest →
    AllByRecursion (IsUntold g.number) l.back.gone
none_skipped l g rest o e =
    untold_before g l.back.gone rest (subst (λ coming. Ordered (l.back.gone ++ coming)) e o.back.ordered)
