-- Greetings do not become more by being heard.
use Rattle.std.proofs.Common.{◌≡◌, ℕ, ◌+◌, ◌≤◌, Bool, true, false, List, [], ◌∷◌, ◌++◌, refl, sym, subst, arith}
use Rattle.link_handshake.specs.Ends.{greeted_by, greeting_of, is_answered, ready}
use Rattle.link_handshake.specs.Events.{acts, greetings, on_their_way}
use Rattle.link_handshake.specs.Events.Action.{Hears}
use Rattle.link_handshake.specs.Links.{Line, Link, greets_if, hears_first, way}
use Rattle.link_handshake.specs.Links.Line.{broken, greets, idles, tells}
use Rattle.link_handshake.specs.declared.greeting.Greeting.{Greeting}

one_more : (xs : List Line) (g : Greeting) → greetings (xs ++ greets g ∷ []) ≡ greetings xs + 1
one_more [] g = refl
one_more (greets h ∷ xs) g = omega (arith, one_more xs g)
one_more (tells attempt m ∷ xs) g = one_more xs g
one_more (idles ∷ xs) g = one_more xs g
one_more (broken ∷ xs) g = one_more xs g

grown : (b : Bool) (l : Link) → on_their_way (greets_if b l) ≤ on_their_way l + 1
grown true l = omega (arith, one_more l.forth.coming (greeting_of l.speaker l.here))
grown false l = omega arith

abbrev after_hearing : Link → Greeting → List Line → ℕ → Link
after_hearing l g rest next =
    record l { here = greeted_by (ready l.here next) g.number g.heard; back = way (l.back.gone ++ greets g ∷ []) rest }

hearing : (l : Link) (g : Greeting) (rest : List Line) (next : ℕ) →
    on_their_way (hears_first l (greets g ∷ rest) next) ≤ greetings l.forth.coming + greetings (greets g ∷ rest)
hearing l g rest next =
    omega (arith, grown (is_answered (ready l.here next) g.number g.heard) (after_hearing l g rest next))

pub no_more : (l : Link) (g : Greeting) (rest : List Line) (next : ℕ) → l.back.coming ≡ greets g ∷ rest →
    on_their_way (acts l (Hears next)) ≤ on_their_way l
no_more l g rest next e =
    subst (λ coming. on_their_way (hears_first l coming next) ≤ greetings l.forth.coming + greetings coming) (sym e) (hearing l g rest next)
