-- Two ends meet where one of them greets and nothing else is on its way.
use Rattle.std.proofs.Common.{◌≡◌, ◌≢◌, ⊎_elim, ℕ, ◌==◌, ◌&&◌, not, cond, Bool, true, false, List, [], ◌∷◌, ◌++◌, refl, sym, ◌∙◌, ap, subst}
use Rattle.std.proofs.lemmas.Bool.{cases_Bool, eq-eqb, eqb-true, ne_eqb}
use Rattle.link_handshake.specs.Ends.{begun, greeted_by, greeting_of, is_answered, ready}
use Rattle.link_handshake.specs.Events.{IsInStep, acts, greeting_round, happens, run}
use Rattle.link_handshake.specs.Events.Action.{Greets, Hears}
use Rattle.link_handshake.specs.Events.Event.{Here, There}
use Rattle.link_handshake.specs.Links.{Line, Link, greets_if, greets_there, hears_first, turned, way}
use Rattle.link_handshake.specs.Links.Line.{greets}
use Rattle.link_handshake.specs.declared.ends.End.{End}
use Rattle.link_handshake.specs.declared.ends.Speaker.{Speaker}
use Rattle.link_handshake.specs.declared.greeting.Greeting.{Greeting}

-- ---- where there is nothing to do

greets_nothing : (l : Link) → l.here.is_up ≡ true → happens l (Here Greets) ≡ l
greets_nothing l up = ap (λ b. cond b l (greets_there l)) up

hears_nothing : (l : Link) (next : ℕ) → l.back.coming ≡ [] → happens l (Here (Hears next)) ≡ l
hears_nothing l next e = ap (λ coming. hears_first l coming next) e

hears_nothing_there : (l : Link) (next : ℕ) → l.forth.coming ≡ [] → happens l (There (Hears next)) ≡ l
hears_nothing_there l next e = ap (λ coming. turned (hears_first (turned l) coming next)) e

calm_round : (l : Link) (next : ℕ) → IsInStep l → run (greeting_round next) l ≡ l
calm_round l next s =
    ap (run (There (Hears next) ∷ (Here (Hears next) ∷ (There (Hears next) ∷ [])))) (greets_nothing l s.here)
    ∙ ap (run (Here (Hears next) ∷ (There (Hears next) ∷ []))) (hears_nothing_there l next s.forth)
    ∙ ap (run (There (Hears next) ∷ [])) (hears_nothing l next s.back)
    ∙ hears_nothing_there l next s.forth

-- ---- a greeting that is heard

-- what is first on its way here is a greeting: what the end is then, and whether it answers
heard_greeting : (l : Link) (g : Greeting) (gone rest : List Line) (e : End) (b : Bool) (next : ℕ) →
    greeted_by (ready l.here next) g.number g.heard ≡ e → is_answered (ready l.here next) g.number g.heard ≡ b →
    acts (record l { back = way gone (greets g ∷ rest) }) (Hears next) ≡ greets_if b (record l { here = e; back = way (gone ++ greets g ∷ []) rest })
heard_greeting l g gone rest e b next is answer =
    ap (λ e. greets_if (is_answered (ready l.here next) g.number g.heard) (record l { here = e; back = way (gone ++ greets g ∷ []) rest })) is
    ∙ ap (λ b. greets_if b (record l { here = e; back = way (gone ++ greets g ∷ []) rest })) answer

abbrev end : ℕ → ℕ → Bool → End
end number heard is_up = record { number = number; heard = heard; is_up = is_up }

-- what both ends are, who they are, and what left each direction; and what is on its way
pub record Still : Type 0 where
  pub speaker : Speaker
  pub other : Speaker
  pub gone : List Line
  pub gone_back : List Line

abbrev link : Still → End → End → List Line → List Line → Link
link s here there coming coming_back = record {
  here = here;
  there = there;
  speaker = s.speaker;
  other = s.other;
  forth = way s.gone coming;
  back = way s.gone_back coming_back;
}

abbrev says : Still → End → Line
says s e = greets (greeting_of s.speaker e)

abbrev says_there : Still → End → Line
says_there s e = greets (greeting_of s.other e)

-- more left a direction
abbrev went : Still → Line → Still
went s x = record s { gone = s.gone ++ x ∷ [] }

abbrev went_back : Still → Line → Still
went_back s x = record s { gone_back = s.gone_back ++ x ∷ [] }

abbrev if_said : Bool → Line → List Line
if_said true x = x ∷ []
if_said false x = []

answered_by : (b : Bool) (l : Link) → greets_if b l ≡ record l { forth = way l.forth.gone (l.forth.coming ++ if_said b (greets (greeting_of l.speaker l.here))) }
answered_by true l = refl
answered_by false l = ap (λ coming. record l { forth = way l.forth.gone coming }) (sym (append_nil l.forth.coming))
  where
    append_nil : (xs : List Line) → xs ++ [] ≡ xs
    append_nil [] = refl
    append_nil (x ∷ xs) = ap (λ ys. x ∷ ys) (append_nil xs)

-- the end there hears what this end said
heard_there : (s : Still) (here there : End) (e : End) (b : Bool) (next : ℕ) → greeted_by (ready there next) here.number here.heard ≡ e →
    is_answered (ready there next) here.number here.heard ≡ b →
    happens (link s here there (says s here ∷ []) []) (There (Hears next)) ≡ link (went s (says s here)) here e [] (if_said b (says_there s e))
heard_there s here there e b next is answer =
    ap turned (heard_greeting (turned (link s here there [] [])) (greeting_of s.speaker here) s.gone [] e b next is answer
    ∙ answered_by b (turned (link (went s (says s here)) here e [] [])))

-- this end hears what the end there said
heard_here : (s : Still) (here there : End) (e : End) (b : Bool) (next : ℕ) → greeted_by (ready here next) there.number there.heard ≡ e →
    is_answered (ready here next) there.number there.heard ≡ b →
    happens (link s here there [] (says_there s there ∷ [])) (Here (Hears next)) ≡ link (went_back s (says_there s there)) e there (if_said b (says s e)) []
heard_here s here there e b next is answer =
    heard_greeting (link s here there [] []) (greeting_of s.other there) s.gone_back [] e b next is answer
    ∙ answered_by b (link (went_back s (says_there s there)) e there [] [])

-- ---- a round

-- what follows the greeting of this end
abbrev rest_of_round : ℕ → Link → Link
rest_of_round next l = run (There (Hears next) ∷ (Here (Hears next) ∷ (There (Hears next) ∷ []))) l

abbrev greeted_link : Still → End → End → Link
greeted_link s here there = link s here there (says s here ∷ []) []

-- both are up with one another
in_step : (s : Still) (a b : ℕ) → IsInStep (link s (end a b true) (end b a true) [] [])
in_step s a b = record { here = refl; there = refl; heard = refl; heard_there = refl; forth = refl; back = refl }

same : (a : ℕ) → (a == a) ≡ true
same a = eq-eqb a a refl

-- the other end has not said yet that it heard this one: it answers, which is answered again
three_heard : (s : Still) (a x b h next : ℕ) (ub : Bool) (there : End) → ready (end b h ub) next ≡ there → (x == there.number) ≡ false →
    there.is_up ≡ false → IsInStep (rest_of_round next (greeted_link s (end a x false) (end b h ub)))
three_heard s a x b h next ub there begins other waits =
    subst IsInStep (sym (first ∙ second ∙ third)) (in_step s3 a there.number)
  where
    s1 : Still
    s1 = went s (says s (end a x false))

    heard1 : End
    heard1 = end there.number a false

    s2 : Still
    s2 = went_back s1 (says_there s1 heard1)

    heard2 : End
    heard2 = end a there.number true

    s3 : Still
    s3 = went s2 (says s2 heard2)

    up1 : greeted_by (ready (end b h ub) next) a x ≡ heard1
    up1 = ap (λ e. greeted_by e a x) begins ∙ ap (λ u. end there.number a u) other

    answer1 : is_answered (ready (end b h ub) next) a x ≡ true
    answer1 = ap (λ e. is_answered e a x) begins ∙ ap (λ u. not (u && (there.heard == a))) other

    up2 : greeted_by (ready (end a x false) next) there.number a ≡ heard2
    up2 = ap (λ u. end a there.number u) (same a)

    answer2 : is_answered (ready (end a x false) next) there.number a ≡ true
    answer2 = ap (λ u. not (u && (x == there.number))) (same a) ∙ ap not other

    up3 : greeted_by (ready heard1 next) a there.number ≡ end there.number a true
    up3 = ap (λ u. end there.number a u) (same there.number)

    answer3 : is_answered (ready heard1 next) a there.number ≡ false
    answer3 = ap (λ u. not (u && (a == a))) (same there.number) ∙ ap not (same a)

    first : rest_of_round next (greeted_link s (end a x false) (end b h ub))
        ≡ run (Here (Hears next) ∷ (There (Hears next) ∷ [])) (link s1 (end a x false) heard1 [] (says_there s1 heard1 ∷ []))
    first = ap (run (Here (Hears next) ∷ (There (Hears next) ∷ []))) (heard_there s (end a x false) (end b h ub) heard1 true next up1 answer1)

    second : run (Here (Hears next) ∷ (There (Hears next) ∷ [])) (link s1 (end a x false) heard1 [] (says_there s1 heard1 ∷ []))
        ≡ run (There (Hears next) ∷ []) (link s2 heard2 heard1 (says s2 heard2 ∷ []) [])
    second = ap (run (There (Hears next) ∷ [])) (heard_here s1 (end a x false) heard1 heard2 true next up2 answer2)

    third : run (There (Hears next) ∷ []) (link s2 heard2 heard1 (says s2 heard2 ∷ []) []) ≡ link s3 heard2 (end there.number a true) [] []
    third = heard_there s2 heard2 heard1 (end there.number a true) false next up3 answer3

-- the other end was in session: it begins anew
up_round : (s : Still) (a x b h next : ℕ) → x ≢ next → IsInStep (rest_of_round next (greeted_link s (end a x false) (end b h true)))
up_round s a x b h next other = three_heard s a x b h next true (begun next h) refl (ne_eqb x next other) refl

-- it had none, and this end's greeting does not repeat its number
apart_round : (s : Still) (a x b h next : ℕ) → (x == b) ≡ false → IsInStep (rest_of_round next (greeted_link s (end a x false) (end b h false)))
apart_round s a x b h next other = three_heard s a x b h next false (end b h false) refl other refl

-- this end's greeting repeats its number: it comes up, and has to answer
answered_round : (s : Still) (a b h next : ℕ) → (h == a) ≡ false → IsInStep (rest_of_round next (greeted_link s (end a b false) (end b h false)))
answered_round s a b h next other = subst IsInStep (sym (first ∙ second ∙ third)) (in_step s2 a b)
  where
    s1 : Still
    s1 = went s (says s (end a b false))

    heard1 : End
    heard1 = end b a true

    s2 : Still
    s2 = went_back s1 (says_there s1 heard1)

    heard2 : End
    heard2 = end a b true

    up1 : greeted_by (end b h false) a b ≡ heard1
    up1 = ap (λ u. end b a u) (same b)

    answer1 : is_answered (end b h false) a b ≡ true
    answer1 = ap (λ u. not (u && (h == a))) (same b) ∙ ap not other

    up2 : greeted_by (end a b false) b a ≡ heard2
    up2 = ap (λ u. end a b u) (same a)

    answer2 : is_answered (end a b false) b a ≡ false
    answer2 = ap (λ u. not (u && (b == b))) (same a) ∙ ap not (same b)

    first : rest_of_round next (greeted_link s (end a b false) (end b h false))
        ≡ run (Here (Hears next) ∷ (There (Hears next) ∷ [])) (link s1 (end a b false) heard1 [] (says_there s1 heard1 ∷ []))
    first = ap (run (Here (Hears next) ∷ (There (Hears next) ∷ []))) (heard_there s (end a b false) (end b h false) heard1 true next up1 answer1)

    second : run (Here (Hears next) ∷ (There (Hears next) ∷ [])) (link s1 (end a b false) heard1 [] (says_there s1 heard1 ∷ []))
        ≡ run (There (Hears next) ∷ []) (link s2 heard2 heard1 [] [])
    second = ap (run (There (Hears next) ∷ [])) (heard_here s1 (end a b false) heard1 heard2 false next up2 answer2)

    third : run (There (Hears next) ∷ []) (link s2 heard2 heard1 [] []) ≡ link s2 heard2 heard1 [] []
    third = refl

-- it said before that it heard this end, which was lost: it comes up, and this end does not
unanswered_round : (s : Still) (a b next : ℕ) → rest_of_round next (greeted_link s (end a b false) (end b a false))
    ≡ link (went s (says s (end a b false))) (end a b false) (end b a true) [] []
unanswered_round s a b next = ap (run (Here (Hears next) ∷ (There (Hears next) ∷ []))) (heard_there s (end a b false) (end b a false) (end b a true) false next up answer)
  where
    up : greeted_by (end b a false) a b ≡ end b a true
    up = ap (λ u. end b a u) (same b)

    answer : is_answered (end b a false) a b ≡ false
    answer = ap (λ u. not (u && (a == a))) (same b) ∙ ap not (same a)

-- ---- two rounds

abbrev two_rounds : ℕ → Link → Link
two_rounds next l = run (greeting_round next) (run (greeting_round next) l)

after_one : (l : Link) (next : ℕ) → IsInStep (run (greeting_round next) l) → IsInStep (two_rounds next l)
after_one l next s = subst IsInStep (sym (calm_round (run (greeting_round next) l) next s)) s

waiting_rounds : (s : Still) (a x b h next : ℕ) → x ≢ next → IsInStep (two_rounds next (link s (end a x false) (end b h false) [] []))
waiting_rounds s a x b h next other = ⊎_elim
    (λ (knows : (x == b) ≡ true). ⊎_elim
    (λ (known : (h == a) ≡ true). again (eqb-true x b knows) (eqb-true h a known))
    (λ (unknown : (h == a) ≡ false). after_one (link s (end a x false) (end b h false) [] []) next
    (subst (λ y. IsInStep (rest_of_round next (greeted_link s (end a y false) (end b h false)))) (sym (eqb-true x b knows)) (answered_round s a b h next unknown)))
    (cases_Bool (h == a)))
    (λ (apart : (x == b) ≡ false). after_one (link s (end a x false) (end b h false) [] []) next (apart_round s a x b h next apart))
    (cases_Bool (x == b))
  where
    again : x ≡ b → h ≡ a → IsInStep (two_rounds next (link s (end a x false) (end b h false) [] []))
    again p q =
        subst (λ y. IsInStep (two_rounds next (link s (end a y false) (end b h false) [] []))) (sym p)
        (subst (λ k. IsInStep (two_rounds next (link s (end a b false) (end b k false) [] []))) (sym q)
        (subst (λ l. IsInStep (run (greeting_round next) l)) (sym (unanswered_round s a b next))
        (up_round (went s (says s (end a b false))) a b b a next (subst (λ y. y ≢ next) p other))))

quiet_rounds : (s : Still) (a x : ℕ) (there : End) (up : Bool) (next : ℕ) → there.is_up ≡ up → x ≢ next →
    IsInStep (two_rounds next (link s (end a x false) (end there.number there.heard up) [] []))
quiet_rounds s a x there true next is other =
    after_one (link s (end a x false) (end there.number there.heard true) [] []) next (up_round s a x there.number there.heard next other)
quiet_rounds s a x there false next is other = waiting_rounds s a x there.number there.heard next other

pub meet : (l : Link) (next : ℕ) → l.forth.coming ≡ [] → l.back.coming ≡ [] → l.here.is_up ≡ false → l.here.heard ≢ next →
    IsInStep (run (greeting_round next ++ greeting_round next) l)
meet l next forth back waits other =
    subst (λ coming. IsInStep (two_rounds next (record l { forth = way l.forth.gone coming }))) (sym forth)
    (subst (λ coming. IsInStep (two_rounds next (record l { forth = way l.forth.gone []; back = way l.back.gone coming }))) (sym back)
    (subst (λ up. IsInStep (two_rounds next (link still (end l.here.number l.here.heard up) l.there [] []))) (sym waits)
    (quiet_rounds still l.here.number l.here.heard l.there l.there.is_up next refl other)))
  where
    still : Still
    still = record { speaker = l.speaker; other = l.other; gone = l.forth.gone; gone_back = l.back.gone }
