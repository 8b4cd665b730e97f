-- What is on its way from one node to another.
use Rattle.std.proofs.Common.{◌≡◌, ⊎_elim, ℕ, cond, nat_eq, true, false, Bool, List, [], ◌∷◌, ◌++◌, map, refl, sym, ap, ◌∙◌, eq-eqb, ne_eqb}
use Rattle.std.specs.Prelude.{◌&&◌, filter}
use Rattle.std.proofs.lemmas.Bool.{and_from}
use Rattle.std.proofs.lemmas.List.{append-nil, map-append}
use Rattle.std.proofs.lemmas.List.Elements.{filter-append}
use Rattle.netchange_core.specs.declared.message.Message.{Message}
use Rattle.routing_domain.specs.Changes.{is_pair}
use Rattle.domain_player.specs.declared.sent.Sent.{Sent}
use Rattle.domain_player.specs.Play.{sent_by, under_way}

abbrev goes : ℕ → ℕ → Sent → Bool
goes u w s = is_pair u w s.from s.to

under_way_both : (u w : ℕ) (ss ts : List Sent) → under_way (ss ++ ts) u w ≡ under_way ss u w ++ under_way ts u w
under_way_both u w ss ts =
    ap (λ xs. map (λ s. s.message) xs) (filter-append (goes u w) ss ts)
    ∙ map-append (λ s. s.message) (filter (goes u w) ss) (filter (goes u w) ts)

-- the first of them, where it goes there, and where it does not
pub under_way_first : (s : Sent) (ss : List Sent) → under_way (s ∷ ss) s.from s.to ≡ s.message ∷ under_way ss s.from s.to
under_way_first s ss =
    ap (λ b. map (λ s. s.message) (cond b (s ∷ filter (goes s.from s.to) ss) (filter (goes s.from s.to) ss)))
    (and_from (nat_eq s.from s.from) (nat_eq s.to s.to) (eq-eqb s.from s.from refl) (eq-eqb s.to s.to refl))

pub under_way_other : (u w : ℕ) (s : Sent) (ss : List Sent) → is_pair u w s.from s.to ≡ false → under_way (s ∷ ss) u w ≡ under_way ss u w
under_way_other u w s ss unlike = ap (λ b. map (λ s. s.message) (cond b (s ∷ filter (goes u w) ss) (filter (goes u w) ss))) unlike

-- two other nodes, or one
pub other_from : (u w a b : ℕ) → (a ≡ u → ⊥) → is_pair a b u w ≡ false
other_from u w a b apart = ap (λ t. t && nat_eq w b) (ne_eqb u a (λ e. apart (sym e)))

pub other_to : (u w a b : ℕ) → (b ≡ w → ⊥) → is_pair a b u w ≡ false
other_to u w a b apart = ap (λ t. nat_eq u a && t) (ne_eqb w b (λ e. apart (sym e))) ∙ never (nat_eq u a)
  where
    never : (t : Bool) → (t && false) ≡ false
    never true = refl
    never false = refl

all_there : (u w : ℕ) (ms : List Message) → under_way (map (sent_by u w) ms) u w ≡ ms
all_there u w [] = refl
all_there u w (m ∷ ms) = under_way_first (sent_by u w m) (map (sent_by u w) ms) ∙ ap (λ xs. m ∷ xs) (all_there u w ms)

none_there : (a b u w : ℕ) (ms : List Message) → is_pair a b u w ≡ false → under_way (map (sent_by u w) ms) a b ≡ []
none_there a b u w [] unlike = refl
none_there a b u w (m ∷ ms) unlike = under_way_other a b (sent_by u w m) (map (sent_by u w) ms) unlike ∙ none_there a b u w ms unlike

-- after one node sent messages to another
pub under_way_sent : (u w : ℕ) (ss : List Sent) (ms : List Message) → under_way (ss ++ map (sent_by u w) ms) u w ≡ under_way ss u w ++ ms
under_way_sent u w ss ms = under_way_both u w ss (map (sent_by u w) ms) ∙ ap (λ q. under_way ss u w ++ q) (all_there u w ms)

pub under_way_unsent : (a b u w : ℕ) (ss : List Sent) (ms : List Message) → is_pair a b u w ≡ false →
    under_way (ss ++ map (sent_by u w) ms) a b ≡ under_way ss a b
under_way_unsent a b u w ss ms unlike =
    under_way_both a b ss (map (sent_by u w) ms) ∙ ap (λ q. under_way ss a b ++ q) (none_there a b u w ms unlike) ∙ append-nil (under_way ss a b)
