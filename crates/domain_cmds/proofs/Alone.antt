-- A node is alone once its links are cut, one after another.
use Rattle.std.proofs.Common.{◌≡◌, ◌≢◌, ⊎_elim, inl, ℕ, ◌+◌, ◌<◌, true, false, refl, sym, ap, ◌∙◌, arith}
use Rattle.std.proofs.lemmas.Bool.{cases_eq}
use Rattle.domain_routes.specs.Edits.{linking}
use Rattle.domain_routes.specs.PlanView.{IsPlan, PeerView, PlanView, is_linked}
use Rattle.domain_routes.proofs.Linking.{IsLink, linked_here, linked_there, linking_keeps}
use Rattle.domain_cmds.specs.Failures.{IsAlone}

-- between two nodes that are linked there is a link
pub link_of : (p : PlanView) (u w : ℕ) → IsPlan p → u < p.size → w < p.size → is_linked p u w ≡ true → IsLink p u w
link_of p u w plan from to linked = record {
  plan = plan;
  from = from;
  to = to;
  apart = λ same. let never : false ≡ true = sym (plan.apart u) ∙ ap (is_linked p u) same ∙ linked in cc;
}

module _ (p : PlanView) (u w : ℕ) (l : IsLink p u w) where
  abbrev apart : PlanView
  apart = linking false u w p

  -- the first node has no link to so many, and then to one more
  pub one_less : ((k : ℕ) → k < w → is_linked p u k ≡ false) → (k : ℕ) → k < w + 1 → is_linked apart u k ≡ false
  one_less before k short =
      ⊎_elim
      (λ (same : k ≡ w). linked_here p u w false l u k (inl (refl, same)))
      (λ (other : k ≢ w).
      linked_there p u w false l u k (λ ends. ⊎_elim (λ one. other (one.1)) (λ two. l.apart (two.0)) ends)
      ∙ before k (omega (arith, short, other)))
      (cases_eq k w)

  -- a plan where it is alone, of what it was before the link was cut
  pub alone_before : (q : PlanView) → IsAlone u apart q → IsAlone u p q
  alone_before q a = record {
    size = a.size;
    prefixes = a.prefixes;
    others = λ x y from to. a.others x y from to
        ∙ linked_there p u w false l x y (λ ends. ⊎_elim (λ one. from (one.0)) (λ two. to (two.1)) ends);
    from_it = a.from_it;
    to_it = a.to_it;
    imports = λ x y. a.imports x y ∙ linking_keeps (λ (c : PeerView). c.imports) (λ _ _. refl) p u w false l x y;
    exports = λ x y. a.exports x y ∙ linking_keeps (λ (c : PeerView). c.exports) (λ _ _. refl) p u w false l x y;
  }

-- a node without links is alone
pub alone_now : (p : PlanView) → IsPlan p → (x : ℕ) → ((k : ℕ) → k < p.size → is_linked p x k ≡ false) → IsAlone x p p
alone_now p plan x none = record {
  size = refl;
  prefixes = refl;
  others = λ u w _ _. refl;
  from_it = none;
  to_it = λ u short. plan.both_ways u x ∙ none u short;
  imports = λ u w. refl;
  exports = λ u w. refl;
}

-- one number more at which it has no link
pub none_more : (p : PlanView) (x w : ℕ) → ((k : ℕ) → k < w → is_linked p x k ≡ false) → is_linked p x w ≡ false
    → (k : ℕ) → k < w + 1 → is_linked p x k ≡ false
none_more p x w before here k short =
    ⊎_elim
    (λ (same : k ≡ w). ap (is_linked p x) same ∙ here)
    (λ (other : k ≢ w). before k (omega (arith, short, other)))
    (cases_eq k w)
