use Rattle.std.proofs.Common.{◌≡◌, ℕ, zero, suc, ◌<◌, ◌≤◌, Some, List, [], ◌∷◌, ◌++◌, length}
use Rattle.std.proofs.Common.{set, slice_get, ap, ◌∙◌, refl, sym, subst, arith, inl, inr}
use Rattle.std.proofs.lemmas.Bool.{cases_eq}
use Rattle.std.proofs.lemmas.List.{get_or-set_same, get_or-set_other, length-append, length-set}
use Rattle.prefix_patterns.specs.Bits.{address_of}
use Rattle.prefix_patterns.specs.Matching.{PrefixPattern}
use Rattle.prefix_patterns.specs.Trees.{IsEntry, mask_of}
use Rattle.prefix_patterns.specs.declared.leaf.Leaf.{Leaf}
use Rattle.prefix_patterns.proofs.Nodes.{slice_get-last}
use Rattle.prefix_patterns.proofs.leaf.Leaf.put.Goals as goal

-- a place that is written, and the others
module _ (addresses masks lows highs : List ℕ) (at a m l h : ℕ) where
  abbrev written : Leaf
  written = record { addresses = set addresses at a; masks = set masks at m; lows = set lows at l; highs = set highs at h }

  here : (p : PrefixPattern) → at < 8 → length addresses ≡ 8 → length masks ≡ 8 → length lows ≡ 8 → length highs ≡ 8 →
      length p.bits ≤ 32 → a ≡ address_of p.bits → m ≡ mask_of (length p.bits) → l ≡ p.low → h ≡ p.high → IsEntry written at p
  here p within of_addresses of_masks of_lows of_highs limit is_a is_m is_l is_h = record {
    limit = limit;
    address = get_or-set_same addresses at a 0 (omega arith) ∙ is_a;
    mask = get_or-set_same masks at m 0 (omega arith) ∙ is_m;
    low = get_or-set_same lows at l 0 (omega arith) ∙ is_l;
    high = get_or-set_same highs at h 0 (omega arith) ∙ is_h;
  }

  elsewhere : (i : ℕ) (p : PrefixPattern) → (i ≡ at → ⊥) →
      IsEntry (record { addresses = addresses; masks = masks; lows = lows; highs = highs }) i p → IsEntry written i p
  elsewhere i p other e = record {
    limit = e.limit;
    address = get_or-set_other addresses at i a 0 other ∙ e.address;
    mask = get_or-set_other masks at i m 0 other ∙ e.mask;
    low = get_or-set_other lows at i l 0 other ∙ e.low;
    high = get_or-set_other highs at i h 0 other ∙ e.high;
  }

-- the last of the patterns, and those before it
last_one : (part : List PrefixPattern) (p : PrefixPattern) (i : ℕ) → i ≡ length part → slice_get (part ++ p ∷ []) i ≡ Some p
last_one part p i e = rw e (slice_get-last part p)

before : (part : List PrefixPattern) (p : PrefixPattern) (i : ℕ) (q : PrefixPattern) → (i ≡ length part → ⊥) →
    slice_get (part ++ p ∷ []) i ≡ Some q → slice_get part i ≡ Some q
before [] p zero q other e = absurd (other refl)
before [] p (suc i) q other e = e
before (x ∷ part) p zero q other e = e
before (x ∷ part) p (suc i) q other e = before part p i q (λ same. other (ap (λ k. suc k) same)) e

pub returns : goal.returns
returns c = λ part e h.
    let leaf = c.args.self.now in
    let at = c.args.at in
    let p = c.args.pattern.now in
    let a = c.address.result.0 in
    let m = c.mask.result in
    let low = c.low.result in
    let high = c.high.result in
    let bits = c.prefix-prefix.ensures in
    let placed = here leaf.addresses leaf.masks leaf.lows leaf.highs at a m low high p c.requires h.addresses h.masks h.lows h.highs
    (subst (λ b. length b ≤ 32) bits c.mask.ensures.limit)
    (c.address.ensures ∙ ap address_of bits) (c.mask.ensures.value ∙ ap (λ b. mask_of (length b)) bits) c.low.ensures
    c.high.ensures.high in
    record {
      addresses = length-set leaf.addresses at a ∙ h.addresses;
      masks = length-set leaf.masks at m ∙ h.masks;
      lows = length-set leaf.lows at low ∙ h.lows;
      highs = length-set leaf.highs at high ∙ h.highs;
      few = omega (arith, length-append part (p ∷ []));
      filled = λ i pattern is.
          elim (cases_eq i at) [
            | inl same ↦
                let there : slice_get (part ++ p ∷ []) i ≡ Some p = last_one part p i (same ∙ sym e) in
                let q : p ≡ pattern = cc in
                rw (same, ← q) placed
            | inr other ↦
                elsewhere leaf.addresses leaf.masks leaf.lows leaf.highs at a m low high i pattern other
                (h.filled i pattern (before part p i pattern (λ same. other (same ∙ e)) is))
          ];
      vacant = λ i over below.
          let other : i ≡ at → ⊥ = λ same. omega (arith, length-append part (p ∷ [])) in
          rw (get_or-set_other leaf.lows at i low 0 other, get_or-set_other leaf.highs at i high 0 other)
          (h.vacant i (omega (arith, length-append part (p ∷ []))) below);
    }
