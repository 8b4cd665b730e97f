-- A plan in which another filter stands.
use Rattle.std.proofs.Common.{◌≡◌, ℕ, ◌<◌, None, Some, sym, refl, ◌∙◌}
use Rattle.filter_verifier.specs.VerifiedView.{VerifiedView}
use Rattle.netchange_core.specs.Kept.{FitsSize}
use Rattle.domain_routes.specs.Edits.{exporting, half_unfiltered, importing, put, unfiltered}
use Rattle.domain_routes.specs.PlanView.{IsPlan, PeerView, PlanView, is_linked, peer}
use Rattle.domain_routes.proofs.Places.{put_each, put_places, put_same}

-- where the links stay, and the filters fit, it is a plan again
put_plan : (p : PlanView) (u w : ℕ) (c : PeerView) → IsPlan p → u < p.size → w < p.size → c.linked ≡ is_linked p u w →
    FitsSize p.size c.imports → FitsSize p.size c.exports → IsPlan (put u w c p)
put_plan p u w c plan from to linked imports exports =
    let same : (x y : ℕ) → is_linked (put u w c p) x y ≡ is_linked p x y =
    λ x y. put_same (λ (k : PeerView). k.linked) p u w c plan.places from to linked x y in
    record {
      size = plan.size;
      one_a_node = plan.one_a_node;
      places = put_places p u w c plan.places from;
      apart = λ x. same x x ∙ plan.apart x;
      both_ways = λ x y. same x y ∙ plan.both_ways x y ∙ sym (same y x);
      imports = put_each (λ (k : PeerView). FitsSize p.size k.imports) p u w c plan.places from to imports plan.imports;
      exports = put_each (λ (k : PeerView). FitsSize p.size k.exports) p u w c plan.places from to exports plan.exports;
    }

pub importing_plan : (p : PlanView) (f : VerifiedView) (u w : ℕ) → IsPlan p → u < p.size → w < p.size → f.size ≡ p.size → IsPlan (importing f u w p)
importing_plan p f u w plan from to fits =
    put_plan p u w (record (peer p u w) { imports = Some f }) plan from to refl fits (plan.exports u w)

pub exporting_plan : (p : PlanView) (f : VerifiedView) (u w : ℕ) → IsPlan p → u < p.size → w < p.size → f.size ≡ p.size → IsPlan (exporting f u w p)
exporting_plan p f u w plan from to fits =
    put_plan p u w (record (peer p u w) { exports = Some f }) plan from to refl (plan.imports u w) fits

half_plan : (p : PlanView) (u w : ℕ) → IsPlan p → u < p.size → w < p.size → IsPlan (half_unfiltered u w p)
half_plan p u w plan from to = put_plan p u w (record (peer p u w) { imports = None }) plan from to refl tt (plan.exports u w)

pub unfiltered_plan : (p : PlanView) (u w : ℕ) → IsPlan p → u < p.size → w < p.size → IsPlan (unfiltered u w p)
unfiltered_plan p u w plan from to =
    let half : PlanView = half_unfiltered u w p in
    let is : IsPlan half = half_plan p u w plan from to in
    put_plan half w u (record (peer half w u) { exports = None }) is to from refl (is.imports w u) tt
