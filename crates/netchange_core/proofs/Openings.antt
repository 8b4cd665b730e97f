-- A domain whose numbers fit is an opening.
use Rattle.std.proofs.Common.{◌≡◌, ℕ, zero, suc, ◌≤◌, ◌<◌, Bool, true, List, [], ◌∷◌, length, refl, ap, ◌∙◌, length-append, arith, Option, Some, None}
use Rattle.std.specs.Option.{IsSome, SomeIff}
use Rattle.std.proofs.lemmas.Bool.Decides.{nat_tests}
use Rattle.filter_code.specs.Limits.{smallest_size, largest_size}
use Rattle.netchange_core.specs.OpeningView.{IsOpening}
use Rattle.netchange_core.specs.Openings.{is_network}
use Rattle.netchange_core.specs.Openings.{default_prefix, default_prefixes}

length-default_prefixes : (v : ℕ) → length (default_prefixes v) ≡ v
unfolding default_prefixes
length-default_prefixes zero = refl
length-default_prefixes (suc v) =
    let before = length-default_prefixes v in
    let all = length-append (default_prefixes v) (default_prefix v ∷ []) in
    omega (arith, before, all)

pub record Fits (size me : ℕ) : Type 0 where
  pub low : smallest_size ≤ size
  pub high : size ≤ largest_size
  pub member : me < size

pub network_fits : (size me : ℕ) → is_network size me ≡ true → Fits size me
network_fits size me h = record { low = grind (arith, nat_tests); high = grind (arith, nat_tests); member = grind (arith, nat_tests) }

pub is_opening : (size me : ℕ) (prefixes : List (List Bool)) → is_network size me ≡ true → prefixes ≡ default_prefixes size
    → IsOpening (record { size = size; me = me; prefixes = prefixes })
is_opening size me prefixes h e =
    let fits = network_fits size me h in
    record {
      from_two = fits.low;
      to_largest = fits.high;
      member = fits.member;
      one_a_node = ap length e ∙ length-default_prefixes size;
    }

-- what is there where the fact holds
pub is_there : {T : Type 0} (o : Option T) (P : Type 0) (v : T) → SomeIff o P v → P → IsSome o
is_there None P v h p = absurd (h p)
is_there (Some x) P v h p = refl
