-- Lists that were read part by part, put together.
use Rattle.std.proofs.Common.{◌≡◌, List, [], ◌∷◌, ◌++◌, refl, append_assoc}

pub assign_joined : {A : Type 0} (w k s : A) (ws v t l rest : List A) → ws ≡ k ∷ v → v ≡ t ++ l → l ≡ s ∷ rest
    → w ∷ ws ≡ (w ∷ k ∷ (t ++ s ∷ [])) ++ rest
assign_joined w k s ws v t l rest a b c = rw (a, b, c) (simp append_assoc)

pub both_joined : {A : Type 0} (ws a r b s : List A) → ws ≡ a ++ r → r ≡ b ++ s → ws ≡ (a ++ b) ++ s
both_joined ws a r b s e f = rw (e, f) (simp append_assoc)

pub part_joined : {A : Type 0} (k : A) (ws a r b s d t : List A) → ws ≡ a ++ k ∷ r → r ≡ b ++ s → s ≡ d ++ t → ws ≡ (a ++ k ∷ (b ++ d)) ++ t
part_joined k ws a r b s d t e f g = rw (e, f, g) (simp append_assoc)

pub case_joined : {A : Type 0} (w k n : A) (ws t l b p r s : List A) → ws ≡ t ++ l → l ≡ k ∷ b → b ≡ p ++ r → r ≡ n ∷ s
    → w ∷ ws ≡ (w ∷ (t ++ k ∷ (p ++ n ∷ []))) ++ s
case_joined w k n ws t l b p r s e f g h = rw (e, f, g, h) (simp append_assoc)

pub block_joined : {A : Type 0} (w k : A) (ws b s : List A) → ws ≡ b ++ k ∷ s → w ∷ ws ≡ (w ∷ (b ++ k ∷ [])) ++ s
block_joined w k ws b s e = rw e (simp append_assoc)

pub front_joined : {A : Type 0} (k : A) (ws t l b c r : List A) → ws ≡ t ++ l → l ≡ k ∷ b → b ≡ c ++ r → ws ≡ t ++ k ∷ (c ++ r)
front_joined k ws t l b c r e f g = rw (e, f, g) refl

pub if_joined : {A : Type 0} (w k : A) (ws t c r : List A) → ws ≡ t ++ k ∷ (c ++ r) → w ∷ ws ≡ (w ∷ (t ++ k ∷ c)) ++ r
if_joined w k ws t c r e = rw e (simp append_assoc)

pub else_joined : {A : Type 0} (w k o : A) (ws t c r v d s : List A) → ws ≡ t ++ k ∷ (c ++ r) → r ≡ o ∷ v → v ≡ d ++ s
    → w ∷ ws ≡ (w ∷ (t ++ k ∷ (c ++ o ∷ d))) ++ s
else_joined w k o ws t c r v d s e f g = rw (e, f, g) (simp append_assoc)
