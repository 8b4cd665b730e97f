-- The path of a file beside another one.
use Rattle.std.proofs.Common.{arith, ◌≡◌, List, ◌++◌, ◌∷◌, ℕ, inr, ap, sym, ◌∙◌}
use Rattle.std.proofs.lemmas.List.{append_assoc, take-append-drop}
use Rattle.std.proofs.lemmas.Str.{encode_ascii}
use Rattle.std.specs.Prelude.{codes, drop, take}
use Rattle.std.specs.Str.Pattern.{RFindsChar, SplitsAroundMatch}
use Rattle.program_console.specs.Beside.{IsBeside}

-- the folder of the other is what stands before its last slash
pub beside : (by name folder own first folders path : List ℕ) → SplitsAroundMatch (RFindsChar 47) by folder own → first ≡ folder
    → folders ≡ first ++ codes "/" → path ≡ folders ++ name → IsBeside by name path
beside by name folder own first folders path (i, j, (none, slash), front, back, in_order, first_len, last_len) begins goes ends =
    let whole : by ≡ folder ++ 47 ∷ drop j by =
    sym (take-append-drop i by) ∙ ap (λ (l : List ℕ). take i by ++ l) (slash.split ∙ ap (λ (l : List ℕ). l ++ drop j by) (encode_ascii 47 (omega arith))) ∙ ap (λ (l : List ℕ). l ++ 47 ∷ drop j by) (sym front) in
    let is : path ≡ folder ++ 47 ∷ name =
    ends ∙ ap (λ (l : List ℕ). l ++ name) (goes ∙ ap (λ (l : List ℕ). l ++ codes "/") begins) ∙ append_assoc folder (codes "/") name in
    inr (folder, drop j by, whole, none, is)
