-- Codes with the same file are equal.
use Rattle.std.proofs.Common.{◌≡◌, ℕ, Bool, List, [], ◌++◌, sym, ◌∙◌, ap}
use Rattle.std.specs.Bool.{Decides}
use Rattle.std.specs.Str.{bytes_eq}
use Rattle.std.proofs.lemmas.Bool.Decides.{Decides-at, Decides-like}
use Rattle.std.proofs.lemmas.Slice.Eq.{bytes_eq-Decides}
use Rattle.filter_code.specs.CodeView.{CodeView}
use Rattle.code_file.specs.Spelling.{IsCode, spelling}
use Rattle.code_file.specs.declared.version.Version.TheVariants.{Two}
use Rattle.code_file.proofs.Grammar.{one_file}

one_spelling : (a b : CodeView) → IsCode a → IsCode b → spelling a ≡ spelling b → a ≡ b
one_spelling a b is_a is_b e = (one_file Two Two a b [] [] is_a is_b (ap (λ (bytes : List ℕ). bytes ++ []) e)).1

pub equal_files : (old new : CodeView) (before after : List ℕ) (r : Bool) → before ≡ spelling old → after ≡ spelling new → IsCode old
    → IsCode new → r ≡ bytes_eq before after → Decides r (old ≡ new)
equal_files old new before after r before_is after_is is_old is_new h =
    Decides-like r (λ e. one_spelling old new is_old is_new (sym before_is ∙ (e ∙ after_is)))
    (λ same. before_is ∙ (ap spelling same ∙ sym after_is))
    (Decides-at r (bytes_eq before after) h (bytes_eq-Decides before after))
