-- Names that can be those of files.
use Rattle.std.proofs.Common.{◌≡◌, ℕ, Bool, true, false, List, [], if◌then◌else◌, refl}
use Rattle.std.proofs.lemmas.Str.{IsUtf8-from_is_utf8, is_utf8-from_IsUtf8}
use Rattle.std.specs.Str.{IsUtf8, is_utf8}
use Rattle.ncimport.specs.Importing.{file_name}

pub utf8_name : (name : List ℕ) → IsUtf8 name → file_name name ≡ name
unfolding file_name
utf8_name name is = rw (is_utf8-from_IsUtf8 name is) refl

none_of : (name : List ℕ) → (IsUtf8 name → ⊥) → (b : Bool) → is_utf8 name ≡ b → (if b then name else []) ≡ []
none_of name not true is = absurd (not (IsUtf8-from_is_utf8 name is))
none_of name not false is = refl

pub no_name : (name : List ℕ) → (IsUtf8 name → ⊥) → file_name name ≡ []
unfolding file_name
no_name name not = none_of name not (is_utf8 name) refl
