-- What is wrong with bytes that are not a code file: the first fault, at its place.
use Rattle.std.specs.Prelude.{◌≡◌, ◌<◌, ◌≤◌, ◌⊎◌, ℕ, false, List, ◌∷◌, ◌++◌, length, take}
use Rattle.filter_code.specs.CodeView.{CodeView}
use Rattle.code_file.specs.declared.fault.FileFault.{FileFault}
use Rattle.code_file.specs.declared.fault.FileFault.TheVariants as fault
use Rattle.code_file.specs.Fields.{width, is_good, fault_of}
use Rattle.code_file.specs.declared.version.Version.{Version}
use Rattle.code_file.specs.Spelling.{Field, fields, bytes_of, spelling_in, IsCodeIn}

-- The bytes begin with the first fields of some code in some version. There a field of the same kind as `next` comes after them,
-- and `rest` is what the bytes have in place of it and of all that follows.
pub record IsReadUpTo (bytes : List ℕ) (front : List Field) (next : Field) (rest : List ℕ) : Type 0 where
  pub version : Version
  pub code : CodeView
  pub is_code : IsCodeIn version code
  pub others : List Field
  pub in_order : fields version code ≡ front ++ next ∷ others
  pub parts : bytes ≡ bytes_of front ++ rest

-- the bytes end inside the next field: the fault is at their end
pub record IsShort (bytes : List ℕ) (found : FileFault) : Type 0 where
  pub front : List Field
  pub next : Field
  pub rest : List ℕ
  pub up_to : IsReadUpTo bytes front next rest
  pub short : length rest < width next.kind
  pub fault : found ≡ fault.EndsEarly (length bytes)

-- the next field is whole, and its bytes are not allowed in it: the fault is at its first byte
pub record IsBad (bytes : List ℕ) (found : FileFault) : Type 0 where
  pub front : List Field
  pub next : Field
  pub rest : List ℕ
  pub up_to : IsReadUpTo bytes front next rest
  pub whole : width next.kind ≤ length rest
  pub bad : is_good next.kind (take (width next.kind) rest) ≡ false
  pub fault : found ≡ fault_of next.kind (length (bytes_of front))

-- more bytes follow a whole file: the fault is at the first of them
pub record IsLong (bytes : List ℕ) (found : FileFault) : Type 0 where
  pub version : Version
  pub code : CodeView
  pub is_code : IsCodeIn version code
  pub next : ℕ
  pub others : List ℕ
  pub parts : bytes ≡ spelling_in version code ++ next ∷ others
  pub fault : found ≡ fault.BytesAfterEnd (length (spelling_in version code))

-- the fault of bytes that are not a code file
abbrev pub IsFault : List ℕ → FileFault → Type 0
IsFault bytes found = IsShort bytes found ⊎ IsBad bytes found ⊎ IsLong bytes found
