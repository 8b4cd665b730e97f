-- Why a line of a script is refused, where no filter in it is, by the codes of answers. (This project's own choice.)
use Rattle.std.specs.Prelude.{ℕ, Bool, List, [], ◌∷◌, Option, find, codes}
use Rattle.std.specs.Str.{bytes_eq}
use Rattle.script_words.specs.declared.cause.RefusalCause.{RefusalCause}
use Rattle.script_words.specs.declared.cause.RefusalCause.TheVariants.{Words, Number, Hexadecimal, Early, Late, UnknownFilter}
use Rattle.script_words.specs.declared.cause.RefusalCause.TheVariants.{Long, Prefix, NoNode, AlreadyUp, NotUp, NoDestination}
use Rattle.script_words.specs.declared.cause.RefusalCause.TheVariants.{FarDistance, OtherSize, NoSession, Full, BadNode}
use Rattle.script_words.specs.declared.cause.RefusalCause.TheVariants.{Linked, Apart, Unplayable}

-- the code that names each
abbrev pub cause_code : RefusalCause → List ℕ
cause_code Words = codes "O1"
cause_code Number = codes "O2"
cause_code Hexadecimal = codes "O3"
cause_code Early = codes "O4"
cause_code Late = codes "O5"
cause_code UnknownFilter = codes "O6"
cause_code Long = codes "O7"
cause_code Prefix = codes "O8"
cause_code NoNode = codes "N1"
cause_code AlreadyUp = codes "N2"
cause_code NotUp = codes "N3"
cause_code NoDestination = codes "N4"
cause_code FarDistance = codes "N5"
cause_code OtherSize = codes "N6"
cause_code NoSession = codes "N7"
cause_code Full = codes "J1"
cause_code BadNode = codes "D1"
cause_code Linked = codes "D2"
cause_code Apart = codes "D3"
cause_code Unplayable = codes "D4"

-- all of them
abbrev pub causes : List RefusalCause
causes = Words ∷ Number ∷ Hexadecimal ∷ Early ∷ Late ∷ UnknownFilter ∷ Long ∷ Prefix ∷ NoNode ∷ AlreadyUp
    ∷ NotUp ∷ NoDestination ∷ FarDistance ∷ OtherSize ∷ NoSession ∷ Full ∷ BadNode ∷ Linked ∷ Apart ∷ Unplayable ∷ []

-- whether a code names a cause
abbrev pub is_coded : List ℕ → RefusalCause → Bool
is_coded code cause = bytes_eq (cause_code cause) code

-- the cause that a code names
unfoldable pub cause_in : List ℕ → Option RefusalCause
cause_in code = find (is_coded code) causes
