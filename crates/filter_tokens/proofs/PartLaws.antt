-- The part at the front of a text: what is read is there, and what is there is read.
use Rattle.std.proofs.Common.{◌≡◌, ℕ, zero, suc, ◌-◌, ◌<◌, ◌≤◌, ◌==◌, Bool, true, false, List, [], ◌∷◌, length}
use Rattle.std.proofs.Common.{take, drop, Some, Result, Ok, Err, refl, sym, ◌∙◌, ap, subst, arith}
use Rattle.std.proofs.Common.{length-drop, length-take}
use Rattle.std.specs.Prelude.{IfOk}
use Rattle.std.proofs.Math.Nat.{pos_of_ne-zero}
use Rattle.std.specs.Option.{option_map}
use Rattle.std.proofs.lemmas.Bool.{eqb-true, ne_eqb}
use Rattle.std.proofs.lemmas.List.{take-append-drop}
use Rattle.std.proofs.Math.Seq.{take-append_seam}
use Rattle.std.proofs.lemmas.Option.{same_Some}
use Rattle.prefix_patterns.specs.Reading.{◌>>=◌}
use Rattle.filter_tokens.specs.declared.part.Part.{Part}
use Rattle.filter_tokens.specs.declared.part.Part.TheVariants as part
use Rattle.filter_tokens.specs.declared.shape.Shape.{Shape}
use Rattle.filter_tokens.specs.declared.token_kind.TokenKind.{TokenKind}
use Rattle.filter_tokens.specs.Tokenization.{begins_gap, IsGap, IsToken, IsPart, part_len}
use Rattle.filter_tokens.specs.Reading.{OkWhereSome, gap_len, longest_shape, meaning_in, token_of, token_in, part_of, part_in}
use Rattle.filter_tokens.specs.Shapes.{HasShape}
use Rattle.filter_tokens.proofs.Forms.{Stands}
use Rattle.filter_tokens.proofs.Fronts.{bind_some, map_some, split_length}
use Rattle.filter_tokens.proofs.Spaces.{gap-zero, gap-none, gap-found, gap-there, gap-bounds}
use Rattle.filter_tokens.proofs.Longest.{Found, a_shape, longest-found, longest-within, longest-itself}
use Rattle.filter_tokens.proofs.Meanings.{meaning-found, meaning-there}

-- the front that has a shape, by its length
pub record Front (text : List ℕ) (found : Found) : Type 0 where
  pub within : length found.1 ≤ length text
  pub formed : HasShape found.0 (take (length text - length found.1) text)
  pub some : 0 < length text - length found.1

nothing_there : (found : Found) → longest_shape [] ≡ Some found → ⊥
unfolding longest_shape
nothing_there found e = cc

-- no shape is empty
shape_some : (kind : Shape) (x : List ℕ) → HasShape kind x → 0 < length x
shape_some kind [] is = absurd (nothing_there (a_shape kind []) (longest-itself kind [] is))
shape_some kind (byte ∷ bytes) is = omega arith

front_of : (text : List ℕ) (found : Found) → Stands (HasShape found.0) text found.1 → Front text found
front_of text found stands =
    let split = split_length text stands.bytes found.1 stands.whole in
    let len : length text - length found.1 ≡ length stands.bytes = omega (arith, split) in
    let same : take (length text - length found.1) text ≡ stands.bytes =
    ap (λ n. take n text) len ∙ ap (take (length stands.bytes)) stands.whole ∙ take-append_seam stands.bytes found.1 in
    record {
      within = omega (arith, split);
      formed = subst (HasShape found.0) (sym same) stands.is;
      some = omega (arith, len, shape_some found.0 stands.bytes stands.is);
    }

-- a front with a shape is no longer than what is found
no_longer : (text : List ℕ) (found : Found) → longest_shape text ≡ Some found → (other : Shape) (longer : ℕ) → longer ≤ length text
    → HasShape other (take longer text)
    → longer ≤ length text - length found.1
no_longer text found e other longer fits is =
    let within = longest-within other (take longer text) (drop longer text) is in
    let there : longest_shape text ≡ Some within.found = ap longest_shape (sym (take-append-drop longer text)) ∙ within.is in
    let same : within.found ≡ found = same_Some _ _ (sym there ∙ e) in
    omega (arith, within.bounded, ap (λ (f : Found). length f.1) same, length-drop longer text)

token_found_as : (text : List ℕ) (found : Found) (one : Part) → begins_gap text ≡ false → longest_shape text ≡ Some found
    → token_of text found ≡ Some one → IsPart text one
token_found_as text found one outside e f =
    let len = length text - length found.1 in
    let some = map_some (λ kind. part.Token kind len) (meaning_in found.0 (take len text)) one f in
    let front = front_of text found (longest-found text found e) in
    subst (IsPart text) some.2 (record {
      outside = outside;
      within = omega arith;
      shape = found.0;
      formed = front.formed;
      means = meaning-found found.0 (take len text) some.0 front.formed some.1;
      longest = λ other longer fits is. no_longer text found e other longer fits is;
    })

-- the token that is read is there
token_found : (text : List ℕ) (one : Part) → begins_gap text ≡ false → token_in text ≡ Some one → IsPart text one
unfolding token_in
token_found text one outside e =
    bind_some _ _ _ e (λ (found : Found) (there : longest_shape text ≡ Some found) (f : token_of text found ≡ Some one).
    token_found_as text found one outside there f)

-- the token that is there is read
token_there_as : (text : List ℕ) (kind : TokenKind) (len : ℕ) → IsToken text kind len → (found : Found) → longest_shape text ≡ Some found
    → length found.1 ≤ length (drop len text)
    → token_of text found ≡ Some (part.Token kind len)
token_there_as text kind len token found there bounded =
    let front = front_of text found (longest-found text found there) in
    let short = token.longest found.0 (length text - length found.1) (omega arith) front.formed in
    let same : length text - length found.1 ≡ len = omega (arith, short, bounded, length-drop len text, token.within, front.within) in
    let x = take len text in
    let formed : HasShape found.0 x = subst (λ n. HasShape found.0 (take n text)) same front.formed in
    let one : a_shape found.0 [] ≡ a_shape token.shape [] =
    same_Some _ _ (sym (longest-itself found.0 x formed) ∙ longest-itself token.shape x token.formed) in
    let same_shape : found.0 ≡ token.shape = ap (λ (f : Found). f.0) one in
    let means : meaning_in found.0 x ≡ Some kind = ap (λ s. meaning_in s x) same_shape
    ∙ meaning-there token.shape x kind token.formed token.means in
    ap (λ n. option_map (λ kind. part.Token kind n) (meaning_in found.0 (take n text))) same
    ∙ ap (option_map (λ kind. part.Token kind len)) means

token_there : (text : List ℕ) (kind : TokenKind) (len : ℕ) → IsToken text kind len → token_in text ≡ Some (part.Token kind len)
unfolding token_in
token_there text kind len token =
    let within = longest-within token.shape (take len text) (drop len text) token.formed in
    let there : longest_shape text ≡ Some within.found = ap longest_shape (sym (take-append-drop len text)) ∙ within.is in
    ap (λ o. o >>= token_of text) there ∙ token_there_as text kind len token within.found there within.bounded

-- ---- parts

part_found_as : (text : List ℕ) (len : ℕ) (one : Part) → gap_len text ≡ Some len → (none : Bool) → (len == 0) ≡ none
    → part_of text len ≡ Some one → IsPart text one
part_found_as text len one gap true none e =
    let zero_len = eqb-true len 0 none in
    token_found text one (gap-zero text (gap ∙ ap Some zero_len)) (sym (rw none refl) ∙ e)
part_found_as text zero one gap false none e = absurd cc
part_found_as text (suc n) one gap false none e =
    let same : part.Gap (suc n) ≡ one = same_Some _ _ (sym (rw none refl) ∙ e) in
    subst (IsPart text) same (gap-found text (suc n) gap (omega arith))

-- the part that is read is there
pub part-found : (text : List ℕ) (one : Part) → part_in text ≡ Some one → IsPart text one
unfolding part_in
part-found text one e =
    bind_some _ _ _ e (λ (len : ℕ) (gap : gap_len text ≡ Some len) (f : part_of text len ≡ Some one). part_found_as text len one gap
    (len == 0) refl f)

gap_part : (text : List ℕ) (len : ℕ) → IsGap text len → part_in text ≡ Some (part.Gap len)
unfolding part_in
gap_part text len is =
    let some : (len == 0) ≡ false = ne_eqb len 0 (λ none. let bounds = gap-bounds text len is in omega (arith, bounds.0)) in
    ap (λ o. o >>= part_of text) (gap-there text len is) ∙ rw some refl

token_part : (text : List ℕ) (kind : TokenKind) (len : ℕ) → IsToken text kind len → part_in text ≡ Some (part.Token kind len)
unfolding part_in
token_part text kind len is = ap (λ o. o >>= part_of text) (gap-none text is.outside) ∙ token_there text kind len is

-- the part that is there is read
pub part-there : (text : List ℕ) (one : Part) → IsPart text one → part_in text ≡ Some one
part-there text (part.Gap len) is = gap_part text len is
part-there text (part.Token kind len) is = token_part text kind len is

-- a part has a byte at least, and none goes past the end
pub part-bounds : (text : List ℕ) (one : Part) → IsPart text one → (0 < part_len one) × (part_len one ≤ length text)
part-bounds text (part.Gap len) is = gap-bounds text len is
part-bounds text (part.Token kind len) is =
    let some = shape_some is.shape (take len text) is.formed in
    (omega (arith, some, length-take len text), is.within)

-- ---- bounds, for the code

-- what follows a shape is no longer than the text
pub longest-shorter : (text : List ℕ) (found : Found) → longest_shape text ≡ Some found → length found.1 ≤ length text
longest-shorter text found e = let front = front_of text found (longest-found text found e) in front.within

token_bounds_as : (text : List ℕ) (found : Found) (one : Part) → longest_shape text ≡ Some found → token_of text found ≡ Some one
    → (0 < part_len one) × (part_len one ≤ length text)
token_bounds_as text found one e f =
    let len = length text - length found.1 in
    let some = map_some (λ kind. part.Token kind len) (meaning_in found.0 (take len text)) one f in
    let front = front_of text found (longest-found text found e) in
    subst (λ p. (0 < part_len p) × (part_len p ≤ length text)) some.2 (front.some, omega arith)

token_bounds : (text : List ℕ) (one : Part) → token_in text ≡ Some one → (0 < part_len one) × (part_len one ≤ length text)
unfolding token_in
token_bounds text one e =
    bind_some _ _ _ e (λ (found : Found) (there : longest_shape text ≡ Some found) (f : token_of text found ≡ Some one).
    token_bounds_as text found one there f)

-- the same of what a call answers
pub token-answer : {E : Type 0} (text : List ℕ) (answer : Result Part E) → OkWhereSome answer (token_in text)
    → IfOk answer (λ one. (0 < part_len one) × (part_len one ≤ length text))
token-answer text (Ok one) e = token_bounds text one e
token-answer text (Err fault) e = tt

pub gap-answer : (text : List ℕ) (len : ℕ) → gap_len text ≡ Some len → (len ≡ 0 → ⊥) → (0 < len) × (len ≤ length text)
gap-answer text len e some = let is = gap-found text len e (pos_of_ne-zero some) in gap-bounds text len is
