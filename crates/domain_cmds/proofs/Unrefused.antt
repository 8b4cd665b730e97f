-- The listing of a source that gives code is that of the code.
use Rattle.std.proofs.Common.{◌≡◌, ℕ, ◌-◌, Bool, true, false, not, List, [], ◌∷◌, ◌++◌, take, length, Option, Some, None, Ok, Err, inl, inr, refl, sym, ap, ◌∙◌, arith}
use Rattle.std.proofs.Math.Seq.{take_all}
use Rattle.std.proofs.lemmas.List.Sums.{suffix_len_is}
use Rattle.std.specs.List.{list_all, suffix_len}
use Rattle.hex.proofs.HexLemmas.{decode_of-encode_lower, length-encode_with}
use Rattle.hex.specs.Hex.{encode_lower, lower_digits}
use Rattle.filter_code.specs.CodeView.{CodeView}
use Rattle.filter_reports.proofs.Printed.{none_in}
use Rattle.filter_reports.specs.Check.{IsRefused, without_white_end}
use Rattle.filter_reports.specs.Listing.{IsListed}
use Rattle.filter_source.specs.Sources.{code_in_bytes, code_in_hexadecimal}
use Rattle.filter_source.specs.declared.refusal.Refusal.{Refusal}
use Rattle.filter_source.proofs.Translations as translations
use Rattle.filter_verifier.specs.VerifiedView.{VerifiedView}
use Rattle.operator_cmds.specs.Script.{GivesFile, GivesText, IsVerified, gives}
use Rattle.operator_cmds.specs.declared.filter.FilterSource.{FilterSource}
use Rattle.operator_cmds.specs.declared.filter.FilterSource.TheVariants as source
use Rattle.domain_cmds.specs.Origins.{IsOrigin, Notes, OriginView, OriginsView}
use Rattle.domain_cmds.specs.Short.{IsShortCode, IsShortSource, IsShortText}

-- where a source is not refused, the listing ends in no refusal
unrefused : (is_code : Bool) (text listing : List ℕ) (why : Option Refusal) → ((refusal : Refusal) → IsRefused is_code text refusal → ⊥)
    → IsListed None is_code text listing why → IsListed None is_code text listing None
unrefused is_code text listing why never (inl (program, gives, places, are, lists)) = inl (program, gives, places, are, (lists.0, refl))
unrefused is_code text listing why never (inr (refusal, bad, is, written)) = absurd (never refusal bad)

text_given : (text : List ℕ) (program : CodeView) → IsShortText text → GivesText text program → (refusal : Refusal) → IsRefused false text refusal → ⊥
text_given text program short gives refusal (inl (long, is)) = omega (arith, short, long)
text_given text program short gives refusal (inr (within, bad)) = translations.none text gives.0 program refusal gives.1 bad

-- digits end in nothing that no digit is
module _ (p : ℕ → Bool) (digits : list_all (λ x. not (p x)) lower_digits ≡ true) (outside : p 0 ≡ false) where
  kept_whole : (bytes : List ℕ) → take (length (encode_lower bytes) - suffix_len p (encode_lower bytes)) (encode_lower bytes) ≡ encode_lower bytes
  kept_whole bytes =
      let text = encode_lower bytes in
      let last : suffix_len p text ≡ length text - length text =
      suffix_len_is p text (length text) 0 (omega arith) (λ k from below. absurd (omega (arith, from, below)))
      (λ some. none_in p digits outside bytes (length text - 1))
      in
      let kept : length text - suffix_len p text ≡ length text = omega (arith, last) in
      ap (λ (n : ℕ). take n text) kept ∙ take_all (length text) text (omega arith)

-- so they end in no white space
digits_whole : (bytes : List ℕ) → without_white_end (encode_lower bytes) ≡ encode_lower bytes
digits_whole bytes = kept_whole _ refl refl bytes

file_given : (bytes : List ℕ) (program : CodeView) → IsShortCode bytes → GivesFile bytes program → (refusal : Refusal)
    → IsRefused true (encode_lower bytes) refusal → ⊥
file_given bytes program (are, short) gives refusal (inl (long, is)) = omega (arith, short, long, length-encode_with lower_digits bytes)
file_given bytes program (are, short) gives refusal (inr (within, bad)) =
    let good : code_in_hexadecimal (without_white_end (encode_lower bytes)) ≡ Ok program =
    ap code_in_hexadecimal (digits_whole bytes) ∙ ap code_in_bytes (decode_of-encode_lower bytes are) ∙ gives in
    let no : Ok program ≡ Err refusal = sym good ∙ bad in
    cc

-- the filter that was noted
pub noted_origin : (s : FilterSource) (size number : ℕ) (name : List ℕ) (f : VerifiedView) (old new : OriginsView) → IsShortSource s
    → IsVerified (gives s) size f → Notes number name s f old new
    → (one : OriginView) × (new ≡ record old { all = old.all ++ one ∷ [] }) × IsOrigin size one × (one.name ≡ name) × (one.filter ≡ f)
noted_origin (source.Text text) size number name f old new short verified (listing, (why, listed), is) = (
  record { name = name; line = number; text = Some text.now; listing = listing; filter = f },
  is,
  record {
    source = (verified.gives, unrefused false text.now listing why (text_given text.now f.program short verified.gives) listed);
    fits = verified.size_is;
  },
  refl,
  refl,
)
noted_origin (source.File bytes) size number name f old new short verified (listing, (why, listed), is) = (
  record { name = name; line = number; text = None; listing = listing; filter = f },
  is,
  record {
    source = (
      bytes.now,
      verified.gives,
      unrefused true (encode_lower bytes.now) listing why (file_given bytes.now f.program short verified.gives) listed,
    );
    fits = verified.size_is;
  },
  refl,
  refl,
)
