-- Prefixes that are read in one pass: what is at the front of the text is the token there.
use Rattle.std.proofs.Common.{◌≡◌, ℕ, ◌-◌, ◌≤◌, Bool, List, length, take, drop, Option, Some, ◌∙◌, ap, arith}
use Rattle.std.specs.Char.{is_ascii_digit}
use Rattle.std.specs.List.{prefix_len}
use Rattle.std.specs.Option.{option_map}
use Rattle.std.proofs.Math.Seq.{take-append_seam}
use Rattle.prefix_patterns.specs.Leading.{BeginsWith}
use Rattle.prefix_patterns.specs.Reading.{◌>>=◌, written_in}
use Rattle.prefix_patterns.specs.Written.{IsWrittenPrefix}
use Rattle.prefix_patterns.specs.declared.written.WrittenPrefix.{WrittenPrefix}
use Rattle.prefix_patterns.proofs.Tokens.{written_in-only}
use Rattle.filter_tokens.specs.declared.part.Part.TheVariants as part
use Rattle.filter_tokens.specs.declared.shape.Shape.TheVariants as shape
use Rattle.filter_tokens.specs.declared.token_kind.TokenKind.TheVariants as kind
use Rattle.filter_tokens.specs.Reading.{after_prefix, longest_shape, prefix_kind, token_of, token_in}
use Rattle.filter_tokens.specs.Shapes.{HasLength}
use Rattle.filter_tokens.proofs.Forms.{after_prefix-there, after_prefix-within}
use Rattle.filter_tokens.proofs.Fronts.{split_length}
use Rattle.filter_tokens.proofs.Longest.{Found, a_shape, address_begins, prefix_is}

-- a prefix is at the front of a text, and this follows it
abbrev LeadsPrefix : List ℕ → WrittenPrefix → List ℕ → Type 0
LeadsPrefix text written rest = BeginsWith (λ token. IsWrittenPrefix token written) text rest

-- a prefix has the shape of one
has_length : (bytes : List ℕ) (written : WrittenPrefix) → IsWrittenPrefix bytes written → HasLength bytes
has_length bytes written is =
    let address = is.is_address in
    record {
      address = is.address_text;
      length_digits = is.length_text;
      is_address = record {
        first = address.first;
        second = address.second;
        third = address.third;
        fourth = address.fourth;
        groups = (address.groups.0.0, address.groups.1.0, address.groups.2.0, address.groups.3.0);
        spelled = address.spelled;
      };
      is_length = is.is_length.0;
      spelled = is.spelled;
    }

-- where no digit follows, nothing longer is there
leads-shape : (text : List ℕ) (written : WrittenPrefix) (rest : List ℕ) → LeadsPrefix text written rest → prefix_len is_ascii_digit rest ≡ 0
    → longest_shape text ≡ Some (a_shape shape.Prefix rest)
leads-shape text written rest leads ends =
    let there : after_prefix text ≡ Some rest =
    ap after_prefix leads.spelled ∙ after_prefix-there leads.token rest (has_length leads.token written leads.wanted)
    ∙ ap (λ n. Some (drop n rest)) ends in
    let begun = after_prefix-within text rest there in
    address_begins text begun.0 begun.1 ∙ ap Some (prefix_is text rest there)

-- it leaves no more than there is
pub leads-within : (text : List ℕ) (written : WrittenPrefix) (rest : List ℕ) → LeadsPrefix text written rest → length rest ≤ length text
leads-within text written rest leads = omega (arith, split_length text leads.token rest leads.spelled)

-- a prefix at the front, with no digit after it, is the token there
pub leads-token : (text : List ℕ) (written : WrittenPrefix) (rest : List ℕ) → LeadsPrefix text written rest → prefix_len is_ascii_digit rest ≡ 0
    → token_in text ≡ Some (part.Token (prefix_kind written) (length text - length rest))
unfolding token_in
leads-token text written rest leads ends =
    let len = length text - length rest in
    let whole : len ≡ length leads.token = omega (arith, split_length text leads.token rest leads.spelled) in
    let same : take len text ≡ leads.token =
    ap (λ n. take n text) whole ∙ ap (take (length leads.token)) leads.spelled ∙ take-append_seam leads.token rest in
    let read : written_in (take len text) ≡ Some written = ap written_in same ∙ written_in-only leads.token written leads.wanted in
    ap (λ (found : Option Found). found >>= token_of text) (leads-shape text written rest leads ends)
    ∙ ap (λ (found : Option WrittenPrefix). option_map (λ kind. part.Token kind len) (option_map prefix_kind found)) read
