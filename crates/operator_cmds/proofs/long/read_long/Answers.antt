use Rattle.std.proofs.Common.{List, Some, ap, ◌+◌, ◌-◌, ◌*◌, ◌≤◌, ◌≡◌, ℕ, ◌<◌, length, get_or, arith, refl, sym, ◌∙◌, take}
use Rattle.std.specs.Char.{IsAsciiDigit}
use Rattle.std.proofs.lemmas.List.Elements.{All-more, All-get_or, All-same}
use Rattle.std.proofs.lemmas.Bool.{eqb-true, eqb-false}
use Rattle.std.proofs.lemmas.List.{take_all}
use Rattle.std.proofs.Math.Nat.{pos_of_ne-zero}
use Rattle.prefix_patterns.specs.Number.{IsNumber, decimal_value}
use Rattle.prefix_patterns.proofs.Numbers.{number_in-some, number_in-none}
use Rattle.prefix_patterns.proofs.DecimalValues.{decimal_value-more, decimal_value-take}
use Rattle.operator_cmds.proofs.long.read_long.Goals as goal

pub loop-byte-init : goal.loop-byte-init
unfolding decimal_value
loop-byte-init c = record { digits = λ k d within. absurd (omega arith); value = refl; limit = omega arith }

pub returns-then-is_empty : goal.returns-then-is_empty
returns-then-is_empty c =
    sym (number_in-none c.args.most c.args.text.now
    (λ number. absurd (omega (
      arith,
      number.0.some,
      eqb-true (length c.args.text.now) 0
          (sym c.is_empty.ensures ∙ c.if-is_empty.true),
    ))))

-- a byte that is no digit, or a front that writes too large a number: the whole writes none
refused : (most : ℕ) (text : List ℕ) (at value : ℕ) → at < length text → value ≡ decimal_value (take at text)
    → (IsAsciiDigit (get_or text at 0) × (value * 10 + (get_or text at 0 - 48) ≤ most) → ⊥) → IsNumber most text → ⊥
refused most text at value within so_far refuses number =
    refuses (
      All-get_or IsAsciiDigit text at 0 within number.0.each,
      omega (arith, so_far, decimal_value-more text at within, decimal_value-take text (at + 1), number.1),
    )

pub returns-in_err-value : goal.returns-in_err-value
returns-in_err-value c =
    let within : c.loop-byte.byte-index < length c.args.text.now = omega arith in
    c.from_residual.ensures ∙ sym (number_in-none _ _
    (refused _ _ c.loop-byte.byte-index _ within c.loop-byte.invariant.value c.in_err-value.ensures))

pub returns : goal.returns
returns c =
    let text = c.args.text.now in
    let whole : take c.loop-byte.byte-index text ≡ text = take_all c.loop-byte.byte-index text c.loop-byte-test.false in
    let value : c.loop-byte.value ≡ decimal_value text = c.loop-byte.invariant.value ∙ ap decimal_value whole in
    let some : 0 < length text = pos_of_ne-zero (eqb-false (length text) 0 (sym c.is_empty.ensures ∙ c.if-is_empty.false)) in
    let number : IsNumber c.args.most text = (
      record { some = some; each = All-same IsAsciiDigit _ _ (sym whole) c.loop-byte.invariant.digits },
      omega
          (arith, value, c.loop-byte.invariant.limit),
    ) in
    ap Some value ∙ sym (number_in-some c.args.most text number)

pub loop-byte-preserved : goal.loop-byte-preserved
loop-byte-preserved c =
    let text = c.args.text.now in
    let at = c.loop-byte.byte-index in
    let within : at < length text = omega arith in
    let longer = c.in_ok-value.ensures in
    record {
      digits = All-more IsAsciiDigit text at 0 within c.loop-byte.invariant.digits longer.0.0;
      value = omega (arith, longer.1, c.loop-byte.invariant.value, decimal_value-more text at within);
      limit = omega (arith, longer.1, longer.0.1);
    }
