-- A filter's text whose code is verified, and the line that refuses one. (This project's own choice.)
use Rattle.std.specs.Prelude.{◌≡◌, ℕ, List}
use Rattle.filter_code.specs.CodeView.{CodeView}
use Rattle.filter_syntax.specs.SyntaxText.{FilterView}
use Rattle.filter_source.specs.Refusals.{place_in_line, refusal_code}
use Rattle.filter_source.specs.Sources.{Translates}
use Rattle.filter_source.specs.declared.refusal.Refusal.{Refusal}
use Rattle.filter_verifier.specs.Safe.{IsSafe}
use Rattle.filter_verifier.specs.VerifiedView.{VerifiedView}
use Rattle.line_protocol.specs.Answers.{refusal}

-- the line that refuses a filter
abbrev pub refusal_line : Refusal → List ℕ
refusal_line why = refusal (refusal_code why) (place_in_line why 1)

-- The text spells this filter, and its code never goes wrong in domains of this size.
pub record IsFilterOf (text : List ℕ) (size : ℕ) (filter : FilterView) : Type 0 where
  pub program : CodeView
  pub translates : Translates text filter program
  pub safe : IsSafe program size

-- The text spells a filter, this is its code, and it never goes wrong in domains of this size.
pub record IsVerifiedOf (size : ℕ) (text : List ℕ) (verified : VerifiedView) : Type 0 where
  pub size_is : verified.size ≡ size
  pub filter : FilterView
  pub translates : Translates text filter verified.program
  pub safe : IsSafe verified.program verified.size
