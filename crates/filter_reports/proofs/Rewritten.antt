-- What `rewrite` refuses.
use Rattle.std.proofs.Common.{ℕ, Bool, true, List, inl, inr}
use Rattle.filter_code.specs.CodeView.{CodeView}
use Rattle.filter_source.specs.Failures.{OnRefusal}
use Rattle.filter_source.specs.Sources.{IsUnwritten}
use Rattle.filter_source.specs.declared.failure.Failure.{Failure}
use Rattle.filter_source.specs.declared.failure.Failure.TheVariants.{Refused}
use Rattle.filter_source.specs.declared.failure.Failure.TheVariants as failure
use Rattle.filter_reports.specs.Check.{GivesCode, IsRefused}
use Rattle.filter_reports.specs.Rewriting.{IsUnspelled}

-- What refuses to write a code refuses its source, and so does what gives no code.
pub code_is_unwritten : (is_old : Bool) (input : List ℕ) (program : CodeView) (e : Failure) → GivesCode true input program
    → OnRefusal (IsUnwritten is_old program) e → OnRefusal (IsUnspelled is_old input) e
code_is_unwritten is_old input program (Refused diagnosis) gives h = inr (program, gives, h)
code_is_unwritten is_old input program failure.Memory gives h = tt

pub no_code : (is_old : Bool) (input : List ℕ) (e : Failure) → OnRefusal (IsRefused true input) e
    → OnRefusal (IsUnspelled is_old input) e
no_code is_old input (Refused diagnosis) h = inl h
no_code is_old input failure.Memory h = tt
