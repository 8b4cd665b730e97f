use Rattle.std.proofs.Common.{ℕ, List, ◌∙◌, length, nat_lt, refl, ap}
use Rattle.refusal_words.specs.Shown.{columns}
use Rattle.refusal_words.proofs.Excerpts.{shorter_is_long}
use Rattle.refusal_words.proofs.explanation.is_long.Goals as goal

pub returns : goal.returns
returns c =
    let cs = c.args.characters.now in
    ap (λ (front : List ℕ). nat_lt (length front) (length cs)) c.front_within.ensures ∙ shorter_is_long 100 cs (nat_lt 100 (columns cs)) refl
