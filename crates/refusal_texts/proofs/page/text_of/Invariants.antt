use Rattle.std.proofs.Common.{◌≡◌, drop}
use Rattle.std.specs.Prelude.{find}
use Rattle.std.specs.Str.{bytes_eq}
use Rattle.refusal_texts.proofs.page.text_of.Given as goal

-- none of the pages so far is that of the code
abbrev pub invariant-loop-page : goal.invariant-loop-page
invariant-loop-page l = find (λ page. bytes_eq page.code.now l.code) (drop l.page-index l.pages) ≡ find (λ page. bytes_eq page.code.now l.code) l.pages
