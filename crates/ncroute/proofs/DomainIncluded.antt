-- The lines of a domain's file are added one after another, with the filters that it includes.
use Rattle.std.proofs.Common.{◌≡◌, ℕ, Bool, true, false, List, [], ◌∷◌, Option, None, Result, inl, inr, refl, subst, sym}
use Rattle.std.specs.Str.Lines.{lines}
use Rattle.std.specs.declared.io.Error.{Error}
use Rattle.program_words.specs.declared.source.Source.{Source}
use Rattle.ncroute.specs.DomainLoading.{AddsLineOf, AddsLines, Includes, LacksIncluded, StopsAtLine, size_behind}
use Rattle.program_console.specs.Streaming.{Streams}

module _ (opens : List ℕ → Result (Option (List ℕ)) Error → Type 0) (by : Source) (text : List ℕ) (before : Streams) where
  -- what comes of the lines that are left is what comes of the text
  pub record Goes (size : Option ℕ) (left out : List ℕ) (mid : Streams) : Type 0 where
    pub adds : (added : List ℕ) (after : Streams) → AddsLines opens by size (lines left) out added mid after
        → Includes opens by text added before after
    pub stops : (after : Streams) → StopsAtLine opens by size (lines left) out mid after → LacksIncluded opens by text before after

  pub none_added : (out : List ℕ) → out ≡ [] → Goes None text out before
  none_added out is =
      subst (λ (l : List ℕ). Goes None text l before) (sym is) (record { adds = λ added after h. h; stops = λ after h. h })

  module _ (size known : Option ℕ) (left out line rest : List ℕ) (mid : Streams) (g : Goes size left out mid)
      (cut : lines left ≡ line ∷ lines rest) (is : known ≡ size_behind size line) (more : List ℕ) (next : Streams) (is_added : Bool)
      (one : AddsLineOf opens known by line out more mid next is_added) where
    same : (b : Bool) → is_added ≡ b → AddsLineOf opens (size_behind size line) by line out more mid next b
    same b now =
        subst (λ (x : Bool). AddsLineOf opens (size_behind size line) by line out more mid next x) now
        (subst (λ (k : Option ℕ). AddsLineOf opens k by line out more mid next is_added) is one)

    pub one_added : is_added ≡ true → Goes known rest more next
    unfolding AddsLines StopsAtLine
    one_added is_so = record {
      adds = λ added after all. g.adds added after
          (subst (λ (ls : List (List ℕ)). AddsLines opens by size ls out added mid after) (sym cut)
          (next, more, same true is_so, subst (λ (k : Option ℕ). AddsLines opens by k (lines rest) more added next after) is all));
      stops = λ after none. g.stops after
          (subst (λ (ls : List (List ℕ)). StopsAtLine opens by size ls out mid after) (sym cut)
          (next, more, inr (same true is_so, subst (λ (k : Option ℕ). StopsAtLine opens by k (lines rest) more next after) is none)));
    }

    pub one_lacks : is_added ≡ false → LacksIncluded opens by text before next
    unfolding StopsAtLine
    one_lacks is_so = g.stops next
        (subst (λ (ls : List (List ℕ)). StopsAtLine opens by size ls out mid next) (sym cut) (next, more, inl (same false is_so)))

  pub all_added : (size : Option ℕ) (left out : List ℕ) (mid : Streams) → Goes size left out mid → lines left ≡ []
      → Includes opens by text out before mid
  unfolding AddsLines
  all_added size left out mid g none =
      g.adds out mid (subst (λ (ls : List (List ℕ)). AddsLines opens by size ls out out mid mid) (sym none) (refl, refl))
