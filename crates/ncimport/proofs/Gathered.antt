-- How a configuration is gathered from files, one include after another.
use Rattle.std.proofs.Common.{◌≡◌, ℕ, ◌+◌, ◌<◌, ◌++◌, suc, Bool, List, [], ◌∷◌, length, map}
use Rattle.std.proofs.Common.{get_or, Option, Some, if◌then◌else◌, Result, Ok, Err, IfOk}
use Rattle.std.proofs.Common.{inl, inr, refl, subst, sym, add-one}
use Rattle.std.proofs.lemmas.List.{reverse-append}
use Rattle.std.proofs.lemmas.Option.{slice_get-get_or}
use Rattle.std.specs.Prelude.{OnOk, codes}
use Rattle.std.specs.declared.io.Error.{Error}
use Rattle.bird_import.specs.declared.includes.Include.{Include}
use Rattle.bird_import.specs.declared.word.Word.{Word}
use Rattle.program_words.specs.declared.source.Source.{Source}
use Rattle.bird_import.specs.Cutting.{IsCutInto}
use Rattle.bird_import.specs.Including.{Includes, includes_in, view_of as view_of_include}
use Rattle.bird_import.specs.declared.cut.Cut.{Cut}
use Rattle.ncimport.specs.Including.{LeavesOut, PutsFile, PutsFirst, PutsIncluded, closed, opened, with_part}
use Rattle.program_console.specs.Limited.{ReadsText, SkipsText}
use Rattle.ncimport.specs.Inclusions.{IsLeft, IsLookedFor}
use Rattle.ncimport.specs.Places.{ConfigView, FileView, view_of}
use Rattle.program_console.specs.Lists.{last_such}
use Rattle.program_console.specs.Streaming.{Streams}

-- the last of those that a test takes, of one more
pub last_more : {A : Type 0} (test : A → Bool) (all : List A) (one : A)
    → last_such test (all ++ one ∷ []) ≡ (if test one then Some one else last_such test all)
last_more test all one = rw (reverse-append all (one ∷ [])) refl

module _ (Puts : Include → ConfigView → ConfigView → Streams → Streams → Type 0) (file : ℕ) (text : List ℕ) (included : List Include) where
  pub none_put : (config after : ConfigView) (before : Streams) → after ≡ config → PutsFirst Puts file text included 0 config after before before 0
  unfolding PutsFirst
  none_put config after before same = (same, refl, refl)

  pub one_more_put : (n : ℕ) (other : Include) (config earlier part after : ConfigView) (before mid now : Streams) (done : ℕ) → n < length included
      → PutsFirst Puts file text included n config earlier before mid done
      → part ≡ with_part earlier file text done (get_or included n other).from → Puts (get_or included n other) part after mid now
      → PutsFirst Puts file text included (n + 1) config after before now (get_or included n other).to
  unfolding PutsFirst
  one_more_put n other config earlier part after before mid now done inside first same puts =
      rw add-one (
        get_or included n other,
        earlier,
        mid,
        done,
        slice_get-get_or included n other inside,
        first,
        subst (λ (config : ConfigView). Puts (get_or included n other) config after mid now) same puts,
        refl,
      )

-- all of them were put there, and the rest of the file behind them
pub all_put : (Puts : Include → ConfigView → ConfigView → Streams → Streams → Type 0) (file : FileView) (index n : ℕ) (included : List Include)
    (config last after : ConfigView) (before now : Streams) (from : ℕ) → Includes file.text (map view_of_include included)
    → index ≡ length config.files → n ≡ length included → PutsFirst Puts index file.text included n (opened config file) last before now from
    → after ≡ closed last index file.text from → PutsFile Puts file config after before now
all_put Puts file index n included config last after before now from found is all first ends = record {
  included = included;
  all = found;
  last = last;
  from = from;
  first =
      subst (λ (k : ℕ). PutsFirst Puts k file.text included (length included) (opened config file) last before now from) is
      (subst (λ (k : ℕ). PutsFirst Puts index file.text included k (opened config file) last before now from) all first);
  ends = subst (λ (k : ℕ). after ≡ closed last k file.text from) is ends;
}

module _ (opens : List ℕ → Result (Option (List ℕ)) Error → Type 0) (one : Include) (config after : ConfigView) (before now : Streams) where
  pub too_deep : {A E : Type 0} (r : Result A E) (depth : ℕ) → depth ≡ 0
      → OnOk r (LeavesOut one (codes "files are included at most 8 deep") config after before now)
      → OnOk r (PutsIncluded opens depth one config after before now)
  unfolding PutsIncluded
  too_deep (Ok a) depth none left = subst (λ (d : ℕ). PutsIncluded opens d one config after before now) (sym none) left
  too_deep (Err e) depth none left = tt

  -- where files may be included one less deep
  deeper : (depth less : ℕ) → depth ≡ less + 1 → PutsIncluded opens (suc less) one config after before now
      → PutsIncluded opens depth one config after before now
  deeper depth less is put = subst (λ (d : ℕ). PutsIncluded opens d one config after before now) (sym is) (rw add-one put)

  pub left_out : {A E : Type 0} (r : Result A E) (depth less : ℕ) (why : List ℕ) → depth ≡ less + 1 → IsLeft config one.name.now why
      → OnOk r (LeavesOut one why config after before now) → OnOk r (PutsIncluded opens depth one config after before now)
  unfolding PutsIncluded
  left_out (Ok a) depth less why is reason left = deeper depth less is (inl (why, reason, left))
  left_out (Err e) depth less why is reason left = tt

  pub put_there : {A E : Type 0} (r : Result A E) (depth less : ℕ) (source : Source) (text part : List ℕ) (mid : Streams) → depth ≡ less + 1
      → part ≡ text → IsLookedFor config one.name.now source → ReadsText opens source text before mid
      → OnOk r (PutsFile (PutsIncluded opens less) (view_of source part) config after mid now)
      → OnOk r (PutsIncluded opens depth one config after before now)
  unfolding PutsIncluded
  put_there (Ok a) depth less source text part mid is same looks reads puts = deeper depth less is (inr (inl (
    source,
    text,
    mid,
    looks,
    reads,
    subst (λ (t : List ℕ). PutsFile (PutsIncluded opens less) (view_of source t) config after mid now) same puts,
  )))
  put_there (Err e) depth less source text part mid is same looks reads puts = tt

  pub not_read : {A E : Type 0} (r : Result A E) (depth less : ℕ) (source : Source) (mid : Streams) → depth ≡ less + 1
      → IsLookedFor config one.name.now source → SkipsText opens source before mid → OnOk r (LeavesOut one (codes "it cannot be read") config after mid now)
      → OnOk r (PutsIncluded opens depth one config after before now)
  unfolding PutsIncluded
  not_read (Ok a) depth less source mid is looks skips left = deeper depth less is (inr (inr (source, mid, looks, skips, left)))
  not_read (Err e) depth less source mid is looks skips left = tt

-- the files that the words of a text include are those that the text includes
pub are_included : {V E : Type 0} (items : V → List Include) (text : List ℕ) (cut : Cut) (words : List Word) (r : Result V E) → words ≡ cut.words.items
    → IsCutInto text cut → IfOk r (λ found. map view_of_include (items found) ≡ includes_in words)
    → IfOk r (λ found. Includes text (map view_of_include (items found)))
are_included items text cut words (Ok found) same is are = record {
  cut = cut;
  is = is;
  are = subst (λ (ws : List Word). map view_of_include (items found) ≡ includes_in ws) same are;
}
are_included items text cut words (Err fault) same is are = tt
