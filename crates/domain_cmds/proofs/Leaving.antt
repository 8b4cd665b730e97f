-- What scripts leave behind, and what is written of it.
use Rattle.std.proofs.Common.{◌≡◌, ℕ, Bool, true, List, [], ◌++◌, Option, Some, None, Result, Ok, Err, IfErr, OnOk, is_ok, refl, sym, ap, subst, ◌∙◌, inl, inr}
use Rattle.std.proofs.lemmas.List.{append-nil}
use Rattle.std.specs.Option.{option_map}
use Rattle.std.specs.Io.KnownBytes.{Appends}
use Rattle.line_protocol.specs.Limits.{input_limit}
use Rattle.line_protocol.specs.Runs.{AppendsFront, Finishes}
use Rattle.line_protocol.specs.declared.faults.StreamFault.{StreamFault}
use Rattle.line_protocol.specs.declared.faults.StreamFault.TheVariants.{Memory, Write}
use Rattle.operator_cmds.proofs.Unended.{carried_out}
use Rattle.report_formats.specs.declared.format.Format.{Format}
use Rattle.domain_reports.specs.declared.page.Shell.{Shell}
use Rattle.domain_routes.specs.PlanView.{PlanView}
use Rattle.domain_cmds.specs.Left.{Compares, ComparesOff, IsLeft, IsAnswer, Leaves}
use Rattle.domain_cmds.specs.Paging.{AddsPage, IsPage, IsPaged, PagesDomain}
use Rattle.domain_cmds.specs.Script.{AnswersLine}
use Rattle.domain_cmds.specs.State.{PlanningView}
use Rattle.domain_cmds.specs.declared.left.Left.{Left}
use Rattle.domain_cmds.specs.declared.paged.Paged.{Paged}
use Rattle.domain_cmds.proofs.Ending.{goes_on}

pub appends_nothing : (held : Option (List ℕ)) → Appends held held []
appends_nothing None = tt
appends_nothing (Some bytes) = sym (append-nil bytes)

-- the page of a domain was written, or a front of it
pub paged : (shell : Shell) (name : List ℕ) (p : PlanningView) (page : List ℕ) (held holds : Option (List ℕ)) (r : Result (Unit {0}) StreamFault)
    → IsPage shell name p.plan page → OnOk r (Appends held holds page) → IfErr r (λ fault. (fault ≡ Write) × AppendsFront held holds page)
    → IsPaged shell name (Some p) held holds (is_ok r)
paged shell name p page held holds (Ok done) is ok err = (page, is, ok)
paged shell name p page held holds (Err fault) is ok err = (page, is, err.1)

-- a script that was answered to its end
pub leaves : {limit : ℕ} (script : List ℕ) (before after : Option PlanningView) (rest held holds : Option (List ℕ)) (n : ℕ) (left : Left) → before ≡ None
    → Finishes AnswersLine limit before after script rest held holds n → IsLeft after n left → Leaves script left
leaves {limit} script before after rest held holds n left e f is =
    let g = subst (λ (b : Option PlanningView). Finishes AnswersLine limit b after script rest held holds n) e f in
    record { given = g.given; planning = after; run = g.run; is_left = subst (λ (k : ℕ). IsLeft after k left) g.counted is }

-- the page of a script that may have set a domain up
pub page_of : (shell : Shell) (name : List ℕ) (planning : Option PlanningView) (p : PlanningView) (empty text bytes : List ℕ)
    (held holds : Option (List ℕ)) (r : Result (Unit {0}) StreamFault) (b : Bool) → planning ≡ Some p → empty ≡ []
    → AddsPage shell name p.plan empty text → bytes ≡ text
    → OnOk r (Appends held holds bytes) → IfErr r (λ fault. (fault ≡ Write) × AppendsFront held holds bytes) → b ≡ is_ok r
    → (shell : Shell) × IsPaged shell name planning held holds b
page_of shell name planning p empty text bytes held holds r b some none (page, is, adds) same ok err is_b =
    let page_is : bytes ≡ page = same ∙ adds ∙ ap (λ (old : List ℕ). old ++ page) none in (
      shell,
      subst (λ (o : Option PlanningView). IsPaged shell name o held holds b) (sym some)
          (subst (λ (t : Bool). IsPaged shell name (Some p) held holds t) (sym is_b)
          (paged shell name p page held holds r is (subst (λ (x : List ℕ). OnOk r (Appends held holds x)) page_is ok)
          (subst (λ (x : List ℕ). IfErr r (λ fault. (fault ≡ Write) × AppendsFront held holds x)) page_is err))),
    )

-- of a script that set no domain up nothing is
pub no_page : (shell : Shell) (name : List ℕ) (planning : Option PlanningView) (held holds : Option (List ℕ)) → planning ≡ None → holds ≡ held
    → (shell : Shell) × IsPaged shell name planning held holds true
no_page shell name planning held holds none same = (
  shell,
  subst (λ (o : Option PlanningView). IsPaged shell name o held holds true) (sym none)
      (refl, subst (λ (o : Option (List ℕ)). Appends held o []) (sym same) (appends_nothing held)),
)

-- a script that was answered to its end, and then its page
pub pages : (name input : List ℕ) (before after : Option PlanningView) (left held holds kept keeps : Option (List ℕ)) (told : Paged) → before ≡ None
    → Finishes AnswersLine input_limit before after input left held holds told.refused
    → ((shell : Shell) × IsPaged shell name after kept keeps told.is_written) → PagesDomain name input left held holds kept keeps told
pages name input before after left held holds kept keeps told e f (shell, is) =
    let ends = carried_out AnswersLine goes_on None before after input left held holds told.refused e f in
    record {
      after = after;
      finishes = subst (λ (b : Option PlanningView). Finishes AnswersLine input_limit b after input left held holds told.refused) e f;
      to_end = ends.to_end;
      shell = shell;
      is_paged = is;
    }

-- ---- what a script leaves behind

same_plan : (a b : PlanView) → Some a ≡ Some b → a ≡ b
same_plan a b e = cc

pub left_domain : (planning : Option PlanningView) (found : Option PlanView) (domain : PlanView) (n : ℕ) → found ≡ option_map (λ p. p.plan) planning
    → found ≡ Some domain → n ≡ 0 → (p : PlanningView) × (planning ≡ Some p) × (domain ≡ p.plan) × (n ≡ 0)
left_domain None found domain n is some counted = absurd (let apart : Some domain ≡ None = sym some ∙ is in cc)
left_domain (Some p) found domain n is some counted = (p, refl, same_plan domain p.plan (sym some ∙ is), counted)

pub left_nothing : (planning : Option PlanningView) (found : Option PlanView) → found ≡ option_map (λ p. p.plan) planning → found ≡ None → planning ≡ None
left_nothing None found is none = refl
left_nothing (Some p) found is none = absurd (let apart : Some p.plan ≡ None = sym is ∙ none in cc)

-- ---- comparisons

-- what is told of a change was written
pub compares : (format : Format) (old new : PlanView) (held holds : Option (List ℕ)) (text bytes : List ℕ) (is_lost : Bool)
    → IsAnswer format old new text is_lost → bytes ≡ text → Appends held holds bytes → Compares format old new held holds is_lost
compares format old new held holds text bytes is_lost (found, is, text_is, lost) same written = record {
  found = found;
  compared = is;
  written = subst (λ (x : List ℕ). Appends held holds x) (same ∙ text_is) written;
  lost = lost;
}

-- or a front of it
pub compares_front : (fault : StreamFault) (format : Format) (old new : PlanView) (held holds : Option (List ℕ)) (text bytes : List ℕ) (is_lost : Bool)
    → IsAnswer format old new text is_lost → bytes ≡ text → (fault ≡ Write) × AppendsFront held holds bytes
    → ComparesOff fault format old new held holds
compares_front fault format old new held holds text bytes is_lost (found, is, text_is, lost) same (broken, front) =
    inr (found, is, broken, subst (λ (x : List ℕ). AppendsFront held holds x) (same ∙ text_is) front)

-- or nothing
pub compares_not : (fault : StreamFault) (format : Format) (old new : PlanView) (held holds : Option (List ℕ)) → fault ≡ Memory → holds ≡ held
    → ComparesOff fault format old new held holds
compares_not fault format old new held holds memory same =
    inl (memory, subst (λ (o : Option (List ℕ)). Appends held o []) (sym same) (appends_nothing held))
