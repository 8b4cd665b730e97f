-- How filters get their names, one after another, and what is told of it.
use Rattle.std.proofs.Common.{◌≡◌, ◌<◌, ◌+◌, ℕ, List, [], ◌∷◌, ◌++◌, length, take, get_or, Option, Some}
use Rattle.std.proofs.Common.{None, Result, Ok, Err, IfOk, refl, sym, ap, subst, ◌∙◌, append-nil}
use Rattle.std.specs.Prelude.{OnOk}
use Rattle.std.proofs.Math.Seq.{take-append_seam}
use Rattle.std.proofs.lemmas.List.{take_more}
use Rattle.std.proofs.lemmas.Option.{slice_get_read}
use Rattle.filter_source.specs.Failures.{OnDiagnosis}
use Rattle.filter_source.specs.declared.failure.Failure.{Failure}
use Rattle.filter_source.specs.declared.failure.Failure.TheVariants as failure
use Rattle.filter_verifier.specs.VerifiedView.{VerifiedView}
use Rattle.line_protocol.specs.Answers.{Answer}
use Rattle.line_protocol.specs.declared.answers.LineReply.{LineReply}
use Rattle.operator_cmds.specs.Replies.{Answers}
use Rattle.operator_cmds.specs.Script.{AnswersLine, GivesText, IsTextDiagnosis, IsVerified, Names, ScriptView}
use Rattle.operator_cmds.specs.Stages.{size_in}
use Rattle.router_script.specs.Naming.{AnswersPrepared, AreNamed, GetNames, GetsName, Prepares, PreparedView, size_set_up, answer_unless}
use Rattle.router_script.specs.News.{IsFailureAt, Tells}
use Rattle.router_script.specs.declared.filter_naming.NamedFilter.{NamedFilter}
use Rattle.router_script.specs.declared.filter_naming.Unfit.{Unfit}

-- one more gets its name
one_more : (size : ℕ) (xs : List NamedFilter) (x : NamedFilter) (a b c : ScriptView) → GetNames size xs a b → GetsName size x b c
    → GetNames size (xs ++ x ∷ []) a c
one_more size [] x a b c same gets = (c, subst (λ (v : ScriptView). GetsName size x v c) same gets, refl)
one_more size (y ∷ ys) x a b c (mid, first, rest) gets = (mid, first, one_more size ys x mid b c rest gets)

-- the same of the first ones of a list
pub next_named : (size : ℕ) (xs : List NamedFilter) (i : ℕ) (x : NamedFilter) (a b c : ScriptView) → i < length xs → x ≡ get_or xs i x
    → GetNames size (take i xs) a b → GetsName size x b c → GetNames size (take (i + 1) xs) a c
next_named size xs i x a b c within is names gets =
    subst (λ (l : List NamedFilter). GetNames size l a c)
    (sym (take_more xs i x within ∙ ap (λ (y : NamedFilter). take i xs ++ y ∷ []) (sym is)))
    (one_more size (take i xs) x a b c names gets)

-- a name changes no stage
names_keep : (size : ℕ) (xs : List NamedFilter) (a b : ScriptView) → GetNames size xs a b → b.stage ≡ a.stage
names_keep size [] a b same = ap (λ (v : ScriptView). v.stage) same
names_keep size (x ∷ xs) a b (mid, (filter, good, gets), rest) = names_keep size xs mid b rest ∙ gets.stage

pub naming_keeps : (size : ℕ) (xs : List NamedFilter) (unfit : Option Unfit) (a b : ScriptView) → AreNamed size xs unfit a b
    → b.stage ≡ a.stage
naming_keeps size xs None a b h = names_keep size xs a b h
naming_keeps size xs (Some unfit) a b h = names_keep size (take unfit.index xs) a b h.1

-- The answer that was written stays, or it is taken back.
pub prepared_answer : (unfit : Option Unfit) (begun : ℕ) (reply given : LineReply) (old text new : List ℕ) → begun ≡ length old
    → Tells unfit begun reply (old ++ text) new given
    → (t : List ℕ) × (new ≡ old ++ t) × (record { text = t; reply = given } ≡ answer_unless unfit (record { text = text; reply = reply }))
prepared_answer None begun reply given old text new is (kept, same) =
    (text, kept, ap (λ (r : LineReply). record { text = text; reply = r }) same)
prepared_answer (Some unfit) begun reply given old text new is (cut, over) = (
  [],
  cut ∙ ap (λ n. take n (old ++ text)) is ∙ take-append_seam old text ∙ sym (append-nil old),
  ap (λ (r : LineReply). record { text = []; reply = r }) over,
)

-- a filter whose text and name these are gets its name
pub gets_name : (size : ℕ) (x : NamedFilter) (text name : List ℕ) (filter : VerifiedView) (a b : ScriptView) → text ≡ x.text.items
    → name ≡ x.name.items → IsVerified (GivesText text) size filter → Names name filter a b → GetsName size x a b
gets_name size x text name filter a b is_text is_name good names = (
  filter,
  subst (λ (t : List ℕ). IsVerified (GivesText t) size filter) is_text good,
  subst (λ (n : List ℕ). Names n filter a b) is_name names,
)

-- a filter that is not verified, behind others that got their names
pub stopped_at : {E : Type 0} (size : ℕ) (xs : List NamedFilter) (i : ℕ) (x : NamedFilter) (text : List ℕ) (a b : ScriptView)
    (why : Failure) (r : Result (Option Unfit) E) → i < length xs → x ≡ get_or xs i x → text ≡ x.text.items
    → GetNames size (take i xs) a b → OnDiagnosis (IsTextDiagnosis text size) why
    → IfOk r (IsFailureAt i why) → IfOk r (λ unfit. AreNamed size xs unfit a b)
stopped_at size xs i x text a b (failure.Refused told) (Ok unfit) within is is_text names refused h =
    subst (λ (u : Option Unfit). AreNamed size xs u a b) (sym h) (
      (
        x,
        slice_get_read xs (length xs) i x refl within is,
        subst (λ (t : List ℕ). IsTextDiagnosis t size told) is_text refused,
      ),
      names,
    )
stopped_at size xs i x text a b failure.Memory (Ok unfit) within is is_text names refused h = absurd h
stopped_at size xs i x text a b why (Err e) within is is_text names refused h = tt

-- The line that set the domain up is answered, by what became of its answer.
pub prepared : {E : Type 0} (before after : PreparedView) (mid : ScriptView) (number : ℕ) (line text : List ℕ) (reply : LineReply)
    (size begun : ℕ) (earlier later : Option ℕ) (old written new : List ℕ) (r : Result LineReply E) → begun ≡ length old
    → earlier ≡ size_in before.script.stage → later ≡ size_in mid.stage → size_set_up earlier later ≡ Some size → written ≡ old ++ text
    → AnswersLine before.script number line (record { text = text; reply = reply }) mid
    → OnOk r (AreNamed size before.filters after.unfit mid after.script) → after.filters ≡ before.filters
    → IfOk r (Tells after.unfit begun reply written new)
    → IfOk r (Answers (λ answer. AnswersPrepared before number line answer after) old new)
prepared before after mid number line text reply size begun earlier later old written new (Err e) is_begun was is set wrote answers named kept tells =
    tt
prepared before after mid number line text reply size begun earlier later old written new (Ok given) is_begun was is set wrote answers named kept tells =
    let told : Answer = record { text = text; reply = reply } in
    let (t, grown, same) = prepared_answer after.unfit begun reply given old text new is_begun
    (subst (λ (w : List ℕ). Tells after.unfit begun reply w new given) wrote tells) in
    let set_up : size_set_up (size_in before.script.stage) (size_in mid.stage) ≡ Some size =
    ap (λ (o : Option ℕ). size_set_up o (size_in mid.stage)) (sym was) ∙ ap (λ (o : Option ℕ). size_set_up earlier o) (sym is) ∙ set in (
      t,
      grown,
      record {
        told = told;
        mid = mid;
        answers = answers;
        prepares = subst (λ (o : Option ℕ). Prepares o before mid told (record { text = t; reply = given }) after) (sym set_up) (named, same);
        filters = kept;
      },
    )
