-- A text has one translation at most, what has one is not refused, and two refusals of a text are alike.
use Rattle.std.proofs.Common.{◌≡◌, ℕ, List, refl, sym, ap, subst, ◌∙◌}
use Rattle.filter_code.specs.CodeView.{CodeView}
use Rattle.filter_compiler.specs.Limits.{HasTooMany, IsTooLong}
use Rattle.filter_compiler.specs.Translation.{code_of}
use Rattle.filter_compiler.specs.declared.fault.CompileFault.{CompileFault}
use Rattle.filter_compiler.specs.declared.fault.CompileFault.TheVariants as compile
use Rattle.filter_syntax.specs.SyntaxText.{FilterView, view_filter}
use Rattle.filter_parser.proofs.Texts.{text_one}
use Rattle.filter_types.specs.Kinds.{IsTyped}
use Rattle.filter_source.specs.Sources.{AreAlike, IsOverLimit, IsRefusedText, Translates}
use Rattle.filter_source.specs.declared.refusal.Refusal.{Refusal}
use Rattle.filter_source.specs.declared.refusal.Refusal.TheVariants.{TooLong, Hexadecimal, File, Parse, Typing, Compile, Verify}

pub one : (text : List ℕ) (f g : FilterView) (p q : CodeView) → Translates text f p → Translates text g q → p ≡ q
one text f g p q a b = a.code ∙ ap code_of (sym (a.only g b.spelled)) ∙ sym b.code

pub none : (text : List ℕ) (f : FilterView) (p : CodeView) (why : Refusal) → Translates text f p → IsRefusedText text why → ⊥
none text f p (Parse why) a r = r.spells_none f a.spelled
none text f p (Typing why) a r = r.unfit (subst IsTyped (sym (a.only (view_filter r.tree) r.spelled)) a.typed)
none text f p (Compile compile.TooManyInstructions) a r =
    a.short (subst (λ (g : FilterView). IsTooLong (code_of g)) (a.only r.0 r.1) r.3)
none text f p (Compile compile.TooManySets) a r =
    a.few (subst (λ (g : FilterView). HasTooMany (code_of g)) (a.only r.0 r.1) r.3.1)
none text f p (Compile compile.Memory) a r = r.3
none text f p TooLong a r = r
none text f p Hexadecimal a r = r
none text f p (File why) a r = r
none text f p (Verify why) a r = r

-- a translation is over one limit first
over_one : (program : CodeView) (a b : CompileFault) → IsOverLimit program a → IsOverLimit program b → a ≡ b
over_one program compile.TooManyInstructions compile.TooManyInstructions r s = refl
over_one program compile.TooManyInstructions compile.TooManySets r s = absurd (s.0 r)
over_one program compile.TooManySets compile.TooManyInstructions r s = absurd (r.0 s)
over_one program compile.TooManySets compile.TooManySets r s = refl
over_one program compile.Memory b r s = absurd r
over_one program a compile.Memory r s = absurd s

pub alike : (text : List ℕ) (why other : Refusal) → IsRefusedText text why → IsRefusedText text other → AreAlike why other
alike text (Parse a) (Parse b) r s = tt
alike text (Typing a) (Typing b) r s = tt
alike text (Compile a) (Compile b) r s =
    let same = text_one text s.0 r.0 s.1 r.1 in
    ap Compile (over_one (code_of r.0) a b r.3 (subst (λ (g : FilterView). IsOverLimit (code_of g) b) same s.3))
alike text (Typing a) (Compile b) r s = absurd (r.unfit (subst IsTyped (text_one text s.0 (view_filter r.tree) s.1 r.spelled) s.2))
alike text (Compile a) (Typing b) r s = absurd (s.unfit (subst IsTyped (text_one text r.0 (view_filter s.tree) r.1 s.spelled) r.2))
alike text (Parse a) (Typing b) r s = absurd (r.spells_none (view_filter s.tree) s.spelled)
alike text (Parse a) (Compile b) r s = absurd (r.spells_none s.0 s.1)
alike text (Typing a) (Parse b) r s = absurd (s.spells_none (view_filter r.tree) r.spelled)
alike text (Compile a) (Parse b) r s = absurd (s.spells_none r.0 r.1)
alike text TooLong other r s = absurd r
alike text Hexadecimal other r s = absurd r
alike text (File why) other r s = absurd r
alike text (Verify why) other r s = absurd r
alike text why TooLong r s = absurd s
alike text why Hexadecimal r s = absurd s
alike text why (File other) r s = absurd s
alike text why (Verify other) r s = absurd s
