-- The code of each text has a code file.
use Rattle.std.proofs.Common.{ℕ, suc, ◌<◌, ◌≤◌, List, [], ◌∷◌, ◌++◌, length, refl, inl, inr, sym, subst, arith, length-append}
use Rattle.std.specs.List.{AllByRecursion, Any}
use Rattle.int_sets.specs.Holding.{NumberRange}
use Rattle.prefix_patterns.specs.Matching.{PrefixPattern}
use Rattle.filter_syntax.specs.Syntax.{nesting_limit}
use Rattle.filter_tokens.specs.Lexemes.{Lexeme, lexemes}
use Rattle.filter_tokens.specs.declared.symbol.Symbol.TheVariants as symbols
use Rattle.filter_syntax.specs.SyntaxCommands.{CommandsView, DeclView, spelling_commands, spelling_decls}
use Rattle.filter_syntax.specs.SyntaxText.{FilterView, IsText, spelling_filter}
use Rattle.filter_code.specs.CodeView.{CodeView}
use Rattle.filter_code.specs.declared.instruction.Instr.TheVariants as instr
use Rattle.filter_compiler.specs.SetOrder.{none_before}
use Rattle.filter_compiler.specs.Translation.{code_of, commands_code, commands_sets, declarations_code}
use Rattle.filter_source.specs.Sources.{Translates}
use Rattle.code_file.specs.Spelling.{IsCode, IsIntSet, IsPattern, IsRange, IsSet}
use Rattle.filter_reports.proofs.CommandsFit.{commands_fit, declarations_fit}
use Rattle.filter_reports.proofs.InstructionsFit.{AreNumbered, joined_fit}
use Rattle.filter_reports.proofs.LexemeLimits.{AreSmall, IsSmall, lexemes_small, parts_of_all}
use Rattle.filter_reports.proofs.SetsFit.{commands_sets_fit}

pub at_most : (limit n : ℕ) → ¬ (limit < n) → n ≤ limit
at_most limit n h = omega (arith, h)

-- no set has too many members
each_within : {X : Type 0} (limit : ℕ) (sets : List (List X)) → ¬ Any (λ set. limit < length set) sets
    → AllByRecursion (λ set. length set ≤ limit) sets
each_within limit [] none = tt
each_within limit (x ∷ xs) none = (
  at_most limit (length x) (λ many. none (0, x, omega arith, refl, many)),
  each_within limit xs (λ any. none (suc any.0, any.1, omega (arith, any.2), any.3, any.4)),
)

are_sets : (sets : List (List PrefixPattern)) → AllByRecursion (λ set. length set ≤ 1024) sets → AllByRecursion (AllByRecursion IsPattern) sets
    → AllByRecursion IsSet sets
are_sets [] few fit = tt
are_sets (x ∷ xs) few fit = (record { within_limit = few.0; each = fit.0 }, are_sets xs few.1 fit.1)

are_int_sets : (sets : List (List NumberRange)) → AllByRecursion (λ set. length set ≤ 1024) sets → AllByRecursion (AllByRecursion IsRange) sets
    → AllByRecursion IsIntSet sets
are_int_sets [] few fit = tt
are_int_sets (x ∷ xs) few fit = (record { within_limit = few.0; each = fit.0 }, are_int_sets xs few.1 fit.1)

-- the lexemes of the commands are among those of the filter
body_small : (name : List ℕ) (head inner : List DeclView) (body : CommandsView) → AreSmall (spelling_filter name head inner body)
    → AreSmall (spelling_commands body)
body_small name head inner body small =
    let last = Lexeme.symbol symbols.RightBrace ∷ [] in
    let end = spelling_commands body ++ last in
    let opened = Lexeme.symbol symbols.LeftBrace ∷ (spelling_decls inner ++ end) in
    let after_head = parts_of_all IsSmall (spelling_decls head) opened small.1.1 in
    let after_inner = parts_of_all IsSmall (spelling_decls inner) end after_head.1.1 in
    let here = parts_of_all IsSmall (spelling_commands body) last after_inner.1 in
    here.0

text_small : (text : List ℕ) (filter : FilterView) → IsText text filter → AreSmall (spelling_commands filter.body)
text_small text filter h =
    let tokens = subst (λ ts. AreSmall (lexemes text ts)) (sym h.cut.among) (lexemes_small text h.cut.parts 0 text h.cut.cut) in
    body_small filter.name h.head h.inner filter.body (subst AreSmall h.spelled tokens)

pub text_has_file : (text : List ℕ) (filter : FilterView) (program : CodeView) → Translates text filter program → IsCode program
text_has_file text filter program h =
    let small = text_small text filter h.spelled in
    let all = (code_of filter).instrs in
    let sets = commands_sets filter.body in
    let declarations = declarations_code 0 filter.decls in
    let commands = commands_code filter.decls none_before filter.body in
    let short : length all ≤ 1024 = at_most 1024 (length all) h.short in
    let patterns : length sets.patterns ≤ 64 = at_most 64 (length sets.patterns) (λ many. h.few (inl (inl many))) in
    let ints : length sets.ints ≤ 64 = at_most 64 (length sets.ints) (λ many. h.few (inr (inl many))) in
    let fit = commands_sets_fit filter.body nesting_limit h.spelled.fits small in
    let numbered : AreNumbered none_before sets = record { patterns = omega (arith, patterns); ints = omega (arith, ints) } in
    let within : length commands ≤ 1024 =
    omega (arith, short, length-append declarations (commands ++ instr.Reject ∷ []), length-append commands (instr.Reject ∷ [])) in
    subst IsCode (sym h.code) (record {
      locals = h.typed.declared.few;
      sets = patterns;
      each_set = are_sets sets.patterns (each_within 1024 sets.patterns (λ many. h.few (inl (inr many)))) fit.patterns;
      int_sets = (ints, are_int_sets sets.ints (each_within 1024 sets.ints (λ many. h.few (inr (inr many)))) fit.ints);
      instrs = short;
      each_instr =
          joined_fit declarations (commands ++ instr.Reject ∷ []) (declarations_fit 0 filter.decls (omega (arith, h.typed.declared.few)))
          (joined_fit commands (instr.Reject ∷ [])
          (commands_fit filter.decls h.typed.declared.few none_before filter.body nesting_limit h.spelled.fits small numbered within)
          ((tt, refl), tt));
    })
