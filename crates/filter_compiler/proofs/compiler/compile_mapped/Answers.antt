use Rattle.std.proofs.Common.{◌≡◌, ℕ, true, List, length, ap, sym, subst, ◌∙◌}
use Rattle.std.proofs.lemmas.List.{length-map}
use Rattle.int_sets.specs.Holding.{NumberRange}
use Rattle.prefix_patterns.specs.Matching.{PrefixPattern}
use Rattle.filter_code.specs.CodeView.{CodeView}
use Rattle.filter_code.specs.declared.instruction.Instr.{Instr}
use Rattle.filter_syntax.specs.SyntaxCommands.{view_decl}
use Rattle.filter_syntax.specs.SyntaxText.{view_filter}
use Rattle.filter_syntax.specs.declared.tree.filter.Filter.{Filter}
use Rattle.filter_compiler.specs.Same.{MeansTheSame}
use Rattle.filter_compiler.specs.Translation.{code_of}
use Rattle.filter_compiler.proofs.Whole.{means_the_same}
use Rattle.filter_compiler.proofs.compiler.compile_mapped.Goals as goal

abbrev program_of : ℕ → List (List PrefixPattern) → List (List NumberRange) → List Instr → CodeView
program_of locals sets int_sets instrs = record { locals = locals; sets = sets; int_sets = int_sets; instrs = instrs }

pub returns-clause-meaning : goal.returns-clause-meaning
returns-clause-meaning c =
    let f = view_filter c.args.typed.now in
    let out = c.write_filter-out.result in
    let sets = c.sets_in-sets.result in
    let locals : length c.decls.result.now ≡ length f.decls =
    sym (length-map c.decls.result.now view_decl)
    ∙ ap length (c.decls.ensures.view ∙ ap (λ (x : Filter). (view_filter x).decls) c.filter.ensures.value) in
    let kept : out.kept ≡ true = (let e = c.if-not-out.false in cc) in
    let kept_sets : sets.kept ≡ true = (let e = c.if-not-sets.false in cc) in
    let is : c.in_ok-build_code.field-0.code ≡ code_of f =
    c.in_ok-build_code.ensures.code
    ∙ (ap (λ n. program_of n sets.patterns.items sets.ints.items out.mapped.instrs) locals
    ∙ (ap (λ s. program_of (length f.decls) s sets.ints.items out.mapped.instrs) (c.sets_in-sets.ensures.patterns kept_sets)
    ∙ (ap (λ s. program_of (length f.decls) (code_of f).sets s out.mapped.instrs) (c.sets_in-sets.ensures.ints kept_sets)
    ∙ ap (program_of (length f.decls) (code_of f).sets (code_of f).int_sets) (c.write_filter-out.ensures.code.instrs kept)))) in
    subst (MeansTheSame f) (sym is) (means_the_same f c.filter.ensures.typed)
