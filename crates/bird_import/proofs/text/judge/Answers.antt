use Rattle.std.proofs.Common.{◌≡◌, ◌∙◌, ◌<◌, ℕ, List, ap, length, slice_get, subst, sym, true}
use Rattle.filter_syntax.specs.SyntaxCommands.{DeclView, view_decl}
use Rattle.filter_syntax.specs.SyntaxText.{view_filter}
use Rattle.filter_syntax.specs.declared.tree.decl.Decl.{Decl}
use Rattle.filter_tokens.specs.declared.token.Token.{Token}
use Rattle.bird_import.specs.Alike.{AreAlike}
use Rattle.bird_import.specs.Indices.{IsNamedAt}
use Rattle.bird_import.specs.Spelling.{IsSpelled}
use Rattle.bird_import.specs.Unassigned.{reads_first_in}
use Rattle.bird_import.proofs.Below.{same_some}
use Rattle.bird_import.proofs.Variables.{decl_at, has_variable}
use Rattle.bird_import.proofs.Spelled.{false_not_true, not_written, of_fault, taken}
use Rattle.bird_import.proofs.text.judge.Goals as goal

pub returns-in-Err : goal.returns-in-Err
returns-in-Err c =
    let refused = c.in-Err.ensures in
    of_fault c.args.words.now c.args.text.now c.in-Err.why c.refused_outcome.result c.refused_outcome.ensures
    (λ other. record {
      spells_none = refused.refused other;
      no_memory = other;
      within = refused.within;
      head = refused.head;
      long = λ over. let is = refused.long over in cc;
    }) refused.around

pub returns-then-not-are_words : goal.returns-then-not-are_words
returns-then-not-are_words c =
    not_written c.args.text.now c.args.words.now (view_filter c.in-Ok.filter) c.tokens.result.now c.in-Ok.ensures.unique c.tokens.ensures
    (λ alike. false_not_true (c.if-not-are_words.ensures.1 alike))

pub index_of_name-requires : goal.index_of_name-requires
index_of_name-requires c =
    let filter = view_filter c.in-Ok.filter in
    let decl = c.index-decls-unset.result in
    let alike = subst (λ (tokens : List Token). AreAlike (IsSpelled c.args.text.now) tokens c.args.words.now) c.tokens.ensures
    (c.are_words.ensures.0 c.if-not-are_words.false) in
    let below = subst (λ (decls : List Decl). c.in-Some.unset.variable < length decls) (sym c.decls.ensures.value) c.in-Some.ensures.within in
    let is = decl_at c.decls.result.now filter.decls c.in-Some.unset.variable decl c.decls.ensures.view below c.index-decls-unset.is in
    let same = c.as_slice-name.ensures.value ∙ ap (λ (d : Decl). d.name.items) (sym c.index-decls-unset.is) in
    let has = has_variable c.args.text.now c.args.words.now filter c.in-Ok.ensures.found alike (view_decl decl) c.in-Some.unset.variable is in
    subst (λ (name : List ℕ). (k : ℕ) × IsNamedAt name c.args.words.now k) (sym same) has

pub returns-in-Some : goal.returns-in-Some
returns-in-Some c =
    let filter = view_filter c.in-Ok.filter in
    let decl = c.index-decls-unset.result in
    let alike = subst (λ (tokens : List Token). AreAlike (IsSpelled c.args.text.now) tokens c.args.words.now) c.tokens.ensures
    (c.are_words.ensures.0 c.if-not-are_words.false) in
    let below = subst (λ (decls : List Decl). c.in-Some.unset.variable < length decls) (sym c.decls.ensures.value) c.in-Some.ensures.within in
    let is = decl_at c.decls.result.now filter.decls c.in-Some.unset.variable decl c.decls.ensures.view below c.index-decls-unset.is in
    let same = c.as_slice-name.ensures.value ∙ ap (λ (d : Decl). d.name.items) (sym c.index-decls-unset.is) in
    let found = c.in-Some.ensures.some in
    let one : found.0 ≡ view_decl decl = same_some (slice_get filter.decls c.in-Some.unset.variable) found.0 (view_decl decl) found.1.0 is in
    let unset = subst (λ (d : DeclView). reads_first_in d.name filter.body ≡ true) one found.1.1 in
    record {
      written = record { filter = filter; spells = c.in-Ok.ensures.found; same = alike };
      variable = view_decl decl;
      unset = (c.in-Some.unset.variable, (is, unset));
      named = subst (λ (name : List ℕ). IsNamedAt name c.args.words.now c.index_of_name.result) same c.index_of_name.ensures;
    }

pub returns : goal.returns
returns c =
    taken c.args.text.now c.args.words.now (view_filter c.in-Ok.filter) c.tokens.result.now c.in-Ok.ensures.found c.tokens.ensures
    (c.are_words.ensures.0 c.if-not-are_words.false) (c.first_unset.ensures.none c.in-None.is)
