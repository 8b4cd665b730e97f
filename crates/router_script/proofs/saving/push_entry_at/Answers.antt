-- The entry at the position, if there is one.
use Rattle.std.proofs.Common.{◌≡◌, ◌++◌, ℕ, List, Option, Some, None, OnOk, [], ◌∷◌, append_assoc, slice_get, sym, ap, subst, ◌∙◌, append-nil}
use Rattle.history_lines.specs.Text.{entry_line}
use Rattle.history_lines.specs.Views.{entry_view}
use Rattle.route_history.specs.Whole.{whole_entry}
use Rattle.route_history.specs.declared.entry.Entry.{Entry}
use Rattle.router_script.specs.News.{line_of}
use Rattle.router_script.proofs.saving.push_entry_at.Goals as goal

pub returns-in-Some : goal.returns-in-Some
returns-in-Some c =
    let at = c.args.at in
    let e = whole_entry c.in-Some.entry in
    let there : slice_get c.args.journal.now.entries at ≡ Some e =
    ap (λ (l : List Entry). slice_get l at) (sym c.entries.ensures.value) ∙ sym c.in-Some.ensures in
    let line = entry_line at (entry_view e) in
    let old = c.args.out.now.items in
    let new = c.write_entry.new.out.items in
    subst (λ (t : List ℕ). OnOk c.write_entry.result (new ≡ t))
    (append_assoc old line (10 ∷ []) ∙ ap (λ (found : Option Entry). old ++ line_of at found) (sym there)) c.write_entry.ensures.ok

pub returns-in-None : goal.returns-in-None
returns-in-None c =
    let at = c.args.at in
    let there : slice_get c.args.journal.now.entries at ≡ None =
    ap (λ (l : List Entry). slice_get l at) (sym c.entries.ensures.value) ∙ sym c.in-None.ensures in
    rw there (sym (append-nil c.args.out.now.items))
