-- Entries that are told one after another, from a position on.
use Rattle.std.proofs.Common.{◌≡◌, ◌∙◌, sym, ap, suc, ℕ, ◌+◌, ◌-◌, ◌<◌, ◌≤◌, List, ◌∷◌, ◌++◌, append_assoc, length, map, take}
use Rattle.std.proofs.Common.{drop, get_or, length-take-le, length-drop, drop-cons, get_or-take, get_or-drop, arith}
use Rattle.history_lines.specs.Text.{entry_line}
use Rattle.history_lines.specs.Views.{entry_view}
use Rattle.operator_cmds.specs.Looks.{bar_before, entries_text}
use Rattle.route_history.specs.declared.entry.Entry.{Entry}

module _ (es : List Entry) (from count told : ℕ) (e : Entry) (within : count ≤ length es - from) (below : told < count)
    (is : e ≡ get_or es (from + told) e) where
  abbrev part : List Entry
  part = take count (drop from es)

  reached : told < length part
  reached =
      let long : count ≤ length (drop from es) = omega (arith, length-drop from es, within) in
      omega (arith, length-take-le count (drop from es) long, below)

  -- what is left begins with the entry at the position
  pub left_begins : drop told (take count (drop from es)) ≡ e ∷ drop (suc told) (take count (drop from es))
  left_begins =
      drop-cons part told e reached
      ∙ ap (λ (x : Entry). x ∷ drop (suc told) part)
      (get_or-take count (drop from es) told e below ∙ get_or-drop from es told e ∙ sym is)

  -- its line is added, and the lines of what is left will be
  pub one_told : (next : ℕ) (out barred new start : List ℕ) → next ≡ suc told → barred ≡ out ++ bar_before told →
      new ≡ barred ++ entry_line (from + told) (entry_view e) →
      out ++ entries_text from told (map entry_view (drop told (take count (drop from es)))) ≡ start →
      new ++ entries_text from next (map entry_view (drop next (take count (drop from es)))) ≡ start
  one_told next out barred new start is_next bar line before =
      let rest = entries_text from (suc told) (map entry_view (drop (suc told) part)) in
      let text = entry_line (from + told) (entry_view e) in
      ap (λ (n : ℕ). new ++ entries_text from n (map entry_view (drop n part))) is_next
      ∙ ap (λ (l : List ℕ). l ++ rest) (line ∙ ap (λ (l : List ℕ). l ++ text) bar)
      ∙ ap (λ (l : List ℕ). l ++ rest) (append_assoc out (bar_before told) text)
      ∙ append_assoc out (bar_before told ++ text) rest
      ∙ ap (λ (l : List Entry). out ++ entries_text from told (map entry_view l)) (sym left_begins)
      ∙ before
