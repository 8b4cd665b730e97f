-- What is kept of entries stays what it was as more is kept behind it.
use Rattle.std.proofs.Common.{◌≡◌, ◌∙◌, refl, sym, ap, ℕ, ◌+◌, ◌-◌, ◌≤◌, List, [], ◌∷◌, ◌++◌, length}
use Rattle.std.proofs.Common.{slice_index_or, slice_range, take, drop, length-append, arith}
use Rattle.std.proofs.lemmas.List.{drop_at, map-append, take-append-le, take_all}
use Rattle.std.proofs.lemmas.List.Elements.{All-head, All-push, All-tail}
use Rattle.std.proofs.lemmas.Slice.{between_is}
use Rattle.netchange_core.specs.declared.message.Message.{Message}
use Rattle.netchange_core.specs.declared.reply.Reply.{Reply}
use Rattle.netchange_core.specs.declared.reply.Reply.TheVariants as reply
use Rattle.route_history.specs.declared.entries.Kept.{Kept}
use Rattle.route_history.specs.declared.entries.Kept.TheVariants as kept
use Rattle.route_history.specs.declared.entries.Note.{Note}
use Rattle.route_history.specs.declared.entry.Entry.{Entry}
use Rattle.route_history.specs.Calls.{entry}
use Rattle.route_history.specs.Noted.{HaveMessagesIn, StandsIn, kept_entries, kept_entry, kept_reply}

module _ (all more : List Message) where
  range_more : (from to : ℕ) → to ≤ length all → slice_range (all ++ more) from to ≡ slice_range all from to
  range_more from to within =
      between_is (all ++ more) from to ∙ ap (λ (ms : List Message). drop from ms) (take-append-le to all more within)
      ∙ sym (between_is all from to)

  pub range_new : (first count : ℕ) → first ≡ length all → count ≡ length more → slice_range (all ++ more) first (first + count) ≡ more
  range_new first count begin long =
      ap (λ (ms : List Message). take (first + count - first) ms) (drop_at all more first (sym begin))
      ∙ take_all (first + count - first) more (omega (arith, long))

  reply_more : (k : Kept) → StandsIn all k → kept_reply (all ++ more) k ≡ kept_reply all k
  reply_more (kept.Opened session) stands = refl
  reply_more (kept.Done changed) stands = refl
  reply_more (kept.Messages count first) stands = ap (λ (ms : List Message). reply.Messages ms) (range_more first (first + count) stands)
  reply_more (kept.Route dist via) stands = refl
  reply_more (kept.Refused why) stands = refl

  stands_more : (k : Kept) → StandsIn all k → StandsIn (all ++ more) k
  stands_more (kept.Opened session) stands = tt
  stands_more (kept.Done changed) stands = tt
  stands_more (kept.Messages count first) stands = omega (arith, stands, length-append all more)
  stands_more (kept.Route dist via) stands = tt
  stands_more (kept.Refused why) stands = tt

  entries_more : (notes : List Note) → HaveMessagesIn all notes → kept_entries (all ++ more) notes ≡ kept_entries all notes
  entries_more [] stand = refl
  entries_more (n ∷ ns) stand =
      let first = All-head (λ (note : Note). StandsIn all note.reply) n ns stand in
      let rest = All-tail (λ (note : Note). StandsIn all note.reply) n ns stand in
      ap (λ (r : Reply). entry n.event r ∷ kept_entries (all ++ more) ns) (reply_more n.reply first)
      ∙ ap (λ (es : List Entry). kept_entry all n ∷ es) (entries_more ns rest)

  all_stand_more : (notes : List Note) → HaveMessagesIn all notes → HaveMessagesIn (all ++ more) notes
  all_stand_more notes stand k d below = stands_more (slice_index_or notes k d).reply (stand k d below)

  -- one more entry, with its messages behind all others
  module _ (notes : List Note) (n : Note) (stand : HaveMessagesIn all notes) (stands : StandsIn (all ++ more) n.reply) where
    pub noted_stand : HaveMessagesIn (all ++ more) (notes ++ n ∷ [])
    noted_stand = All-push (λ (note : Note). StandsIn (all ++ more) note.reply) notes n (all_stand_more notes stand) stands

    pub noted_entries : (r : Reply) → kept_reply (all ++ more) n.reply ≡ r →
        kept_entries (all ++ more) (notes ++ n ∷ []) ≡ kept_entries all notes ++ entry n.event r ∷ []
    noted_entries r is =
        map-append (kept_entry (all ++ more)) notes (n ∷ [])
        ∙ ap (λ (es : List Entry). es ++ kept_entry (all ++ more) n ∷ []) (entries_more notes stand)
        ∙ ap (λ (x : Reply). kept_entries all notes ++ entry n.event x ∷ []) is
