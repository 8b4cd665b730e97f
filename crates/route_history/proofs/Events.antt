-- Every event advances a session.
use Rattle.std.proofs.Common.{◌≡◌, refl, ℕ, ◌<◌, ◌==◌, inl, inr, Bool, true, false, ◌||◌, Option, Some, None, length, arith}
use Rattle.std.proofs.lemmas.Bool.{cond_both, leb-false}
use Rattle.std.specs.Prelude.{nat_le, nat_lt}
use Rattle.std.specs.declared.sync.Arc.{Arc}
use Rattle.std.specs.declared.alloc.Global.{Global}
use Rattle.filter_verifier.specs.VerifiedView.{VerifiedView}
use Rattle.netchange_core.specs.declared.event.Event.{Event}
use Rattle.netchange_core.specs.declared.event.Event.TheVariants as event
use Rattle.netchange_core.specs.declared.reply.EventRefusal.TheVariants as refusal
use Rattle.netchange_core.specs.Next.{advertising, down, gone, importing, is_no_neighbour, last_session}
use Rattle.netchange_core.specs.Next.{next, receive, set_export, set_import, show, take_from, up}
use Rattle.netchange_core.specs.World.{World, holder, is_up, neighbour_at}
use Rattle.netchange_core.proofs.Holders.{down_none, found_holds}
use Rattle.route_history.proofs.Advances.{Advances, refused_advances, shown_advances}
use Rattle.route_history.proofs.Holders.{AreOwn}
use Rattle.route_history.proofs.Queueing.{exported_advances, taken_advances}
use Rattle.route_history.proofs.Recomputing.{recomputed_advances}
use Rattle.route_history.proofs.Starting.{opened_advances}

neither : (x y : Bool) → (x || y) ≡ false → x ≡ false
neither true y h = h
neither false y h = refl

-- a neighbour's number is a node's
is_there : (w : World) (k : ℕ) → AreOwn w → is_no_neighbour w.opening k ≡ false → k < length w.neighbours
is_there w k own h =
    let below : k < w.opening.size = leb-false w.opening.size k (neither (nat_le w.opening.size k) (k == w.opening.me) h) in
    omega (arith, own.one_a_node)

module _ (w : World) (s : ℕ) (own : AreOwn w) where
  up_advances : (k : ℕ) → Advances w s (event.Up k) (up w k)
  up_advances k =
      cond_both (is_no_neighbour w.opening k) _ _ (Advances w s (event.Up k)) (λ _. refused_advances w s (event.Up k) refusal.NoNode own) (λ node.
      cond_both (is_up (neighbour_at w.neighbours k)) _ _ (Advances w s (event.Up k)) (λ _. refused_advances w s (event.Up k) refusal.AlreadyUp own) (λ is_down.
      cond_both (w.sessions == last_session) _ _ (Advances w s (event.Up k)) (λ _. refused_advances w s (event.Up k) refusal.NoSession own) (λ _.
      opened_advances w s k own (is_there w k own node) (down_none (neighbour_at w.neighbours k) is_down))))

  down_advances : (t : ℕ) (o : Option ℕ) → holder w t ≡ o → Advances w s (event.Down t) (down w o)
  down_advances t None h = refused_advances w s (event.Down t) refusal.Stale own
  down_advances t (Some k) h =
      recomputed_advances w s k (gone w.opening) (event.Down t) own (found_holds w.neighbours t k h).0 (λ p. inr refl) (λ new i. refl)

  receive_advances : (t v d : ℕ) (o : Option ℕ) → holder w t ≡ o → Advances w s (event.Receive t v d) (receive w o v d)
  receive_advances t v d None h = refused_advances w s (event.Receive t v d) refusal.Stale own
  receive_advances t v d (Some k) h =
      cond_both (nat_le w.opening.size v) _ _ (Advances w s (event.Receive t v d)) (λ _. refused_advances w s (event.Receive t v d) refusal.BadDest own) (λ _.
      cond_both (nat_lt w.opening.size d) _ _ (Advances w s (event.Receive t v d)) (λ _. refused_advances w s (event.Receive t v d) refusal.BadDist own) (λ _.
      recomputed_advances w s k (advertising v d) (event.Receive t v d) own (found_holds w.neighbours t k h).0 (λ p. inl (refl, refl)) (λ new i. refl)))

  take_advances : (t max : ℕ) (o : Option ℕ) → holder w t ≡ o → Advances w s (event.Take t max) (take_from w o max)
  take_advances t max None h = refused_advances w s (event.Take t max) refusal.Stale own
  take_advances t max (Some k) h =
      let holds = found_holds w.neighbours t k h in
      taken_advances w s t max k own holds.0 holds.1

  import_advances : (k : ℕ) (f : Arc VerifiedView Global) → Advances w s (event.SetImport k f) (set_import w k f.value)
  import_advances k f =
      cond_both (is_no_neighbour w.opening k) _ _ (Advances w s (event.SetImport k f)) (λ _. refused_advances w s (event.SetImport k f) refusal.NoNode own) (λ node.
      cond_both (f.value.size == w.opening.size) _ _ (Advances w s (event.SetImport k f))
      (λ _. recomputed_advances w s k (importing f.value) (event.SetImport k f) own (is_there w k own node) (λ p. inl (refl, refl)) (λ new i. refl))
      (λ _. refused_advances w s (event.SetImport k f) refusal.OtherSize own))

  export_advances : (k : ℕ) (f : Arc VerifiedView Global) → Advances w s (event.SetExport k f) (set_export w k f.value)
  export_advances k f =
      cond_both (is_no_neighbour w.opening k) _ _ (Advances w s (event.SetExport k f)) (λ _. refused_advances w s (event.SetExport k f) refusal.NoNode own) (λ node.
      cond_both (f.value.size == w.opening.size) _ _ (Advances w s (event.SetExport k f))
      (λ _. exported_advances w s k f own (is_there w k own node))
      (λ _. refused_advances w s (event.SetExport k f) refusal.OtherSize own))

  show_advances : (v : ℕ) → Advances w s (event.Show v) (show w v)
  show_advances v =
      cond_both (nat_le w.opening.size v) _ _ (Advances w s (event.Show v)) (λ _. refused_advances w s (event.Show v) refusal.BadDest own) (λ _.
      shown_advances w s v own)

  pub event_advances : (e : Event) → Advances w s e (next w e)
  event_advances (event.Up k) = up_advances k
  event_advances (event.Down t) = down_advances t (holder w t) refl
  event_advances (event.Receive t v d) = receive_advances t v d (holder w t) refl
  event_advances (event.Take t max) = take_advances t max (holder w t) refl
  event_advances (event.SetImport k f) = import_advances k f
  event_advances (event.SetExport k f) = export_advances k f
  event_advances (event.Show v) = show_advances v
