-- A turn of the loops that read all words of a line.
use Rattle.std.proofs.Common.{◌≡◌, ℕ, Bool, List, [], ◌∷◌, ◌++◌, Option, Some, None, refl, sym, ◌∙◌, ap, append_assoc, append-nil}
use Rattle.std.specs.Option.{option_map}
use Rattle.netchange_core.specs.declared.message.Message.{Message}
use Rattle.prefix_patterns.specs.Reading.{◌>>=◌, prefix_in}
use Rattle.history_file.specs.Reading.{all_messages, all_prefixes, message_in}

-- what was read so far, and what is read of the words that are left
abbrev pub after : {A : Type 0} → List A → Option (List A) → Option (List A)
after xs rest = option_map (λ ys. xs ++ ys) rest

one_more : {A : Type 0} (xs : List A) (x : A) (rest : Option (List A)) →
    after xs (rest >>= λ ys. Some (x ∷ ys)) ≡ after (xs ++ x ∷ []) rest
one_more xs x None = refl
one_more xs x (Some ys) = ap (λ zs. Some zs) (sym (append_assoc xs (x ∷ []) ys))

pub message_more : (all : Option (List Message)) (xs : List Message) (m : Message) (w : List ℕ) (ws : List (List ℕ)) →
    all ≡ after xs (all_messages (w ∷ ws)) → message_in w ≡ Some m → all ≡ after (xs ++ m ∷ []) (all_messages ws)
unfolding all_messages
message_more all xs m w ws e is =
    e ∙ ap (λ found. after xs (found >>= λ x. all_messages ws >>= λ ys. Some (x ∷ ys))) is ∙ one_more xs m (all_messages ws)

pub message_bad : (all : Option (List Message)) (xs : List Message) (w : List ℕ) (ws : List (List ℕ)) →
    all ≡ after xs (all_messages (w ∷ ws)) → message_in w ≡ None → all ≡ None
unfolding all_messages
message_bad all xs w ws e is = e ∙ ap (λ found. after xs (found >>= λ x. all_messages ws >>= λ ys. Some (x ∷ ys))) is

pub messages_end : (all : Option (List Message)) (xs : List Message) (ws : List (List ℕ)) → all ≡ after xs (all_messages ws) →
    ws ≡ [] → all ≡ Some xs
unfolding all_messages
messages_end all xs ws e is = e ∙ ap (λ rest. after xs (all_messages rest)) is ∙ ap (λ zs. Some zs) (append-nil xs)

pub messages_begin : (ws : List (List ℕ)) → all_messages ws ≡ after [] (all_messages ws)
messages_begin ws = none_before (all_messages ws)
  where
    none_before : (rest : Option (List Message)) → rest ≡ after [] rest
    none_before None = refl
    none_before (Some ys) = refl

pub prefix_more : (all : Option (List (List Bool))) (xs : List (List Bool)) (p : List Bool) (w : List ℕ) (ws : List (List ℕ)) →
    all ≡ after xs (all_prefixes (w ∷ ws)) → prefix_in w ≡ Some p → all ≡ after (xs ++ p ∷ []) (all_prefixes ws)
unfolding all_prefixes
prefix_more all xs p w ws e is =
    e ∙ ap (λ found. after xs (found >>= λ x. all_prefixes ws >>= λ ys. Some (x ∷ ys))) is ∙ one_more xs p (all_prefixes ws)

pub prefix_bad : (all : Option (List (List Bool))) (xs : List (List Bool)) (w : List ℕ) (ws : List (List ℕ)) →
    all ≡ after xs (all_prefixes (w ∷ ws)) → prefix_in w ≡ None → all ≡ None
unfolding all_prefixes
prefix_bad all xs w ws e is = e ∙ ap (λ found. after xs (found >>= λ x. all_prefixes ws >>= λ ys. Some (x ∷ ys))) is

pub prefixes_end : (all : Option (List (List Bool))) (xs : List (List Bool)) (ws : List (List ℕ)) → all ≡ after xs (all_prefixes ws) →
    ws ≡ [] → all ≡ Some xs
unfolding all_prefixes
prefixes_end all xs ws e is = e ∙ ap (λ rest. after xs (all_prefixes rest)) is ∙ ap (λ zs. Some zs) (append-nil xs)

pub prefixes_begin : (ws : List (List ℕ)) → all_prefixes ws ≡ after [] (all_prefixes ws)
prefixes_begin ws = none_before (all_prefixes ws)
  where
    none_before : (rest : Option (List (List Bool))) → rest ≡ after [] rest
    none_before None = refl
    none_before (Some ys) = refl
