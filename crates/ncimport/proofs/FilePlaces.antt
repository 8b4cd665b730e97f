-- The place of a byte of a file whose positions are at hand.
use Rattle.std.proofs.Common.{◌≡◌, ◌∙◌, ℕ, ◌∷◌, ◌++◌, [], List, Bor, Option, Some, None, Result, Ok, Err, OnOk, ap, refl, sym, length, map, append_assoc}
use Rattle.std.proofs.lemmas.Option.{slice_get-map, slice_get_past, slice_get_read}
use Rattle.std.specs.Option.{option_map}
use Rattle.std.specs.Prelude.{decimal, slice_get}
use Rattle.std.specs.Slice.{IsItemAt}
use Rattle.refusal_words.specs.Explanations.{position}
use Rattle.refusal_words.specs.Places.{column_at, line_at}
use Rattle.refusal_words.specs.Shown.{shown}
use Rattle.ncimport.specs.Places.{FileView, file_of, place_in, texts_of}
use Rattle.ncimport.specs.declared.including.ConfigFile.{ConfigFile}

item : {X : Type 0} (xs : List X) (i : ℕ) (x : Bor X) → IsItemAt xs i (Some x) → slice_get xs i ≡ Some x.now
item xs i x h = slice_get_read xs (length xs) i x.now refl h.3.0 h.1

-- the file of an index, and that its positions are those of its text
pub file_there : (files : List ConfigFile) (texts : List (List ℕ)) (i : ℕ) (file : Bor ConfigFile) (text : Bor (List ℕ)) →
    texts ≡ texts_of (map file_of files) → IsItemAt files i (Some file) → IsItemAt texts i (Some text) →
    (slice_get (map file_of files) i ≡ Some (file_of file.now)) × (text.now ≡ file.now.text.items)
file_there files texts i file text all there here =
    let found : slice_get (map file_of files) i ≡ Some (file_of file.now) =
    slice_get-map file_of files i ∙ ap (option_map file_of) (item files i file there) in
    let same : Some text.now ≡ Some file.now.text.items =
    sym (item texts i text here) ∙ ap (λ (ts : List (List ℕ)). slice_get ts i) all
    ∙ slice_get-map (λ (f : FileView). f.text) (map file_of files) i ∙ ap (option_map (λ (f : FileView). f.text)) found in
    (found, cc)

-- and there is none of an index behind the last one
pub file_missing : (files : List ConfigFile) (i : ℕ) → IsItemAt files i None → slice_get (map file_of files) i ≡ None
file_missing files i none = slice_get-map file_of files i ∙ ap (option_map file_of) (slice_get_past files i none.3)

-- what is added when the name and the position are
pub adds_place : (before after end : List ℕ) (f : FileView) (text : List ℕ) (line column at : ℕ) (found : Option FileView) → found ≡ Some f →
    text ≡ f.text → line ≡ line_at text at → column ≡ column_at text at → after ≡ before ++ shown f.name → end ≡ after ++ position line column →
    end ≡ before ++ place_in found at
adds_place before after end f text line column at found is same in_line in_column named ends =
    let in_line : line ≡ line_at f.text at = in_line ∙ ap (λ (t : List ℕ). line_at t at) same in
    let in_column : column ≡ column_at f.text at = in_column ∙ ap (λ (t : List ℕ). column_at t at) same in
    let spelled : shown f.name ++ position (line_at f.text at) (column_at f.text at) ≡ place_in (Some f) at =
    ap (λ (l : List ℕ). shown f.name ++ (58 ∷ l)) (append_assoc (decimal (line_at f.text at)) (58 ∷ []) (decimal (column_at f.text at)))
    ∙ sym (append_assoc (shown f.name) (58 ∷ decimal (line_at f.text at)) (58 ∷ decimal (column_at f.text at))) in
    ends ∙ ap (λ (l : List ℕ). l ++ position line column) named ∙ append_assoc before (shown f.name) (position line column)
    ∙ ap (λ (n : ℕ). before ++ (shown f.name ++ position n column)) in_line
    ∙ ap (λ (n : ℕ). before ++ (shown f.name ++ position (line_at f.text at) n)) in_column
    ∙ ap (λ (l : List ℕ). before ++ l) spelled
    ∙ ap (λ (o : Option FileView). before ++ place_in o at) (sym is)

pub on_ok : {X E P Q : Type 0} (r : Result X E) → (P → Q) → OnOk r P → OnOk r Q
on_ok (Ok x) f h = f h
on_ok (Err e) f h = tt
