-- Worked rows of places: a text of two lines, `ab` and a sign of three bytes, a tab and `c`.
use Rattle.std.proofs.Common.{◌≡◌, ℕ, List, [], ◌∷◌, ◌++◌, map, replicate, refl}
use Rattle.unicode_width.proofs.Computing.{unicode_width}
use Rattle.refusal_words.specs.Explanations.{excerpt_of, first_of, last_of}
use Rattle.refusal_words.specs.Places.{column_at, line_at}
use Rattle.refusal_words.specs.Shown.{shown_character}

abbrev text : List ℕ
text = 97 ∷ (98 ∷ (10 ∷ (226 ∷ (130 ∷ (172 ∷ (9 ∷ (99 ∷ (10 ∷ []))))))))

-- the first byte, and the line feed behind the first line
at_first : line_at text 0 ≡ 1
at_first = refl

first_column : column_at text 0 ≡ 1
first_column = refl

at_feed : column_at text 2 ≡ 3
at_feed = refl

-- the second line: a sign of three bytes is one character, and so is a tab
second_line : line_at text 7 ≡ 2
second_line = refl

behind_sign : column_at text 6 ≡ 2
behind_sign = refl

behind_tab : column_at text 7 ≡ 3
behind_tab = refl

-- the end is in a line of its own
at_end : line_at text 9 ≡ 3
at_end = refl

end_column : column_at text 9 ≡ 1
end_column = refl

-- the caret is behind a space for the sign and a tab for the tab
shown : excerpt_of (0x20ac ∷ (9 ∷ [])) (99 ∷ [])
    ≡ 226 ∷ (130 ∷ (172 ∷ (9 ∷ (99 ∷ (10 ∷ (32 ∷ (9 ∷ (94 ∷ (10 ∷ [])))))))))
unfolding unicode_width
shown = refl

-- under a wide character there are two spaces
wide : excerpt_of (0x65e5 ∷ []) (99 ∷ []) ≡ 230 ∷ (151 ∷ (165 ∷ (99 ∷ (10 ∷ (32 ∷ (32 ∷ (94 ∷ (10 ∷ []))))))))
unfolding unicode_width
wide = refl

-- ESC is shown as a space, CSI and an override of the direction as U+FFFD, and a tab as it is
hidden : map shown_character (27 ∷ (0x9b ∷ (0x202e ∷ (9 ∷ (97 ∷ []))))) ≡ 32 ∷ (0xfffd ∷ (0xfffd ∷ (9 ∷ (97 ∷ []))))
hidden = refl

-- of 13 tabs 12 are kept, which take 96 columns; and of a line that takes 100 all is
tabs : last_of (replicate 13 9) ≡ replicate 12 9
tabs = refl

whole : first_of (replicate 12 9 ++ replicate 4 97) ≡ replicate 12 9 ++ replicate 4 97
unfolding unicode_width
whole = refl

-- of 51 wide characters 48 are kept
wide_front : first_of (replicate 51 0x65e5) ≡ replicate 48 0x65e5
unfolding unicode_width
wide_front = refl
