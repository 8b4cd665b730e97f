-- Text as it is shown on a terminal: no character of it is a control character, or turns the direction of the text; and the line that a
-- caret stands under. (This project's own choice; which characters turn a text is Unicode's, and how wide one is, East Asian Width.)
use Rattle.std.specs.Prelude.{ℕ, ◌==◌, ◌&&◌, ◌||◌, Bool, false, not, nat_lt, nat_le, min, if◌then◌else◌}
use Rattle.std.specs.Prelude.{List, [], ◌∷◌, codes, encode_utf8_all, map, sum_by, take, unwrap_or}
use Rattle.bstr.specs.Utf8.{lossy_chars}
use Rattle.unicode_width.specs.Width.{char_width}

-- a character that is not shown: a control character other than the tab, a mark or an embedding that turns the direction of the text,
-- or one that ends a line
abbrev pub is_hidden : ℕ → Bool
is_hidden c = (nat_lt c 32 && not (c == 9)) || (nat_le 127 c && nat_lt c 160) || c == 0x61c || c == 0x200e || c == 0x200f
    || (nat_le 0x2028 c && nat_le c 0x202e) || (nat_le 0x2066 c && nat_le c 0x2069)

-- a character as it is shown: a control character of ASCII as a space, and any other that is not shown as U+FFFD
abbrev pub shown_character : ℕ → ℕ
shown_character c = if not (is_hidden c) then c else if nat_lt c 128 then 32 else 0xfffd

-- the characters of some bytes as they are shown; what is not UTF-8 is shown as U+FFFD
abbrev pub shown_characters : List ℕ → List ℕ
shown_characters bytes = map shown_character (lossy_chars bytes)

-- some bytes as they are shown
abbrev pub shown : List ℕ → List ℕ
shown bytes = encode_utf8_all (shown_characters bytes)

-- the columns of a character on a terminal, three at most, where it is no tab
abbrev pub width_of : ℕ → ℕ
width_of c = min (unwrap_or (char_width false c) 0) 3

-- what stands under a character before the caret: a tab under a tab, and otherwise as many spaces as the character is wide
abbrev pub indent_of : ℕ → List ℕ
indent_of c = if c == 9 then 9 ∷ [] else take (width_of c) (codes "   ")

-- the columns that a character takes at most: a tab ends at the next multiple of 8
abbrev pub columns_of : ℕ → ℕ
columns_of c = if c == 9 then 8 else width_of c

-- those that characters take at most, side by side
abbrev pub columns : List ℕ → ℕ
columns characters = sum_by columns_of characters
