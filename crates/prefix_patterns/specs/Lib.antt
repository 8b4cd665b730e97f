-- What callers cite: bits of addresses and prefixes, matching, the texts of numbers, addresses and prefixes, the texts
-- that are displayed, what reading a text gives, and the codes of faults.
pub mod Bits
pub mod Fault
pub mod Leading
pub mod Matching
pub mod Number
pub mod Reading
pub mod Spelling
pub mod Token
pub mod Written
-- What only bodies are proved against: lemmas on bits, the trees of a set and their index.
pub mod BitLists
pub mod Index
pub mod Trees
