-- What callers cite: when a set of ints holds a number, and the codes of faults.
pub mod Fault
pub mod Holding
-- What only bodies are proved against: ranges that are merged.
pub mod Merged
