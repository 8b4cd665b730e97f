-- What callers cite: the fields and the spelling of a code, the fault of bytes that are not a code file, the codes of
-- faults, and of `Reading` the function `file_of`. The rest of `Reading` is what only bodies are proved against.
pub mod Codes
pub mod Fault
pub mod Fields
pub mod Reading
pub mod Spelling
