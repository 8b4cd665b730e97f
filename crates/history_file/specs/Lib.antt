-- What callers cite: what a text shows of a history, the text itself, which histories have one, and which one bytes tell.
pub mod Segments
pub mod Files
pub mod Replays
pub mod Chains
pub mod ChainLines
-- What only bodies are proved against.
pub mod Reading
pub mod Numbering
