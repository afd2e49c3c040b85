-- The proofs of specs/Writes.antt: `Encoding` of what is written, `EncodingNested` of the plans that are nested messages,
-- `EncodingDifferences` computed; `WrittenAnswers` holds specs/Encoder.antt to the crate; the others are steps towards them.
mod EncodingSteps
mod EncodingLevels
mod EncodingMessage
pub mod Encoding
pub mod EncodingNested
pub mod EncodingDifferences
mod WrittenAnswers
