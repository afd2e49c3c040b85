-- The theorems: `ReadsBack` of each accepted plan, `Exactly` of each answer, `OneMessage` of what 16 means, `Samples` computed; the others
-- are steps towards them.
mod Numbers
mod Listed
mod Payloads
mod Walked
mod First
mod Ordered
mod Samples
pub mod ReadsBack
pub mod Exactly
pub mod OneMessage
