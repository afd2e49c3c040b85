-- Document 01's sample files, as one statement.
-- Each refusal exactly when its row holds and no row before it does.
-- Walks that give each of them.
-- How much is missing of a file that is cut.
-- What is so of every walk.
-- That a message starts with section 0 in every file.
-- Where the message of a line stands.
pub mod Samples
pub mod Rows
pub mod ExactlyWhen
pub mod OneStep
pub mod Witnesses
pub mod Missing
pub mod Laws
pub mod Starts
pub mod Spans
