-- The proofs of specs/Laws.antt: what a passed section tells, an induction over stands, and each law.
-- The samples and witnesses of specs/Samples.antt and specs/Witnesses.antt.
pub mod Rows
pub mod OneRead
pub mod OneSection
pub mod WalksTo
pub mod WholeWalk
pub mod OneStep
pub mod Passing
pub mod Induction
pub mod Messages
pub mod Counts
pub mod Places
pub mod Starts
pub mod Spans
pub mod Unlimited
pub mod Missing
pub mod Computed
