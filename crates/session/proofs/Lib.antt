-- What other crates may cite.
pub mod Accepted
-- the law over runs, from the rules and the laws of the cipher
pub mod Entries
pub mod Parts
pub mod Phases
pub mod Places
pub mod Dealt
pub mod Among
pub mod Sharing
pub mod Secrets
pub mod Steps
pub mod Layers
pub mod Decks
pub mod Chains
pub mod Shows
pub mod Verdicts
pub mod Lawful
-- a table that has come to a log is as the log says
pub mod Lists
pub mod Replay
pub mod Drawing
pub mod Disclosing
pub mod Kept
pub mod Running
