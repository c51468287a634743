pub mod Refusals
pub mod Cipher
pub mod Answers
pub mod Decks
