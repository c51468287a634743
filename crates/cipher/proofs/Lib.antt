pub mod Answers
pub mod Decks
