pub mod Parts
pub mod Decks
pub mod Bounds
pub mod Below
pub mod Positions
pub mod Passing
