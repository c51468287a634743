pub mod Soundness
pub mod Different
pub mod Draws
