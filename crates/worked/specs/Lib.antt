pub mod Hand
pub mod Worked
