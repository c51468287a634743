mod Squaring
pub mod Computing
