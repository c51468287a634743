pub mod Modulo
pub mod Distinct
pub mod Powers
