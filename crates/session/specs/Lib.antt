pub mod Runs
pub mod Steps
pub mod Law
pub mod Printed
