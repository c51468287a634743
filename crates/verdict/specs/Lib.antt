pub mod Log
pub mod Printed
pub mod Honesty
pub mod Tables
pub mod Forward
