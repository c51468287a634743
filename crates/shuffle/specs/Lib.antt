-- What the contracts cite.
pub mod Shuffle
pub mod Steps
pub mod Printed
