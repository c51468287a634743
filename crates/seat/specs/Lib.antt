-- What the contracts cite.
pub mod Refusals
pub mod Seat
pub mod Answers
pub mod Generator
pub mod Kinds
-- Why the laws hold.
pub mod Generating
pub mod Laws
