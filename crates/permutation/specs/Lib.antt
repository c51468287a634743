-- What the contracts cite.
pub mod Permutation
pub mod Answer
pub mod Refusals
