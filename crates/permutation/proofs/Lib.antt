-- The lemmas, of which other crates may cite any.
pub mod Counting
pub mod Permutations
pub mod Inverse
pub mod Rearranging
pub mod Composing
pub mod Marks
