-- The lemmas.
mod Cards
mod Stepping
