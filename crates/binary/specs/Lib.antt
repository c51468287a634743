-- What the contracts cite.
pub mod Carryless
pub mod Binary
-- Why the laws hold.
pub mod Laws
pub mod Xor
pub mod Additive
pub mod Products
pub mod Multiples
pub mod Remainders
pub mod Frobenius
