-- What the contracts cite.
pub mod Keys
pub mod PowerCipher
-- Why the laws hold.
pub mod Laws
pub mod KeysLemmas
pub mod Largest
pub mod Inverses
pub mod Euclid
