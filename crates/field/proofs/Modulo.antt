-- Products of remainders.
use Rattle.std.proofs.Common.{◌≡◌, ℕ, ◌*◌, ◌/◌, ◌%◌, mul_assoc, mul_comm, add-mul}
use native.Mathlib.Nat.{div-add-mod, mul-add-mod_self_left}

-- a factor may be replaced by its remainder
pub mod_times : (a b n : ℕ) → (a % n) * b % n ≡ a * b % n
mod_times a b n =
    cc (div-add-mod a n, add-mul (n * (a / n)) (a % n) b, mul_assoc n (a / n) b, mul-add-mod_self_left n (a / n * b) (a % n * b))

pub times_mod : (a b n : ℕ) → a * (b % n) % n ≡ a * b % n
times_mod a b n = cc (mul_comm a (b % n), mod_times b a n, mul_comm b a)
