-- The first place that passes a test, or the end where none does.
use Rattle.std.proofs.Common.{◌≡◌, Bool, not, ltb, List, length, Some, None, refl, arith, position}
use Rattle.std.specs.Option.{unwrap_or}
use Rattle.std.specs.List.{position_or_len}
use Rattle.std.proofs.lemmas.List.Sums.{prefix_len-le-length}
use Rattle.std.proofs.lemmas.Bool.{cond_both, ltb-false}

pub position_or_end : {A : Type 0} (test : A → Bool) (xs : List A) → unwrap_or (position test xs) (length xs) ≡ position_or_len test xs
position_or_end test xs =
    let n = position_or_len test xs in
    cond_both (ltb n (length xs)) (Some n) None (λ found. unwrap_or found (length xs) ≡ n) (λ _. refl)
    (λ none. omega (arith, ltb-false n (length xs) none, prefix_len-le-length (λ x. not (test x)) xs))
