-- Reading one of the lists that stand one after the other.
use Rattle.std.proofs.Common.{◌≡◌, ℕ, ◌+◌, ◌*◌, ◌<◌, ◌≤◌, List, get_or, drop, ◌∙◌, arith}
use Rattle.std.proofs.lemmas.List.{get_or-take, get_or-drop, get_or_past, length-take}
use Rattle.verdict.specs.Tables.{part}

module _ {A : Type 0} (long n i : ℕ) (xs : List A) (d : A) where
  pub part_at : i < long → get_or (part long n xs) i d ≡ get_or xs (n * long + i) d
  part_at h = get_or-take long (drop (n * long) xs) i d h ∙ get_or-drop (n * long) xs i d

  pub part_past : long ≤ i → get_or (part long n xs) i d ≡ d
  part_past h = get_or_past (part long n xs) i d (omega (arith, length-take long (drop (n * long) xs)))
