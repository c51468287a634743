-- Lists of one length that stand one after the other, and what is found in a list that changes.
use Rattle.std.proofs.Common.{◌≡◌, ℕ, zero, suc, ◌+◌, ◌*◌, ◌<◌, ◌≤◌, Bool, true, false, cond, ◌||◌, eqb, List, [], ◌∷◌, ◌++◌, length, get_or, take, drop, set, sym, refl, ap, ◌∙◌, inl, inr, append-nil, arith, length-drop, take_all, get_or-set_other, get_or-set_same}
use lib.Seq.{take-append_seam, drop-append_seam, take-append-le, drop-append-le}
use Rattle.std.proofs.lemmas.List.{drop_all, get_or_push, get_or_past}
use Rattle.std.proofs.lemmas.Bool.{eqb-true, eqb-false, cases_Bool, cond-true, cond-false}
use Rattle.std.specs.List.{list_any}
use Rattle.verdict.specs.Tables.{part}

module _ {A : Type 0} (long : ℕ) where
  -- the part that begins where the first parts end
  pub part_next : (n : ℕ) (xs ys rest : List A) → length xs ≡ n * long → length ys ≡ long → part long n (xs ++ (ys ++ rest)) ≡ ys
  part_next n xs ys rest before is =
      ap (λ (k : ℕ). take long (drop k (xs ++ (ys ++ rest)))) (sym before)
      ∙ ap (take long) (drop-append_seam xs (ys ++ rest))
      ∙ ap (λ (k : ℕ). take k (ys ++ rest)) (sym is)
      ∙ take-append_seam ys rest

  pub part_last : (n : ℕ) (xs ys : List A) → length xs ≡ n * long → length ys ≡ long → part long n (xs ++ ys) ≡ ys
  part_last n xs ys before is = ap (λ (zs : List A). part long n (xs ++ zs)) (sym (append-nil ys)) ∙ part_next n xs ys [] before is

  -- the first parts stay
  pub part_stays : (n : ℕ) (xs ys : List A) → n * long + long ≤ length xs → part long n (xs ++ ys) ≡ part long n xs
  part_stays n xs ys within =
      ap (take long) (drop-append-le (n * long) xs ys (omega arith))
      ∙ take-append-le long (drop (n * long) xs) ys (simp length-drop (omega arith))

  pub part_past : (n : ℕ) (xs : List A) → length xs ≤ n * long → part long n xs ≡ []
  part_past n xs past = ap (take long) (drop_all (n * long) xs past) ∙ take_all long [] (omega arith)

module _ {A : Type 0} (z : A) where
  -- an element changed, or one more, read at any place
  pub get_or_set : (xs : List A) (i : ℕ) (x : A) (k : ℕ) → i < length xs → get_or (set xs i x) k z ≡ cond (eqb k i) x (get_or xs k z)
  get_or_set xs i x k below =
      elim (cases_Bool (eqb k i)) [
        | inl is ↦ ap (λ (j : ℕ). get_or (set xs i x) j z) (eqb-true k i is) ∙ get_or-set_same xs i x z below ∙ sym (cond-true _ _ _ is)
        | inr other ↦ get_or-set_other xs i k x z (eqb-false k i other) ∙ sym (cond-false _ _ _ other)
      ]

  get_or_before : (xs : List A) (x : A) (k : ℕ) → (k ≡ length xs → ⊥) → get_or (xs ++ (x ∷ [])) k z ≡ get_or xs k z
  get_or_before [] x zero other = absurd (other refl)
  get_or_before [] x (suc k) other = refl
  get_or_before (y ∷ xs) x zero other = refl
  get_or_before (y ∷ xs) x (suc k) other = get_or_before xs x k (λ is. other (ap suc is))

  pub get_or_added : (xs : List A) (x : A) (k : ℕ) → get_or (xs ++ (x ∷ [])) k z ≡ cond (eqb k (length xs)) x (get_or xs k z)
  get_or_added xs x k =
      elim (cases_Bool (eqb k (length xs))) [
        | inl is ↦ get_or_push xs x z k (sym (eqb-true k (length xs) is)) ∙ sym (cond-true _ _ _ is)
        | inr other ↦ get_or_before xs x k (eqb-false k (length xs) other) ∙ sym (cond-false _ _ _ other)
      ]

  -- what is told of the elements stays where the changed or added one tells the same
  module _ {B : Type 0} (f : A → B) where
    pub told_changed : (xs : List A) (i : ℕ) (x : A) (k : ℕ) → i < length xs → f x ≡ f (get_or xs i z) → f (get_or (set xs i x) k z) ≡ f (get_or xs k z)
    told_changed xs i x k below same =
        ap f (get_or_set xs i x k below)
        ∙ elim (cases_Bool (eqb k i)) [
          | inl is ↦ ap f (cond-true _ _ _ is) ∙ same ∙ ap (λ (j : ℕ). f (get_or xs j z)) (sym (eqb-true k i is))
          | inr other ↦ ap f (cond-false _ _ _ other)
        ]

    pub told_added : (xs : List A) (x : A) (k : ℕ) → f x ≡ f z → f (get_or (xs ++ (x ∷ [])) k z) ≡ f (get_or xs k z)
    told_added xs x k same =
        ap f (get_or_added xs x k)
        ∙ elim (cases_Bool (eqb k (length xs))) [
          | inl is ↦ ap f (cond-true _ _ _ is) ∙ same ∙ ap f (sym (get_or_past xs k z (omega (arith, eqb-true k (length xs) is))))
          | inr other ↦ ap f (cond-false _ _ _ other)
        ]

  -- a search in a list of which an element changed, or that has one more
  pub some_changed : (test : A → Bool) (xs : List A) (i : ℕ) (x : A) → i < length xs → test x ≡ test (get_or xs i z) → list_any test (set xs i x) ≡ list_any test xs
  some_changed test [] i x below same = refl
  some_changed test (y ∷ xs) zero x below same = ap (λ (b : Bool). b || list_any test xs) same
  some_changed test (y ∷ xs) (suc i) x below same = ap (λ (b : Bool). test y || b) (some_changed test xs i x (omega arith) same)

or_swap : (a b c : Bool) → (a || (b || c)) ≡ (b || (a || c))
or_swap true true c = refl
or_swap true false c = refl
or_swap false true c = refl
or_swap false false c = refl

pub some_added : {A : Type 0} (test : A → Bool) (xs : List A) (x : A) → list_any test (xs ++ (x ∷ [])) ≡ (test x || list_any test xs)
some_added test [] x = refl
some_added test (y ∷ xs) x = ap (λ (b : Bool). test y || b) (some_added test xs x) ∙ or_swap (test y) (test x) (list_any test xs)
