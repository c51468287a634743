-- A value under the locks of several seats, which are taken off in any order.
use Rattle.std.proofs.Common.{◌≡◌, ℕ, zero, suc, ◌<◌, ◌≤◌, Bool, true, false, cond, ◌||◌, eqb, List, ◌∷◌, sym, refl, ap, ◌∙◌, subst, inl, inr, arith}
use Rattle.std.proofs.lemmas.Bool.{cases_Bool, cases_eq, cond-true, cond_both, eq-eqb, ne_eqb, or_left}
use Rattle.cipher.specs.Cipher.{CipherMeaning, CipherLaws, Value, Lawful}
use Rattle.session.specs.Runs.{among}

-- the lock of another seat
other_off : (s n : ℕ) (off : List ℕ) → (s ≡ n → ⊥) → among n (s ∷ off) ≡ among n off
other_off s n off other = ap (λ (b : Bool). b || among n off) (ne_eqb s n other)

module _ (m : CipherMeaning) (key : ℕ → ℕ) (v : ℕ) where
  -- v under the locks of the seats below n, but for those whose locks are off
  abbrev pub under : List ℕ → ℕ → ℕ
  under off zero = v
  under off (suc n) = cond (among n off) (under off n) (m.lock (key n) (under off n))

  -- all locks are off
  pub under_none : (off : List ℕ) (n : ℕ) → ((s : ℕ) → s < n → among s off ≡ true) → under off n ≡ v
  under_none off zero all = refl
  under_none off (suc n) all =
      cond-true (among n off) (under off n) (m.lock (key n) (under off n)) (all n (omega arith))
      ∙ under_none off n (λ s h. all s (omega arith))

  -- a lock that is not among these
  under_later : (s : ℕ) (off : List ℕ) (n : ℕ) → n ≤ s → under (s ∷ off) n ≡ under off n
  under_later s off zero later = refl
  under_later s off (suc n) later =
      let inner = under_later s off n (omega arith) in
      let same = other_off s n off (λ e. omega arith) in
      cc

module _ (m : CipherMeaning) (laws : CipherLaws m) (key : ℕ → ℕ) (v : ℕ) (value : Value m v) where
  -- the seats below n have lawful keys
  abbrev LawfulBelow : ℕ → Type 0
  LawfulBelow n = (s : ℕ) → s < n → Lawful m (key s)

  under_value : (off : List ℕ) (n : ℕ) → LawfulBelow n → Value m (under m key v off n)
  under_value off zero lawful = value
  under_value off (suc n) lawful =
      let inside = under m key v off n in
      let rest = under_value off n (λ s h. lawful s (omega arith)) in
      cond_both (among n off) inside (m.lock (key n) inside) (Value m) (λ _. rest) (λ _. laws.locked (key n) inside (lawful n (omega arith)) rest)

  -- the lock of seat s, taken off the value under the locks of the seats below n
  abbrev TakesOff : ℕ → List ℕ → ℕ → Type 0
  TakesOff s off n = m.lock (m.undo (key s)) (under m key v off n) ≡ under m key v (s ∷ off) n

  -- the outermost lock
  outermost_off : (n : ℕ) (off : List ℕ) → LawfulBelow (suc n) → among n off ≡ false → TakesOff n off (suc n)
  outermost_off n off lawful on =
      let inside = under_value off n (λ r h. lawful r (omega arith)) in
      let undone = laws.undone (key n) (under m key v off n) (lawful n (omega arith)) inside in
      let here = or_left (eqb n n) (among n off) (eq-eqb n n refl) in
      let later = under_later m key v n off n (omega arith) in
      cc

  -- a lock below the outermost
  inner_off : (s n : ℕ) (off : List ℕ) → LawfulBelow (suc n) → s < n → TakesOff s off n → TakesOff s off (suc n)
  inner_off s n off lawful below inner =
      let inside = under_value off n (λ r h. lawful r (omega arith)) in
      let undo = laws.undo_lawful (key s) (lawful s (omega arith)) in
      let commute = laws.commute (m.undo (key s)) (key n) (under m key v off n) undo (lawful n (omega arith)) inside in
      let other = other_off s n off (λ e. omega arith) in
      elim (cases_Bool (among n off)) [
        | inl h ↦ cc
        | inr h ↦ cc
      ]

  -- a lock wherever it stands among the others
  pub under_off : (s : ℕ) (off : List ℕ) (n : ℕ) → LawfulBelow n → s < n → among s off ≡ false → TakesOff s off n
  under_off s off zero lawful below on = absurd (omega arith)
  under_off s off (suc n) lawful below on = elim (cases_eq s n) [
    | inl h ↦ subst (λ (r : ℕ). TakesOff r off (suc n)) (sym h) (outermost_off n off lawful (subst (λ (r : ℕ). among r off ≡ false) h on))
    | inr h ↦ inner_off s n off lawful (omega arith) (under_off s off n (λ r l. lawful r (omega arith)) (omega arith) on)
  ]
