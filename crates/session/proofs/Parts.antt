-- The part of a log in which a draw is the last one.
use Rattle.std.proofs.Common.{◌≡◌, ℕ, suc, ◌+◌, ◌-◌, ◌<◌, ◌≤◌, Bool, true, false, cond, eqb, [], ◌∷◌, ◌++◌, sym, refl, ap, ◌∙◌, subst, inl, inr, arith}
use Rattle.std.proofs.lemmas.Bool.{cond-true, cond-false, cases_lt, eq-eqb, ne_eqb, or_right, true≢false}
use Rattle.std.proofs.lemmas.Bool.Decides.{eqb_tells}
use Rattle.std.specs.List.{list_any}
use Rattle.cipher.specs.Cipher.{CipherMeaning}
use Rattle.table.specs.State.{Move, is_running}
use Rattle.verdict.specs.Log.{Log, is_draw, draws, latest, up_to, drawn}
use Rattle.session.proofs.Accepted.{Accepted}
use Rattle.session.proofs.Entries.{Part, earlier_part}

-- a move makes one draw more, or none
one_more : (b : Bool) (n : ℕ) → (n ≤ cond b (suc n) n) × (cond b (suc n) n ≤ suc n)
one_more true n = (omega arith, omega arith)
one_more false n = (omega arith, omega arith)

pub draws_more : (x : Move) (log : Log) → (draws log ≤ draws (x ∷ log)) × (draws (x ∷ log) ≤ suc (draws log))
draws_more x log = one_more (is_draw x) (draws log)

-- the part of the last draw is the whole log
pub up_to_last : (d : ℕ) (log : Log) → draws log ≡ d + 1 → up_to d log ≡ log
up_to_last d [] last = refl
up_to_last d (x ∷ log) last =
    cond-true (eqb (draws (x ∷ log)) (d + 1)) (x ∷ log) (up_to d log) (eq-eqb (draws (x ∷ log)) (d + 1) last)

-- the part of another draw goes without the newest move
pub up_to_other : (d : ℕ) (x : Move) (log : Log) → (draws (x ∷ log) ≡ d + 1 → ⊥) → up_to d (x ∷ log) ≡ up_to d log
up_to_other d x log other =
    cond-false (eqb (draws (x ∷ log)) (d + 1)) (x ∷ log) (up_to d log) (ne_eqb (draws (x ∷ log)) (d + 1) other)

-- a draw that there is not has no part
pub up_to_none : (d : ℕ) (log : Log) → draws log ≤ d → up_to d log ≡ []
up_to_none d [] none = refl
up_to_none d (x ∷ log) none =
    let more = draws_more x log in
    up_to_other d x log (λ e. omega arith) ∙ up_to_none d log (omega arith)

-- in its part a draw is the last one
pub up_to_draws : (d : ℕ) (log : Log) → d < draws log → draws (up_to d log) ≡ d + 1
up_to_draws d [] below = omega arith
up_to_draws d (x ∷ log) below = elim (eqb_tells (draws (x ∷ log)) (d + 1)) [
  | inl h ↦ ap draws (up_to_last d (x ∷ log) h.1) ∙ h.1
  | inr h ↦
      let more = draws_more x log in
      let other = h.1 in
      ap draws (up_to_other d x log other) ∙ up_to_draws d log (omega arith)
]

-- the part is what is left of the log without its newest moves
pub up_to_earlier : (d : ℕ) (log : Log) → (later : Log) × (log ≡ later ++ up_to d log)
up_to_earlier d [] = ([], refl)
up_to_earlier d (x ∷ log) = elim (eqb_tells (draws (x ∷ log)) (d + 1)) [
  | inl h ↦ ([], sym (up_to_last d (x ∷ log) h.1))
  | inr h ↦
      let rest = up_to_earlier d log in
      let same = up_to_other d x log h.1 in
      (x ∷ rest.0, ap (λ (part : Log). x ∷ part) (rest.1 ∙ ap (λ (part : Log). rest.0 ++ part) (sym same)))
]

-- so its entries are entries of the log
pub up_to_part : (d : ℕ) (log : Log) → Part (up_to d log) log
up_to_part d log =
    let rest = up_to_earlier d log in
    subst (λ (l : Log). Part (up_to d log) l) (sym rest.1) (earlier_part rest.0 (up_to d log))

-- a move found in the part is found in the log
pub some_earlier : (test : Move → Bool) (later log : Log) → list_any test log ≡ true → list_any test (later ++ log) ≡ true
some_earlier test [] log found = found
some_earlier test (x ∷ later) log found = or_right (test x) (list_any test (later ++ log)) (some_earlier test later log found)

-- a draw that runs is the last one
pub running_last : (S : ℕ) (log : Log) → is_running (drawn S (draws log - 1) log).end ≡ true → drawn S (draws log - 1) log ≡ latest S log
running_last S log runs = elim (cases_lt 0 (draws log)) [
  | inl h ↦ ap (latest S) (up_to_last (draws log - 1) log (omega arith))
  | inr h ↦
      let none = up_to_none (draws log - 1) log (omega arith) in
      absurd (true≢false (sym runs ∙ ap (λ (part : Log). is_running (latest S part).end) none))
]

module _ (m : CipherMeaning) (S D : ℕ) where
  -- what came before accepted moves was accepted
  pub accepted_earlier : (later log : Log) → Accepted m S D (later ++ log) → Accepted m S D log
  accepted_earlier [] log all = all
  accepted_earlier (x ∷ later) log all = accepted_earlier later log all.1

  -- so was the part of a draw
  pub accepted_up_to : (d : ℕ) (log : Log) → Accepted m S D log → Accepted m S D (up_to d log)
  accepted_up_to d log all =
      let rest = up_to_earlier d log in
      accepted_earlier rest.0 (up_to d log) (subst (Accepted m S D) rest.1 all)
