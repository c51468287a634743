-- A dealt draw stays dealt, whatever is accepted later.
use Rattle.std.proofs.Common.{◌≡◌, ℕ, ◌+◌, ◌-◌, ◌<◌, true, [], ◌∷◌, ◌++◌, sym, ap, ◌∙◌, subst, inl, inr, arith}
use Rattle.std.proofs.lemmas.Bool.{true≢false, cases_lt}
use Rattle.std.proofs.lemmas.Bool.Decides.{eqb_tells}
use Rattle.cipher.specs.Cipher.{CipherMeaning}
use Rattle.table.specs.State.{Move, lock, draw, share, abandon, close, show, disclose, is_running, is_dealt}
use Rattle.table.specs.declared.record.End.{End}
use Rattle.table.specs.declared.record.End.TheVariants.{Running, Dealt, Abandoned}
use Rattle.verdict.specs.Log.{Log, Drawn, draws, latest, drawn}
use Rattle.session.specs.Runs.{view}
use Rattle.session.proofs.Accepted.{Accepted, Passed}
use Rattle.session.proofs.Parts.{up_to_last, up_to_other, up_to_none}

-- what is dealt does not run
dealt_ended : (e : End) → is_dealt e ≡ true → is_running e ≡ true → ⊥
dealt_ended Running dealt runs = true≢false (sym dealt)
dealt_ended Dealt dealt runs = true≢false (sym runs)
dealt_ended Abandoned dealt runs = true≢false (sym dealt)

module _ (S : ℕ) where
  -- draw d was dealt
  abbrev pub IsDealt : ℕ → Log → Type 0
  IsDealt d log = is_dealt (drawn S d log).end ≡ true

  -- so there is such a draw
  pub dealt_below : (d : ℕ) (log : Log) → IsDealt d log → d < draws log
  dealt_below d log dealt = elim (cases_lt d (draws log)) [
    | inl h ↦ h
    | inr h ↦ absurd (true≢false (sym dealt ∙ ap (λ (part : Log). is_dealt (latest S part).end) (up_to_none d log h)))
  ]

module _ (m : CipherMeaning) (S D d : ℕ) (log : Log) (dealt : IsDealt S d log) where
  -- as the last draw it does not run
  last_ended : draws log ≡ d + 1 → is_running (drawn S (draws log - 1) log).end ≡ true → ⊥
  last_ended last runs =
      let same : draws log - 1 ≡ d = omega arith in
      dealt_ended (drawn S d log).end dealt (subst (λ (e : ℕ). is_running (drawn S e log).end ≡ true) same runs)

  -- the newest move, where this is the last draw
  last_kept : (x : Move) → Passed m (view S D log) x → draws (x ∷ log) ≡ d + 1 → latest S (x ∷ log) ≡ drawn S d log
  last_kept (lock s deck) passed last = sym (ap (latest S) (up_to_last d log last))
  last_kept (draw s p) passed last = absurd (omega (arith, dealt_below S d log dealt))
  last_kept (share s v) passed last = absurd (last_ended last passed.running)
  last_kept abandon passed last = absurd (last_ended last passed.running)
  last_kept close passed last = sym (ap (latest S) (up_to_last d log last))
  last_kept (show e c) passed last = sym (ap (latest S) (up_to_last d log last))
  last_kept (disclose s k o) passed last = sym (ap (latest S) (up_to_last d log last))

  -- the newest move, whichever draw this is
  newest_kept : (x : Move) → Passed m (view S D log) x → drawn S d (x ∷ log) ≡ drawn S d log
  newest_kept x passed = elim (eqb_tells (draws (x ∷ log)) (d + 1)) [
    | inl h ↦ ap (latest S) (up_to_last d (x ∷ log) h.1) ∙ last_kept x passed h.1
    | inr h ↦ ap (latest S) (up_to_other d x log h.1)
  ]

-- any later moves
pub dealt_stays : (m : CipherMeaning) (S D d : ℕ) (later log : Log)
    → Accepted m S D (later ++ log) → IsDealt S d log → IsDealt S d (later ++ log)
dealt_stays m S D d [] log all dealt = dealt
dealt_stays m S D d (x ∷ later) log all dealt =
    let rest = dealt_stays m S D d later log all.1 dealt in
    ap (λ (e : Drawn). is_dealt e.end) (newest_kept m S D d (later ++ log) rest x all.0) ∙ rest
