-- The phases of accepted moves.
use Rattle.std.proofs.Common.{◌≡◌, ℕ, ◌+◌, ◌≤◌, Bool, true, false, cond, eqb, [], ◌∷◌, refl, ap, arith}
use Rattle.std.proofs.lemmas.Bool.{false≢true, eqb-true}
use Rattle.cipher.specs.Cipher.{CipherMeaning}
use Rattle.table.specs.State.{lock, draw, share, abandon, close, show, disclose, phase_after}
use Rattle.table.specs.Phases.{phase_number}
use Rattle.table.specs.Rules.{closable}
use Rattle.table.specs.declared.record.Phase.{Phase}
use Rattle.table.specs.declared.record.Phase.TheVariants.{Locking, Dealing, Showdown, Audit}
use Rattle.verdict.specs.Log.{Log, locks, disclosures, phase_in}
use Rattle.session.proofs.Accepted.{Accepted}

-- a lock that begins the dealing
begun_by_lock : (b : Bool) → cond b Dealing Locking ≡ Dealing → b ≡ true
begun_by_lock true begun = refl
begun_by_lock false begun = cc

-- a close does not begin the dealing
not_by_close : (p : Phase) → closable p ≡ true → phase_after p ≡ Dealing → ⊥
not_by_close Locking may begun = false≢true may
not_by_close Dealing may begun = omega (arith, ap phase_number begun)
not_by_close Showdown may begun = omega (arith, ap phase_number begun)
not_by_close Audit may begun = false≢true may

module _ (m : CipherMeaning) (S D : ℕ) where
  -- while cards are dealt, every seat has locked
  pub dealing_locked : (log : Log) → Accepted m S D log → phase_in S log ≡ Dealing → locks log ≡ S
  dealing_locked [] all dealing = cc
  dealing_locked (lock s deck ∷ log) all dealing =
      omega (arith, eqb-true (locks log + 1) S (begun_by_lock (eqb (locks log + 1) S) dealing))
  dealing_locked (draw s p ∷ log) all dealing = dealing_locked log all.1 dealing
  dealing_locked (share s v ∷ log) all dealing = dealing_locked log all.1 dealing
  dealing_locked (abandon ∷ log) all dealing = dealing_locked log all.1 dealing
  dealing_locked (close ∷ log) all dealing = absurd (not_by_close (phase_in S log) all.0.phase dealing)
  dealing_locked (show d c ∷ log) all dealing = dealing_locked log all.1 dealing
  dealing_locked (disclose s k o ∷ log) all dealing = dealing_locked log all.1 dealing

  -- once a seat has disclosed, the phase is the last
  pub disclosed_audit : (log : Log) → Accepted m S D log → 1 ≤ disclosures log → phase_in S log ≡ Audit
  disclosed_audit [] all some = absurd (omega arith)
  disclosed_audit (lock s deck ∷ log) all some =
      let ended = disclosed_audit log all.1 some in
      let locking = all.0.phase in
      cc
  disclosed_audit (draw s p ∷ log) all some = disclosed_audit log all.1 some
  disclosed_audit (share s v ∷ log) all some = disclosed_audit log all.1 some
  disclosed_audit (abandon ∷ log) all some = disclosed_audit log all.1 some
  disclosed_audit (close ∷ log) all some = ap phase_after (disclosed_audit log all.1 some)
  disclosed_audit (show d c ∷ log) all some = disclosed_audit log all.1 some
  disclosed_audit (disclose s k o ∷ log) all some = all.0.phase
