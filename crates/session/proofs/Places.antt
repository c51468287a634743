-- The places drawn: they are in the deck, and no place is drawn twice.
use Rattle.std.proofs.Common.{◌≡◌, ℕ, ◌+◌, ◌<◌, ◌≤◌, true, eqb, [], ◌∷◌, sym, refl, ap, ◌∙◌, subst, inl, inr, arith}
use Rattle.std.proofs.lemmas.Bool.{true≢false, eq-eqb, or_left}
use Rattle.std.proofs.lemmas.Bool.Decides.{eqb_tells}
use Rattle.std.specs.List.{list_any}
use Rattle.cipher.specs.Cipher.{CipherMeaning}
use Rattle.table.specs.State.{Move, lock, draw, share, abandon, close, show, disclose}
use Rattle.verdict.specs.Log.{Log, draws, latest, up_to, drawn, draws_place}
use Rattle.session.proofs.Accepted.{Accepted}
use Rattle.session.proofs.Parts.{draws_more, up_to_last, up_to_other, up_to_draws, up_to_earlier, some_earlier, accepted_up_to}

module _ (S : ℕ) where
  -- the place of the last draw was drawn
  latest_taken : (log : Log) → 1 ≤ draws log → list_any (draws_place (latest S log).place) log ≡ true
  latest_taken [] one = absurd (omega arith)
  latest_taken (lock s deck ∷ log) one = latest_taken log one
  latest_taken (draw s p ∷ log) one = or_left (eqb p p) _ (eq-eqb p p refl)
  latest_taken (share s v ∷ log) one = latest_taken log one
  latest_taken (abandon ∷ log) one = latest_taken log one
  latest_taken (close ∷ log) one = latest_taken log one
  latest_taken (show d c ∷ log) one = latest_taken log one
  latest_taken (disclose s k o ∷ log) one = latest_taken log one

  -- so was that of every draw
  drawn_taken : (d : ℕ) (log : Log) → d < draws log → list_any (draws_place (drawn S d log).place) log ≡ true
  drawn_taken d log below =
      let rest = up_to_earlier d log in
      let test = draws_place (drawn S d log).place in
      let found = latest_taken (up_to d log) (omega (arith, up_to_draws d log below)) in
      ap (list_any test) rest.1 ∙ some_earlier test rest.0 (up_to d log) found

  -- the place of a draw before the last is the same without the newest move
  place_kept : (d : ℕ) (x : Move) (log : Log) → d + 1 < draws (x ∷ log) → (drawn S d log).place ≡ (drawn S d (x ∷ log)).place
  place_kept d x log below = ap (λ (part : Log). (latest S part).place) (sym (up_to_other d x log (λ e. omega arith)))

module _ (m : CipherMeaning) (S D : ℕ) where
  -- places are in the deck
  pub latest_below : (log : Log) → Accepted m S D log → 1 ≤ draws log → (latest S log).place < D
  latest_below [] all one = omega arith
  latest_below (lock s deck ∷ log) all one = latest_below log all.1 one
  latest_below (draw s p ∷ log) all one = all.0.place
  latest_below (share s v ∷ log) all one = latest_below log all.1 one
  latest_below (abandon ∷ log) all one = latest_below log all.1 one
  latest_below (close ∷ log) all one = latest_below log all.1 one
  latest_below (show d c ∷ log) all one = latest_below log all.1 one
  latest_below (disclose s k o ∷ log) all one = latest_below log all.1 one

  pub drawn_below : (d : ℕ) (log : Log) → Accepted m S D log → d < draws log → (drawn S d log).place < D
  drawn_below d log all below =
      latest_below (up_to d log) (accepted_up_to m S D d log all) (omega (arith, up_to_draws d log below))

  -- the last draw's place is not one drawn before
  latest_differs : (d : ℕ) (log : Log) → Accepted m S D log → d + 1 < draws log → (drawn S d log).place ≡ (latest S log).place → ⊥
  latest_differs d [] all below same = omega arith
  latest_differs d (lock s deck ∷ log) all below same = latest_differs d log all.1 below (place_kept S d (lock s deck) log below ∙ same)
  latest_differs d (draw s p ∷ log) all below same =
      let again = place_kept S d (draw s p) log below ∙ same in
      let taken = subst (λ (q : ℕ). list_any (draws_place q) log ≡ true) again (drawn_taken S d log (omega arith)) in
      true≢false (sym taken ∙ all.0.free)
  latest_differs d (share s v ∷ log) all below same = latest_differs d log all.1 below (place_kept S d (share s v) log below ∙ same)
  latest_differs d (abandon ∷ log) all below same = latest_differs d log all.1 below (place_kept S d abandon log below ∙ same)
  latest_differs d (close ∷ log) all below same = latest_differs d log all.1 below (place_kept S d close log below ∙ same)
  latest_differs d (show e c ∷ log) all below same = latest_differs d log all.1 below (place_kept S d (show e c) log below ∙ same)
  latest_differs d (disclose s k o ∷ log) all below same =
      latest_differs d log all.1 below (place_kept S d (disclose s k o) log below ∙ same)

  -- no two draws have one place
  pub drawn_differ : (d e : ℕ) (log : Log) → Accepted m S D log → d < e → e < draws log → (drawn S d log).place ≡ (drawn S e log).place → ⊥
  drawn_differ d e [] all l below same = omega arith
  drawn_differ d e (x ∷ log) all l below same = elim (eqb_tells (draws (x ∷ log)) (e + 1)) [
    | inl h ↦
        let last = h.1 in
        latest_differs d (x ∷ log) all (omega arith) (same ∙ ap (λ (part : Log). (latest S part).place) (up_to_last e (x ∷ log) last))
    | inr h ↦
        let other = h.1 in
        let more = draws_more x log in
        let earlier = place_kept S d x log (omega arith) ∙ same ∙ sym (place_kept S e x log (omega arith)) in
        drawn_differ d e log all.1 l (omega arith) earlier
  ]
