-- What the seats have disclosed: keys and orders, and how many.
use Rattle.std.proofs.Common.{◌≡◌, ℕ, suc, ◌<◌, ◌≤◌, Bool, true, false, cond, ◌||◌, eqb, ltb, List, [], ◌∷◌, length, sym, refl, ap, ◌∙◌, arith}
use Rattle.std.proofs.lemmas.List.Sums.{count_by-le-length}
use Rattle.std.proofs.lemmas.Bool.{false≢true}
use Rattle.std.specs.List.{list_any}
use Rattle.cipher.specs.Cipher.{CipherMeaning, Lawful}
use Rattle.permutation.specs.Permutation.{Permutation}
use Rattle.permutation.proofs.Counting.{lower_from_held}
use Rattle.permutation.proofs.Permutations.{permutes_decides}
use Rattle.table.specs.State.{lock, draw, share, abandon, close, show, disclose}
use Rattle.verdict.specs.Log.{Log, Secret, disclosures, discloses_seat, secret}
use Rattle.session.specs.Runs.{among}
use Rattle.session.proofs.Accepted.{Accepted}
use Rattle.session.proofs.Among.{among_count}

-- a lawful key, and an order of D cards
pub record Sound (m : CipherMeaning) (D key : ℕ) (order : List ℕ) : Type 0 where
  pub lawful : Lawful m key
  pub long : length order ≡ D
  pub permutation : Permutation order

module _ (m : CipherMeaning) (D : ℕ) where
  abbrev SoundSecret : Secret → Type 0
  SoundSecret x = Sound m D x.key x.order

  -- the newest disclosure, or one found before it
  newest_or_found : (b found : Bool) (x y : Secret) → SoundSecret x → (found ≡ true → SoundSecret y)
      → (b || found) ≡ true → SoundSecret (cond b x y)
  newest_or_found true found x y newest rest either = newest
  newest_or_found false found x y newest rest either = rest either

  -- what a seat has disclosed is a lawful key and an order
  pub disclosed_sound : (S r : ℕ) (log : Log) → Accepted m S D log → list_any (discloses_seat r) log ≡ true → SoundSecret (secret r log)
  disclosed_sound S r [] all found = absurd (false≢true found)
  disclosed_sound S r (lock s deck ∷ log) all found = disclosed_sound S r log all.1 found
  disclosed_sound S r (draw s p ∷ log) all found = disclosed_sound S r log all.1 found
  disclosed_sound S r (share s v ∷ log) all found = disclosed_sound S r log all.1 found
  disclosed_sound S r (abandon ∷ log) all found = disclosed_sound S r log all.1 found
  disclosed_sound S r (close ∷ log) all found = disclosed_sound S r log all.1 found
  disclosed_sound S r (show d c ∷ log) all found = disclosed_sound S r log all.1 found
  disclosed_sound S r (disclose s k o ∷ log) all found =
      let newest : Sound m D k o = record {
        lawful = all.0.lawful;
        long = all.0.long;
        permutation = (permutes_decides o).0 all.0.order;
      } in
      let before = list_any (discloses_seat r) log in
      newest_or_found (eqb s r) before (record { key = k; order = o }) (secret r log) newest (disclosed_sound S r log all.1) found

-- the seats that have disclosed, the newest first
disclosers : Log → List ℕ
disclosers [] = []
disclosers (lock s deck ∷ log) = disclosers log
disclosers (draw s p ∷ log) = disclosers log
disclosers (share s v ∷ log) = disclosers log
disclosers (abandon ∷ log) = disclosers log
disclosers (close ∷ log) = disclosers log
disclosers (show d c ∷ log) = disclosers log
disclosers (disclose s k o ∷ log) = s ∷ disclosers log

disclosers_length : (log : Log) → length (disclosers log) ≡ disclosures log
unfolding disclosers
disclosers_length [] = refl
disclosers_length (lock s deck ∷ log) = disclosers_length log
disclosers_length (draw s p ∷ log) = disclosers_length log
disclosers_length (share s v ∷ log) = disclosers_length log
disclosers_length (abandon ∷ log) = disclosers_length log
disclosers_length (close ∷ log) = disclosers_length log
disclosers_length (show d c ∷ log) = disclosers_length log
disclosers_length (disclose s k o ∷ log) = ap suc (disclosers_length log)

among_disclosers : (r : ℕ) (log : Log) → list_any (discloses_seat r) log ≡ among r (disclosers log)
unfolding disclosers
among_disclosers r [] = refl
among_disclosers r (lock s deck ∷ log) = among_disclosers r log
among_disclosers r (draw s p ∷ log) = among_disclosers r log
among_disclosers r (share s v ∷ log) = among_disclosers r log
among_disclosers r (abandon ∷ log) = among_disclosers r log
among_disclosers r (close ∷ log) = among_disclosers r log
among_disclosers r (show d c ∷ log) = among_disclosers r log
among_disclosers r (disclose s k o ∷ log) = ap (λ (b : Bool). eqb s r || b) (among_disclosers r log)

-- where every seat has disclosed, there are as many disclosures as seats
pub disclosed_enough : (S : ℕ) (log : Log) → ((s : ℕ) → s < S → list_any (discloses_seat s) log ≡ true) → S ≤ disclosures log
disclosed_enough S log all =
    let each = λ (s : ℕ) (seat : s < S). among_count s (disclosers log) (sym (among_disclosers s log) ∙ all s seat) in
    let few = count_by-le-length (λ (s : ℕ). ltb s S) (disclosers log) in
    omega (arith, disclosers_length log, lower_from_held S (disclosers log) each)
