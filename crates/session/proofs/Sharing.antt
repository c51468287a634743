-- Who shares in a draw: each seat but the drawer, once.
use Rattle.std.proofs.Common.{◌≡◌, ℕ, zero, suc, ◌+◌, ◌<◌, ◌≤◌, Bool, true, false, cond, eqb, List, [], ◌∷◌, length, sym, refl, subst, arith}
use Rattle.std.proofs.lemmas.Bool.{true≢false, eqb-true}
use Rattle.std.proofs.lemmas.Bool.Decides.{nat_tests}
use Rattle.cipher.specs.Cipher.{CipherMeaning}
use Rattle.permutation.specs.Permutation.{count, Within}
use Rattle.permutation.proofs.Counting.{count_cons}
use Rattle.permutation.proofs.Permutations.{permutation_from_counts}
use Rattle.table.specs.State.{lock, draw, share, abandon, close, show, disclose, is_dealt}
use Rattle.table.specs.declared.record.End.TheVariants.{Running, Dealt}
use Rattle.verdict.specs.Log.{Log, Drawn, begun_by, with_share, given_up, latest, up_to, drawn}
use Rattle.session.specs.Runs.{among}
use Rattle.session.proofs.Accepted.{Accepted}
use Rattle.session.proofs.Among.{not_among_count, count_not_among}
use Rattle.session.proofs.Parts.{accepted_up_to, running_last}

-- a list of numbers below n with one more
within_cons : (n x : ℕ) (xs : List ℕ) → x < n → Within n xs → Within n (x ∷ xs)
within_cons n x xs first rest zero h = first
within_cons n x xs first rest (suc i) h = rest i (omega arith)

-- none of them is n or more
count_past : (n x : ℕ) (xs : List ℕ) → Within n xs → n ≤ x → count x xs ≡ 0
count_past n x [] within past = refl
count_past n x (y ∷ xs) within past =
    let here = within 0 (omega arith) in
    let rest = count_past n x xs (λ i h. within (suc i) (omega arith)) past in
    grind (arith, nat_tests, count_cons x y xs)

-- those who have taken their locks off a drawn card once it is shown: the drawer and the sharers
abbrev pub takers : Drawn → List ℕ
takers d = d.drawer ∷ d.sharers

-- they are seats, no one twice, and all of them where the draw is dealt
pub record Fair (S : ℕ) (d : Drawn) : Type 0 where
  pub seats : Within S (takers d)
  pub once : (s : ℕ) → count s (takers d) ≤ 1
  pub enough : is_dealt d.end ≡ true → length (takers d) ≡ S

-- a share that makes a draw dealt
dealt_by : (b : Bool) → is_dealt (cond b Dealt Running) ≡ true → b ≡ true
dealt_by true dealt = refl
dealt_by false dealt = cc

module _ (S : ℕ) where
  begun_fair : (s p : ℕ) → s < S → Fair S (begun_by s p)
  begun_fair s p seat = record {
    seats = within_cons S s [] seat (λ i h. absurd (omega arith));
    once = λ r. grind (arith, nat_tests, count_cons r s []);
    enough = λ dealt. absurd (true≢false (sym dealt));
  }

  -- a share of another seat, its first
  shared_fair : (s : ℕ) (d : Drawn) → s < S → (s ≡ d.drawer → ⊥) → among s d.sharers ≡ false
      → Fair S d → Fair S (with_share S s d)
  shared_fair s d seat other first fair = record {
    seats =
        within_cons S d.drawer (s ∷ d.sharers) (fair.seats 0 (omega arith))
        (within_cons S s d.sharers seat (λ i h. fair.seats (suc i) (omega arith)));
    once = λ r.
        let new = count_cons r s d.sharers in
        let before = count_cons r d.drawer d.sharers in
        let after = count_cons r d.drawer (s ∷ d.sharers) in
        grind (arith, nat_tests, fair.once r, not_among_count s d.sharers first);
    enough = λ dealt. omega (arith, eqb-true (length d.sharers + 2) S (dealt_by (eqb (length d.sharers + 2) S) dealt));
  }

  given_up_fair : (d : Drawn) → Fair S d → Fair S (given_up d)
  given_up_fair d fair = record { seats = fair.seats; once = fair.once; enough = λ dealt. absurd (true≢false (sym dealt)) }

  -- every seat has shared in a dealt draw, or has drawn
  pub takers_all : (d : Drawn) → Fair S d → is_dealt d.end ≡ true → (s : ℕ) → s < S → count s (takers d) ≡ 1
  takers_all d fair dealt s seat =
      let long = fair.enough dealt in
      let seats = subst (λ (n : ℕ). Within n (takers d)) (sym long) fair.seats in
      permutation_from_counts (takers d) seats fair.once s (omega arith)

  -- the drawer has not shared
  pub drawer_apart : (d : Drawn) → Fair S d → among d.drawer d.sharers ≡ false
  drawer_apart d fair =
      let first = count_cons d.drawer d.drawer d.sharers in
      count_not_among d.drawer d.sharers (grind (arith, nat_tests, fair.once d.drawer))

  -- a dealt draw has one share of each seat but the drawer
  pub shared_by_others : (d : Drawn) → Fair S d → is_dealt d.end ≡ true
      → (s : ℕ) → s < S → count s d.sharers ≡ cond (eqb s d.drawer) 0 1
  shared_by_others d fair dealt s seat = grind (arith, nat_tests, takers_all d fair dealt s seat, count_cons s d.drawer d.sharers)

  -- no draw has two shares of one seat
  pub shared_once : (d : Drawn) → Fair S d → (s : ℕ) → count s d.sharers ≤ 1
  shared_once d fair s = omega (arith, fair.once s, count_cons s d.drawer d.sharers)

  -- nor one of a seat that there is not
  pub shared_by_seats : (d : Drawn) → Fair S d → (s : ℕ) → S ≤ s → count s d.sharers ≡ 0
  shared_by_seats d fair s past = omega (arith, count_past S s (takers d) fair.seats past, count_cons s d.drawer d.sharers)

module _ (m : CipherMeaning) (S D : ℕ) (some_seat : 1 ≤ S) where
  -- the last draw, and so every draw, is fair
  latest_fair : (log : Log) → Accepted m S D log → Fair S (latest S log)
  latest_fair [] all = given_up_fair S (begun_by 0 0) (begun_fair S 0 0 some_seat)
  latest_fair (lock s deck ∷ log) all = latest_fair log all.1
  latest_fair (draw s p ∷ log) all = begun_fair S s p all.0.seat
  latest_fair (share s v ∷ log) all =
      let last = running_last S log all.0.running in
      shared_fair S s (latest S log) all.0.seat
      (subst (λ (d : Drawn). s ≡ d.drawer → ⊥) last all.0.other)
      (subst (λ (d : Drawn). among s d.sharers ≡ false) last all.0.first)
      (latest_fair log all.1)
  latest_fair (abandon ∷ log) all = given_up_fair S (latest S log) (latest_fair log all.1)
  latest_fair (close ∷ log) all = latest_fair log all.1
  latest_fair (show d c ∷ log) all = latest_fair log all.1
  latest_fair (disclose s k o ∷ log) all = latest_fair log all.1

  pub drawn_fair : (d : ℕ) (log : Log) → Accepted m S D log → Fair S (drawn S d log)
  drawn_fair d log all = latest_fair (up_to d log) (accepted_up_to m S D d log all)
