-- Logs whose moves were all accepted, and what each acceptance tells.
use Rattle.std.proofs.Common.{◌≡◌, ℕ, ◌<◌, ◌≤◌, Bool, true, false, cond, not, eqb, ltb, leb, List, [], ◌∷◌, length, Ok, Err, Result, sym, refl, ap, ◌∙◌}
use Rattle.std.proofs.lemmas.Bool.{eqb-true, eqb-false, ltb-true, leb-true, not-true, and_parts}
use Rattle.cipher.specs.Cipher.{CipherMeaning}
use Rattle.cipher.specs.Decks.{deck_answer}
use Rattle.cipher.specs.declared.fault.CipherFault.{CipherFault}
use Rattle.permutation.specs.Permutation.{permutes}
use Rattle.table.specs.State.{Move, lock, draw, share, abandon, close, show, disclose, is_dealt}
use Rattle.table.specs.View.{View}
use Rattle.table.specs.Rules.{Answer, check, seated, closable, within_limits}
use Rattle.table.specs.Rules.{last, runs, entry, judged}
use Rattle.table.specs.declared.record.Phase.{Phase}
use Rattle.table.specs.declared.record.Phase.TheVariants.{Locking, Dealing, Showdown, Audit}
use Rattle.table.specs.declared.fault.TableFault.{TableFault}
use Rattle.table.specs.Phases.{phase_number}
use Rattle.verdict.specs.Log.{Log}
use Rattle.session.specs.Runs.{Asked, move, audit, view, joined, with_call, accepted}

-- seats and cards within their limits
pub record Limits (S D : ℕ) : Type 0 where
  pub seats_least : 2 ≤ S
  pub seats_most : S ≤ 8
  pub cards_least : 2 ≤ D
  pub cards_most : D ≤ 52

pub limits_of : (S D : ℕ) → within_limits S D ≡ true → Limits S D
limits_of S D h =
    let a = and_parts (leb 2 S) _ h in
    let b = and_parts (leb S 8) _ a.1 in
    let c = and_parts (leb 2 D) _ b.1 in
    record { seats_least = leb-true 2 S a.0; seats_most = leb-true S 8 b.0; cards_least = leb-true 2 D c.0; cards_most = leb-true D 52 c.1 }

-- a check that did not refuse
pub check_passed : (b : Bool) (fault : TableFault) (then : Answer) (a : ℕ) → check b fault then ≡ Ok a → (b ≡ true) × (then ≡ Ok a)
check_passed true fault then a h = (refl, h)
check_passed false fault then a h = (cc, cc)

seated_passed : (s : ℕ) (r : Result (Unit {0}) CipherFault) (then : Answer) (a : ℕ) → seated s r then ≡ Ok a → (r ≡ Ok tt) × (then ≡ Ok a)
seated_passed s (Ok tt) then a h = (refl, h)
seated_passed s (Err fault) then a h = (cc, cc)

-- the phase of a number
phase_at : ℕ → Phase
phase_at n = cond (eqb n 0) Locking (cond (eqb n 1) Dealing (cond (eqb n 2) Showdown Audit))

phase_back : (p : Phase) → p ≡ phase_at (phase_number p)
unfolding phase_at
phase_back Locking = refl
phase_back Dealing = refl
phase_back Showdown = refl
phase_back Audit = refl

phase_is : (p q : Phase) → eqb (phase_number p) (phase_number q) ≡ true → p ≡ q
phase_is p q h = phase_back p ∙ ap phase_at (eqb-true _ _ h) ∙ sym (phase_back q)

-- the checks that an accepted move has passed
module _ (m : CipherMeaning) (v : View) where
  pub record LockPassed (s : ℕ) (deck : List ℕ) : Type 0 where
    pub phase : v.phase ≡ Locking
    pub seat : s < v.seats
    pub due : s ≡ v.locked
    pub long : length deck ≡ v.cards
    pub values : deck_answer m 0 deck ≡ Ok tt

  pub record DrawPassed (s p : ℕ) : Type 0 where
    pub phase : v.phase ≡ Dealing
    pub idle : runs v ≡ false
    pub seat : s < v.seats
    pub place : p < v.cards
    pub free : v.taken p ≡ false

  pub record SharePassed (s value : ℕ) : Type 0 where
    pub phase : v.phase ≡ Dealing
    pub running : runs v ≡ true
    pub seat : s < v.seats
    pub other : s ≡ v.drawer (last v) → ⊥
    pub first : v.has_shared (last v) s ≡ false
    pub is_value : m.value value ≡ true

  pub record AbandonPassed : Type 0 where
    pub phase : v.phase ≡ Dealing
    pub running : runs v ≡ true

  pub record ClosePassed : Type 0 where
    pub phase : closable v.phase ≡ true
    pub idle : runs v ≡ false

  pub record ShowPassed (d c : ℕ) : Type 0 where
    pub phase : v.phase ≡ Showdown
    pub dealt : is_dealt (v.end d) ≡ true
    pub hidden : v.shown d ≡ false
    pub card : c < v.cards

  pub record DisclosePassed (s k : ℕ) (o : List ℕ) : Type 0 where
    pub phase : v.phase ≡ Audit
    pub seat : s < v.seats
    pub first : v.has_disclosed s ≡ false
    pub lawful : m.lawful k ≡ true
    pub long : length o ≡ v.cards
    pub order : permutes o ≡ true

  abbrev pub Passed : Move → Type 0
  Passed (lock s deck) = LockPassed s deck
  Passed (draw s p) = DrawPassed s p
  Passed (share s value) = SharePassed s value
  Passed abandon = AbandonPassed
  Passed close = ClosePassed
  Passed (show d c) = ShowPassed d c
  Passed (disclose s k o) = DisclosePassed s k o

  pub passed : (x : Move) (n : ℕ) → judged m v x ≡ Ok n → Passed x
  passed (lock s deck) n h =
      let a = check_passed (eqb (phase_number v.phase) 0) _ _ n h in
      let b = check_passed (ltb s v.seats) _ _ n a.1 in
      let c = check_passed (eqb s v.locked) _ _ n b.1 in
      let d = check_passed (eqb (length deck) v.cards) _ _ n c.1 in
      record {
        phase = phase_is v.phase Locking a.0;
        seat = ltb-true s v.seats b.0;
        due = eqb-true s v.locked c.0;
        long = eqb-true (length deck) v.cards d.0;
        values = (seated_passed s (deck_answer m 0 deck) (entry v) n d.1).0;
      }
  passed (draw s p) n h =
      let a = check_passed (eqb (phase_number v.phase) 1) _ _ n h in
      let b = check_passed (not (runs v)) _ _ n a.1 in
      let c = check_passed (ltb s v.seats) _ _ n b.1 in
      let d = check_passed (ltb p v.cards) _ _ n c.1 in
      let e = check_passed (not (v.taken p)) _ _ n d.1 in
      record {
        phase = phase_is v.phase Dealing a.0;
        idle = not-true (runs v) b.0;
        seat = ltb-true s v.seats c.0;
        place = ltb-true p v.cards d.0;
        free = not-true (v.taken p) e.0;
      }
  passed (share s value) n h =
      let a = check_passed (eqb (phase_number v.phase) 1) _ _ n h in
      let b = check_passed (runs v) _ _ n a.1 in
      let c = check_passed (ltb s v.seats) _ _ n b.1 in
      let d = check_passed (not (eqb s (v.drawer (last v)))) _ _ n c.1 in
      let e = check_passed (not (v.has_shared (last v) s)) _ _ n d.1 in
      let f = check_passed (m.value value) _ _ n e.1 in
      record {
        phase = phase_is v.phase Dealing a.0;
        running = b.0;
        seat = ltb-true s v.seats c.0;
        other = eqb-false s (v.drawer (last v)) (not-true (eqb s (v.drawer (last v))) d.0);
        first = not-true (v.has_shared (last v) s) e.0;
        is_value = f.0;
      }
  passed abandon n h =
      let a = check_passed (eqb (phase_number v.phase) 1) _ _ n h in
      let b = check_passed (runs v) _ _ n a.1 in
      record { phase = phase_is v.phase Dealing a.0; running = b.0 }
  passed close n h =
      let a = check_passed (closable v.phase) _ _ n h in
      let b = check_passed (not (runs v)) _ _ n a.1 in
      record { phase = a.0; idle = not-true (runs v) b.0 }
  passed (show d c) n h =
      let a = check_passed (eqb (phase_number v.phase) 2) _ _ n h in
      let b = check_passed (is_dealt (v.end d)) _ _ n a.1 in
      let e = check_passed (not (v.shown d)) _ _ n b.1 in
      let f = check_passed (ltb c v.cards) _ _ n e.1 in
      record {
        phase = phase_is v.phase Showdown a.0;
        dealt = b.0;
        hidden = not-true (v.shown d) e.0;
        card = ltb-true c v.cards f.0;
      }
  passed (disclose s k o) n h =
      let a = check_passed (eqb (phase_number v.phase) 3) _ _ n h in
      let b = check_passed (ltb s v.seats) _ _ n a.1 in
      let c = check_passed (not (v.has_disclosed s)) _ _ n b.1 in
      let d = check_passed (m.lawful k) _ _ n c.1 in
      let e = check_passed (eqb (length o) v.cards) _ _ n d.1 in
      let f = check_passed (permutes o) _ _ n e.1 in
      record {
        phase = phase_is v.phase Audit a.0;
        seat = ltb-true s v.seats b.0;
        first = not-true (v.has_disclosed s) c.0;
        lawful = d.0;
        long = eqb-true (length o) v.cards e.0;
        order = f.0;
      }

module _ (m : CipherMeaning) (S D : ℕ) where
  -- every move of the log was accepted by the rules after those before it
  abbrev pub Accepted : Log → Type 0
  Accepted [] = Unit {0}
  Accepted (x ∷ log) = Passed m (view S D log) x × Accepted log

  pub joined_accepted : (a : Answer) (x : Move) (log : Log) → judged m (view S D log) x ≡ a → Accepted log → Accepted (joined a x log)
  joined_accepted (Ok n) x log h all = (passed m (view S D log) x n h, all)
  joined_accepted (Err fault) x log h all = all

  with_call_accepted : (c : Asked) (log : Log) → Accepted log → Accepted (with_call m S D log c)
  with_call_accepted (move x) log all = joined_accepted (judged m (view S D log) x) x log refl all
  with_call_accepted audit log all = all

  -- the log of a run is of that kind
  pub run_accepted : (calls : List Asked) (log : Log) → Accepted log → Accepted (accepted m S D log calls)
  run_accepted [] log all = all
  run_accepted (c ∷ calls) log all = run_accepted calls (with_call m S D log c) (with_call_accepted c log all)
